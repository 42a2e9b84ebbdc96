-- `hearing::Pending::to_end` meets its contract. The loop's invariant: where the message ends from here is where it ends from the start.
-- Assumes nothing.
use mathlib.Core.Path.{◌≡◌, refl, sym, ap, ◌∙◌}
use mathlib.Core.List.{List}
use Prim.Native.Nat.{ℕ, ◌+◌, ◌-◌}
use native.Mathlib.Nat.{add-zero, add_assoc}
use native.Mathlib.Omega.{arith}
use borrow.Author.Tests.{le-ltb, eq-eqb, ne_eqb}
use lib.ListN.{length, take, drop, length-drop}
use Rattle.hearing.specs.declared.Pending.{Pending}
use Rattle.hearing.specs.Hearing.{most, none}
use Rattle.hearing.specs.Inner.{Reached, to_end}
use Rattle.hearing.proofs.Spans.{end_last, end_nothing, end_star, end_full, end_more, part_whole, answered}
use Rattle.hearing.proofs.Pending.to_end.Goals as goal
use Rattle.hearing.proofs.Pending.to_end.Goals.{in_default-via-in-Some+else-self-lt-MOST, in_default-via-in_default}

-- what is known of the part that the loop goes over is known of the words from the place on
known : (ws : List ℕ) (from : ℕ) (p : Pending) (x : Reached) → x ≡ to_end p (take (length ws - from) (drop from ws)) from → x ≡ to_end p (drop from ws) from
known ws from p x e = e ∙ ap (λ (l : List ℕ). to_end p l from) (part_whole ws from)

pub loop-i-init : goal.loop-i-init
loop-i-init c = (c.requires.0, rw add-zero refl)

pub returns-in-Some-eq42 : goal.returns-in-Some-eq42
returns-in-Some-eq42 c =
    let l = c.loop-i in
    answered l.self (c.args.from + l.i) (known c.args.words.now c.args.from c.args.self.now _ l.invariant.1)
    (end_star _ l.self l.i (c.args.from + l.i) c.loop-i-test.true l.invariant.0 _ (sym c.receive.ensures ∙ c.in-Some-eq42.is) (eq-eqb _ 42 c.in-Some-eq42.field-0-test))

pub returns-in_default : goal.returns-in_default
returns-in_default c =
    let l = c.loop-i in
    elim c.in_default.branch [
      | in_default-via-in-Some+else-self-lt-MOST w ↦
          rw c.new.ensures
          (answered none (c.args.from + l.i + 1) (known c.args.words.now c.args.from c.args.self.now _ l.invariant.1)
          (end_full _ l.self l.i (c.args.from + l.i) c.loop-i-test.true l.invariant.0 _ (sym c.receive.ensures ∙ w.in-Some.is) (ne_eqb _ 42 w.in-Some.c-test.1) (le-ltb l.self.len most w.if-self-lt-MOST.false)))
      | in_default-via-in_default w ↦
          rw c.new.ensures
          (answered none (c.args.from + l.i + 1) (known c.args.words.now c.args.from c.args.self.now _ l.invariant.1)
          (end_nothing _ l.self l.i (c.args.from + l.i) c.loop-i-test.true l.invariant.0 (sym c.receive.ensures ∙ w.in_default.is)))
    ]

pub loop-i-preserved : goal.loop-i-preserved
loop-i-preserved c =
    let l = c.loop-i in
    let m =
    end_more _ l.self l.i (c.args.from + l.i) c.loop-i-test.true l.invariant.0 _ (sym c.receive.ensures ∙ c.in-Some.is) (ne_eqb _ 42 c.in-Some.c-test.1)
    c.push.new.self c.push.ensures c.if-self-lt-MOST.true in
    (m.0, rw (← add_assoc c.args.from l.i 1) (sym m.1 ∙ l.invariant.1))

pub returns : goal.returns
returns c =
    let l = c.loop-i in
    let n = length-drop c.args.from c.args.words.now in
    let m = ap length (part_whole c.args.words.now c.args.from) in
    let h : c.args.from + l.i ≡ length c.args.words.now = omega (arith, c.requires.1) in
    rw (← h)
    (answered l.self (c.args.from + l.i) (known c.args.words.now c.args.from c.args.self.now _ l.invariant.1) (end_last _ l.self l.i (c.args.from + l.i) c.loop-i-test.false))
