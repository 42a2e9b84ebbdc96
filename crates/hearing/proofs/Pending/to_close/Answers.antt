-- `hearing::Pending::to_close` meets its contract. The loop's invariant: what is reached from here is what is reached from the start.
-- Assumes nothing.
use mathlib.Core.Path.{◌≡◌, sym, ap₂, ◌∙◌, subst}
use mathlib.Core.List.{List}
use Prim.Native.Nat.{ℕ, ◌+◌, ◌%◌, ◌≤◌, ◌<◌}
use native.Mathlib.Omega.{arith}
use lib.ListN.{length, get_or, drop}
use Rattle.std.proofs.Common.{rules}
use Rattle.hearing.specs.declared.Pending.{Pending}
use Rattle.hearing.specs.Hearing.{none, added}
use Rattle.hearing.specs.Inner.{to_letter, to_end, to_close}
use Rattle.hearing.proofs.Close.{at_end}
use Rattle.hearing.proofs.Spans.{Skipped, skipped, opened, Ended, is_ended, answered}
use Rattle.hearing.proofs.Pending.to_close.Goals as goal

-- with no message open, the next letter, as the code has it
letter : (ws : List ℕ) (p : Pending) (i k : ℕ) → p.len ≡ 0 → k ≡ to_letter (drop i ws) i → Skipped ws p i k
letter ws p i k z e = subst (Skipped ws p i) (sym e) (skipped ws p z i)

-- with one open, its end, as the code has it
ends : (ws : List ℕ) (p q : Pending) (i k : ℕ) → (p.len ≡ 0 → ⊥) → (k ≡ (to_end p (drop i ws) i).at) × (q ≡ (to_end p (drop i ws) i).pending)
    → Ended ws p i (record { pending = q; at = k })
ends ws p q i k n e =
    let s : record { pending = q; at = k } ≡ to_end p (drop i ws) i = ap₂ (λ (x : Pending) (j : ℕ). record { pending = x; at = j }) e.1 e.0 in
    subst (Ended ws p i) (sym s) (is_ended ws p i (omega (arith, n)))

-- the letter opens a message, as the code has it
opens-it : (ws : List ℕ) (p q n : Pending) (i k c : ℕ) → p.len ≡ 0 → Skipped ws p i k → k < length ws → c ≡ get_or ws k 0 → n ≡ none → q ≡ added n (c % 128)
    → to_close p (drop i ws) i ≡ to_close q (drop (k + 1) ws) (k + 1)
opens-it ws p q n i k c z s h e en eq = rw (eq, en, e) (s.same ∙ opened ws p z k h (s.letter h))

pub loop-at-smaller-then-self-eq0 : goal.loop-at-smaller-then-self-eq0
loop-at-smaller-then-self-eq0 c =
    let s = letter c.args.words.now c.loop-at.self c.loop-at.at _ c.if-self-eq0.true c.to_letter-at.ensures in
    omega (arith, s.behind, c.loop-at-test.true)

pub loop-at-preserved-then-self-eq0 : goal.loop-at-preserved-then-self-eq0
loop-at-preserved-then-self-eq0 c =
    let l = c.loop-at in
    let s = letter c.args.words.now l.self l.at _ c.if-self-eq0.true c.to_letter-at.ensures in
    let h : c.to_letter-at.result < length c.args.words.now = search rules in
    let e : c.in-Some.letter.now ≡ get_or c.args.words.now c.to_letter-at.result 0 = search rules in
    sym (opens-it c.args.words.now l.self _ _ l.at _ _ c.if-self-eq0.true s h e c.new.ensures c.add.ensures) ∙ l.invariant

pub loop-at-smaller : goal.loop-at-smaller
loop-at-smaller c =
    let s = ends c.args.words.now c.loop-at.self _ c.loop-at.at _ c.if-self-eq0.false c.to_end-at.ensures in
    omega (arith, c.loop-at-test.true, (s.dropped c.if-self-ne0.false).0)

pub loop-at-preserved : goal.loop-at-preserved
loop-at-preserved c =
    let s = ends c.args.words.now c.loop-at.self _ c.loop-at.at _ c.if-self-eq0.false c.to_end-at.ensures in
    sym (s.dropped c.if-self-ne0.false).1 ∙ c.loop-at.invariant

pub returns-after-loop-at : goal.returns-after-loop-at
returns-after-loop-at c =
    let l = c.loop-at in
    answered l.self l.at l.invariant (at_end l.self c.args.words.now l.at c.loop-at-test.false)

pub returns-in_default : goal.returns-in_default
returns-in_default c =
    let l = c.loop-at in
    let s = letter c.args.words.now l.self l.at _ c.if-self-eq0.true c.to_letter-at.ensures in
    let h : length c.args.words.now ≤ c.to_letter-at.result = search rules in
    answered l.self c.to_letter-at.result l.invariant (s.same ∙ at_end l.self c.args.words.now c.to_letter-at.result h)

pub returns-then-self-ne0 : goal.returns-then-self-ne0
returns-then-self-ne0 c =
    let l = c.loop-at in
    let s = ends c.args.words.now l.self _ l.at _ c.if-self-eq0.false c.to_end-at.ensures in
    answered _ _ l.invariant (s.still_open (omega (arith, c.if-self-ne0.true)))
