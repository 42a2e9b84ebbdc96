-- `hearing::Pending::is_sound` meets its contract: the tests are the definition's. Assumes nothing.
use mathlib.Core.Path.{◌≡◌, sym, ap, ap₂, ◌∙◌}
use mathlib.Core.Bool.{Bool, ◌&&◌}
use mathlib.Core.List.{List}
use Prim.Native.Nat.{ℕ, ◌-◌, ◌≤◌}
use native.Mathlib.Omega.{arith}
use borrow.Author.Tests.{le-leb, lt-leb}
use lib.ListN.{length, take, drop, length-drop}
use lib.Seq.{take_all}
use Rattle.hearing.specs.Sound.{plain, zeros, sound_pending}
use borrow.Author.Rules.{rules}
use Rattle.hearing.proofs.Pending.is_sound.Goals as goal

pub returns-then-len-gt-MOST : goal.returns-then-len-gt-MOST
unfolding sound_pending
returns-then-len-gt-MOST c = rw (lt-leb _ _ c.if-len-gt-MOST.true)

-- the part behind the open message is all that is behind
was : (cs : List ℕ) (n : ℕ) → length cs ≡ 10 → n ≤ 10 → (a b : Bool) → a ≡ plain (take n cs) → b ≡ zeros (take (10 - n) (drop n cs))
    → (plain (take n cs) && zeros (drop n cs)) ≡ (a && b)
was cs n h l a b ea eb = sym (ap₂ (λ (x y : Bool). x && y) ea (eb ∙ ap zeros (take_all (10 - n) (drop n cs) (omega (arith, length-drop n cs)))))

pub returns : goal.returns
unfolding sound_pending
returns c =
    let p = c.args.self in
    let h : length p.chars ≡ 10 = search rules in
    let w = was p.chars p.len h c.if-len-gt-MOST.false _ _ c.plain.ensures c.zeros.ensures in
    simp (le-leb p.len 10 c.if-len-gt-MOST.false, w, c.is_letter.ensures)
