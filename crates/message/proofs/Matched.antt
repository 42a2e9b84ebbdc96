-- How many characters are matched: in a loop that extends a state by one after the other, and as the greatest number that does not lead
-- to the wrong state. Assumes nothing.
use mathlib.Core.Path.{◌≡◌, refl, sym, ap, ◌∙◌}
use mathlib.Core.Bool.{true, false, false≢true}
use mathlib.Core.List.{List, [], ◌∷◌}
use Prim.Native.Nat.{ℕ, zero, suc, ◌+◌, ◌<◌, ◌≤◌}
use native.Mathlib.Numerals.{add-one}
use native.Mathlib.Omega.{arith}
use lib.Dec.{lit≤}
use lib.ListN.{length, get_or, take, drop, drop_of_length-le}
use lib.Seq.{drop-cons}
use Rattle.refusal.proofs.Logic.{choice}
use Rattle.message.specs.declared.Prefix.{Prefix}
use Rattle.message.specs.declared.Prefix.TheVariants.{Start, Letter, Digit, Address, Identifier, Digits, Complete, Wrong}
use Rattle.message.specs.Prefix.{extend, extend_all}
use Rattle.message.specs.Position.{is_wrong, matched, position}
use Rattle.message.proofs.Places.{wrong_all}

-- ---- the one wrong state

pub wrong_is : (s : Prefix) → is_wrong s ≡ true → s ≡ Wrong
unfolding is_wrong
wrong_is Start e = absurd (false≢true e)
wrong_is (Letter l) e = absurd (false≢true e)
wrong_is (Digit l d) e = absurd (false≢true e)
wrong_is (Address l a) e = absurd (false≢true e)
wrong_is (Identifier l a i) e = absurd (false≢true e)
wrong_is (Digits l a i x) e = absurd (false≢true e)
wrong_is (Complete m) e = absurd (false≢true e)
wrong_is Wrong e = refl

-- ---- the characters from an index on

module _ (s : Prefix) (cs : List ℕ) (i : ℕ) where
  pub matched_end : length cs ≤ i → matched s (drop i cs) ≡ 0
  unfolding matched
  matched_end h = rw (drop_of_length-le cs h)

  module _ (h : i < length cs) where
    pub matched_here : is_wrong (extend s (get_or cs i 0)) ≡ true → matched s (drop i cs) ≡ 0
    unfolding matched
    matched_here e = rw (drop-cons cs i 0 h) (rw e)

    pub matched_on : is_wrong (extend s (get_or cs i 0)) ≡ false
        → matched s (drop i cs) ≡ suc (matched (extend s (get_or cs i 0)) (drop (i + 1) cs))
    unfolding matched
    matched_on e = rw (add-one, drop-cons cs i 0 h) (rw e)

-- ---- the position, in a loop that has come to the place `at` with the state s

pub record At (cs : List ℕ) (s : Prefix) (at : ℕ) : Type 0 where
  pub is : at + matched s (drop at cs) ≡ position cs

pub position_starts : (cs : List ℕ) → At cs Start 0
unfolding position
position_starts cs = record { is = omega arith }

module _ (cs : List ℕ) (s t : Prefix) (at : ℕ) (p : At cs s at) where
  module _ (h : at < length cs) (e : t ≡ extend s (get_or cs at 0)) where
    pub position_on : is_wrong t ≡ false → At cs t (at + 1)
    position_on f =
        record { is = ap (λ (u : Prefix). at + 1 + matched u (drop (at + 1) cs)) e ∙ omega (arith, p.is, matched_on s cs at h (ap is_wrong (sym e) ∙ f)) }

    pub position_here : is_wrong t ≡ true → at ≡ position cs
    position_here f = omega (arith, p.is, matched_here s cs at h (ap is_wrong (sym e) ∙ f))

pub position_end : (cs : List ℕ) (s : Prefix) (at : ℕ) → At cs s at → length cs ≤ at → at ≡ position cs
position_end cs s at p h = omega (arith, p.is, matched_end s cs at h)

-- ---- the greatest number of characters that does not lead to the wrong state

pub matched_most : (s : Prefix) (cs : List ℕ) → matched s cs ≤ length cs
unfolding matched
matched_most s [] = lit≤ tt
matched_most s (c ∷ cs) =
    choice (λ (n : ℕ). n ≤ suc (length cs)) (is_wrong (extend s c)) (λ t. omega arith) (λ t. omega (arith, matched_most (extend s c) cs))

pub matched_stays : (s : Prefix) (cs : List ℕ) → is_wrong s ≡ false → is_wrong (extend_all s (take (matched s cs) cs)) ≡ false
unfolding matched extend_all
matched_stays s [] e = e
matched_stays s (c ∷ cs) e =
    choice (λ (n : ℕ). is_wrong (extend_all s (take n (c ∷ cs))) ≡ false) (is_wrong (extend s c))
    (λ t. e) (λ t. matched_stays (extend s c) cs t)

pub matched_greatest : (s : Prefix) (cs : List ℕ) (n : ℕ) → n ≤ length cs → is_wrong (extend_all s (take n cs)) ≡ false → n ≤ matched s cs
unfolding matched extend_all is_wrong
matched_greatest s cs zero h e = omega arith
matched_greatest s [] (suc n) h e = absurd (omega arith)
matched_greatest s (c ∷ cs) (suc n) h e =
    choice (λ (k : ℕ). suc n ≤ k) (is_wrong (extend s c))
    (λ t.
    let wrong = ap (λ (u : Prefix). extend_all u (take n cs)) (wrong_is (extend s c) t) ∙ wrong_all (take n cs) in
    absurd (false≢true (sym e ∙ ap is_wrong wrong)))
    (λ t. omega (arith, matched_greatest (extend s c) cs n (omega arith) e))
