-- An offer by its three numbers, as the code compares them: a local of type i32 holds bits. Assumes nothing.
use mathlib.Core.Path.{◌≡◌, refl, sym, ap, ◌∙◌}
use mathlib.Core.Bool.{Bool, true, false, ◌&&◌, false≢true, and-false}
use mathlib.Core.Logic.{◌⊎◌, inl, inr}
use Prim.Native.Nat.{ℕ, ◌≤◌}
use native.Mathlib.Omega.{arith}
use borrow.Author.Tests.{le-leb, leb-true}
use lib.IntN.{ℤ, pos, negsuc, nat_abs}
use mir.Syntax.{w32}
use mir.Val.{SFits, to_z, of_z}
use Rattle.std.specs.Prelude.{None, Option}
use Rattle.refusal.proofs.Logic.{and_left, and_right, and_both, by-test}
use Rattle.number.specs.Number.{in_range}
use Rattle.number.proofs.Signed.{rd-is}
use Rattle.act.specs.Act.{held}
use Rattle.row.specs.Row.{is_byte, byte_or, is_exactly, offer_of}

-- ---- a number that is n

pub exactly : (n : ℕ) → is_exactly n (pos n) ≡ true
unfolding in_range
exactly n = and_both (le-leb n n (omega arith)) (le-leb n n (omega arith))

pub exactly-is : (n : ℕ) (m : ℤ) → is_exactly n m ≡ true → m ≡ pos n
unfolding in_range
exactly-is n (pos k) e =
    let low : n ≤ k = leb-true n k (and_left _ _ e) in
    let high : k ≤ n = leb-true k n (and_right _ _ e) in
    ap pos (omega arith)
exactly-is n (negsuc k) e = absurd (false≢true e)

pub exactly-not : (n : ℕ) (m : ℤ) → (m ≡ pos n → ⊥) → is_exactly n m ≡ false
exactly-not n m h = by-test (is_exactly n m) (λ e. absurd (h (exactly-is n m e))) (λ e. e)

-- by its bits
bits-are : (n : ℕ) (m : ℤ) → SFits w32 m → to_z w32 n ≡ pos n → of_z w32 m ≡ n → m ≡ pos n
bits-are n m f q e = sym (rd-is f) ∙ ap (to_z w32) e ∙ q

bits-not : (n : ℕ) (m : ℤ) → of_z w32 (pos n) ≡ n → (of_z w32 m ≡ n → ⊥) → is_exactly n m ≡ false
bits-not n m q h = exactly-not n m (λ e. h (ap (of_z w32) e ∙ q))

-- ---- the three

module _ (m i z : ℤ) where
  abbrev is_none : Bool
  is_none = is_exactly 0 m && is_exactly 0 i && is_exactly 0 z

  pub offer_none : SFits w32 m → SFits w32 i → SFits w32 z → of_z w32 m ≡ 0 → of_z w32 i ≡ 0 → of_z w32 z ≡ 0 → None ≡ offer_of m i z
  unfolding offer_of
  offer_none f g h a b c =
      let t : is_none ≡ true = rw (bits-are 0 m f refl a, bits-are 0 i g refl b, bits-are 0 z h refl c, exactly 0) in
      rw t

  -- as the code's test fails
  abbrev pub Some_not : Type 0
  Some_not = (of_z w32 m ≡ 0 × of_z w32 i ≡ 0 × (of_z w32 z ≡ 0 → ⊥)) ⊎ ((of_z w32 m ≡ 0 × (of_z w32 i ≡ 0 → ⊥)) ⊎ (of_z w32 m ≡ 0 → ⊥))

  not_none : Some_not → is_none ≡ false
  not_none h = elim h [
    | inl a ↦ rw (bits-not 0 z refl a.2) (and-false (is_exactly 0 m && is_exactly 0 i))
    | inr b ↦ elim b [
      | inl a ↦ rw (bits-not 0 i refl a.1) (ap (λ (t : Bool). t && is_exactly 0 z) (and-false (is_exactly 0 m)))
      | inr a ↦ rw (bits-not 0 m refl a)
    ]
  ]

  pub offer_marked : SFits w32 m → Some_not → of_z w32 m ≡ 1 → is_byte i ≡ true → held (nat_abs i) z ≡ offer_of m i z
  unfolding offer_of byte_or
  offer_marked f h a b =
      let t : is_exactly 1 m ≡ true = rw (bits-are 1 m f refl a) (exactly 1) in
      rw (not_none h, t, b)

  pub offer_unmarked : Some_not → (of_z w32 m ≡ 1 → ⊥) → held 0 (pos 0) ≡ offer_of m i z
  unfolding offer_of
  offer_unmarked h a = rw (not_none h, bits-not 1 m refl a)

  pub offer_no_byte : Some_not → is_byte i ≡ false → held 0 (pos 0) ≡ offer_of m i z
  unfolding offer_of
  offer_no_byte h b = rw (not_none h, b, and-false (is_exactly 1 m))
