-- The arms of `code`, `is_multiple`, `cut`, `raised`, `lowered` and `decoded`, over plain variables: each is the definition's behind the
-- test that leads there. The attributes name the lemmas of a function together, so no proof names a test of the code. Assumes nothing.
use mathlib.Core.Path.{◌≡◌, sym, ap, ◌∙◌}
use mathlib.Core.Bool.{true, false, ◌&&◌}
use Prim.Native.Nat.{ℕ, ◌+◌, ◌-◌, ◌≤◌, ◌<◌}
use native.Mathlib.Nat.{mod-le, mod-lt}
use native.Mathlib.Omega.{arith}
use borrow.Author.Tests.{le-leb, lt-leb}
use lib.Dec.{leb, eqb, lit≤}
use lib.IntN.{ℤ, pos, negsuc, neg_ℤ, nat_abs, ◌+ℤ◌, ◌-ℤ◌}
use lib.Signed.{lt_z, le_z, rem_z}
use mir.Syntax.{w32}
use mir.Val.{SFits, to_z, of_z}
use mir.ValLaws.{to_z_pos}
use Rattle.number.specs.declared.Data.TheVariants.{Number, Invalid}
use Rattle.std.proofs.lemmas.Int.{ints, fits_signed_from_abs}
use Rattle.std.specs.Int.{int_rem_euclid}
use Rattle.number.specs.Number.{in_range, is_multiple, is_small, cut_down, cut}
use Rattle.number.specs.Data.{code_of, decode, numeral, with_decimals}
use Rattle.number.proofs.Signed.{rd-is, same, below_zero, from_zero, nat_abs_add, nat_abs_less, fits_neg, minus_is, step_pos, step_is, rem_fits, nat_abs_rem, bits_zero}
use Rattle.number.proofs.Cuts.{in_range_ends, in-range-within}

-- ---- the code of a number below zero, and of one that is not

pub code_below : (x : ℤ) (d : ℕ) → SFits w32 x → lt_z (to_z w32 (of_z w32 x)) (pos 0) ≡ true → code_of x d ≡ d + 5
unfolding code_of
code_below x d f e = ap (λ (z : ℤ). code_of z d) (below_zero x (simp (rd-is f) at e)).1

pub code_from : (x : ℤ) (d : ℕ) → SFits w32 x → lt_z (to_z w32 (of_z w32 x)) (pos 0) ≡ false → code_of x d ≡ d
unfolding code_of
code_from x d f e = ap (λ (z : ℤ). code_of z d) (from_zero x (simp (rd-is f) at e))

pub ruleset coding = (code_below, code_from)

-- ---- numbers of four digits

small : (x : ℤ) → is_small x ≡ true → nat_abs x ≤ 9999
small x e = in-range-within (negsuc 9998) x (pos 9999) e (lit≤ tt) (lit≤ tt)

pub sum_fits : (x y : ℤ) → is_small x ≡ true → is_small y ≡ true → SFits w32 (x +ℤ y)
sum_fits x y p q = fits_signed_from_abs w32 (x +ℤ y) (omega (arith, nat_abs_add x y, small x p, small y q))

pub less_fits : (x y : ℤ) → is_small x ≡ true → is_small y ≡ true → SFits w32 (x -ℤ y)
less_fits x y p q = fits_signed_from_abs w32 (x -ℤ y) (omega (arith, nat_abs_less x y, small x p, small y q))

pub ruleset sums = (same, sum_fits)

pub ruleset differences = (same, less_fits)

-- ---- multiples: the code compares the bits of the remainder

pub divides : (x step : ℤ) → SFits w32 x → le_z (pos 1) step ≡ true → is_multiple x step ≡ eqb (of_z w32 (rem_z x step)) 0
unfolding is_multiple
divides x step f e = rw e (sym (bits_zero (rem_z x step) (rem_fits x step f) ∙ ap (λ (k : ℕ). eqb k 0) (nat_abs_rem x step)))

pub never_divides : (x step : ℤ) → le_z (pos 1) step ≡ false → is_multiple x step ≡ false
unfolding is_multiple
never_divides x step e = rw e

pub ruleset dividing = (divides, never_divides)

-- ---- the cut: a step of 1 to 9,999 divides, and what the code takes away leaves the definition's cut

step-ends : (step : ℤ) → in_range (pos 1) step (pos 9999) ≡ true → (1 ≤ nat_abs step) × (nat_abs step ≤ 9999) × (step ≡ pos (nat_abs step))
step-ends step e =
    let p = (in_range_ends (pos 1) step (pos 9999) e).0 in
    (step_pos step p, in-range-within (pos 1) step (pos 9999) e (lit≤ tt) (lit≤ tt), step_is step p)

pub step_nonzero : (step : ℤ) → in_range (pos 1) step (pos 9999) ≡ true → 0 < of_z w32 step
step_nonzero step e = let s = step-ends step e in rw s.2 s.0

pub step_bounded : (step : ℤ) → in_range (pos 1) step (pos 9999) ≡ true → of_z w32 step ≤ 9999
step_bounded step e = let s = step-ends step e in rw s.2 s.1

less_rem : (x : ℤ) (s : ℕ) → 1 ≤ s → x -ℤ int_rem_euclid x (pos s) ≡ cut_down x s
unfolding cut_down
less_rem (pos n) s h = omega (arith, ints, mod-le n s)
less_rem (negsuc n) s h = omega (arith, ints, mod-le n s, mod-lt n h)

pub cut_taken : (x step : ℤ) → is_small x ≡ true → in_range (pos 1) step (pos 9999) ≡ true → cut x step ≡ x -ℤ int_rem_euclid x step
unfolding cut
cut_taken x step p q = let s = step-ends step q in simp (p, q) (sym (rw s.2 (less_rem x (nat_abs step) s.0)))

rem-below : (x : ℤ) (s : ℕ) → 1 ≤ s → nat_abs (int_rem_euclid x (pos s)) < s
rem-below (pos n) s h = mod-lt n h
rem-below (negsuc n) s h = omega arith

rem-small : (x step : ℤ) → in_range (pos 1) step (pos 9999) ≡ true → nat_abs (int_rem_euclid x step) < 9999
rem-small x step e = let s = step-ends step e in rw s.2 (omega (arith, s.1, rem-below x (nat_abs step) s.0))

pub cut_fits : (x step : ℤ) → is_small x ≡ true → in_range (pos 1) step (pos 9999) ≡ true → SFits w32 (x -ℤ int_rem_euclid x step)
cut_fits x step p q =
    fits_signed_from_abs w32 (x -ℤ int_rem_euclid x step) (omega (arith, nat_abs_less x (int_rem_euclid x step), small x p, rem-small x step q))

pub ruleset cutting = (same, step_nonzero, step_bounded, cut_taken, cut_fits)

-- ---- the number behind a code

number_is : (m : ℕ) → m ≤ 9999 → to_z w32 m ≡ pos m
number_is m h = to_z_pos w32 m (omega arith)

negated : (m : ℕ) → m ≤ 9999 → pos 0 -ℤ to_z w32 m ≡ neg_ℤ (pos m)
negated m h = ap (λ (z : ℤ). pos 0 -ℤ z) (number_is m h) ∙ minus_is (pos m)

pub decode_positive : (m k : ℕ) → m ≤ 9999 → k ≤ 3 → decode m k ≡ Number (numeral (with_decimals (to_z w32 m) k))
unfolding decode
decode_positive m k h l = sym (simp (le-leb k 3 l, number_is m h))

pub decode_negative : (m k : ℕ) → m ≤ 9999 → 3 < k → (leb 5 k && leb k 8) ≡ true
    → decode m k ≡ Number (record { number = to_z w32 (of_z w32 (pos 0 -ℤ to_z w32 m)); decimals = k - 5; minus_zero = eqb m 0 })
unfolding decode
decode_negative m k h l t =
    let f : SFits w32 (neg_ℤ (pos m)) = fits_neg m (omega arith) in
    sym (simp (negated m h, rd-is f, lt-leb _ _ l, t))

pub decode_invalid : (m k : ℕ) → 3 < k → (leb 5 k && leb k 8) ≡ false → decode m k ≡ Invalid
unfolding decode
decode_invalid m k l t = simp (lt-leb _ _ l, t)

pub ruleset decoding = (decode_positive, decode_negative, decode_invalid)
