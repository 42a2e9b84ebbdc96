-- Between the bits of an i32, the whole number that a contract speaks of, and the natural number of its magnitude.
-- A local of type i32 holds bits, so what the code reads of x is `rd x`, which is x where x fits; sums, differences,
-- quotients and remainders are brought to their magnitudes, since those are natural numbers. Assumes nothing.
use mathlib.Core.Path.{◌≡◌, refl, sym, ap, ◌∙◌}
use mathlib.Core.Bool.{true, false, false≢true}
use Prim.Native.Nat.{ℕ, zero, suc, ◌+◌, ◌-◌, ◌%◌, ◌<◌, ◌≤◌, ◌^◌}
use native.Mathlib.Nat.{mod-le}
use native.Mathlib.Omega.{arith}
use lib.Dec.{ltb, eqb, lit<}
use lib.IntN.{ℤ, pos, negsuc, neg_ℤ, nat_abs, sub_ℕ, ◌+ℤ◌, ◌-ℤ◌, +ℤ_idl}
use lib.Signed.{mag, lt_z, le_z, rem_z}
use borrow.Author.Tests.{le-ltb, ltb-true, leb-true, ne_eqb}
use mir.Syntax.{w32}
use mir.Val.{SFits, to_z, of_z}
use mir.ValLaws.{to_z-of_z}
use Rattle.refusal.proofs.Logic.{choice}

-- what the machine reads back from the bits of z
abbrev pub rd : ℤ → ℤ
rd z = to_z w32 (of_z w32 z)

pub rd-is : {z : ℤ} → SFits w32 z → rd z ≡ z
rd-is {z} f = to_z-of_z w32 z f

-- the same with all its arguments: an attribute can name it
pub same : (z : ℤ) → SFits w32 z → to_z w32 (of_z w32 z) ≡ z
same z f = rd-is f

-- the same of a call's result, `rd-ok c.CALLEE.result c.CALLEE.ok`, and of an element or a field that was read
pub rd_ok : (z : ℤ) → mag z < 2 ^ 31 → rd z ≡ z
rd_ok z h = rd-is (record { sfits = h })

pub rd_nat_abs : {x : ℤ} → SFits w32 x → nat_abs (rd x) ≡ nat_abs x
rd_nat_abs f = ap nat_abs (rd-is f)

-- ---- what fits

pub fits_pos : {m : ℕ} → m < 2 ^ 31 → SFits w32 (pos m)
fits_pos h = record { sfits = h }

pub fits_neg : (m : ℕ) → m ≤ 2 ^ 31 → SFits w32 (neg_ℤ (pos m))
fits_neg zero h = record { sfits = lit< tt }
fits_neg (suc m) h = record { sfits = h }

pub nat_abs_fits : (x : ℤ) → SFits w32 x → nat_abs x ≤ 2 ^ 31
nat_abs_fits (pos n) f = omega (arith, f.sfits)
nat_abs_fits (negsuc n) f = f.sfits

-- ---- the sign, by the test of the code

not_below : (n : ℕ) → lt_z (pos n) (pos 0) ≡ false
not_below n = le-ltb n 0 (omega arith)

-- a number below zero, and one that is not, by its magnitude
pub below_zero : (x : ℤ) → lt_z x (pos 0) ≡ true → (1 ≤ nat_abs x) × (x ≡ negsuc (nat_abs x - 1))
below_zero (pos n) e = absurd (false≢true (sym (not_below n) ∙ e))
below_zero (negsuc n) e = (omega arith, ap negsuc (omega arith))

pub from_zero : (x : ℤ) → lt_z x (pos 0) ≡ false → x ≡ pos (nat_abs x)
from_zero (pos n) e = refl
from_zero (negsuc n) e = absurd (false≢true (sym e))

-- ---- minus

pub nat_abs_minus : (y : ℤ) → nat_abs (neg_ℤ y) ≡ nat_abs y
nat_abs_minus (pos zero) = refl
nat_abs_minus (pos (suc n)) = refl
nat_abs_minus (negsuc n) = refl

-- the code's `-z` is `0 - z`
pub minus_is : (z : ℤ) → pos 0 -ℤ z ≡ neg_ℤ z
minus_is z = +ℤ_idl (neg_ℤ z)

-- ---- sums and differences: the magnitude is at most the sum of the magnitudes

nat_abs_sub : (a b : ℕ) → nat_abs (sub_ℕ a b) ≤ a + b
nat_abs_sub a b = choice (λ (z : ℤ). nat_abs z ≤ a + b) (ltb a b) (λ t. omega (arith, ltb-true a b t)) (λ t. omega arith)

pub nat_abs_add : (x y : ℤ) → nat_abs (x +ℤ y) ≤ nat_abs x + nat_abs y
nat_abs_add (pos a) (pos b) = omega arith
nat_abs_add (pos a) (negsuc b) = nat_abs_sub a (suc b)
nat_abs_add (negsuc a) (pos b) = omega (arith, nat_abs_sub b (suc a))
nat_abs_add (negsuc a) (negsuc b) = omega arith

pub nat_abs_less : (x y : ℤ) → nat_abs (x -ℤ y) ≤ nat_abs x + nat_abs y
nat_abs_less x y = omega (arith, nat_abs_add x (neg_ℤ y), nat_abs_minus y)

-- ---- the remainder by a step of at least 1

pub step_pos : (z : ℤ) → le_z (pos 1) z ≡ true → 1 ≤ nat_abs z
step_pos (pos n) t = leb-true 1 n t
step_pos (negsuc n) t = absurd (false≢true t)

pub step_is : (z : ℤ) → le_z (pos 1) z ≡ true → z ≡ pos (nat_abs z)
step_is (pos n) t = refl
step_is (negsuc n) t = absurd (false≢true t)

pub nat_abs_rem : (x step : ℤ) → nat_abs (rem_z x step) ≡ nat_abs x % nat_abs step
nat_abs_rem (pos a) step = refl
nat_abs_rem (negsuc a) step = nat_abs_minus (pos (suc a % nat_abs step))

pub rem_small : (x step : ℤ) → nat_abs (rem_z x step) ≤ nat_abs x
rem_small x step = omega (arith, nat_abs_rem x step, mod-le (nat_abs x) (nat_abs step))

pub rem_fits : (x step : ℤ) → SFits w32 x → SFits w32 (rem_z x step)
rem_fits (pos a) step f = fits_pos (omega (arith, mod-le a (nat_abs step), f.sfits))
rem_fits (negsuc a) step f = fits_neg (suc a % nat_abs step) (omega (arith, mod-le (suc a) (nat_abs step), f.sfits))

-- the machine compares bits: they are 0 exactly where the magnitude is
pub bits_zero : (z : ℤ) → SFits w32 z → eqb (of_z w32 z) 0 ≡ eqb (nat_abs z) 0
bits_zero (pos n) f = refl
bits_zero (negsuc n) f =
    ne_eqb (2 ^ 32 - suc n) 0 (λ (h : 2 ^ 32 - suc n ≡ 0). omega (arith, f.sfits))
    ∙ sym (ne_eqb (suc n) 0 (λ (h : suc n ≡ 0). omega arith))
