-- What the library's conversion to a byte gives, by the words of specs/Row. Assumes nothing.
use mathlib.Core.Path.{◌≡◌, refl, sym, ◌∙◌}
use mathlib.Core.Bool.{Bool, true, false}
use Prim.Native.Nat.{ℕ, ◌<◌, ◌≤◌}
use native.Mathlib.Omega.{arith}
use borrow.Author.Tests.{le-leb, lt-leb}
use lib.Dec.{leb}
use lib.IntN.{ℤ, pos, negsuc, nat_abs}
use Rattle.std.specs.Prelude.{Result, Ok, Err}
use Rattle.std.specs.Result.{OkIff, is_ok, result_unwrap_or}
use Rattle.std.specs.Int.{FitsUnsignedBits}
use Rattle.refusal.proofs.Logic.{and_both}
use Rattle.number.specs.Number.{in_range}
use Rattle.row.specs.Row.{is_byte, byte_or}

pub byte_in : (z : ℤ) → FitsUnsignedBits 8 z → is_byte z ≡ true
unfolding is_byte in_range
byte_in (pos n) h = and_both (le-leb 0 n (omega arith)) (le-leb n 255 (omega arith))
byte_in (negsuc n) h = absurd h

pub byte_out : (z : ℤ) → (FitsUnsignedBits 8 z → ⊥) → is_byte z ≡ false
unfolding is_byte in_range
byte_out (pos n) h = rw (le-leb 0 n (omega arith), lt-leb n 255 (omega (arith, h)))
byte_out (negsuc n) h = refl

module _ {E : Type 0} where
  -- it succeeds exactly at a byte
  pub byte_fits : (z : ℤ) (r : Result ℕ E) → OkIff r (FitsUnsignedBits 8 z) (nat_abs z) → is_ok r ≡ is_byte z
  byte_fits z (Ok x) h = sym (byte_in z h.0)
  byte_fits z (Err e) h = sym (byte_out z h)

  -- and with that byte
  pub byte_given : (none : ℕ) (z : ℤ) (r : Result ℕ E) → OkIff r (FitsUnsignedBits 8 z) (nat_abs z) → result_unwrap_or r none ≡ byte_or none z
  unfolding byte_or
  byte_given none z (Ok x) h = rw (byte_in z h.0) h.1
  byte_given none z (Err e) h = rw (byte_out z h)
