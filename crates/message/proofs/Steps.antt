-- What one character more makes of a letter, over plain variables. Assumes nothing.
use mathlib.Core.Path.{◌≡◌}
use mathlib.Core.Bool.{true, false}
use Prim.Native.Nat.{ℕ, ◌-◌, ◌≤◌}
use Rattle.number.specs.Data.{is_digit, digit_of}
use Rattle.number.proofs.Digits.{digit_ends}
use Rattle.message.specs.declared.Prefix.TheVariants.{Letter, Digit, Wrong}
use Rattle.message.specs.Prefix.{extend}

pub letter_wrong : (l c : ℕ) → is_digit c ≡ false → extend (Letter l) c ≡ Wrong
unfolding extend
letter_wrong l c e = rw e

pub letter_digit : (l c : ℕ) → is_digit c ≡ true → extend (Letter l) c ≡ Digit l (c - 48)
unfolding extend digit_of
letter_digit l c e = rw e

pub digit_least : (c : ℕ) → is_digit c ≡ true → 48 ≤ c
digit_least c e = (digit_ends c e).0

pub digit_most : (c : ℕ) → is_digit c ≡ true → c ≤ 57
digit_most c e = (digit_ends c e).1
