-- The character of a digit is a digit and says which; so the five characters of data are five digits. Later proofs speak of
-- digits by these laws only, and never by the codes 48 to 57, but for `Pairs`. The code is at most 5 above the decimals, and what stands
-- before the last four digits and the last of the code isn't written. Assumes nothing.
use mathlib.Core.Path.{◌≡◌, refl}
use mathlib.Core.Bool.{true}
use mathlib.Core.List.{List}
use Prim.Native.Nat.{ℕ, ◌+◌, ◌/◌, ◌%◌, ◌≤◌}
use native.Mathlib.Omega.{arith}
use borrow.Author.Tests.{leb-true, le-leb}
use lib.Dec.{leb}
use lib.IntN.{ℤ, pos, negsuc}
use lib.ListN.{length, set}
use Rattle.refusal.proofs.Logic.{and_left, and_right, and_both}
use Rattle.refusal.proofs.Lists.{Each}
use Rattle.number.specs.declared.Decimal.{Decimal}
use Rattle.number.specs.declared.Numeral.{Numeral}
use Rattle.number.specs.Data.{digit, is_digit, digit_of, code_of, five_digits, spell_data, spell_numeral}

pub digit_ends : (c : ℕ) → is_digit c ≡ true → (48 ≤ c) × (c ≤ 57)
unfolding is_digit
digit_ends c e =
    (leb-true 48 c (and_left (leb 48 c) (leb c 57) e), leb-true c 57 (and_right (leb 48 c) (leb c 57) e))

pub digit_is : (d : ℕ) → d ≤ 9 → is_digit (digit d) ≡ true
unfolding is_digit digit
digit_is d h = and_both (le-leb 48 (48 + d) (omega arith)) (le-leb (48 + d) 57 (omega arith))

pub digit_back : (d : ℕ) → digit_of (digit d) ≡ d
unfolding digit digit_of
digit_back d = omega arith

-- a digit is at most 9, and is written as the character that was read
pub digit_below : (c : ℕ) → is_digit c ≡ true → digit_of c ≤ 9
unfolding digit_of
digit_below c e = omega (arith, (digit_ends c e).1)

pub digit_again : (c : ℕ) → is_digit c ≡ true → digit (digit_of c) ≡ c
unfolding digit digit_of
digit_again c e = omega (arith, (digit_ends c e).0)

-- ---- the code

pub code_below : (x : ℤ) (d : ℕ) → code_of x d ≤ d + 5
unfolding code_of
code_below (pos n) d = omega arith
code_below (negsuc n) d = omega arith

-- ---- the five characters of data

-- each character is a digit
abbrev pub AllDigits : List ℕ → Type 0
AllDigits cs = Each (λ (c : ℕ). is_digit c ≡ true) cs

last_digit : (n : ℕ) → is_digit (digit (n % 10)) ≡ true
last_digit n = digit_is (n % 10) (omega arith)

five-digits : (m k : ℕ) → AllDigits (five_digits m k)
unfolding five_digits
five-digits m k = (last_digit _, (last_digit _, (last_digit _, (last_digit _, (last_digit _, tt)))))

pub data_digits : (x : Decimal) → AllDigits (spell_data x)
unfolding spell_data
data_digits x = five-digits _ _

pub data_length : (x : Decimal) → length (spell_data x) ≡ 5
unfolding spell_data five_digits
data_length x = refl

-- and so of a number as a message has it
pub numeral_digits : (x : Numeral) → AllDigits (spell_numeral x)
unfolding spell_numeral
numeral_digits x = five-digits _ _

pub numeral_length : (x : Numeral) → length (spell_numeral x) ≡ 5
unfolding spell_numeral five_digits
numeral_length x = refl

-- with another code
pub other_code : (m k j : ℕ) → set (five_digits m k) 4 (digit (j % 10)) ≡ five_digits m j
unfolding five_digits
other_code m k j = refl

-- only the last four digits of the number are written, and the last digit of the code
pub four_written : (m k : ℕ) → five_digits (m % 10000) k ≡ five_digits m k
unfolding five_digits
four_written m k =
    let a : m % 10000 / 10 / 10 / 10 % 10 ≡ m / 10 / 10 / 10 % 10 = omega arith in
    let b : m % 10000 / 10 / 10 % 10 ≡ m / 10 / 10 % 10 = omega arith in
    let c : m % 10000 / 10 % 10 ≡ m / 10 % 10 = omega arith in
    let d : m % 10000 % 10 ≡ m % 10 = omega arith in
    cc (a, b, c, d)

pub one_of_code_written : (m k : ℕ) → five_digits m (k % 10) ≡ five_digits m k
unfolding five_digits
one_of_code_written m k = let e : k % 10 % 10 ≡ k % 10 = omega arith in cc e

pub ruleset written = (code_below, four_written, one_of_code_written)
