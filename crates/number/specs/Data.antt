-- Five digits of data: a number of four digits, and a code that gives the decimals and the sign.
use Rattle.std.specs.Prelude.{Bool, true, false, cond, not, ◌&&◌, ◌||◌, List, [], ◌∷◌, ◌++◌, ℕ, ◌+◌, ◌-◌, ◌*◌, ◌/◌, ◌%◌, ltb, leb, eqb, ℤ, pos, negsuc, neg_ℤ, nat_abs}
use Rattle.number.specs.declared.Decimal.{Decimal}
use Rattle.number.specs.declared.Numeral.{Numeral}
use Rattle.number.specs.declared.Data.{Data}
use Rattle.number.specs.declared.Data.TheVariants.{Partial, Number, Invalid}

-- the character of a digit, whether a character is one, and its digit
unfoldable pub digit : ℕ → ℕ
digit d = 48 + d

unfoldable pub is_digit : ℕ → Bool
is_digit c = leb 48 c && leb c 57

unfoldable pub digit_of : ℕ → ℕ
digit_of c = c - 48

-- a number in units of its last decimal, and how many decimals it has
abbrev pub with_decimals : ℤ → ℕ → Decimal
with_decimals n d = record { number = n; decimals = d }

-- what five digits can say: at most four digits of number, at most three decimals
unfoldable pub fits : Decimal → Bool
fits x = leb (nat_abs x.number) 9999 && leb x.decimals 3

-- a number as a message has it; document 02, ticket 5: "everything that reads numbers must say which it had", minus zero or zero
abbrev pub with_sign : Decimal → Bool → Numeral
with_sign x z = record { number = x.number; decimals = x.decimals; minus_zero = z }

abbrev pub is_minus_zero : Numeral → Bool
is_minus_zero x = x.minus_zero

-- its number; both zeros are the same one
abbrev pub as_decimal : Numeral → Decimal
as_decimal x = with_decimals x.number x.decimals

-- a number that is no minus zero, and minus zero with so many decimals
abbrev pub numeral : Decimal → Numeral
numeral x = with_sign x false

abbrev pub minus_zero_with : ℕ → Numeral
minus_zero_with d = with_sign (with_decimals (pos 0) d) true

-- what five digits can say: only zero is minus zero
unfoldable pub fits_numeral : Numeral → Bool
fits_numeral x = fits (as_decimal x) && (not (is_minus_zero x) || eqb (nat_abs x.number) 0)

-- ---- written

-- document 01: "code equal to the decimals for zero and above, plus 5 below zero"
unfoldable pub code_of : ℤ → ℕ → ℕ
code_of (pos n) d = d
code_of (negsuc n) d = d + 5

-- the last four digits of m, and the last digit of the code k
unfoldable pub five_digits : ℕ → ℕ → List ℕ
five_digits m k = digit (m / 10 / 10 / 10 % 10) ∷ digit (m / 10 / 10 % 10) ∷ digit (m / 10 % 10) ∷ digit (m % 10) ∷ digit (k % 10) ∷ []

-- a number as five digits; no number is written as minus zero
unfoldable pub spell_data : Decimal → List ℕ
spell_data x = five_digits (nat_abs x.number) (code_of x.number x.decimals)

-- and as a message has it: minus zero has the code of a number below zero
unfoldable pub spell_numeral : Numeral → List ℕ
spell_numeral x = five_digits (nat_abs x.number) (cond (is_minus_zero x) (x.decimals + 5) (code_of x.number x.decimals))

-- ---- read, one character after the other

-- the negative of m; document 02, ticket 5: "The digit reader must now tell minus zero from zero"
abbrev pub negative : ℕ → ℕ → Numeral
negative m d = with_sign (with_decimals (neg_ℤ (pos m)) d) (eqb m 0)

-- document 01: "0 to 3 is that many decimals, positive; 5 to 8 is code minus 5 decimals, negative. Code 4 or 9 is not well formed."
unfoldable pub decode : ℕ → ℕ → Data
decode m k =
    cond (leb k 3) (Number (numeral (with_decimals (pos m) k)))
    (cond (leb 5 k && leb k 8) (Number (negative m (k - 5))) Invalid)

-- before the first character
abbrev pub start : Data
start = Partial 0 0

-- one character more: a digit of the number, or behind four digits the code; a value that four digits can't make is no data
unfoldable pub read_next : Data → ℕ → Data
read_next (Partial k n) c =
    cond (is_digit c && leb n 9999)
    (cond (ltb k 4) (Partial (k + 1) (n * 10 + digit_of c)) (decode n (digit_of c)))
    Invalid
read_next (Number x) c = Invalid
read_next Invalid c = Invalid

-- these characters more
unfoldable pub read_from : Data → List ℕ → Data
read_from x [] = x
read_from x (c ∷ cs) = read_from (read_next x c) cs

-- all characters of the data
unfoldable pub read_data : List ℕ → Data
read_data cs = read_from start cs

-- ---- several numbers, one behind the other

-- document 02: "five five-digit values"; five digits for each number, however many there are
unfoldable pub spell_all : List Decimal → List ℕ
spell_all [] = []
spell_all (x ∷ xs) = spell_data x ++ spell_all xs
