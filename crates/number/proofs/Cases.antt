-- The numbers of the bench cases, by computing the definitions: a definition that rounds otherwise, leaves the range's end
-- out, takes one zero for the other or reads code 4 or 9 fails here. Assumes nothing.
use mathlib.Core.Path.{◌≡◌, refl}
use mathlib.Core.Bool.{true, false}
use mathlib.Core.List.{[], ◌∷◌}
use lib.IntN.{pos, negsuc}
use Rattle.number.specs.declared.Data.TheVariants.{Partial, Number, Invalid}
use Rattle.number.specs.Number.{in_range, is_multiple, cut_down, cut}
use Rattle.number.specs.Data.{digit, is_digit, digit_of, fits, code_of, five_digits, spell_data, decode, read_next, read_from, with_decimals, with_sign, numeral, minus_zero_with, fits_numeral, spell_numeral, read_data}

-- case e: 2.3 is cut to 2.0 and not rounded to 2.5, and is written 00201
pub case_e : cut (pos 23) (pos 5) ≡ pos 20
unfolding cut cut_down in_range
case_e = refl

pub case_e_written : spell_data (with_decimals (pos 20) 1) ≡ 48 ∷ 48 ∷ 50 ∷ 48 ∷ 49 ∷ []
unfolding spell_data five_digits code_of digit
case_e_written = refl

-- case f: 00126 is -1.2, which is cut to -1.5 and not toward zero, and written 00156
pub case_f_read : read_data (48 ∷ 48 ∷ 49 ∷ 50 ∷ 54 ∷ []) ≡ Number (numeral (with_decimals (negsuc 11) 1))
unfolding read_data read_from read_next decode is_digit digit_of
case_f_read = refl

pub case_f : cut (negsuc 11) (pos 5) ≡ negsuc 14
unfolding cut cut_down in_range
case_f = refl

pub case_f_written : spell_data (with_decimals (negsuc 14) 1) ≡ 48 ∷ 48 ∷ 49 ∷ 53 ∷ 54 ∷ []
unfolding spell_data five_digits code_of digit
case_f_written = refl

-- case h: 100.3 is out of range, though its cut is not; the greatest itself is in range
pub case_h_read : read_data (49 ∷ 48 ∷ 48 ∷ 51 ∷ 49 ∷ []) ≡ Number (numeral (with_decimals (pos 1003) 1))
unfolding read_data read_from read_next decode is_digit digit_of
case_h_read = refl

pub case_h : in_range (pos 0) (pos 1003) (pos 1000) ≡ false
unfolding in_range
case_h = refl

pub case_h_cut : in_range (pos 0) (cut (pos 1003) (pos 5)) (pos 1000) ≡ true
unfolding cut cut_down in_range
case_h_cut = refl

-- case i: minus zero is not read as zero, and is written as it was; zero is written 00001
pub case_i_read : read_data (48 ∷ 48 ∷ 48 ∷ 48 ∷ 54 ∷ []) ≡ Number (minus_zero_with 1)
unfolding read_data read_from read_next decode is_digit digit_of
case_i_read = refl

pub case_i_zero : read_data (48 ∷ 48 ∷ 48 ∷ 48 ∷ 49 ∷ []) ≡ Number (numeral (with_decimals (pos 0) 1))
unfolding read_data read_from read_next decode is_digit digit_of
case_i_zero = refl

pub case_i_written : spell_numeral (minus_zero_with 1) ≡ 48 ∷ 48 ∷ 48 ∷ 48 ∷ 54 ∷ []
unfolding spell_numeral five_digits digit
case_i_written = refl

pub case_i_offered : spell_data (with_decimals (pos 0) 1) ≡ 48 ∷ 48 ∷ 48 ∷ 48 ∷ 49 ∷ []
unfolding spell_data five_digits code_of digit
case_i_offered = refl

-- the last code of minus zero
pub three_decimals : read_data (48 ∷ 48 ∷ 48 ∷ 48 ∷ 56 ∷ []) ≡ Number (minus_zero_with 3)
unfolding read_data read_from read_next decode is_digit digit_of
three_decimals = refl

-- only zero is minus zero
pub not_zero : fits_numeral (with_sign (with_decimals (pos 5) 1) true) ≡ false
unfolding fits_numeral fits
not_zero = refl

-- case m: code 4 is not well formed, and neither is code 9
pub case_m : read_data (48 ∷ 48 ∷ 51 ∷ 48 ∷ 52 ∷ []) ≡ Invalid
unfolding read_data read_from read_next decode is_digit digit_of
case_m = refl

pub code_nine : read_data (48 ∷ 48 ∷ 51 ∷ 48 ∷ 57 ∷ []) ≡ Invalid
unfolding read_data read_from read_next decode is_digit digit_of
code_nine = refl

-- data may be short, and is never long
pub four_characters : read_data (48 ∷ 48 ∷ 51 ∷ 48 ∷ []) ≡ Partial 4 30
unfolding read_data read_from read_next decode is_digit digit_of
four_characters = refl

pub six_characters : read_data (48 ∷ 48 ∷ 51 ∷ 48 ∷ 49 ∷ 48 ∷ []) ≡ Invalid
unfolding read_data read_from read_next decode is_digit digit_of
six_characters = refl

-- a step of 0 has no multiples, and cuts nothing
pub step_zero : is_multiple (pos 0) (pos 0) ≡ false
unfolding is_multiple
step_zero = refl

pub step_zero_cut : cut (pos 23) (pos 0) ≡ pos 23
unfolding cut cut_down in_range
step_zero_cut = refl

-- four decimals don't fit
pub decimals_four : fits (with_decimals (pos 0) 4) ≡ false
unfolding fits
decimals_four = refl
