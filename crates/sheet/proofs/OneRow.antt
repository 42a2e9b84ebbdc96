-- A sheet of one row of step 1 from -9,999 to 9,999: it is sound, it shows its row for its identifier and nothing for any other, and
-- with a number of four digits in its place the values are sound. And no rows are a sound sheet that allows any values.
-- Assumes nothing.
use mathlib.Core.Path.{◌≡◌, refl, sym, ◌∙◌}
use mathlib.Core.Bool.{true, false}
use mathlib.Core.List.{List, [], ◌∷◌}
use Prim.Native.Nat.{ℕ, ◌≤◌}
use native.Mathlib.Omega.{arith}
use borrow.Author.Tests.{le-leb}
use lib.Dec.{eqb, lit≤}
use lib.IntN.{ℤ, pos, negsuc, nat_abs}
use lib.ListN.{length, get_or, set, replicate, length-set}
use Rattle.refusal.proofs.Logic.{and_both}
use Rattle.number.specs.Number.{in_range}
use Rattle.number.proofs.Cuts.{ends_in_range, four_digits, one_multiple}
use Rattle.message.specs.Message.{question, is_identifier}
use Rattle.message.proofs.Messages.{plain_identifier}
use Rattle.sheet.specs.declared.Row.{Row}
use Rattle.sheet.specs.Sheet.{rows, sound_row, sound_rows, sound_sheet}
use Rattle.sheet.specs.Lookup.{code_is, is_for, row_among, row_in, has_row}
use Rattle.sheet.specs.Values.{numbers_of, entry_in, sound_values}
use Rattle.sheet.proofs.SoundSheets.{parts_row, none_row, code_sound, alone_sound}
use Rattle.sheet.proofs.Values.{alone_entry, parts_fit, set_here}
use Rattle.sheet.proofs.Tables.{fits_test, fits-test, allowed_sound}
use Rattle.std.specs.Prelude.{Some}

-- ---- no rows

pub no_rows : sound_sheet [] ≡ true
unfolding sound_sheet sound_rows rows
no_rows = refl

pub no_rows_values : (vs : List ℤ) → length vs ≡ 128 → sound_values [] [] vs ≡ true
unfolding rows
no_rows_values vs n = (allowed_sound [] vs n refl).0

pub no_rows_none : (i : ℕ) → has_row [] i ≡ false
unfolding row_in row_among rows
no_rows_none i = none_row [] i refl

-- ---- one row

abbrev pub one_row : (identifier access decimals : ℕ) → List ℤ
one_row i access d = pos i ∷ pos access ∷ pos d ∷ pos 1 ∷ negsuc 9998 ∷ pos 9999 ∷ []

abbrev pub its_numbers : (access decimals : ℕ) → Row
its_numbers access d = record { access = access; decimals = d; step = pos 1; least = negsuc 9998; greatest = pos 9999 }

-- a number in the place of an identifier, and 0 in every other
abbrev pub one_value : ℕ → ℤ → List ℤ
one_value i n = set (replicate 128 (pos 0)) i n

-- and none for another identifier
pub one_else : (i access d j : ℕ) → eqb i j ≡ false → has_row (one_row i access d) j ≡ false
unfolding row_in row_among is_for code_is rows
one_else i access d j e = none_row (one_row i access d) j (rw e)

module _ (i access d : ℕ) (pi : is_identifier i ≡ true) (q : eqb i question ≡ false) (r : in_range (pos 1) (pos access) (pos 3) ≡ true) (k : d ≤ 3) where
  pub one-row : sound_row (one_row i access d) ≡ true
  one-row = parts_row (one_row i access d) (record {
    six = refl;
    identifier = code_sound i pi q;
    access = r;
    decimals = ends_in_range (pos 0) (pos d) (pos 3) (le-leb 0 d (omega arith)) (le-leb d 3 k);
    step = ends_in_range (pos 1) (pos 1) (pos 9999) refl refl;
    least = four_digits (negsuc 9998) (lit≤ tt);
    greatest = four_digits (pos 9999) (lit≤ tt);
    ordered = refl;
    least_multiple = one_multiple (negsuc 9998);
    greatest_multiple = one_multiple (pos 9999);
  })

  pub one_sound : sound_sheet (one_row i access d) ≡ true
  one_sound = alone_sound (one_row i access d) one-row

  pub one_entry : entry_in (one_row i access d) [] i ≡ Some (its_numbers access d)
  unfolding numbers_of
  one_entry = alone_entry (one_row i access d) [] i one-row refl

  pub one_there : (n : ℤ) → get_or (one_value i n) i (pos 0) ≡ n
  one_there n = set_here (replicate 128 (pos 0)) i n (plain_identifier i pi).small

  pub one_values : (n : ℤ) → nat_abs n ≤ 9999 → sound_values (one_row i access d) [] (one_value i n) ≡ true
  unfolding rows numbers_of
  one_values n h =
      let r = one_row i access d in
      let its : fits_test r n ≡ true = sym (fits-test r n) ∙ parts_fit (its_numbers access d) n (four_digits n h) (one_multiple n) in
      (allowed_sound r (one_value i n) (length-set (replicate 128 (pos 0)) i n) (rw (one_there n) (and_both its refl))).1
