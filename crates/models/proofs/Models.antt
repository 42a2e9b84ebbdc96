-- Each model's sheet is sound and has no row for `]`, its initial values are sound, and each identifier of its scan has a row that can be
-- read, whether the sheet is lent as the maker's or as the bench's. The tests are computed over the whole table. Assumes nothing.
use mathlib.Core.Path.{◌≡◌, refl, ◌∙◌}
use mathlib.Core.Bool.{Bool, true, false, not, ◌&&◌, ◌||◌}
use mathlib.Core.List.{List, [], ◌∷◌}
use Prim.Native.Nat.{ℕ}
use Prim.Native.Char.{code}
use borrow.Author.Tests.{eqb-true}
use lib.Dec.{eqb}
use lib.IntN.{ℤ}
use lib.ListN.{length}
use Rattle.refusal.proofs.Logic.{ands, and_both, not_is}
use Rattle.refusal.specs.Lists.{every}
use Rattle.number.specs.Number.{in_range}
use Rattle.sheet.specs.Sheet.{rows, sound_sheet}
use Rattle.sheet.specs.Lookup.{code_is, is_for, row_among, place_among, row_in, place_in, has_row, row_of}
use Rattle.sheet.specs.Values.{numbers_of, entry_of, entry_in, is_readable, is_readable_entry, sound_values}
use Rattle.sheet.proofs.SoundSheets.{row_of_sound}
use Rattle.sheet.proofs.Tables.{sheet_test, sheet-test, allow_test, allowed_sound}
use Rattle.models.specs.Table.{sheet_of, are_codes, filled, values_of}
use Rattle.models.specs.Dcp100Controller.{dcp100_controller}
use Rattle.models.specs.Dcp100Programmer.{dcp100_programmer}
use Rattle.models.specs.Udi1500.{udi1500}
use Rattle.models.specs.Scans.{dcp100_controller_scan, dcp100_one_output_scan, udi1500_scan}

pub record SoundModel (table : List (List ℤ)) : Type 0 where
  pub sheet_sound : sound_sheet (sheet_of table) ≡ true
  pub values_under_maker : sound_values [] (sheet_of table) (values_of table) ≡ true
  pub values_under_bench : sound_values (sheet_of table) [] (values_of table) ≡ true
  pub codes : are_codes table ≡ true
  pub no-scan-row : has_row (sheet_of table) (code "]") ≡ false

is_sound : List (List ℤ) → Bool
is_sound t =
    sheet_test (sheet_of t)
    && eqb (length (values_of t)) 128
    && allow_test (rows (sheet_of t)) (values_of t)
    && are_codes t
    && not (has_row (sheet_of t) (code "]"))

sound_model : (t : List (List ℤ)) → is_sound t ≡ true → SoundModel t
unfolding is_sound
sound_model t e =
    let values = allowed_sound (sheet_of t) (values_of t) (eqb-true (length (values_of t)) 128 (search ands)) (search ands) in
    record {
      sheet_sound = sheet-test (sheet_of t) ∙ search ands;
      values_under_maker = values.0;
      values_under_bench = values.1;
      codes = search ands;
      no-scan-row = not_is (search ands);
    }

computed : (is_sound dcp100_controller && is_sound dcp100_programmer && is_sound udi1500) ≡ true
unfolding is_sound rows code_is is_for place_among place_in has_row in_range sheet_of are_codes filled values_of dcp100_controller dcp100_programmer udi1500
computed = refl

pub dcp100_controller_sound : SoundModel dcp100_controller
dcp100_controller_sound = sound_model dcp100_controller (let e = computed in search ands)

pub dcp100_programmer_sound : SoundModel dcp100_programmer
dcp100_programmer_sound = sound_model dcp100_programmer (let e = computed in search ands)

pub udi1500_sound : SoundModel udi1500
udi1500_sound = sound_model udi1500 (let e = computed in search ands)

-- ---- scans

-- each identifier has a row that can be read
abbrev pub are_readable : List ℤ → List ℤ → List ℕ → Bool
are_readable bench maker scan = every (λ (i : ℕ). is_readable_entry (entry_in bench maker i)) scan

pub record ReadableScan (table : List (List ℤ)) (scan : List ℕ) : Type 0 where
  pub four_or_five : (eqb (length scan) 4 || eqb (length scan) 5) ≡ true
  pub readable_under_maker : are_readable [] (sheet_of table) scan ≡ true
  pub readable_under_bench : are_readable (sheet_of table) [] scan ≡ true

-- the same for an identifier of two sound sheets, as a test that computes
row_test : List ℤ → List ℤ → ℕ → Bool
row_test bench maker i = eqb (length (row_of bench maker i)) 6 && is_readable (numbers_of (row_of bench maker i))

module _ (bench maker : List ℤ) (b : sound_sheet bench ≡ true) (m : sound_sheet maker ≡ true) where
  row_readable : (i : ℕ) → row_test bench maker i ≡ true → is_readable_entry (entry_in bench maker i) ≡ true
  unfolding row_test entry_in entry_of is_readable_entry
  row_readable i e = rw (row_of_sound bench maker i b m (eqb-true _ 6 (search ands))) (search ands)

  rows_readable : (is : List ℕ) → every (row_test bench maker) is ≡ true → are_readable bench maker is ≡ true
  unfolding every
  rows_readable [] e = refl
  rows_readable (i ∷ is) e = and_both (row_readable i (search ands)) (rows_readable is (search ands))

is_readable_scan : List ℤ → List ℕ → Bool
is_readable_scan s is = (eqb (length is) 4 || eqb (length is) 5) && every (row_test [] s) is && every (row_test s []) is

scan_readable : (t : List (List ℤ)) (is : List ℕ) → SoundModel t → is_readable_scan (sheet_of t) is ≡ true → ReadableScan t is
unfolding is_readable_scan
scan_readable t is m e =
    let none : sound_sheet [] ≡ true = sheet-test [] ∙ (unfold rows in refl) in record {
      four_or_five = search ands;
      readable_under_maker = rows_readable [] (sheet_of t) none m.sheet_sound is (search ands);
      readable_under_bench = rows_readable (sheet_of t) [] m.sheet_sound none is (search ands);
    }

scans_computed : (is_readable_scan (sheet_of dcp100_controller) dcp100_controller_scan
    && is_readable_scan (sheet_of dcp100_controller) dcp100_one_output_scan
    && is_readable_scan (sheet_of udi1500) udi1500_scan) ≡ true
unfolding is_readable_scan row_test every row_of has_row place_in place_among row_in row_among is_for code_is rows numbers_of is_readable sheet_of dcp100_controller udi1500 dcp100_controller_scan dcp100_one_output_scan udi1500_scan
scans_computed = refl

pub dcp100_controller_scan_readable : ReadableScan dcp100_controller dcp100_controller_scan
dcp100_controller_scan_readable =
    scan_readable dcp100_controller dcp100_controller_scan dcp100_controller_sound (let e = scans_computed in search ands)

pub dcp100_one_output_scan_readable : ReadableScan dcp100_controller dcp100_one_output_scan
dcp100_one_output_scan_readable =
    scan_readable dcp100_controller dcp100_one_output_scan dcp100_controller_sound (let e = scans_computed in search ands)

pub udi1500_scan_readable : ReadableScan udi1500 udi1500_scan
udi1500_scan_readable = scan_readable udi1500 udi1500_scan udi1500_sound (let e = scans_computed in search ands)
