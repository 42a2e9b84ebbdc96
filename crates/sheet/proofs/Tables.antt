-- The rules of rows, sheets and values as plain tests, which compute where nothing of other crates is opened: whoever has a table of
-- rows shows by one computed test that it is sound. Assumes nothing.
use mathlib.Core.Path.{◌≡◌, refl, ap, ap₂, ◌∙◌}
use mathlib.Core.Bool.{Bool, true, false, cond, ◌&&◌}
use mathlib.Core.List.{List, [], ◌∷◌}
use Prim.Native.Nat.{ℕ, suc, ◌%◌}
use borrow.Author.Tests.{eqb-true, eq-eqb}
use lib.Dec.{leb, eqb}
use lib.IntN.{ℤ, pos, negsuc, nat_abs}
use lib.Signed.{le_z, lt_z}
use lib.ListN.{length}
use Rattle.refusal.proofs.Logic.{ands, and_both, choice, by-test}
use Rattle.number.specs.Number.{in_range, is_multiple}
use Rattle.number.proofs.Cuts.{in_range_ends, ends_in_range, multiple_step, multiple_rem, rem_multiple}
use Rattle.sheet.specs.Sheet.{at, rows, sound_numbers, sound_row, sound_rows, sound_sheet}
use Rattle.sheet.specs.Lookup.{is_for, row_among, place_among, row_in, place_in, has_row, row_of}
use Rattle.sheet.specs.Values.{numbers_of, fits_row, fits_place, sound_from, sound_values}
use Rattle.sheet.proofs.SoundSheets.{row_for, bench_wins, maker_else, same_test, code_test, code-test}
use Rattle.sheet.proofs.Values.{from_places}

-- ---- numbers

abbrev pub range_test : ℤ → ℤ → ℤ → Bool
range_test least x greatest = le_z least x && le_z x greatest

range-test : (least x greatest : ℤ) → in_range least x greatest ≡ range_test least x greatest
range-test least x greatest =
    same_test (in_range least x greatest) (range_test least x greatest)
    (λ e. let h = in_range_ends least x greatest e in and_both h.0 h.1)
    (λ e. ends_in_range least x greatest (search ands) (search ands))

abbrev pub multiple_test : ℤ → ℤ → Bool
multiple_test x step = le_z (pos 1) step && eqb (nat_abs x % nat_abs step) 0

multiple-test : (x step : ℤ) → is_multiple x step ≡ multiple_test x step
multiple-test x step =
    same_test (is_multiple x step) (multiple_test x step)
    (λ e. and_both (multiple_step x step e) (eq-eqb _ 0 (multiple_rem x step e)))
    (λ e. rem_multiple x step (search ands) (eqb-true (nat_abs x % nat_abs step) 0 (search ands)))

-- ---- rows and sheets

abbrev pub row_test : List ℤ → Bool
row_test r =
    eqb (length r) 6
    && (code_test (at r 0)
    && range_test (pos 1) (at r 1) (pos 3)
    && range_test (pos 0) (at r 2) (pos 3)
    && range_test (pos 1) (at r 3) (pos 9999)
    && range_test (negsuc 9998) (at r 4) (pos 9999)
    && range_test (negsuc 9998) (at r 5) (pos 9999)
    && le_z (at r 4) (at r 5)
    && multiple_test (at r 4) (at r 3)
    && multiple_test (at r 5) (at r 3))

row-test : (r : List ℤ) → sound_row r ≡ row_test r
unfolding sound_row sound_numbers
row-test r = simp (code-test, range-test, multiple-test)

abbrev pub rows_test : ℤ → List (List ℤ) → Bool
rows_test last [] = true
rows_test last (r ∷ rs) = row_test r && lt_z last (at r 0) && rows_test (at r 0) rs

rows-test : (last : ℤ) (rs : List (List ℤ)) → sound_rows last rs ≡ rows_test last rs
unfolding sound_rows
rows-test last [] = refl
rows-test last (r ∷ rs) = ap₂ (λ (x y : Bool). x && lt_z last (at r 0) && y) (row-test r) (rows-test (at r 0) rs)

abbrev pub sheet_test : List ℤ → Bool
sheet_test s = leb (length (rows s)) 64 && rows_test (pos 0) (rows s)

pub sheet-test : (s : List ℤ) → sound_sheet s ≡ sheet_test s
unfolding sound_sheet
sheet-test s = ap (λ (x : Bool). leb (length (rows s)) 64 && x) (rows-test (pos 0) (rows s))

-- ---- values

abbrev pub fits_test : List ℤ → ℤ → Bool
fits_test r v = range_test (at r 4) v (at r 5) && multiple_test v (at r 3)

pub fits-test : (r : List ℤ) (v : ℤ) → fits_row (numbers_of r) v ≡ fits_test r v
unfolding fits_row numbers_of
fits-test r v = simp (range-test, multiple-test)

-- each value, by the row of its place
abbrev pub from_test : List ℤ → List ℤ → ℕ → List ℤ → Bool
from_test bench maker i [] = true
from_test bench maker i (v ∷ vs) = cond (eqb (length (row_of bench maker i)) 6) (fits_test (row_of bench maker i) v) true && from_test bench maker (suc i) vs

from-test : (bench maker : List ℤ) (i : ℕ) (vs : List ℤ) → sound_from bench maker i vs ≡ from_test bench maker i vs
unfolding sound_from fits_place
from-test bench maker i [] = refl
from-test bench maker i (v ∷ vs) =
    ap₂ (λ (x y : Bool). cond (eqb (length (row_of bench maker i)) 6) x true && y) (fits-test (row_of bench maker i) v) (from-test bench maker (suc i) vs)

abbrev pub values_test : List ℤ → List ℤ → List ℤ → Bool
values_test bench maker vs = eqb (length vs) 128 && from_test bench maker 0 vs

pub values-test : (bench maker vs : List ℤ) → sound_values bench maker vs ≡ values_test bench maker vs
unfolding sound_values
values-test bench maker vs = ap (λ (x : Bool). eqb (length vs) 128 && x) (from-test bench maker 0 vs)

-- each row, by the value in its place
abbrev pub allow_test : List (List ℤ) → List ℤ → Bool
allow_test [] vs = true
allow_test (r ∷ rs) vs = fits_test r (at vs (nat_abs (at r 0))) && allow_test rs vs

among_allows : (rs : List (List ℤ)) (vs : List ℤ) (i : ℕ) → allow_test rs vs ≡ true → fits_place (row_among rs i) (at vs i) ≡ true
unfolding row_among fits_place
among_allows [] vs i e = refl
among_allows (r ∷ rs) vs i e =
    choice (λ (l : List ℤ). fits_place l (at vs i) ≡ true) (is_for r i)
    (λ t.
    let its : fits_test r (at vs (nat_abs (at r 0))) ≡ true = search ands in
    rw (eq-eqb (length r) 6 (row_for r i t).six) (fits-test r (at vs i) ∙ rw (row_for r i t).its at its))
    (λ t. among_allows rs vs i (search ands))

nowhere : (i : ℕ) → has_row [] i ≡ false
unfolding has_row place_in place_among rows
nowhere i = refl

-- 128 values that every row of a sheet allows are sound, whether it is lent as the maker's or as the bench's
pub allowed_sound : (s vs : List ℤ) → length vs ≡ 128 → allow_test (rows s) vs ≡ true → (sound_values [] s vs ≡ true) × (sound_values s [] vs ≡ true)
unfolding row_in rows
allowed_sound s vs n e = (
  from_places [] s vs n (λ i h. rw (maker_else [] s i (nowhere i)) (among_allows (rows s) vs i e)),
  from_places s [] vs n (λ i h. by-test (has_row s i)
      (λ t. rw (bench_wins s [] i t) (among_allows (rows s) vs i e))
      (λ t. rw (maker_else s [] i t) (among_allows (rows []) vs i refl))),
)
