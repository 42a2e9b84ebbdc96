-- Under sound sheets there are sound values: the least of each row in its place. Assumes nothing.
use mathlib.Core.Path.{◌≡◌, refl, ap}
use mathlib.Core.Bool.{true}
use mathlib.Core.List.{List, [], ◌∷◌}
use Prim.Native.Nat.{ℕ, zero, suc}
use native.Mathlib.Omega.{arith}
use borrow.Author.Tests.{eqb-true, eq-eqb, le-leb}
use lib.Dec.{eqb}
use lib.IntN.{ℤ, pos, negsuc}
use lib.Signed.{le_z}
use lib.ListN.{length}
use Rattle.refusal.proofs.Logic.{and_both, by-test}
use Rattle.number.proofs.Cuts.{ends_in_range}
use Rattle.sheet.specs.Sheet.{at, sound_row, sound_sheet}
use Rattle.sheet.specs.Lookup.{row_of}
use Rattle.sheet.specs.Values.{numbers_of, fits_place, sound_from, sound_values}
use Rattle.sheet.proofs.SoundSheets.{row_parts, row_of_sound}
use Rattle.sheet.proofs.Values.{parts_fit}

module _ (bench maker : List ℤ) where
  -- n values from the place i on
  least_from : ℕ → ℕ → List ℤ
  least_from i zero = []
  least_from i (suc n) = at (row_of bench maker i) 4 ∷ least_from (suc i) n

  -- the least of each row in its place, and 0 where there is no row
  pub least_values : List ℤ
  least_values = least_from 0 128

le_z_refl : (z : ℤ) → le_z z z ≡ true
le_z_refl (pos n) = le-leb n n (omega arith)
le_z_refl (negsuc n) = le-leb n n (omega arith)

least_fits : (r : List ℤ) → sound_row r ≡ true → fits_place r (at r 4) ≡ true
unfolding fits_place numbers_of
least_fits r e =
    let p = row_parts r e in
    rw (eq-eqb (length r) 6 p.six)
    (parts_fit (numbers_of r) (at r 4) (ends_in_range (at r 4) (at r 4) (at r 5) (le_z_refl (at r 4)) p.ordered) p.least_multiple)

module _ (bench maker : List ℤ) (p : sound_sheet bench ≡ true) (q : sound_sheet maker ≡ true) where
  place_fits : (i : ℕ) → fits_place (row_of bench maker i) (at (row_of bench maker i) 4) ≡ true
  place_fits i =
      let r = row_of bench maker i in
      by-test (eqb (length r) 6)
      (λ t. least_fits r (row_of_sound bench maker i p q (eqb-true (length r) 6 t)))
      (λ t. unfold fits_place in rw t)

  from_sound : (i n : ℕ) → sound_from bench maker i (least_from bench maker i n) ≡ true
  unfolding sound_from least_from
  from_sound i zero = refl
  from_sound i (suc n) = and_both (place_fits i) (from_sound (suc i) n)

  length_least : (i n : ℕ) → length (least_from bench maker i n) ≡ n
  unfolding least_from
  length_least i zero = refl
  length_least i (suc n) = ap suc (length_least (suc i) n)

  pub least_sound : sound_values bench maker (least_values bench maker) ≡ true
  unfolding sound_values least_values
  least_sound = and_both (eq-eqb _ 128 (length_least 0 128)) (from_sound 0 128)
