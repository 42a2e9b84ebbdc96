-- A sheet of several read-only rows of step 1 from -9,999 to 9,999, one for each number of a list, with rising identifiers: it is sound, it
-- shows each row for its identifier, and with the numbers in their places the values are sound. Assumes nothing.
use mathlib.Core.Path.{◌≡◌, refl, sym, ap, ◌∙◌}
use mathlib.Core.Bool.{true, false}
use mathlib.Core.List.{List, [], ◌∷◌}
use Prim.Native.Nat.{ℕ, zero, suc, ◌+◌, ◌≤◌, ◌<◌}
use native.Mathlib.Omega.{arith}
use borrow.Author.Tests.{le-leb, lt-leb, lt-ltb, eq-eqb, ne_eqb}
use lib.Dec.{leb, eqb}
use lib.IntN.{ℤ, pos, negsuc}
use lib.ListN.{length, set, replicate, length-set}
use Rattle.refusal.specs.Lists.{every}
use Rattle.refusal.proofs.Logic.{and_left, and_right, and_both}
use Rattle.number.specs.declared.Decimal.{Decimal}
use Rattle.number.specs.Data.{fits}
use Rattle.number.proofs.Reading.{fits_within}
use Rattle.number.proofs.Several.{nth}
use Rattle.number.proofs.Cuts.{four_digits, one_multiple, ends_in_range}
use Rattle.number.specs.Number.{in_range}
use Rattle.message.specs.Message.{question, is_identifier}
use Rattle.message.proofs.Messages.{plain_identifier}
use Rattle.sheet.specs.Sheet.{at, rows, sound_row, sound_rows, sound_sheet}
use Rattle.sheet.specs.Lookup.{code_is, is_for, row_among, row_in, has_row}
use Rattle.sheet.specs.Values.{numbers_of, entry_of, entry_in, sound_values}
use Rattle.sheet.proofs.SoundSheets.{sound_code, code-test, bench_wins, row_has, none_row}
use Rattle.sheet.proofs.OneRow.{one_row, its_numbers, one-row}
use Rattle.sheet.proofs.Values.{parts_fit, set_here, set_elsewhere}
use Rattle.sheet.proofs.Tables.{fits_test, fits-test, allow_test, allowed_sound}
use Rattle.std.specs.Prelude.{Some}

-- identifiers from i on, as many as there are numbers
abbrev pub Codes : ℕ → List Decimal → Type 0
Codes i [] = Unit {0}
Codes i (x ∷ xs) = (is_identifier i ≡ true) × (eqb i question ≡ false) × Codes (suc i) xs

-- codes from `@` to `~` are identifiers
code_above : (i : ℕ) → 64 ≤ i → i ≤ 126 → (is_identifier i ≡ true) × (eqb i question ≡ false)
code_above i p q =
    let digit : leb i 57 ≡ false = lt-leb i 57 (omega arith) in
    let star : eqb i 42 ≡ false = ne_eqb i 42 (λ (e : i ≡ 42). omega arith) in
    let no-question : eqb i question ≡ false = ne_eqb i question (λ (e : i ≡ question). omega arith) in
    sound_code i (code-test (pos i) ∙ rw (le-leb 33 i (omega arith), le-leb i 126 q, le-leb 48 i (omega arith), digit, star, no-question) refl)

pub rising_codes : (i : ℕ) (xs : List Decimal) → 64 ≤ i → i + length xs ≤ 127 → Codes i xs
rising_codes i [] p q = tt
rising_codes i (x ∷ xs) p q = let c = code_above i p (omega arith) in (c.0, c.1, rising_codes (suc i) xs (omega arith) (omega arith))

pub rising_rows : ℕ → List Decimal → List ℤ
rising_rows i [] = []
rising_rows i (x ∷ xs) = pos i ∷ pos 1 ∷ pos x.decimals ∷ pos 1 ∷ negsuc 9998 ∷ pos 9999 ∷ rising_rows (suc i) xs

-- the numbers in their places, and 0 in every other
pub rising_values : ℕ → List Decimal → List ℤ
rising_values i [] = replicate 128 (pos 0)
rising_values i (x ∷ xs) = set (rising_values (suc i) xs) i x.number

rising_long : (i : ℕ) (xs : List Decimal) → length (rows (rising_rows i xs)) ≡ length xs
unfolding rows rising_rows
rising_long i [] = refl
rising_long i (x ∷ xs) = ap suc (rising_long (suc i) xs)

read_only : in_range (pos 1) (pos 1) (pos 3) ≡ true
read_only = ends_in_range (pos 1) (pos 1) (pos 3) refl refl

-- each row is sound
first_row : (i : ℕ) (x : Decimal) (xs : List Decimal) → Codes i (x ∷ xs) → every fits (x ∷ xs) ≡ true → sound_row (one_row i 1 x.decimals) ≡ true
unfolding every
first_row i x xs c e = one-row i 1 x.decimals c.0 c.1 read_only (fits_within x (and_left (fits x) (every fits xs) e)).1

rising-rows : (last i : ℕ) (xs : List Decimal) → last < i → Codes i xs → every fits xs ≡ true → sound_rows (pos last) (rows (rising_rows i xs)) ≡ true
unfolding rows rising_rows sound_rows every
rising-rows last i [] h c e = refl
rising-rows last i (x ∷ xs) h c e =
    and_both (and_both (first_row i x xs c e) (lt-ltb last i h)) (rising-rows i (suc i) xs (omega arith) c.2 (and_right (fits x) (every fits xs) e))

pub rising_sound : (i : ℕ) (xs : List Decimal) → 0 < i → Codes i xs → every fits xs ≡ true → length xs ≤ 64 → sound_sheet (rising_rows i xs) ≡ true
unfolding sound_sheet
rising_sound i xs h c e n = and_both (le-leb (length (rows (rising_rows i xs))) 64 (omega (arith, rising_long i xs))) (rising-rows 0 i xs h c e)

-- ---- each row stands for its identifier

below_none : (j : ℕ) → j < 0 → ⊥
below_none j h = omega arith

rising_among : (i j : ℕ) (xs : List Decimal) → j < length xs → row_among (rows (rising_rows i xs)) (i + j) ≡ one_row (i + j) 1 (nth xs j).decimals
unfolding rows rising_rows row_among is_for code_is
rising_among i j [] h = absurd (below_none j h)
rising_among i zero (x ∷ xs) h =
    let z : i + 0 ≡ i = omega arith in
    rw z (rw (eq-eqb i i refl))
rising_among i (suc j) (x ∷ xs) h =
    let z : i + suc j ≡ suc i + j = omega arith in
    rw z (rw (ne_eqb i (suc i + j) (λ q. differs i j q)) (rising_among (suc i) j xs (omega arith)))
  where
    differs : (i j : ℕ) → i ≡ suc i + j → ⊥
    differs i j q = omega arith

-- and is sound
nth_row : (i j : ℕ) (xs : List Decimal) → j < length xs → Codes i xs → every fits xs ≡ true → sound_row (one_row (i + j) 1 (nth xs j).decimals) ≡ true
unfolding every
nth_row i j [] h c e = absurd (below_none j h)
nth_row i zero (x ∷ xs) h c e = let z : i + 0 ≡ i = omega arith in rw z (first_row i x xs c e)
nth_row i (suc j) (x ∷ xs) h c e = let z : i + suc j ≡ suc i + j = omega arith in rw z (nth_row (suc i) j xs (omega arith) c.2 (and_right (fits x) (every fits xs) e))

module _ (i j : ℕ) (xs : List Decimal) (h : j < length xs) where
  here : row_in (rising_rows i xs) (i + j) ≡ one_row (i + j) 1 (nth xs j).decimals
  unfolding row_in
  here = rising_among i j xs h

  pub rising_entry : Codes i xs → every fits xs ≡ true → (maker : List ℤ) → entry_in (rising_rows i xs) maker (i + j) ≡ Some (its_numbers 1 (nth xs j).decimals)
  unfolding entry_in entry_of numbers_of
  rising_entry c e maker =
      rw (bench_wins (rising_rows i xs) maker (i + j) (row_has (rising_rows i xs) (i + j) (ap length here)), here, nth_row i j xs h c e)

-- and none for one behind the last
among_else : (i j : ℕ) (xs : List Decimal) → i + length xs ≤ j → row_among (rows (rising_rows i xs)) j ≡ []
unfolding rows rising_rows row_among is_for code_is
among_else i j [] h = refl
among_else i j (x ∷ xs) h = rw (ne_eqb i j (λ q. below i j (length xs) h q)) (among_else (suc i) j xs (omega arith))
  where
    below : (i j n : ℕ) → i + suc n ≤ j → i ≡ j → ⊥
    below i j n h q = omega arith

pub rising_else : (i j : ℕ) (xs : List Decimal) → i + length xs ≤ j → has_row (rising_rows i xs) j ≡ false
unfolding row_in
rising_else i j xs h = none_row (rising_rows i xs) j (among_else i j xs h)

-- ---- the values

-- the numbers stand in their places
abbrev Holds : ℕ → List Decimal → List ℤ → Type 0
Holds i [] vs = Unit {0}
Holds i (x ∷ xs) vs = (at vs i ≡ x.number) × Holds (suc i) xs vs

-- what is set before them leaves them
holds_on : (i k : ℕ) (xs : List Decimal) (vs : List ℤ) (v : ℤ) → i < k → Holds k xs vs → Holds k xs (set vs i v)
holds_on i k [] vs v h p = tt
holds_on i k (x ∷ xs) vs v h p = (set_elsewhere vs i k v (λ q. above_it i k h q) ∙ p.0, holds_on i (suc k) xs vs v (omega arith) p.1)
  where
    above_it : (i k : ℕ) → i < k → k ≡ i → ⊥
    above_it i k h q = omega arith

values-long : (i : ℕ) (xs : List Decimal) → length (rising_values i xs) ≡ 128
unfolding rising_values
values-long i [] = refl
values-long i (x ∷ xs) = length-set (rising_values (suc i) xs) i x.number ∙ values-long (suc i) xs

values_hold : (i : ℕ) (xs : List Decimal) → Codes i xs → Holds i xs (rising_values i xs)
unfolding rising_values
values_hold i [] c = tt
values_hold i (x ∷ xs) c =
    let vs = rising_values (suc i) xs in
    (set_here vs i x.number (omega (arith, (plain_identifier i c.0).small, values-long (suc i) xs)), holds_on i (suc i) xs vs x.number (omega arith) (values_hold (suc i) xs c.2))

holds_at : (i j : ℕ) (xs : List Decimal) (vs : List ℤ) → j < length xs → Holds i xs vs → at vs (i + j) ≡ (nth xs j).number
holds_at i j [] vs h p = absurd (below_none j h)
holds_at i zero (x ∷ xs) vs h p = let z : i + 0 ≡ i = omega arith in rw z p.0
holds_at i (suc j) (x ∷ xs) vs h p = let z : i + suc j ≡ suc i + j = omega arith in rw z (holds_at (suc i) j xs vs (omega arith) p.1)

pub rising_there : (i j : ℕ) (xs : List Decimal) → j < length xs → Codes i xs → at (rising_values i xs) (i + j) ≡ (nth xs j).number
rising_there i j xs h c = holds_at i j xs (rising_values i xs) h (values_hold i xs c)

allowed : (i : ℕ) (xs : List Decimal) (vs : List ℤ) → every fits xs ≡ true → Holds i xs vs → allow_test (rows (rising_rows i xs)) vs ≡ true
unfolding rows rising_rows every
allowed i [] vs e p = refl
allowed i (x ∷ xs) vs e p =
    let w = fits_within x (and_left (fits x) (every fits xs) e) in
    let its : fits_test (one_row i 1 x.decimals) x.number ≡ true
    = unfold numbers_of in sym (fits-test (one_row i 1 x.decimals) x.number) ∙ parts_fit (its_numbers 1 x.decimals) x.number (four_digits x.number w.0) (one_multiple x.number) in
    rw p.0 (and_both its (allowed (suc i) xs vs (and_right (fits x) (every fits xs) e) p.1))

pub rising-values : (i : ℕ) (xs : List Decimal) → Codes i xs → every fits xs ≡ true → sound_values (rising_rows i xs) [] (rising_values i xs) ≡ true
rising-values i xs c e = (allowed_sound (rising_rows i xs) (rising_values i xs) (values-long i xs) (allowed i xs (rising_values i xs) e (values_hold i xs c))).1
