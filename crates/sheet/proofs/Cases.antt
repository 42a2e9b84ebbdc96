-- Cases that try the definitions: document 01's bench rows and values, and sheets and values that break one rule each.
-- Each is computed. Assumes nothing.
use mathlib.Core.Path.{◌≡◌, refl, sym, subst}
use mathlib.Core.Bool.{Bool, true, cond, not, ◌&&◌}
use mathlib.Core.List.{List, [], ◌∷◌, ◌++◌}
use Prim.Native.Nat.{ℕ, zero, suc}
use Prim.Native.Char.{code}
use lib.Dec.{eqb}
use lib.IntN.{ℤ, pos, negsuc, nat_abs}
use lib.ListN.{length, set, replicate}
use Rattle.sheet.specs.Sheet.{at, rows, sound_sheet}
use Rattle.sheet.specs.Lookup.{code_is, is_for, row_among, place_among, row_in, place_in, has_row, row_of, shown}
use Rattle.sheet.specs.Values.{sound_values}
use Rattle.sheet.proofs.Tables.{sheet_test, sheet-test, values_test, values-test}

-- document 01, "Bench cases"
bench_rows : List ℤ
bench_rows =
    pos (code "J") ∷ pos 2 ∷ pos 1 ∷ pos 5 ∷ negsuc 99 ∷ pos 100 ∷
    pos (code "M") ∷ pos 1 ∷ pos 1 ∷ pos 1 ∷ negsuc 1998 ∷ pos 9999 ∷
    pos (code "Z") ∷ pos 3 ∷ pos 0 ∷ pos 1 ∷ pos 15 ∷ pos 18 ∷
    pos (code "m") ∷ pos 2 ∷ pos 1 ∷ pos 5 ∷ pos 0 ∷ pos 1000 ∷
    []

bench_values : List ℤ
bench_values =
    set (set (set (set (replicate 128 (negsuc 77777)) (code "J") (pos 0)) (code "M") (pos 231)) (code "Z") (pos 15)) (code "m") (pos 20)

-- n rows, from the code i on
many : ℕ → ℕ → List ℤ
many zero i = []
many (suc n) i = pos i ∷ pos 2 ∷ pos 0 ∷ pos 1 ∷ pos 0 ∷ pos 1 ∷ many n (suc i)

row : (identifier access decimals step : ℕ) (least greatest : ℤ) → List ℤ
row i a d s l g = pos i ∷ pos a ∷ pos d ∷ pos s ∷ l ∷ g ∷ []

-- one rule broken in each
unsound : List (List ℤ)
unsound =
    row (code "?") 2 0 1 (pos 0) (pos 1) ∷
    row (code "*") 2 0 1 (pos 0) (pos 1) ∷
    row (code "7") 2 0 1 (pos 0) (pos 1) ∷
    row 32 2 0 1 (pos 0) (pos 1) ∷
    row 127 2 0 1 (pos 0) (pos 1) ∷
    (negsuc 64 ∷ pos 2 ∷ pos 0 ∷ pos 1 ∷ pos 0 ∷ pos 1 ∷ []) ∷
    row (code "A") 0 0 1 (pos 0) (pos 1) ∷
    row (code "A") 4 0 1 (pos 0) (pos 1) ∷
    row (code "A") 2 4 1 (pos 0) (pos 1) ∷
    row (code "A") 2 0 0 (pos 0) (pos 0) ∷
    row (code "A") 2 0 10000 (pos 0) (pos 0) ∷
    row (code "A") 2 0 1 (negsuc 9999) (pos 1) ∷
    row (code "A") 2 0 1 (pos 0) (pos 10000) ∷
    row (code "A") 2 0 1 (pos 2) (pos 1) ∷
    row (code "A") 2 0 5 (pos 1) (pos 10) ∷
    row (code "A") 2 0 5 (pos 0) (pos 11) ∷
    (row (code "!") 2 0 1 (pos 0) (pos 1) ++ row (code "#") 2 0 1 (pos 0) (pos 1) ++ many 63 (code "@")) ∷
    (bench_rows ++ (pos 0 ∷ [])) ∷
    (row (code "A") 2 0 1 (pos 0) (pos 1) ++ row (code "A") 2 0 1 (pos 0) (pos 1)) ∷
    (row (code "B") 2 0 1 (pos 0) (pos 1) ++ row (code "A") 2 0 1 (pos 0) (pos 1)) ∷
    []

-- the cases, by a test of sheets, one of values, and a lookup
module _ (soundly : List ℤ → Bool) (allowed : List ℤ → List ℤ → List ℤ → Bool) (look : List ℤ → List ℤ → ℕ → List ℤ) where
  sound : Bool
  sound =
      soundly []
      && soundly bench_rows
      && soundly (row (code "!") 2 0 1 (pos 0) (pos 1) ++ many 63 (code "@"))
      && soundly (row (code "!") 1 0 1 (negsuc 9998) (pos 9999))
      && soundly (row (code "~") 3 3 9999 (negsuc 9998) (pos 9999))
      && soundly (row (code "A") 2 3 7 (negsuc 6) (pos 0))
      && allowed [] bench_rows bench_values
      && allowed bench_rows [] bench_values

  none : List (List ℤ) → Bool
  none [] = true
  none (s ∷ ss) = not (soundly s) && none ss

  bad_values : Bool
  bad_values =
      not (allowed [] bench_rows (replicate 127 (pos 0)))
      && not (allowed [] bench_rows (bench_values ++ (pos 0 ∷ [])))
      && not (allowed [] bench_rows (set bench_values (code "m") (pos 21)))
      && not (allowed [] bench_rows (set bench_values (code "m") (pos 1005)))
      && not (allowed [] bench_rows (set bench_values (code "J") (negsuc 104)))
      && allowed (row (code "m") 2 0 1 (pos 0) (pos 21)) bench_rows (set bench_values (code "m") (pos 21))

  -- the bench's row wins, and an unsound sheet shows nothing
  lookups : Bool
  lookups =
      eqb (nat_abs (at (look (row (code "m") 2 0 1 (pos 0) (pos 21)) bench_rows (code "m")) 5)) 21
      && eqb (nat_abs (at (look bench_rows [] (code "m")) 5)) 1000
      && eqb (nat_abs (at (look [] bench_rows (code "Z")) 5)) 18
      && eqb (length (look bench_rows bench_rows (code "Y"))) 0
      && eqb (length (look bench_rows (pos 0 ∷ []) (code "m"))) 0
      && eqb (place_in bench_rows (code "Z")) 12

  cases : Bool
  cases = sound && none unsound && bad_values && lookups

looked : (List ℤ → Bool) → List ℤ → List ℤ → ℕ → List ℤ
looked soundly bench maker i = cond (soundly bench && soundly maker) (row_of bench maker i) []

by_tests : cases sheet_test values_test (looked sheet_test) ≡ true
unfolding cases sound unsound none bad_values lookups looked bench_rows bench_values many row rows code_is is_for row_among place_among row_in place_in has_row row_of
by_tests = refl

computed : cases sound_sheet sound_values shown ≡ true
unfolding shown looked
computed =
    subst (λ (f : List ℤ → Bool). cases f sound_values (looked f) ≡ true) (λ i s. sym (sheet-test s) i)
    (subst (λ (g : List ℤ → List ℤ → List ℤ → Bool). cases sheet_test g (looked sheet_test) ≡ true) (λ i b m vs. sym (values-test b m vs) i) by_tests)
