-- What private functions use, and the index of two sheets (`Sheets::places`, `Index::find`) that the card goes by. No call of document 01 and no claim cites any
-- of it.
use Rattle.std.specs.Prelude.{Bool, true, cond, ◌&&◌, ◌||◌, List, [], ◌∷◌, ℕ, zero, suc, ◌+◌, ◌-◌, ltb, eqb, ℤ, pos, negsuc, nat_abs, length, take, drop, get_or, set}
use Rattle.number.specs.Number.{in_range}
use Rattle.sheet.specs.Sheet.{at}
use Rattle.sheet.specs.Lookup.{place_in, has_row}
use Rattle.sheet.specs.Values.{numbers_of, fits_place}
use Rattle.std.specs.Prelude.{None, Option, Some}
use Rattle.sheet.specs.declared.Row.{Row}
use Rattle.sheet.specs.declared.Index.{Index}

-- where an identifier's row starts in a sheet, if it has one
unfoldable pub start_in : List ℤ → ℕ → Option ℕ
start_in s i = cond (has_row s i) (Some (place_in s i)) None

-- ---- rows by an index: where each row starts in the two sheets, the maker's behind the bench's. `Sheets::places` promises `index_of`, and
-- `Index::find` what stands at a place of it.

-- the place of an identifier's row, a row of the bench sheet before one of the maker's; behind both where there is none
unfoldable pub place_of : List ℤ → List ℤ → ℕ → ℕ
place_of bench maker i = cond (has_row bench i) (place_in bench i) (length bench + place_in maker i)

-- the places of n character codes from i on
unfoldable pub places_from : List ℤ → List ℤ → ℕ → ℕ → List ℕ
places_from bench maker i zero = []
places_from bench maker i (suc n) = place_of bench maker i ∷ places_from bench maker (suc i) n

-- one place for each character code
unfoldable pub index_of : List ℤ → List ℤ → List ℕ
index_of bench maker = places_from bench maker 0 128

-- the six numbers from a place on
unfoldable pub part_at : List ℤ → List ℤ → ℕ → List ℤ
part_at bench maker k = cond (ltb k (length bench)) (take 6 (drop k bench)) (take 6 (drop (k - length bench) maker))

-- for `Index::find`, which tests less: six numbers, of which access and decimals are in range
unfoldable pub whole_row : List ℤ → Bool
whole_row r = eqb (length r) 6 && in_range (pos 1) (at r 1) (pos 3) && in_range (pos 0) (at r 2) (pos 3)

-- a whole row as it is, with no further test
unfoldable pub entry_by : List ℤ → Option Row
entry_by r = cond (whole_row r) (Some (numbers_of r)) None

-- by an index of the sheets; behind it lies no row
unfoldable pub entry_at : List ℤ → List ℤ → List ℕ → ℕ → Option Row
entry_at bench maker places i = entry_by (part_at bench maker (get_or places i (length bench + length maker)))

-- the row of each identifier, by an index
abbrev pub entries : Index → ℕ → Option Row
entries x = entry_at x.sheets.bench.now x.sheets.maker.now x.places.now

-- ---- filling an index

-- put in at a row's code: where the row starts, or that the code is seen
unfoldable pub marked_row : {A : Type 0} → ℤ → A → List A → List A
marked_row (pos n) place xs = set xs n place
marked_row (negsuc n) place xs = xs

-- the places of a sheet's rows, counted from base, from the code i on; a code that has no row keeps its place
unfoldable pub marked_from : List ℤ → ℕ → ℕ → List ℕ → List ℕ
marked_from s base i [] = []
marked_from s base i (x ∷ xs) = cond (has_row s i) (base + place_in s i) x ∷ marked_from s base (suc i) xs

-- the same for all codes
unfoldable pub marked : List ℤ → ℕ → List ℕ → List ℕ
marked s base xs = marked_from s base 0 xs

-- ---- values, row by row: `true` stands at the codes seen

-- a code that was seen, or that has no place
unfoldable pub is_seen : ℤ → List Bool → Bool
is_seen (pos n) seen = get_or seen n true
is_seen (negsuc n) seen = true

-- the value at a row's code is allowed, or another row with that code came before
unfoldable pub fits_once : List ℤ → List ℤ → List Bool → Bool
fits_once r vs seen = is_seen (at r 0) seen || fits_place r (at vs (nat_abs (at r 0)))

-- a whole row's code is seen
unfoldable pub seen_once : List ℤ → List Bool → List Bool
seen_once r seen = cond (eqb (length r) 6) (marked_row (at r 0) true seen) seen

-- the values at the codes of some rows, by the first row with each code
unfoldable pub fits_rows : List (List ℤ) → List ℤ → List Bool → Bool
fits_rows [] vs seen = true
fits_rows (r ∷ rs) vs seen = fits_once r vs seen && fits_rows rs vs (seen_once r seen)

-- the codes seen after them
unfoldable pub seen_rows : List (List ℤ) → List Bool → List Bool
seen_rows [] seen = seen
seen_rows (r ∷ rs) seen = seen_rows rs (seen_once r seen)
