-- The row of an identifier in two sheets: its six numbers, and the part of the sheet where they stand.
use Rattle.std.specs.Prelude.{Bool, false, cond, ◌&&◌, List, [], ◌∷◌, ℕ, ◌+◌, ◌*◌, ltb, eqb, ℤ, pos, negsuc, length}
use Rattle.sheet.specs.Sheet.{at, rows, sound_sheet}

-- ---- in one sheet

-- a number that is this character's code
unfoldable pub code_is : ℤ → ℕ → Bool
code_is (pos n) i = eqb n i
code_is (negsuc n) i = false

-- a whole row with the identifier i
unfoldable pub is_for : List ℤ → ℕ → Bool
is_for r i = eqb (length r) 6 && code_is (at r 0) i

-- the first such row, or none
unfoldable pub row_among : List (List ℤ) → ℕ → List ℤ
row_among [] i = []
row_among (r ∷ rs) i = cond (is_for r i) r (row_among rs i)

-- how many numbers stand before it: all of them where there is none
unfoldable pub place_among : List (List ℤ) → ℕ → ℕ
place_among [] i = 0
place_among (r ∷ rs) i = cond (is_for r i) 0 (length r + place_among rs i)

-- the row of an identifier in a sheet, or none
unfoldable pub row_in : List ℤ → ℕ → List ℤ
row_in s i = row_among (rows s) i

-- where it starts: the end of the sheet where there is none
unfoldable pub place_in : List ℤ → ℕ → ℕ
place_in s i = place_among (rows s) i

-- the place of a row is before the end of the sheet
unfoldable pub has_row : List ℤ → ℕ → Bool
has_row s i = ltb (place_in s i) (length s)

-- ---- in two sheets

-- document 01: "the row comes from the bench sheet where it has one, otherwise from the maker's"
unfoldable pub row_of : List ℤ → List ℤ → ℕ → List ℤ
row_of bench maker i = cond (has_row bench i) (row_in bench i) (row_in maker i)

-- document 01: "with no row, or either sheet unsound, it shows an empty part"
unfoldable pub shown : List ℤ → List ℤ → ℕ → List ℤ
shown bench maker i = cond (sound_sheet bench && sound_sheet maker) (row_of bench maker i) []

-- ---- where the part lies: a block of memory and an offset in it, in bytes

-- the pointer k numbers behind p
abbrev pub from : ℕ × ℕ → ℕ → ℕ × ℕ
from p k = (p.0, k * 4 + p.1)

-- document 01: "The lookup shows the row as that part of the sheet it stands in". b and m point to the sheets; an empty part lies
-- at the end of the maker's.
unfoldable pub row_lies : ℕ × ℕ → ℕ × ℕ → List ℤ → List ℤ → ℕ → ℕ × ℕ
row_lies b m bench maker i = cond (has_row bench i) (from b (place_in bench i)) (from m (place_in maker i))

-- where the part that the lookup shows lies
unfoldable pub shown_lies : ℕ × ℕ → ℕ × ℕ → List ℤ → List ℤ → ℕ → ℕ × ℕ
shown_lies b m bench maker i =
    cond (sound_sheet bench && sound_sheet maker) (row_lies b m bench maker i) (from m (length maker))
