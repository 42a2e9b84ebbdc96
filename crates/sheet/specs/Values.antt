-- What a row allows, and which values are sound under two sheets.
use Rattle.std.specs.Prelude.{Bool, true, false, cond, not, ◌&&◌, List, [], ◌∷◌, ℕ, suc, eqb, ℤ, nat_abs, length}
use Rattle.number.specs.Number.{in_range, is_multiple}
use Rattle.sheet.specs.Sheet.{at, sound_row}
use Rattle.sheet.specs.Lookup.{row_of}
use Rattle.sheet.specs.declared.Row.{Row}
use Rattle.std.specs.Prelude.{None, Option, Some}

-- ---- a row

-- the numbers of a row behind its identifier
unfoldable pub numbers_of : List ℤ → Row
numbers_of r = record { access = nat_abs (at r 1); decimals = nat_abs (at r 2); step = at r 3; least = at r 4; greatest = at r 5 }

-- a sound row, or none; every row of a sound sheet is sound
unfoldable pub entry_of : List ℤ → Option Row
entry_of r = cond (sound_row r) (Some (numbers_of r)) None

-- the row of an identifier in two sheets, by value
unfoldable pub entry_in : List ℤ → List ℤ → ℕ → Option Row
entry_in bench maker i = entry_of (row_of bench maker i)

-- document 01: "access (1 read only, 2 read and write, 3 write only)"; all but "write only" can be read
unfoldable pub is_readable : Row → Bool
is_readable r = not (eqb r.access 3)

-- a row, and one that can be read
unfoldable pub is_readable_entry : Option Row → Bool
is_readable_entry (Some r) = is_readable r
is_readable_entry None = false

-- all but "read only"
unfoldable pub is_writable : Row → Bool
is_writable r = not (eqb r.access 1)

-- "read and write"
unfoldable pub is_read_write : Row → Bool
is_read_write r = eqb r.access 2

-- ---- values

-- document 01: "the value is in range and a multiple of the step"
unfoldable pub fits_row : Row → ℤ → Bool
fits_row r v = in_range r.least v r.greatest && is_multiple v r.step

-- document 01: "For each identifier with a row"; "Other places may hold anything"
unfoldable pub fits_place : List ℤ → ℤ → Bool
fits_place r v = cond (eqb (length r) 6) (fits_row (numbers_of r) v) true

-- the values from the place i on
unfoldable pub sound_from : List ℤ → List ℤ → ℕ → List ℤ → Bool
sound_from bench maker i [] = true
sound_from bench maker i (v ∷ vs) = fits_place (row_of bench maker i) v && sound_from bench maker (suc i) vs

-- document 01: "Values are 128 32-bit signed numbers, one place for each character code"
unfoldable pub sound_values : List ℤ → List ℤ → List ℤ → Bool
sound_values bench maker values = eqb (length values) 128 && sound_from bench maker 0 values
