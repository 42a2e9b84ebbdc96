-- Sheets: flat lists of numbers, six to a row, and which of them are sound.
-- A row's numbers, in this order: identifier, access, decimals, step, least, greatest.
use Rattle.std.specs.Prelude.{Bool, true, false, not, ◌&&◌, List, [], ◌∷◌, ℕ, leb, eqb, ℤ, pos, negsuc, length, get_or}
use Rattle.std.specs.Int.Signed.{le_z, lt_z}
use Rattle.number.specs.Number.{in_range, is_multiple}
use Rattle.message.specs.Message.{is_identifier, question}

-- the number at a place
abbrev pub at : List ℤ → ℕ → ℤ
at s k = get_or s k (pos 0)

-- the rows of a sheet; what is left behind the last whole row stands as a row of fewer than six
unfoldable pub rows : List ℤ → List (List ℤ)
rows (a ∷ b ∷ c ∷ d ∷ e ∷ f ∷ rest) = (a ∷ b ∷ c ∷ d ∷ e ∷ f ∷ []) ∷ rows rest
rows [] = []
rows (a ∷ []) = (a ∷ []) ∷ []
rows (a ∷ b ∷ []) = (a ∷ b ∷ []) ∷ []
rows (a ∷ b ∷ c ∷ []) = (a ∷ b ∷ c ∷ []) ∷ []
rows (a ∷ b ∷ c ∷ d ∷ []) = (a ∷ b ∷ c ∷ d ∷ []) ∷ []
rows (a ∷ b ∷ c ∷ d ∷ e ∷ []) = (a ∷ b ∷ c ∷ d ∷ e ∷ []) ∷ []

-- document 01: identifiers are "valid as above and not `?`"
unfoldable pub sound_identifier : ℤ → Bool
sound_identifier (pos n) = is_identifier n && not (eqb n question)
sound_identifier (negsuc n) = false

-- document 01: "access (1 read only, 2 read and write, 3 write only); decimals 0 to 3; step 1 to 9,999; least; greatest. Least and
-- greatest lie in -9,999 to 9,999, least is not above greatest, and both are multiples of the step." `negsuc 9998` is -9,999.
unfoldable pub sound_numbers : (identifier access decimals step least greatest : ℤ) → Bool
sound_numbers identifier access decimals step least greatest =
    sound_identifier identifier
    && in_range (pos 1) access (pos 3)
    && in_range (pos 0) decimals (pos 3)
    && in_range (pos 1) step (pos 9999)
    && in_range (negsuc 9998) least (pos 9999)
    && in_range (negsuc 9998) greatest (pos 9999)
    && le_z least greatest
    && is_multiple least step
    && is_multiple greatest step

-- document 01: "A row is six 32-bit signed numbers"
unfoldable pub sound_row : List ℤ → Bool
sound_row r = eqb (length r) 6 && sound_numbers (at r 0) (at r 1) (at r 2) (at r 3) (at r 4) (at r 5)

-- document 01: "identifiers strictly rising": each is above the one before, and the first above `last`
unfoldable pub sound_rows : ℤ → List (List ℤ) → Bool
sound_rows last [] = true
sound_rows last (r ∷ rs) = sound_row r && lt_z last (at r 0) && sound_rows (at r 0) rs

-- document 01: "A sheet is 0 to 64 whole rows and nothing more"; 0 is below every identifier
unfoldable pub sound_sheet : List ℤ → Bool
sound_sheet s = leb (length (rows s)) 64 && sound_rows (pos 0) (rows s)
