-- A model's table: seven numbers to a line, a row of its sheet and the initial value of its place.
use Rattle.std.specs.Prelude.{Bool, true, ◌&&◌, List, [], ◌∷◌, ◌++◌, ℕ, ℤ, pos, neg_ℤ, nat_abs, take, set, replicate}
use Rattle.number.specs.Number.{in_range}
use Rattle.sheet.specs.Sheet.{at}

-- identifier, access, decimals, step, least, greatest, initial value
abbrev pub line : (identifier access decimals step : ℕ) (least greatest initial : ℤ) → List ℤ
line i a d s l g v = pos i ∷ pos a ∷ pos d ∷ pos s ∷ l ∷ g ∷ v ∷ []

abbrev pub minus : ℕ → ℤ
minus n = neg_ℤ (pos n)

-- the sheet: the first six numbers of each line
unfoldable pub sheet_of : List (List ℤ) → List ℤ
sheet_of [] = []
sheet_of (l ∷ ls) = take 6 l ++ sheet_of ls

-- each line's initial value at the place of its identifier
unfoldable pub filled : List ℤ → List (List ℤ) → List ℤ
filled vs [] = vs
filled vs (l ∷ ls) = filled (set vs (nat_abs (at l 0)) (at l 6)) ls

-- every line's identifier is a character code
unfoldable pub are_codes : List (List ℤ) → Bool
are_codes [] = true
are_codes (l ∷ ls) = in_range (pos 0) (at l 0) (pos 127) && are_codes ls

-- the values at first: 0 at every other place
unfoldable pub values_of : List (List ℤ) → List ℤ
values_of ls = filled (replicate 128 (pos 0)) ls
