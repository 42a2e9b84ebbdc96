-- Words and parity. A recording is a list of words: 0 to 255 is a byte on the line, 256 a silence.
-- `ones` is the library's count of the ones in a number, which is what `count_ones` gives.
use Rattle.std.specs.Prelude.{Bool, cond, ◌&&◌, List, map, ℕ, ◌+◌, ◌*◌, ◌%◌, ltb, leb, eqb}
use Rattle.std.specs.Int.Count.{ones}
use Rattle.refusal.specs.Lists.{every}
use Rattle.std.specs.Prelude.{None, Option, Some}

-- document 01: "the number of ones in all eight bits is even"
unfoldable pub even_parity : ℕ → Bool
even_parity b = eqb (ones b % 2) 0

-- document 01: "A byte has seven data bits and its top bit is even parity"
unfoldable pub with_parity : ℕ → ℕ
with_parity c = c % 128 + 128 * (ones (c % 128) % 2)

-- the character that a word carries: none for a silence and for a byte in bad parity
unfoldable pub received : ℕ → Option ℕ
received w = cond (ltb w 256 && even_parity w) (Some (w % 128)) None

-- characters as they travel
unfoldable pub travelling : List ℕ → List ℕ
travelling cs = map with_parity cs

-- document 01, number 4: no word lent is above 256
unfoldable pub valid_words : List ℕ → Bool
valid_words ws = every (λ (w : ℕ). leb w 256) ws
