-- A buffer of any elements, and what stands in it once a list has been written.
use Rattle.std.specs.Prelude.{Bool, List, ◌++◌, ℕ, ◌+◌, leb, length, take, drop}

-- xs at the front; document 01: "what lies behind the last byte or word written is unchanged"
unfoldable pub laid : {A : Type 0} → List A → List A → List A
laid xs out = xs ++ drop (length xs) out

-- whether xs fits the buffer from a place on
unfoldable pub fits_at : {A : Type 0} → List A → ℕ → List A → Bool
fits_at xs at out = leb (at + length xs) (length out)

-- the buffer with xs in it from a place on
unfoldable pub placed : {A : Type 0} → List A → ℕ → List A → List A
placed xs at out = (take at out ++ xs) ++ drop (at + length xs) out
