-- A quoted text as the list of its characters' codes, so that the papers' examples can be written as they stand there.
use Rattle.std.specs.Prelude.{List, [], ◌∷◌, ℕ}
use Prim.Native.String.{String}
use Prim.Native.Char.{code}

abbrev pub chars : String → List ℕ
chars String.[] = []
chars (String.◌∷◌ c s) = code c ∷ chars s
