-- `models::Instrument::sheet` meets its contract: each row is the first six numbers of its line. Assumes nothing.
use mathlib.Core.Path.{◌≡◌, refl, ap, ◌∙◌}
use mathlib.Core.List.{List, [], ◌∷◌, ◌++◌, map}
use borrow.Author.Rules.{rules}
use lib.IntN.{ℤ}
use lib.ListN.{take}
use Rattle.std.specs.List.{flat_map}
use Rattle.models.specs.Table.{sheet_of}
use Rattle.models.specs.Model.{Model}
use Rattle.models.proofs.Maps.{map_same}
use Rattle.models.proofs.Instrument.sheet.Goals as goal

rows_are : (lines : List (List ℤ)) → flat_map (λ row. row) (map (take 6) lines) ≡ sheet_of lines
unfolding sheet_of
rows_are [] = refl
rows_are (l ∷ ls) = ap (λ (rows : List ℤ). take 6 l ++ rows) (rows_are ls)

pub returns : goal.returns
returns g c =
    ap (flat_map (λ row. row)) (map_same (take 6) [] [] _ _ _ _ _ c.map.ensures.items c.self.told (λ p x y q k. search rules))
    ∙ rows_are c.self.inside.table
    ∙ ap (λ (m : Model). sheet_of m.table) c.self.view_is
