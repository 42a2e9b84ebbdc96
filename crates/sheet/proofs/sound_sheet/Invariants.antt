-- `sheet::sound_sheet` meets its contract. The loop's invariant: the rows passed are sound and rise to `last`, so all are sound where
-- those left are, behind `last`. Assumes nothing.
use mathlib.Core.Path.{◌≡◌}
use lib.IntN.{pos}
use lib.ListN.{drop}
use Rattle.sheet.specs.Sheet.{sound_rows}
use Rattle.sheet.proofs.sound_sheet.Given as goal

abbrev pub invariant-loop-row : goal.invariant-loop-row
invariant-loop-row l = sound_rows (pos 0) l.rows ≡ sound_rows l.last (drop l.row-index l.rows)
