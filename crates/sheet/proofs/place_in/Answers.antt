-- `sheet::place_in` meets its contract: six times the position of the first whole row with the identifier. Assumes nothing.
use mathlib.Core.Path.{sym, ◌∙◌}
use Rattle.sheet.proofs.Rows.{start_by}
use Rattle.sheet.proofs.place_in.Goals as goal

pub returns-in_err-row : goal.returns-in_err-row
returns-in_err-row c = c.from_residual.ensures ∙ start_by _ _ c.as_chunks.ensures.front (sym c.in_err-row.was ∙ c.position.ensures)

pub returns : goal.returns
returns c = start_by _ _ c.as_chunks.ensures.front (sym c.in_ok-row.was ∙ c.position.ensures)
