-- `sheet::fits_rows` meets its contract. The loop's invariant: all rows before the one in hand are passed. Assumes nothing.
use Rattle.sheet.proofs.Places.{Passed}
use Rattle.sheet.proofs.fits_rows.Given as goal

abbrev pub invariant-loop-row : goal.invariant-loop-row
invariant-loop-row l = Passed l.rows l.values l.initial.seen l.seen l.fits l.row-index
