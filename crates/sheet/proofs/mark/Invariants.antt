-- `sheet::mark` meets its contract. The loop's invariant: all rows from the one with the number k on are marked. Assumes nothing.
use Rattle.sheet.proofs.Marks.{Marked}
use Rattle.sheet.proofs.mark.Given as goal

abbrev pub invariant-loop-k : goal.invariant-loop-k
invariant-loop-k l = Marked l.sheet l.base l.initial.places l.places l.k
