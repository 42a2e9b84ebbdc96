-- `listing::list` meets its contract. The loop's invariant: what is written and what is still to come are the whole, and what lies behind is
-- as it was. Assumes nothing.
use Rattle.listing.proofs.Loops.{Continues}
use Rattle.listing.proofs.list.Given as goal

abbrev pub invariant-loop-taken : goal.invariant-loop-taken
invariant-loop-taken l = Continues l.initial.progress l.bytes l.initial.out l.out l.progress l.written l.taken
