-- `bus::held_in` meets its contract. The loop's invariant: the first i rows are read. Assumes nothing.
use Rattle.bus.specs.Inner.{setup_in, offer_in}
use Rattle.bus.proofs.Parts.{Made}
use Rattle.bus.proofs.pair.held_in.Given as goal

abbrev pub invariant-loop-i : goal.invariant-loop-i
invariant-loop-i l = Made setup_in l.rows l.setups l.i × Made offer_in l.rows l.offers l.i
