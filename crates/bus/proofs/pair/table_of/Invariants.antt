-- `bus::table_of` meets its contract. The loop's invariant: the first i cards are in their places. Assumes nothing.
use Rattle.bus.proofs.Apart.{Placed}
use Rattle.bus.proofs.pair.table_of.Given as goal

abbrev pub invariant-loop-i : goal.invariant-loop-i
invariant-loop-i l = Placed l.setups l.table l.i
