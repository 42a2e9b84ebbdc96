-- `bus::store_all` meets its contract. The loop's invariant: the first i cards are stored back. Assumes nothing.
use Rattle.bus.specs.Inner.{cards_with}
use Rattle.bus.proofs.Standing.{StoredBack}
use Rattle.bus.proofs.pair.store_all.Given as goal

abbrev pub invariant-loop-i : goal.invariant-loop-i
invariant-loop-i l = StoredBack (cards_with l.pending l.setups l.offers) l.initial.numbers l.numbers l.i
