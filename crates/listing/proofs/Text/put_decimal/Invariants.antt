-- `listing::Text::put_decimal` meets its contract. The loop's invariant: the digits that are still to be put, before those that stand, are
-- the digits of the number. The measure is the number that is left. Assumes nothing.
use Rattle.listing.proofs.Decimals.{Putting}
use Rattle.listing.proofs.Text.put_decimal.Given as goal

abbrev pub invariant-loop-rest : goal.invariant-loop-rest
invariant-loop-rest l = Putting l.n l.initial.from l.initial.self-inside.array l.rest l.from l.self-inside.array

abbrev pub decreases-loop-rest : goal.decreases-loop-rest
decreases-loop-rest l = l.rest
