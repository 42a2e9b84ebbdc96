-- `bus::take_all` meets its contract. The loop's invariant: where the code stands in what is played of the whole, and the rows are as lent. The
-- measure is the number of words that are left. Assumes nothing.
use mathlib.Core.Path.{◌≡◌}
use Prim.Native.Nat.{◌-◌}
use lib.ListN.{length}
use Rattle.bus.proofs.Taking.{Going}
use Rattle.bus.proofs.pair.take_all.Given as goal

abbrev pub invariant-loop-taken : goal.invariant-loop-taken
invariant-loop-taken l =
    (Going l.initial.numbers l.sheets.bench.now l.sheets.maker.now l.initial.values l.words l.initial.out l.count l.setups l.initial.offers l.table l.offers l.values l.pending l.taken l.out l.at)
    × (l.numbers ≡ l.initial.numbers)

abbrev pub decreases-loop-taken : goal.decreases-loop-taken
decreases-loop-taken l = length l.words - l.taken
