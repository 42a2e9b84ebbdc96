-- `hearing::measure` meets its contract. The loop's invariant: what is counted and what is still to come are the whole.
-- Assumes nothing.
use Prim.Native.Nat.{◌-◌}
use lib.ListN.{length}
use Rattle.hearing.proofs.Loops.{Measuring}
use Rattle.hearing.proofs.passes.measure.Given as goal

abbrev pub invariant-loop-message : goal.invariant-loop-message
invariant-loop-message l = Measuring l.words l.room l.n l.from

abbrev pub decreases-loop-message : goal.decreases-loop-message
decreases-loop-message l = length l.words - l.from
