-- `hearing::fill` meets its contract. The loop's invariant: what is still to come, behind what is written, is the whole.
-- Assumes nothing.
use Prim.Native.Nat.{◌-◌}
use lib.ListN.{length}
use Rattle.hearing.proofs.Loops.{Writing}
use Rattle.hearing.proofs.passes.fill.Given as goal

abbrev pub invariant-loop-message : goal.invariant-loop-message
invariant-loop-message l = Writing l.words l.initial.out l.out l.written l.from

abbrev pub decreases-loop-message : goal.decreases-loop-message
decreases-loop-message l = length l.words - l.from
