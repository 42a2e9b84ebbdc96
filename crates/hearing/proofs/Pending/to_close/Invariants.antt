-- `hearing::Pending::to_close` meets its contract. The loop's invariant: what is reached from here is what is reached from the start.
-- Assumes nothing.
use mathlib.Core.Path.{◌≡◌}
use Prim.Native.Nat.{◌-◌}
use lib.ListN.{length, drop}
use Rattle.hearing.specs.Inner.{to_close}
use Rattle.hearing.proofs.Pending.to_close.Given as goal

abbrev pub invariant-loop-at : goal.invariant-loop-at
invariant-loop-at l = to_close l.self (drop l.at l.words) l.at ≡ to_close l.initial.self (drop l.from l.words) l.from

abbrev pub decreases-loop-at : goal.decreases-loop-at
decreases-loop-at l = length l.words - l.at
