-- `hearing::Pending::to_end` meets its contract. The loop's invariant: where the message ends from here is where it ends from the start.
-- Assumes nothing.
use mathlib.Core.Path.{◌≡◌}
use Prim.Native.Nat.{◌+◌, ◌≤◌}
use lib.ListN.{drop}
use Rattle.hearing.specs.Inner.{to_end}
use Rattle.hearing.proofs.Pending.to_end.Given as goal

abbrev pub invariant-loop-i : goal.invariant-loop-i
invariant-loop-i l = (1 ≤ l.self.len) × (to_end l.self (drop l.i l.word-items) (l.from + l.i) ≡ to_end l.initial.self l.word-items l.from)
