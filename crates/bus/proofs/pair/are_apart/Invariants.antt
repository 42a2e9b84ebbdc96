-- `bus::are_apart` meets its contract. The loop's invariant: those that are left decide. Assumes nothing.
use mathlib.Core.Path.{◌≡◌}
use lib.ListN.{length}
use Rattle.bus.specs.Refusals.{apart}
use Rattle.bus.proofs.pair.are_apart.Given as goal

abbrev pub invariant-loop-setup : goal.invariant-loop-setup
invariant-loop-setup l = apart l.setups ≡ apart l.left

abbrev pub decreases-loop-setup : goal.decreases-loop-setup
decreases-loop-setup l = length l.left
