-- `list::run` is safe. The loop's invariant: the state lies within the buffers. Assumes nothing.
use Rattle.list.specs.State.{Within}
use Rattle.list.proofs.run.Given as goal

abbrev pub invariant-loop : goal.invariant-loop
invariant-loop g l = Within l.state l.bytes l.out
