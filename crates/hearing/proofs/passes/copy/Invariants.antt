-- `hearing::copy` meets its contract. The loop's invariant: the first k bytes are in their places, and nothing else has changed.
-- Assumes nothing.
use Rattle.refusal.proofs.Buffers.{Copied}
use Rattle.hearing.proofs.passes.copy.Given as goal

abbrev pub invariant-loop-k : goal.invariant-loop-k
invariant-loop-k l = Copied l.bytes l.initial.out l.at l.out l.k
