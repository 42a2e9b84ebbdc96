-- `hearing::copy` meets its contract. The loop's invariant: the first k bytes are in their places, and nothing else has changed.
-- Assumes nothing.
use mathlib.Core.Path.{refl}
use Rattle.refusal.proofs.Buffers.{copy_starts, copy_more, copy-ends}
use Rattle.hearing.proofs.passes.copy.Goals as goal

pub loop-k-init : goal.loop-k-init
loop-k-init c = copy_starts c.args.bytes.now c.args.out.now c.args.at

pub loop-k-preserved : goal.loop-k-preserved
loop-k-preserved c =
    let l = c.loop-k in
    rw c.from.ensures (copy_more 0 c.args.bytes.now c.args.out.now c.args.at l.out l.k l.invariant c.requires c.loop-k-test.true)

pub returns : goal.returns
returns c =
    let l = c.loop-k in
    (refl, copy-ends 0 c.args.bytes.now c.args.out.now c.args.at l.out l.k l.invariant c.requires c.loop-k-test.false)
