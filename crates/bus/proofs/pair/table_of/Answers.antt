-- `bus::table_of` meets its contract: each card in its place. Assumes nothing.
use Rattle.std.proofs.Common.{[]}
use Rattle.act.specs.declared.Setup.{Setup}
use Rattle.bus.proofs.Apart.{placed_starts, placed-more}
use Rattle.bus.proofs.pair.table_of.Goals as goal

pub loop-i-init : goal.loop-i-init
loop-i-init c = placed_starts c.args.setups.now c.requires.0

pub loop-i-preserved : goal.loop-i-preserved
loop-i-preserved c =
    let d : Setup = record { letter = 0; address = 0; count = 0; scan = []; revision = 0 } in
    placed-more c.args.setups.now c.requires.1 c.requires.2 c.loop-i.table c.loop-i.invariant c.loop-i-test.true d c.slot.result c.slot.ensures.0 c.slot.ensures.1
