-- `sheet::fits_rows` meets its contract. Assumes nothing.
use Rattle.sheet.proofs.Places.{starts, more, ends}
use Rattle.sheet.proofs.fits_rows.Goals as goal

pub loop-row-init : goal.loop-row-init
loop-row-init c = starts _ _ _

pub loop-row-preserved : goal.loop-row-preserved
loop-row-preserved c = more c.args.sheet.now _ _ _ _ _ _ _ c.as_chunks.ensures.front c.loop-row-test.true c.fits_once-fits.ensures.fits c.fits_once-fits.ensures.seen c.loop-row.invariant

pub returns : goal.returns
returns c =
    let e = ends c.args.sheet.now _ _ _ _ _ c.as_chunks.ensures.front c.loop-row-test.false c.loop-row.invariant in
    record { fits = e.0; seen = e.1 }
