-- `models::Instrument::count` meets its contract: so many of the five identifiers are the scan. Assumes nothing.
use mathlib.Core.Path.{sym}
use Rattle.models.proofs.Instrument.count.Goals as goal

pub returns : goal.returns
returns g c = rw (sym c.self.view_is) (sym c.self.invariant.2)
