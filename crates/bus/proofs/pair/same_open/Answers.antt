-- `bus::same_open` meets its contract: the derived comparison. Assumes nothing.
use mathlib.Core.Path.{◌∙◌}
use Rattle.bus.proofs.Apart.{open_compared}
use Rattle.bus.proofs.pair.same_open.Goals as goal

pub returns : goal.returns
returns c = c.eq.ensures ∙ open_compared c.args.p c.args.q
