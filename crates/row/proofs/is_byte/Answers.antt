-- `row::is_byte` meets its contract: the library's conversion succeeds exactly at a byte. Assumes nothing.
use mathlib.Core.Path.{◌∙◌}
use Rattle.number.proofs.Signed.{rd-is}
use Rattle.row.proofs.Bytes.{byte_fits}
use Rattle.row.proofs.is_byte.Goals as goal

pub returns : goal.returns
returns c = c.is_ok.ensures.value ∙ byte_fits c.args.x _ (rw (rd-is c.ranges.x) at c.try_from.ensures)
