-- `row::byte_or` meets its contract: the library's conversion gives that byte. Assumes nothing.
use mathlib.Core.Path.{◌∙◌}
use Rattle.number.proofs.Signed.{rd-is}
use Rattle.row.proofs.Bytes.{byte_given}
use Rattle.row.proofs.byte_or.Goals as goal

pub returns : goal.returns
returns c = c.unwrap_or.ensures ∙ byte_given _ c.args.x _ (rw (rd-is c.ranges.x) at c.try_from.ensures)
