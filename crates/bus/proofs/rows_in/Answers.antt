-- `bus::rows_in` meets its contract: the library's chunks are the rows. Assumes nothing.
use mathlib.Core.Path.{◌∙◌}
use Prim.Native.Nat.{◌/◌}
use lib.ListN.{length}
use Rattle.bus.proofs.Parts.{chunks_are}
use Rattle.bus.proofs.rows_in.Goals as goal

pub returns : goal.returns
returns c = let numbers = c.args.numbers.now in c.as_chunks.ensures.front ∙ chunks_are 23 (length numbers / 23) numbers
