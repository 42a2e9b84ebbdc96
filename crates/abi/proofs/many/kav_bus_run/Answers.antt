-- `abi::kav_bus_run` meets its contract: the run over the rows, counted. Assumes nothing.
use mathlib.Core.Path.{ap, ◌∙◌}
use native.Mathlib.Omega.{arith}
use borrow.Author.Tests.{le-ltb}
use lib.ListN.{length}
use Rattle.refusal.specs.Refusal.{outcome_of}
use Rattle.bus.specs.Rows.{RowsAfter}
use Rattle.abi.specs.Calls.{many_words, bus_on, kav_bus_run}
use Rattle.abi.proofs.Laws.{wide_ok}
use Rattle.abi.proofs.many.kav_bus_run.Goals as goal

pub returns : goal.returns
unfolding kav_bus_run
returns c =
    let a = c.args in
    let left : RowsAfter = record { numbers = c.run.new.numbers; outcome = outcome_of c.run.result; values = c.run.new.values; buffer = c.run.new.out } in
    rw (le-ltb (length a.counts.now) 2 (omega arith), wide_ok c.result.result c.result.type_inv, c.result.ensures)
    ((λ i. many_words (c.counted.ensures.0 i) left.numbers left.values left.buffer (c.counted.ensures.1 i)) ∙ ap (bus_on a.counts.now) c.run.ensures)
