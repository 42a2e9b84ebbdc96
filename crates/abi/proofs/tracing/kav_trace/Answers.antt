-- `abi::kav_trace` meets its contract: the trace of the row's card, as `traced` leaves it. Assumes nothing.
use mathlib.Core.Path.{◌≡◌, sym, ap, ◌∙◌}
use mathlib.Core.Bool.{true}
use native.Mathlib.Omega.{arith}
use borrow.Author.Tests.{le-ltb}
use lib.ListN.{length}
use Rattle.row.specs.Row.{is_row}
use Rattle.abi.specs.Trace.{trace_on, kav_trace}
use Rattle.abi.proofs.Laws.{wide_ok}
use Rattle.abi.proofs.tracing.kav_trace.Goals as goal

pub returns : goal.returns
unfolding kav_trace
returns c =
    let a = c.args in
    let left = c.trace.new in
    let is_card : is_row a.card.now ≡ true = sym c.is_row.ensures ∙ c.if-not-is_row.false in
    rw (wide_ok c.result.result c.result.type_inv, c.result.ensures)
    (c.traced.ensures left.values left.out left.notes ∙ ap (trace_on a.card.now a.counts.now) c.trace.ensures ∙ rw (c.card_of-held.ensures, is_card, le-ltb (length a.counts.now) 3 (omega arith)))
