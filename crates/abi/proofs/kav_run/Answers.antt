-- `abi::kav_run` meets its contract: the run of the row's card, as `ran` leaves it. Assumes nothing.
use mathlib.Core.Path.{◌≡◌, sym, ap, ◌∙◌}
use mathlib.Core.Bool.{true}
use native.Mathlib.Omega.{arith}
use borrow.Author.Tests.{le-ltb}
use lib.ListN.{length}
use Rattle.row.specs.Row.{is_row}
use Rattle.abi.specs.Calls.{run_on, kav_run}
use Rattle.abi.proofs.Laws.{wide_ok}
use Rattle.abi.proofs.kav_run.Goals as goal

pub returns : goal.returns
unfolding kav_run
returns c =
    let a = c.args in
    let left = c.run.new in
    let is_card : is_row a.card.now ≡ true = sym c.is_row.ensures ∙ c.if-not-is_row.false in
    rw (wide_ok c.result.result c.result.type_inv, c.result.ensures)
    (c.ran.ensures left.values left.out ∙ ap (run_on a.card.now a.counts.now) c.run.ensures ∙ rw (c.card_of-held.ensures, is_card, le-ltb (length a.counts.now) 2 (omega arith)))
