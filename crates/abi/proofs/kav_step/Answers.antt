-- `abi::kav_step` meets its contract: the word's call on the row's card, as `stepped` leaves it. Assumes nothing.
use mathlib.Core.Path.{◌≡◌, sym, ap, ◌∙◌}
use mathlib.Core.Bool.{true}
use native.Mathlib.Omega.{arith}
use borrow.Author.Tests.{le-ltb}
use lib.ListN.{length}
use Rattle.row.specs.Row.{is_row}
use Rattle.abi.specs.Calls.{step_on, kav_step}
use Rattle.abi.proofs.Laws.{wide_ok}
use Rattle.abi.proofs.kav_step.Goals as goal

pub returns : goal.returns
unfolding kav_step
returns c =
    let a = c.args in
    let left = c.step.new in
    let is_card : is_row a.card.now ≡ true = sym c.is_row.ensures ∙ c.if-not-is_row.false in
    rw (wide_ok c.result.result c.result.type_inv, c.result.ensures)
    (c.stepped.ensures left.values left.out ∙ ap (step_on a.card.now a.cause.now) c.step.ensures ∙ rw (c.card_of-held.ensures, is_card, le-ltb (length a.cause.now) 2 (omega arith)))
