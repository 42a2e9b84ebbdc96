-- `bus::sound_bus` meets its contract: no card, too many, or the two tests. Assumes nothing.
use mathlib.Core.Path.{sym, ap, ◌∙◌}
use mathlib.Core.List.{[]}
use native.Mathlib.Omega.{arith}
use Rattle.bus.specs.Refusals.{apart}
use Rattle.bus.specs.Inner.{pending_in}
use Rattle.bus.proofs.Checks.{none_shares, many_fail, first_row, apart_hold, alike_fail}
use Rattle.bus.proofs.pair.sound_bus.Goals as goal

pub returns-then-count-eq0 : goal.returns-then-count-eq0
returns-then-count-eq0 c = sym (none_shares c.args.numbers.now c.rows_in-rows.result.now c.rows_in-rows.ensures c.if-count-eq0.true)

pub returns-then-count-gt-MOST_CARDS : goal.returns-then-count-gt-MOST_CARDS
returns-then-count-gt-MOST_CARDS c = sym (many_fail c.args.numbers.now c.rows_in-rows.result.now c.rows_in-rows.ensures c.if-count-gt-MOST_CARDS.true)

pub returns-then-are_apart : goal.returns-then-are_apart
returns-then-are_apart c =
    let numbers = c.args.numbers.now in
    let r = c.rows_in-rows in
    c.all_hold.ensures
    ∙ apart_hold numbers r.result.now r.ensures (omega arith) (omega arith) c.open_in.result
    (c.open_in.ensures ∙ ap pending_in (first_row numbers r.result.now r.ensures (omega arith) []))
    (sym (ap apart c.held_in.ensures.setups) ∙ sym c.are_apart.ensures ∙ c.if-are_apart.true)

pub returns-else-are_apart : goal.returns-else-are_apart
returns-else-are_apart c =
    c.if-are_apart.false
    ∙ alike_fail c.args.numbers.now c.rows_in-rows.result.now c.rows_in-rows.ensures (omega arith) (omega arith)
    (sym (ap apart c.held_in.ensures.setups) ∙ sym c.are_apart.ensures ∙ c.if-are_apart.false)
