-- `row::store` meets its contract: the open message and the offer behind it, where the row has room for them. Assumes nothing.
use Rattle.std.proofs.Common.{rules, ap, sym, ◌∙◌}
use Rattle.refusal.specs.Buffer.{placed}
use Rattle.refusal.proofs.Buffers.{copied_placed}
use Rattle.row.specs.Row.{offer_row}
use Rattle.row.proofs.Laws.{offer_length, stored_parts, stored_short}
use Rattle.row.proofs.store.Goals as goal

pub returns-then-row-lt-CHANGING_END : goal.returns-then-row-lt-CHANGING_END
returns-then-row-lt-CHANGING_END c = sym (stored_short c.args.card c.args.row.now (search rules) c.if-row-lt-CHANGING_END.true)

pub returns : goal.returns
returns c =
    let o = c.args.card.offer in
    copied_placed (offer_row o) 13 3 _ _ (c.copy_from_slice.ensures.after ∙ c.offer_row.ensures) (sym (offer_length o))
    ∙ ap (placed (offer_row o) 13) c.put_pending.ensures
    ∙ stored_parts c.args.card c.args.row.now (search rules) c.if-row-lt-CHANGING_END.false
