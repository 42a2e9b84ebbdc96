-- `sheet::sound_sheet` meets its contract. Assumes nothing.
use mathlib.Core.Path.{refl, sym, ◌∙◌}
use borrow.Author.Rules.{rules}
use Rattle.number.proofs.Signed.{rd-is}
use Rattle.sheet.proofs.Rows.{rows_more, rows_bad, rows_done, sheet_whole, sheet_not}
use Rattle.sheet.proofs.sound_sheet.Goals as goal

pub returns-then-rows-is_empty : goal.returns-then-rows-is_empty
returns-then-rows-is_empty c = sheet_not c.args.sheet.now c.as_chunks.ensures.front c.as_chunks.ensures.back_len c.is_empty.ensures c.if-rows-is_empty.true

pub loop-row-init : goal.loop-row-init
loop-row-init c = refl

pub returns-then-not-sound_row-last : goal.returns-then-not-sound_row-last
returns-then-not-sound_row-last c =
    sym (rows_bad _ _ _ _ _ c.loop-row-test.true c.sound_row.ensures (rd-is (record { sfits = search rules })) c.loop-row.invariant c.if-not-sound_row-last.true)
    ∙ sheet_whole c.args.sheet.now c.as_chunks.ensures.front c.as_chunks.ensures.back_len c.is_empty.ensures c.if-rows-is_empty.false

pub loop-row-preserved : goal.loop-row-preserved
loop-row-preserved c =
    rows_more _ _ _ _ _ c.loop-row-test.true c.sound_row.ensures (rd-is (record { sfits = search rules })) c.loop-row.invariant c.if-not-sound_row-last.false

pub returns : goal.returns
returns c =
    sym (c.loop-row.invariant ∙ rows_done _ _ _ c.loop-row-test.false)
    ∙ sheet_whole c.args.sheet.now c.as_chunks.ensures.front c.as_chunks.ensures.back_len c.is_empty.ensures c.if-rows-is_empty.false
