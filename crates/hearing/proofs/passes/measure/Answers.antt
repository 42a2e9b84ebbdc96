-- `hearing::measure` meets its contract. The loop's invariant: what is counted and what is still to come are the whole.
-- Assumes nothing.
use mathlib.Core.Path.{sym, ◌∙◌}
use native.Mathlib.Omega.{arith}
use Rattle.hearing.proofs.Loops.{closed, measure_begins, measure-goes-on, measure-fails, measure-ends}
use Rattle.hearing.proofs.passes.measure.Goals as goal

pub loop-message-init : goal.loop-message-init
loop-message-init c = measure_begins c.args.words.now c.args.room

pub returns-then-room-n : goal.returns-then-room-n
returns-then-room-n c =
    let l = c.loop-message in
    measure-fails c.args.words.now c.args.room l.n l.from l.invariant c.in-Some.field-0 (sym c.next_closed.ensures ∙ c.in-Some.is) c.count_of-more.result c.count_of-more.ensures c.if-room-n.true

pub overflow_add-from : goal.overflow_add-from
overflow_add-from c =
    let l = c.loop-message in
    let q = closed c.args.words.now l.from l.invariant.i_in c.in-Some.field-0 (sym c.next_closed.ensures ∙ c.in-Some.is) in
    omega (arith, q.in')

pub loop-message-smaller : goal.loop-message-smaller
loop-message-smaller c =
    let l = c.loop-message in
    let q = closed c.args.words.now l.from l.invariant.i_in c.in-Some.field-0 (sym c.next_closed.ensures ∙ c.in-Some.is) in
    omega (arith, q.in', q.behind)

pub loop-message-preserved : goal.loop-message-preserved
loop-message-preserved c =
    let l = c.loop-message in
    measure-goes-on c.args.words.now c.args.room l.n l.from l.invariant c.in-Some.field-0 (sym c.next_closed.ensures ∙ c.in-Some.is) c.count_of-more.result c.count_of-more.ensures c.if-room-n.false

pub returns : goal.returns
returns c =
    let l = c.loop-message in
    measure-ends c.args.words.now c.args.room l.n l.from l.invariant (sym c.next_closed.ensures ∙ c.in_default.is)
