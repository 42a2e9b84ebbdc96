-- `hearing::fill` meets its contract. The loop's invariant: what is still to come, behind what is written, is the whole.
-- Assumes nothing.
use mathlib.Core.Path.{sym, ◌∙◌}
use native.Mathlib.Omega.{arith}
use Rattle.hearing.proofs.Loops.{closed, writing_begins, has_room, writing-goes-on, writing-ends}
use Rattle.hearing.proofs.passes.fill.Goals as goal

pub loop-message-init : goal.loop-message-init
loop-message-init c = writing_begins c.args.words.now c.args.out.now

pub put-written-requires : goal.put-written-requires
put-written-requires c =
    let l = c.loop-message in
    has_room c.args.words.now c.args.out.now l.out l.written l.from l.invariant c.in-Some.field-0 (sym c.next_closed.ensures ∙ c.in-Some.is) c.requires

pub overflow_add-from : goal.overflow_add-from
overflow_add-from c =
    let l = c.loop-message in
    let q = closed c.args.words.now l.from l.invariant.i_in c.in-Some.field-0 (sym c.next_closed.ensures ∙ c.in-Some.is) in
    omega (arith, q.in')

pub loop-message-smaller : goal.loop-message-smaller
loop-message-smaller c =
    let l = c.loop-message in
    let q = closed c.args.words.now l.from l.invariant.i_in c.in-Some.field-0 (sym c.next_closed.ensures ∙ c.in-Some.is) in
    omega (arith, q.in', q.behind)

pub loop-message-preserved : goal.loop-message-preserved
loop-message-preserved c =
    let l = c.loop-message in
    writing-goes-on c.args.words.now c.args.out.now l.out l.written l.from l.invariant c.in-Some.field-0 (sym c.next_closed.ensures ∙ c.in-Some.is)
    c.put-written.new.out c.put-written.result c.requires c.put-written.ensures.0 c.put-written.ensures.1

pub returns : goal.returns
returns c =
    let l = c.loop-message in
    writing-ends c.args.words.now c.args.out.now l.out l.written l.from l.invariant (sym c.next_closed.ensures ∙ c.in_default.is)
