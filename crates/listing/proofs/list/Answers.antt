-- `listing::list` meets its contract. The loop's invariant: what is written and what is still to come are the whole, and what lies behind is
-- as it was. Assumes nothing.
use Rattle.std.proofs.Common.{sym, ◌∙◌, arith}
use Rattle.listing.specs.Listing.{next_position}
use Rattle.listing.proofs.Loops.{continue_begins, passed_by, left_as_it_was, closed_by, stops_bad, stops_full, stops_done, line_within, goes_on_unheard, goes_on_heard}
use Rattle.listing.proofs.list.Goals as goal
use Rattle.listing.proofs.list.Goals.{then-take, in-Some+in-Ok, in_default, else-take}

pub loop-taken-init : goal.loop-taken-init
loop-taken-init c = continue_begins c.args.progress c.args.bytes.now c.args.out.now

pub returns-then-word-gt-SILENCE : goal.returns-then-word-gt-SILENCE
returns-then-word-gt-SILENCE c =
    let s = c.as_chunks.ensures in
    stops_bad c.loop-taken.invariant s.front s.front_len c.loop-taken-test.true c.word_of-word.ensures c.if-word-gt-SILENCE.true

pub returns-in_default-place_line : goal.returns-in_default-place_line
returns-in_default-place_line c =
    let s = c.as_chunks.ensures in
    let took = c.take.ensures in
    let heard = closed_by _ _ took c.if-take.true (sym c.in-Some.is ∙ c.close.ensures) in
    rw (left_as_it_was _ _ took c.if-take.true)
    (stops_full c.loop-taken.invariant s.front s.front_len c.loop-taken-test.true c.word_of-word.ensures c.if-word-gt-SILENCE.false heard _ c.place_line.ensures c.in_default-place_line.is)

pub overflow_add-written : goal.overflow_add-written
overflow_add-written c =
    let l = c.loop-taken in
    let s = c.as_chunks.ensures in
    let heard = closed_by _ _ c.take.ensures c.if-take.true (sym c.in-Some.is ∙ c.close.ensures) in
    omega (arith, l.auto.out, line_within l.invariant s.front s.front_len c.loop-taken-test.true c.word_of-word.ensures c.if-word-gt-SILENCE.false heard _ c.place_line.ensures c.in-Ok.is)

pub loop-taken-preserved : goal.loop-taken-preserved
unfolding next_position
loop-taken-preserved c =
    let l = c.loop-taken in
    let s = c.as_chunks.ensures in
    let took = c.take.ensures in
    elim c.if-take.branch [
      | then-take b ↦
          rw (b.out-is, b.progress-is, b.written-is)
          (elim b.match-close.branch [
            | in-Some+in-Ok d ↦
                let heard = closed_by _ _ took b.if-take.true (sym d.in-Some.is ∙ b.close.ensures) in
                rw (d.out-is, d.progress-is, d.written-is, b.new-progress.ensures)
                (goes_on_heard l.invariant s.front s.front_len c.loop-taken-test.true c.word_of-word.ensures c.if-word-gt-SILENCE.false heard _ d.place_line.ensures d.in-Ok.is)
            | in_default d ↦
                rw (d.out-is, d.progress-is, d.written-is, b.new-progress.ensures)
                (goes_on_unheard l.invariant s.front s.front_len c.loop-taken-test.true c.word_of-word.ensures c.if-word-gt-SILENCE.false
                (closed_by _ _ took b.if-take.true (sym d.in_default.is ∙ b.close.ensures)))
          ])
      | else-take b ↦
          rw (b.out-is, b.progress-is, b.written-is)
          (goes_on_unheard l.invariant s.front s.front_len c.loop-taken-test.true c.word_of-word.ensures c.if-word-gt-SILENCE.false (passed_by _ _ took b.if-take.false))
    ]

pub returns : goal.returns
returns c =
    let l = c.loop-taken in
    stops_done l.invariant (omega (arith, l.auto.taken-end, c.loop-taken-test.false)) c.as_chunks.ensures.front_len
