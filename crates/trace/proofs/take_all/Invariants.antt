-- `trace::take_all` meets its contract. The loop's invariant is that of `card::take_all`, and what is noted from here on, behind what is
-- written, is what is noted from the first word that closes a message on. The measure is the number of words that are left. Assumes nothing.
use Prim.Native.Nat.{◌-◌}
use lib.ListN.{length}
use Rattle.card.specs.Turn.{hears}
use Rattle.card.proofs.Runs.{Carried, played_from}
use Rattle.card.proofs.Taking.{reached_of, stands_at}
use Rattle.trace.specs.Notes.{note_to}
use Rattle.trace.proofs.Notes.{Closes, noted_from, Noted}
use Rattle.trace.proofs.take_all.Given as goal

abbrev pub invariant-loop-taken : goal.invariant-loop-taken
invariant-loop-taken l =
    let takes = hears l.tested.sheets.bench.now l.tested.sheets.maker.now in
    let writes = note_to l.tested.sheets.bench.now l.tested.sheets.maker.now in
    let first = stands_at l.setup l.initial.offer l.initial.values (reached_of l.initial.pending l.initial.taken) in
    let here = stands_at l.setup l.offer l.values (reached_of l.pending l.taken) in
    Carried takes (played_from takes l.initial.out l.words first l.initial.taken) l.initial.out l.words here l.out l.at l.taken
    × Noted takes writes l.words (noted_from takes writes l.words first (length l.initial.out) l.initial.taken) l.initial.notes here (length l.initial.out - l.at) l.taken l.notes l.messages
    × Closes l.words (reached_of l.pending l.taken)

abbrev pub decreases-loop-taken : goal.decreases-loop-taken
decreases-loop-taken l = length l.words - l.taken
