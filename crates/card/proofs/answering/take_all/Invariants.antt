-- `card::take_all` meets its contract. The loop's invariant: what is played from here on, behind what is written, is what is played
-- from the first word that closes a message on; and a word that is left closes one. The measure is the number of words that are left.
-- Assumes nothing.
use Prim.Native.Nat.{◌-◌}
use lib.ListN.{length}
use Rattle.card.specs.Turn.{hears}
use Rattle.card.proofs.Runs.{Carried, played_from}
use Rattle.card.proofs.Taking.{reached_of, stands_at, Closes}
use Rattle.card.proofs.answering.take_all.Given as goal

abbrev pub invariant-loop-taken : goal.invariant-loop-taken
invariant-loop-taken l =
    let takes = hears l.tested.sheets.bench.now l.tested.sheets.maker.now in
    let first = stands_at l.setup l.initial.offer l.initial.values (reached_of l.initial.pending l.initial.taken) in
    let here = stands_at l.setup l.offer l.values (reached_of l.pending l.taken) in
    Carried takes (played_from takes l.initial.out l.words first l.initial.taken) l.initial.out l.words here l.out l.at l.taken
    × Closes l.words (reached_of l.pending l.taken)

abbrev pub decreases-loop-taken : goal.decreases-loop-taken
decreases-loop-taken l = length l.words - l.taken
