-- The trace over the calls for many words and for one: it is a run, its notes are those of the words that it took, and what is noted of a
-- word is what the single word's call answers there.
use Rattle.std.specs.Prelude.{◌≡◌, true, false, List, [], ◌∷◌, ℕ, ◌*◌, ◌≤◌, ℤ, length, Some}
use Rattle.refusal.specs.Refusal.{gave}
use Rattle.refusal.specs.Check.{first}
use Rattle.refusal.specs.Buffer.{laid}
use Rattle.hearing.specs.Hearing.{action_of, closes}
use Rattle.act.specs.declared.causes.Cause.TheVariants.{NoMessageClosed}
use Rattle.act.specs.Cause.{why_of}
use Rattle.card.specs.declared.Card.{Card}
use Rattle.card.specs.Turn.{Instrument}
use Rattle.card.specs.Calls.{WordAnswer, step_call, run_call}
use Rattle.trace.specs.Notes.{Note, fives_of, note_to}
use Rattle.trace.specs.Calls.{trace_checks, notes_in, trace_call}

-- what the single word's call answers, as a note of the place k
abbrev pub note_of : Instrument → ℕ → WordAnswer → Note
note_of i k a = record { at = k; characters = i.card.pending.len; bytes = a.bytes; cause = a.cause }

pub record Traces : Type 0 where
  -- with room for its notes a trace is refused as a run is, and otherwise answers and leaves all that a run does
  pub as_a_run : (c : Card) (bench maker values : List ℤ) (ws out notes : List ℕ) → length ws * 5 ≤ length notes
      → (trace_call c bench maker values ws out notes).run ≡ run_call c bench maker values ws out
  -- where it is served, the notes of the words taken are counted, and stand at the front, five numbers each; nothing behind them changes
  pub as_noted : (c : Card) (bench maker values : List ℤ) (ws out notes : List ℕ) → first (trace_checks c bench maker values ws notes) ≡ gave tt
      → ((trace_call c bench maker values ws out notes).messages ≡ length (notes_in bench maker c values (length out) ws))
      × ((trace_call c bench maker values ws out notes).notes ≡ laid (fives_of (notes_in bench maker c values (length out) ws)) notes)
  -- a word that closes a message is noted with what its single call answers: the bytes, and the cause
  pub closed_as_a_step : (bench maker : List ℤ) (i : Instrument) (k w : ℕ) (out : List ℕ) (a : WordAnswer)
      → (step_call i.card bench maker i.values w out).outcome ≡ gave a → closes (action_of i.card.pending w) ≡ true → note_to bench maker i k w ≡ note_of i k a ∷ []
  -- any other is not noted, and its single call answers that it closed none
  pub open_as_a_step : (bench maker : List ℤ) (i : Instrument) (k w : ℕ) (out : List ℕ) (a : WordAnswer)
      → (step_call i.card bench maker i.values w out).outcome ≡ gave a → closes (action_of i.card.pending w) ≡ false → (note_to bench maker i k w ≡ []) × (a.cause ≡ why_of (Some NoMessageClosed))
