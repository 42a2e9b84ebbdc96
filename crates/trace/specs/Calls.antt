-- The call: a run, and what is noted of the words that it takes.
use Rattle.card.specs.declared.Took.{Took}
use Rattle.std.specs.Prelude.{List, [], ◌∷◌, ◌++◌, ℕ, ◌*◌, ltb, ℤ, length, take}
use Rattle.refusal.specs.Buffer.{laid}
use Rattle.refusal.specs.Check.{Check, refuse_if, first, decided}
use Rattle.refusal.specs.declared.Refusal.TheVariants.{RoomTooShort}
use Rattle.card.specs.declared.Card.{Card}
use Rattle.card.specs.Turn.{play}
use Rattle.card.specs.Refusals.{card_checks}
use Rattle.card.specs.Calls.{After, kept, run_after, ended}
use Rattle.trace.specs.declared.Traced.{Traced}
use Rattle.trace.specs.Notes.{Note, fives_of, notes_of}

-- number 5, "room too short": fewer than five numbers for each word lent, so that no note is without room
abbrev pub notes_check : List ℕ → List ℕ → Check
notes_check ws notes = refuse_if (ltb (length notes) (length ws * 5)) RoomTooShort

-- the tests of a run, then that
unfoldable pub trace_checks : Card → List ℤ → List ℤ → List ℤ → List ℕ → List ℕ → List Check
trace_checks c bench maker values ws notes = card_checks c bench maker values ws ++ (notes_check ws notes ∷ [])

-- all that a trace answers and leaves: what a run does, how many messages were noted, and the notes afterwards
pub record TraceAfter : Type 0 where
  pub run : After Took
  pub messages : ℕ
  pub notes : List ℕ

abbrev pub trace_after : Traced → List ℤ → List ℕ → List ℕ → TraceAfter
trace_after r values out notes = record { run = run_after r.ran values out; messages = r.messages; notes = notes }

-- document 01: "No refusal changes anything lent."
abbrev pub unnoted : Card → List ℤ → List ℕ → List ℕ → ℕ → TraceAfter
unnoted c values out notes n = record { run = kept c values out n; messages = 0; notes = notes }

-- a run with its notes at the front
abbrev pub noted : After Took → List Note → List ℕ → TraceAfter
noted a ns notes = record { run = a; messages = length ns; notes = laid (fives_of ns) notes }

-- the notes of the words that a run takes
abbrev pub notes_in : List ℤ → List ℤ → Card → List ℤ → ℕ → List ℕ → List Note
notes_in bench maker c values room ws =
    notes_of bench maker (record { card = c; values = values }) 0 (take (play bench maker c values room ws).taken ws)

unfoldable pub trace_call : Card → List ℤ → List ℤ → List ℤ → List ℕ → List ℕ → List ℕ → TraceAfter
trace_call c bench maker values ws out notes =
    decided (first (trace_checks c bench maker values ws notes)) (unnoted c values out notes)
    (noted (ended (play bench maker c values (length out) ws) out) (notes_in bench maker c values (length out) ws) notes)
