-- The trace of a card as a row of twenty-three numbers: what it gives back, and all that it leaves, for every input.
use Rattle.card.specs.declared.Took.{Took}
use Rattle.std.specs.Prelude.{cond, List, ℕ, ltb, ℤ, length, set}
use Rattle.refusal.specs.Refusal.{Outcome, refused, gave, number_of}
use Rattle.refusal.specs.Check.{first}
use Rattle.refusal.specs.declared.Refusal.TheVariants.{UnsoundCard}
use Rattle.trace.specs.Calls.{trace_checks, TraceAfter, trace_call}
use Rattle.row.specs.Row.{is_row, card_of}
use Rattle.abi.specs.Result.{minus_number}
use Rattle.abi.specs.Calls.{too_short, ManyWords, many_words, run_on}

-- what a run leaves, and the notes afterwards
pub record NotedWords : Type 0 where
  pub many : ManyWords
  pub notes : List ℕ

abbrev pub noted_words : ℤ → List ℤ → List ℤ → List ℕ → List ℕ → List ℕ → NotedWords
noted_words z row values out counts notes = record { many = many_words z row values out counts; notes = notes }

-- messages noted, in the third count
abbrev pub messages_in : Outcome Took → ℕ → List ℕ → List ℕ
messages_in (refused n) m counts = counts
messages_in (gave t) m counts = set counts 2 m

-- what the card's call leaves, on the row: as a run, with that count
abbrev pub trace_on : List ℤ → List ℕ → TraceAfter → NotedWords
trace_on row counts a = record { many = run_on row (messages_in a.run.outcome a.messages counts) a.run; notes = a.notes }

unfoldable pub kav_trace : List ℤ → List ℤ → List ℤ → List ℤ → List ℕ → List ℕ → List ℕ → List ℕ → NotedWords
kav_trace row bench maker values ws out notes counts =
    cond (is_row row)
    (cond (ltb (length counts) 3) (noted_words (too_short (first (trace_checks (card_of row) bench maker values ws notes))) row values out counts notes)
    (trace_on row counts (trace_call (card_of row) bench maker values ws out notes)))
    (noted_words (minus_number (number_of UnsoundCard)) row values out counts notes)
