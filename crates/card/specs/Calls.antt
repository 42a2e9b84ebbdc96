-- The calls: what each answers, and all that it leaves, for every input.
use Rattle.std.specs.Prelude.{List, ℕ, ℤ, length}
use Rattle.refusal.specs.Refusal.{Outcome, refused, gave, number_of, outcome_of}
use Rattle.refusal.specs.Buffer.{laid}
use Rattle.refusal.specs.Check.{first, decided}
use Rattle.card.specs.declared.Card.{Card}
use Rattle.card.specs.declared.Stepped.{Stepped}
use Rattle.card.specs.declared.Ran.{Ran}
use Rattle.act.specs.Cause.{Why, why_of}
use Rattle.act.specs.Act.{of_revision}
use Rattle.card.specs.Cause.{why_to}
use Rattle.card.specs.Run.{Played}
use Rattle.card.specs.Turn.{Turn, turn, stored, Instrument, play}
use Rattle.card.specs.Refusals.{card_checks, step_checks}
use Rattle.std.specs.Prelude.{Err, Ok, Result}
use Rattle.card.specs.declared.Replied.{Replied}
use Rattle.card.specs.declared.Took.{Took}
use Rattle.refusal.specs.declared.Refusal.{Refusal}

-- all that a call on a card answers and leaves: the card, the outcome, the values and the buffer afterwards
pub record After (A : Type 0) : Type 0 where
  pub card : Card
  pub outcome : Outcome A
  pub values : List ℤ
  pub buffer : List ℕ

-- the same card of another revision, and what a call on it leaves; claims cite these, and no call
abbrev pub revised : ℕ → Card → Card
revised n c = record { setup = of_revision n c.setup; pending = c.pending; offer = c.offer }

abbrev pub revised_after : {A : Type 0} → ℕ → After A → After A
revised_after n a = record { card = revised n a.card; outcome = a.outcome; values = a.values; buffer = a.buffer }

-- document 01: "No refusal changes anything lent."
abbrev pub kept : {A : Type 0} → Card → List ℤ → List ℕ → ℕ → After A
kept c values out n = record { card = c; outcome = refused n; values = values; buffer = out }

-- ---- one word

-- what a served word gives: how many bytes were replied, 0 for silence, and why it was `N` or silence
pub record WordAnswer : Type 0 where
  pub bytes : ℕ
  pub cause : Why

-- the answer: a number, or that
abbrev pub step_outcome : Result Replied Refusal → Outcome WordAnswer
step_outcome (Err r) = refused (number_of r)
step_outcome (Ok r) = gave (record { bytes = r.bytes; cause = why_of r.cause })

-- its bytes alone
abbrev pub bytes_of : Outcome WordAnswer → Outcome ℕ
bytes_of (refused n) = refused n
bytes_of (gave s) = gave s.bytes

abbrev pub step_after : Stepped → List ℤ → List ℕ → After WordAnswer
step_after r values out = record { card = r.card; outcome = step_outcome r.answer; values = values; buffer = out }

-- what a word that is served leaves
abbrev pub answered : Turn → Why → List ℤ → List ℕ → After WordAnswer
answered t y values out =
    record { card = t.card; outcome = gave (record { bytes = length t.reply; cause = y }); values = stored values t.store; buffer = laid t.reply out }

unfoldable pub step_call : Card → List ℤ → List ℤ → List ℤ → ℕ → List ℕ → After WordAnswer
step_call c bench maker values w out =
    decided (first (step_checks c bench maker values w out)) (kept c values out)
    (answered (turn bench maker c values w) (why_to bench maker c values w) values out)

-- ---- a run

abbrev pub run_after : Ran → List ℤ → List ℕ → After Took
run_after r values out = record { card = r.card; outcome = outcome_of r.answer; values = values; buffer = out }

-- what a run that is served leaves: all that was played, at the front of the buffer
abbrev pub ended : Played Instrument → List ℕ → After Took
ended p out =
    record { card = p.state.card; outcome = gave (record { words = p.taken; bytes = length p.bytes }); values = p.state.values; buffer = laid p.bytes out }

-- document 01: "Stopping there isn't a refusal."
unfoldable pub run_call : Card → List ℤ → List ℤ → List ℤ → List ℕ → List ℕ → After Took
run_call c bench maker values ws out =
    decided (first (card_checks c bench maker values ws)) (kept c values out) (ended (play bench maker c values (length out) ws) out)
