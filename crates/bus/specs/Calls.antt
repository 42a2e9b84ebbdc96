-- The call, over a list of cards: what it answers, and all that it leaves, for every input.
use Rattle.card.specs.declared.Took.{Took}
use Rattle.std.specs.Prelude.{List, ℕ, ℤ, length}
use Rattle.refusal.specs.Refusal.{Outcome, refused, gave}
use Rattle.refusal.specs.Buffer.{laid}
use Rattle.refusal.specs.Check.{first, decided}
use Rattle.card.specs.declared.Card.{Card}
use Rattle.card.specs.Run.{Played, playing}
use Rattle.card.specs.Turn.{Instrument}
use Rattle.bus.specs.Bus.{instruments, cards_in, values_in, hears_all}
use Rattle.bus.specs.Refusals.{bus_checks}

-- all that the call answers and leaves: the cards, the outcome, all values and the buffer afterwards
pub record After : Type 0 where
  pub cards : List Card
  pub outcome : Outcome Took
  pub values : List ℤ
  pub buffer : List ℕ

-- document 01: "No refusal changes anything lent."
abbrev pub kept : List Card → List ℤ → List ℕ → ℕ → After
kept cs values out n = record { cards = cs; outcome = refused n; values = values; buffer = out }

-- what a run that is served leaves: all that was played, at the front of the buffer
abbrev pub ended : Played (List Instrument) → List ℕ → After
ended p out =
    record { cards = cards_in p.state; outcome = gave (record { words = p.taken; bytes = length p.bytes }); values = values_in p.state; buffer = laid p.bytes out }

-- "Its one call is a run: every word goes to every card"
unfoldable pub bus_call : List Card → List ℤ → List ℤ → List ℤ → List ℕ → List ℕ → After
bus_call cs bench maker values ws out =
    decided (first (bus_checks cs bench maker values ws)) (kept cs values out) (ended (playing (hears_all bench maker) (instruments cs values) (length out) ws) out)
