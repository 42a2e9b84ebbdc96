-- Demand 1: "Every call ends and does nothing undefined for any words, sheets, values or card state. A call that can't be served is
-- refused by the numbers and in the order of document 01; it then changes neither the card, the values nor any buffer." That a call
-- ends and does nothing undefined is what the prover shows of every function; no public one has a precondition. The rest is said here.
use Rattle.std.specs.Prelude.{◌≡◌, ◌↔◌, not, List, [], ◌∷◌, ℕ, ℤ}
use Rattle.refusal.specs.Refusal.{Outcome, refused, gave}
use Rattle.refusal.specs.Check.{Check, refuse_if, Given, Passed}
use Rattle.refusal.specs.Call.{room_for}
use Rattle.refusal.specs.declared.Refusal.TheVariants.{WordAbove256, NotReply, NotMessage}
use Rattle.wire.specs.Word.{travelling, valid_words}
use Rattle.message.specs.declared.Message.{Message}
use Rattle.message.specs.Message.{is_message}
use Rattle.message.specs.Spell.{spell, write_call}
use Rattle.hearing.specs.Normal.{normal, normal_call}
use Rattle.reply.specs.Read.{is_reply, read_call}
use Rattle.card.specs.declared.Card.{Card}
use Rattle.card.specs.Refusals.{card_checks, step_checks}
use Rattle.card.specs.Calls.{After, step_call, run_call}
use Rattle.listing.specs.Line.{line, line_call}
use Rattle.bus.specs.Refusals.{bus_checks}
use Rattle.bus.specs.Calls.{bus_call}
use Rattle.bus.specs.Rows.{rows_checks, rows_call}

-- a number is given exactly when its test holds and none before it does, the call is served exactly when no test holds, and refused it
-- leaves everything unchanged
pub record Refuses {A : Type 0} (outcome : Outcome A) (checks : List Check) (Unchanged : Type 0) : Type 0 where
  pub number : (n : ℕ) → (outcome ≡ refused n) ↔ Given n checks
  pub served : ((x : A) × (outcome ≡ gave x)) ↔ Passed checks
  pub unchanged : (n : ℕ) → outcome ≡ refused n → Unchanged

-- the card, the values and the buffer are as they were
abbrev pub Kept : {A : Type 0} → After A → Card → List ℤ → List ℕ → Type 0
Kept s c values out = (s.card ≡ c) × (s.values ≡ values) × (s.buffer ≡ out)

-- each call with its tests in the paper's order
pub record Demand1 : Type 0 where
  pub step : (c : Card) (bench maker values : List ℤ) (w : ℕ) (out : List ℕ)
      → Refuses (step_call c bench maker values w out).outcome (step_checks c bench maker values w out) (Kept (step_call c bench maker values w out) c values out)
  pub run : (c : Card) (bench maker values : List ℤ) (ws out : List ℕ)
      → Refuses (run_call c bench maker values ws out).outcome (card_checks c bench maker values ws) (Kept (run_call c bench maker values ws out) c values out)
  pub write : (m : Message) (out : List ℕ)
      → Refuses (write_call m out).outcome (refuse_if (not (is_message m)) NotMessage ∷ room_for (travelling (spell m)) out ∷ []) ((write_call m out).buffer ≡ out)
  pub normal_form : (ws out : List ℕ)
      → Refuses (normal_call ws out).outcome (refuse_if (not (valid_words ws)) WordAbove256 ∷ room_for (normal ws) out ∷ []) ((normal_call ws out).buffer ≡ out)
  pub line : (at : ℕ) (m : Message) (out : List ℕ)
      → Refuses (line_call at m out).outcome (refuse_if (not (is_message m)) NotMessage ∷ room_for (line at m) out ∷ []) ((line_call at m out).buffer ≡ out)
  -- the reader is lent nothing that it could change
  pub read : (bs : List ℕ) → Refuses (read_call bs) (refuse_if (not (is_reply bs)) NotReply ∷ []) (Unit {0})
  -- document 02, ticket 6: the run over many cards, and over the rows in which a host lends them
  pub bus : (cs : List Card) (bench maker values : List ℤ) (ws out : List ℕ)
      → Refuses (bus_call cs bench maker values ws out).outcome (bus_checks cs bench maker values ws) (((bus_call cs bench maker values ws out).cards ≡ cs) × ((bus_call cs bench maker values ws out).values ≡ values) × ((bus_call cs bench maker values ws out).buffer ≡ out))
  pub bus_rows : (numbers bench maker values : List ℤ) (ws out : List ℕ)
      → Refuses (rows_call numbers bench maker values ws out).outcome (rows_checks numbers bench maker values ws) (((rows_call numbers bench maker values ws out).numbers ≡ numbers) × ((rows_call numbers bench maker values ws out).values ≡ values) × ((rows_call numbers bench maker values ws out).buffer ≡ out))
