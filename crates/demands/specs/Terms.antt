-- The terms of the demands: what is sound, what a call wrote, what a card says to a word, and all that a recording draws from it.
use Rattle.std.specs.Prelude.{◌≡◌, Bool, true, false, ◌&&◌, List, [], ◌∷◌, ◌++◌, ℕ, eqb, ℤ, length, take}
use Rattle.refusal.specs.Lists.{same}
use Rattle.refusal.specs.Refusal.{Outcome, refused, gave}
use Rattle.refusal.specs.Call.{Call}
use Rattle.hearing.specs.Hearing.{hear}
use Rattle.sheet.specs.Sheet.{sound_sheet}
use Rattle.sheet.specs.Values.{sound_values}
use Rattle.card.specs.declared.Card.{Card}
use Rattle.card.specs.Turn.{Turn, effect_of, turn, stored}
use Rattle.card.specs.Refusals.{sound_card, sound_offer, sound_scan}
use Rattle.std.specs.Prelude.{Option}
use Rattle.reply.specs.declared.Answer.{Answer}

-- document 01: "A card, sheets and values are sound where numbers 1, 2 and 3 don't hold of them."
pub record Sound (bench maker : List ℤ) (c : Card) (values : List ℤ) : Type 0 where
  pub card_sound : sound_card c ≡ true
  pub sheets_sound : (sound_sheet bench && sound_sheet maker) ≡ true
  pub offer_sound : sound_offer bench maker c.offer ≡ true
  pub scan_sound : sound_scan bench maker c.setup ≡ true
  pub values_sound : sound_values bench maker values ≡ true

-- the call is served, and what it wrote at the front of its buffer is xs
pub record HasWritten (call : Call) (xs : List ℕ) : Type 0 where
  pub gives : call.outcome ≡ gave (length xs)
  pub front : take (length xs) call.buffer ≡ xs

-- the same as a test, for tables
unfoldable pub wrote_these : List ℕ → Call → Bool
wrote_these xs call = gave_count call.outcome && same eqb (take (length xs) call.buffer) xs
  where
    gave_count : Outcome ℕ → Bool
    gave_count (refused n) = false
    gave_count (gave n) = eqb n (length xs)

-- what the card says to a word
unfoldable pub said_to : List ℤ → List ℤ → Card → List ℤ → ℕ → Option Answer
said_to bench maker c values w = (effect_of bench maker c.setup c.offer values (hear c.pending w).message).said

-- document 01: "Each word meets the card and values that the word before it left": all the replies together
unfoldable pub replies : List ℤ → List ℤ → Card → List ℤ → List ℕ → List ℕ
replies bench maker c values [] = []
replies bench maker c values (w ∷ ws) =
    let t : Turn = turn bench maker c values w in
    t.reply ++ replies bench maker t.card (stored values t.store) ws
