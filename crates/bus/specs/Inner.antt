-- Definitions for this crate's private functions. No call and no claim cites any of it.
use Rattle.std.specs.Prelude.{Bool, cond, ◌&&◌, List, [], ◌∷◌, ℕ, ◌+◌, ◌%◌, ◌<◌, ◌≡◌, eqb, ℤ, length, get_or}
use Prim.Native.Char.{code}
use Rattle.hearing.specs.declared.Pending.{Pending}
use Rattle.act.specs.declared.Setup.{Setup}
use Rattle.card.specs.declared.Card.{Card}
use Rattle.card.specs.Run.{playing}
use Rattle.card.specs.Refusals.{sound_card}
use Rattle.row.specs.Row.{is_row, card_of}
use Rattle.bus.specs.Bus.{instruments, hears_all}
use Rattle.bus.specs.Refusals.{fits_sheets}
use Rattle.bus.specs.Calls.{ended}
use Rattle.bus.specs.Rows.{cards_of, RowsAfter, in_rows}
use Rattle.std.specs.Prelude.{None, Option, Some}
use Rattle.act.specs.declared.Offer.{Offer}
use Rattle.message.specs.declared.Message.{Message}

-- ---- one row

abbrev pub setup_in : List ℤ → Setup
setup_in row = (card_of row).setup

abbrev pub offer_in : List ℤ → Option Offer
offer_in row = (card_of row).offer

abbrev pub pending_in : List ℤ → Pending
pending_in row = (card_of row).pending

-- some card, sound by itself
unfoldable pub sound_card_row : List ℤ → Bool
sound_card_row row = is_row row && sound_card (card_of row)

-- its offer and its scan
unfoldable pub card_row_fits : List ℤ → List ℤ → List ℤ → Bool
card_row_fits bench maker row = fits_sheets bench maker (card_of row)

-- ---- the card that is meant

-- a place for a letter and an address, below 256
unfoldable pub slot_of : ℕ → ℕ → ℕ
slot_of letter address = cond (eqb letter (code "R")) (128 + address % 128) (address % 128)

abbrev pub slot_in : Setup → ℕ
slot_in s = slot_of s.letter s.address

-- a table that has each card in its place, and no number that is none's
pub record Finds (ss : List Setup) (table : List ℕ) : Type 0 where
  pub inside : (n : ℕ) → get_or table n 0 < length ss
  pub finds : (j : ℕ) (d : Setup) → j < length ss → get_or table (slot_in (get_or ss j d)) 0 ≡ j

-- by what was closed
unfoldable pub meant_by : List ℕ → Option Message → ℕ
meant_by table (Some m) = get_or table (slot_of m.letter m.address) 0
meant_by table None = 0

-- ---- all the cards

-- with these setups and offers, and one open message
unfoldable pub cards_with : Pending → List Setup → List (Option Offer) → List Card
cards_with p [] os = []
cards_with p (s ∷ ss) [] = []
cards_with p (s ∷ ss) (o ∷ os) = record { setup = s; pending = p; offer = o } ∷ cards_with p ss os

-- what a run that passed leaves
abbrev pub served_rows : List ℤ → List ℤ → List ℤ → List ℤ → List ℕ → List ℕ → RowsAfter
served_rows numbers bench maker values ws out = in_rows numbers (ended (playing (hears_all bench maker) (instruments (cards_of numbers) values) (length out) ws) out)
