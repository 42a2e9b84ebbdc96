-- Which cards can share a pair, and the refusals of a run over them in the paper's order.
use Rattle.std.specs.Prelude.{Bool, true, not, ◌&&◌, List, [], ◌∷◌, map, ℕ, ◌*◌, leb, eqb, ℤ, length}
use Rattle.refusal.specs.Lists.{every, same}
use Rattle.refusal.specs.Check.{Check, refuse_if}
use Rattle.refusal.specs.declared.Refusal.TheVariants.{UnsoundCard, UnsoundSheet, UnsoundValues, WordAbove256, UnsoundBus}
use Rattle.wire.specs.Word.{valid_words}
use Rattle.hearing.specs.declared.Pending.{Pending}
use Rattle.sheet.specs.Sheet.{sound_sheet}
use Rattle.sheet.specs.Values.{sound_values}
use Rattle.act.specs.declared.Setup.{Setup}
use Rattle.card.specs.declared.Card.{Card}
use Rattle.card.specs.Refusals.{sound_card, sound_offer, sound_scan}
use Rattle.bus.specs.Bus.{parts}

-- document 02, ticket 6: "A bench of up to 32 cards"
abbrev pub most_cards : ℕ
most_cards = 32

-- "No two cards may share both letter and address."
unfoldable pub alike : Setup → Setup → Bool
alike s t = eqb s.letter t.letter && eqb s.address t.address

unfoldable pub apart : List Setup → Bool
apart [] = true
apart (s ∷ ss) = every (λ (t : Setup). not (alike s t)) ss && apart ss

-- "as they hear one line, all hold the same open message"
unfoldable pub same_open : Pending → Pending → Bool
same_open p q = eqb p.len q.len && same eqb p.chars q.chars

unfoldable pub together : List Pending → Bool
together [] = true
together (p ∷ ps) = every (same_open p) ps

-- "number 8, two cards alike, more than 32, or open messages that differ"
unfoldable pub sound_bus : List Card → Bool
sound_bus cs =
    leb (length cs) most_cards && apart (map (λ (c : Card). c.setup) cs) && together (map (λ (c : Card). c.pending) cs)

-- what of a card depends on the sheets: its offer and its scan
unfoldable pub fits_sheets : List ℤ → List ℤ → Card → Bool
fits_sheets bench maker c = sound_offer bench maker c.offer && sound_scan bench maker c.setup

-- "128 values for each"
unfoldable pub sound_parts : List ℤ → List ℤ → ℕ → List ℤ → Bool
sound_parts bench maker n values = eqb (length values) (n * 128) && every (sound_values bench maker) (parts 128 n values)

-- "comes after 1 but before sheets, offers and scans"
unfoldable pub bus_checks : List Card → List ℤ → List ℤ → List ℤ → List ℕ → List Check
bus_checks cs bench maker values ws =
    refuse_if (not (every sound_card cs)) UnsoundCard
    ∷ refuse_if (not (sound_bus cs)) UnsoundBus
    ∷ refuse_if (not (sound_sheet bench && sound_sheet maker)) UnsoundSheet
    ∷ refuse_if (not (every (fits_sheets bench maker) cs)) UnsoundCard
    ∷ refuse_if (not (sound_parts bench maker (length cs) values)) UnsoundValues
    ∷ refuse_if (not (valid_words ws)) WordAbove256
    ∷ []
