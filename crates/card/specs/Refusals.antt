-- Which cards are sound, and the refusals of a call in the paper's order.
use Rattle.std.specs.Prelude.{Bool, true, false, not, ◌&&◌, ◌||◌, List, [], ◌∷◌, ◌++◌, ℕ, ltb, eqb, ℤ, length}
use Rattle.refusal.specs.Lists.{every}
use Rattle.refusal.specs.Check.{Check, refuse_if}
use Rattle.refusal.specs.declared.Refusal.TheVariants.{UnsoundCard, UnsoundSheet, UnsoundValues, WordAbove256, RoomTooShort}
use Rattle.wire.specs.Word.{valid_words}
use Rattle.message.specs.Message.{is_letter, is_address}
use Rattle.hearing.specs.Sound.{sound_pending}
use Rattle.sheet.specs.Sheet.{sound_sheet}
use Rattle.sheet.specs.Lookup.{has_row}
use Rattle.sheet.specs.Values.{entry_in, is_readable_entry, is_writable, fits_row, sound_values}
use Rattle.reply.specs.Reply.{longest_reply, scan_identifier}
use Rattle.act.specs.declared.Setup.{Setup}
use Rattle.act.specs.Act.{names_from}
use Rattle.card.specs.declared.Card.{Card}
use Rattle.std.specs.Prelude.{None, Option, Some}
use Rattle.act.specs.declared.Offer.{Offer}
use Rattle.sheet.specs.declared.Row.{Row}

-- document 02, ticket 5: "A card states its revision, 1 or 2"; "an unknown revision is number 1"
unfoldable pub is_revision : ℕ → Bool
is_revision n = eqb n 1 || eqb n 2

-- document 01, number 1: "letter, address"; and the revision
unfoldable pub sound_setup : Setup → Bool
sound_setup s = is_letter s.letter && is_address s.address && is_revision s.revision

-- document 01, number 1, in its first place: "letter, address, open message"; and the revision
unfoldable pub sound_card : Card → Bool
sound_card c = sound_setup c.setup && sound_pending c.pending

-- a value that a Type 3 can leave on offer
unfoldable pub offerable : Option Row → ℤ → Bool
offerable (Some r) z = is_writable r && fits_row r z
offerable None z = false

-- document 01, number 1: "an offer that no Type 3 could leave under these sheets"
unfoldable pub sound_offer : List ℤ → List ℤ → Option Offer → Bool
sound_offer bench maker None = true
sound_offer bench maker (Some o) = offerable (entry_in bench maker o.identifier) o.value

-- neither sheet has a row for `]`
abbrev pub no_scan_row : List ℤ → List ℤ → Bool
no_scan_row bench maker = not (has_row bench scan_identifier || has_row maker scan_identifier)

-- document 02, ticket 1: "a count of scan identifiers other than 0, 4 or 5, one without a readable row, or `]` having a row of its own, makes
-- the card unsound"
unfoldable pub sound_scan : List ℤ → List ℤ → Setup → Bool
sound_scan bench maker s =
    no_scan_row bench maker
    && (eqb s.count 0 || eqb s.count 4 || eqb s.count 5)
    && every (λ (i : ℕ). is_readable_entry (entry_in bench maker i)) (names_from s 0 s.count)

-- document 01: "Checked in this order"; "An offer is judged after the sheets and before the values". Document 02, ticket 1: the scan is
-- number 1 too, "given after 2 and before 3".
unfoldable pub card_checks : Card → List ℤ → List ℤ → List ℤ → List ℕ → List Check
card_checks c bench maker values ws =
    refuse_if (not (sound_card c)) UnsoundCard
    ∷ refuse_if (not (sound_sheet bench && sound_sheet maker)) UnsoundSheet
    ∷ refuse_if (not (sound_offer bench maker c.offer)) UnsoundCard
    ∷ refuse_if (not (sound_scan bench maker c.setup)) UnsoundCard
    ∷ refuse_if (not (sound_values bench maker values)) UnsoundValues
    ∷ refuse_if (not (valid_words ws)) WordAbove256
    ∷ []

-- a single word: the same, then number 5, "under 11 bytes for a single word's reply"; document 02, ticket 1: "Longest reply becomes 33 bytes,
-- and the single-word room follows it"
abbrev pub room_check : List ℕ → Check
room_check out = refuse_if (ltb (length out) longest_reply) RoomTooShort

unfoldable pub step_checks : Card → List ℤ → List ℤ → List ℤ → ℕ → List ℕ → List Check
step_checks c bench maker values w out = card_checks c bench maker values (w ∷ []) ++ (room_check out ∷ [])
