-- A card as a row of twenty-three numbers: 0 letter, 1 address, 2 count of open characters, 3 to 12 the characters (0 behind), 13 mark of
-- an offer (1, or 0 for none), 14 its identifier, 15 its value, 16 count of the scan's identifiers, 17 to 21 the identifiers, 22
-- revision.
use Rattle.std.specs.Prelude.{Bool, cond, ◌&&◌, List, [], ◌∷◌, ◌++◌, map, ℕ, zero, suc, eqb, ℤ, pos, nat_abs, length, take, drop, Some}
use Rattle.refusal.specs.Lists.{every}
use Rattle.refusal.specs.Buffer.{fits_at, placed}
use Rattle.number.specs.Number.{in_range}
use Rattle.sheet.specs.Sheet.{at}
use Rattle.hearing.specs.declared.Pending.{Pending}
use Rattle.hearing.specs.Hearing.{most, open_of}
use Rattle.act.specs.declared.Setup.{Setup}
use Rattle.act.specs.Act.{most_named}
use Rattle.card.specs.declared.Card.{Card}
use Rattle.std.specs.Prelude.{None, Option}
use Rattle.act.specs.Act.{held}
use Rattle.act.specs.declared.Offer.{Offer}

-- ---- from numbers to a card

-- a number that a byte can be
unfoldable pub is_byte : ℤ → Bool
is_byte z = in_range (pos 0) z (pos 255)

-- that byte, or `none` where the number is no byte
unfoldable pub byte_or : ℕ → ℤ → ℕ
byte_or none z = cond (is_byte z) (nat_abs z) none

abbrev pub byte_of : ℤ → ℕ
byte_of z = byte_or 0 z

-- whether the numbers are some card, sound or not; what is none is number 1 in its first place
unfoldable pub is_row : List ℤ → Bool
is_row row = eqb (length row) 23 && every is_byte (take 13 row)

-- the first n of the numbers, each as its byte; 0 behind the last
unfoldable pub bytes_in : ℕ → List ℤ → List ℕ
bytes_in zero zs = []
bytes_in (suc n) zs = byte_of (at zs 0) ∷ bytes_in n (drop 1 zs)

-- a revision that is no byte is 0: no sound card has that one, so it is number 1 in its first place, as any but 1 and 2 is;
-- a count that is no byte is 255, and an identifier that is no byte is 0: no sound card counts so many or names that one, so it is number 1
-- in its second place. What stands behind the count may be anything.
unfoldable pub setup_of : List ℤ → Setup
setup_of row =
    record { letter = byte_of (at row 0); address = byte_of (at row 1); count = byte_or 255 (at row 16); scan = bytes_in most_named (drop 17 row); revision = byte_of (at row 22) }

unfoldable pub pending_of : List ℤ → Pending
pending_of row = record { chars = bytes_in most (drop 3 row); len = byte_of (at row 2) }

-- the number is n
abbrev pub is_exactly : ℕ → ℤ → Bool
is_exactly n z = in_range (pos n) z (pos n)

-- a mark, an identifier and a value: 0, 0, 0 is no offer, and 1 with a byte for identifier is that offer. Anything else is an offer for
-- identifier 0, which no sound sheets have, so that it is number 1 in its second place.
unfoldable pub offer_of : ℤ → ℤ → ℤ → Option Offer
offer_of m i z =
    cond (is_exactly 0 m && is_exactly 0 i && is_exactly 0 z) None (cond (is_exactly 1 m && is_byte i) (held (byte_of i) z) (held 0 (pos 0)))

unfoldable pub card_of : List ℤ → Card
card_of row = record { setup = setup_of row; pending = pending_of row; offer = offer_of (at row 13) (at row 14) (at row 15) }

-- ---- from a card to numbers

unfoldable pub pending_row : Pending → List ℤ
pending_row p = pos (length (open_of p)) ∷ map pos p.chars

unfoldable pub offer_row : Option Offer → List ℤ
offer_row None = pos 0 ∷ pos 0 ∷ pos 0 ∷ []
offer_row (Some o) = pos 1 ∷ pos o.identifier ∷ o.value ∷ []

-- what words change: numbers 2 to 15
abbrev pub changing : Card → List ℤ
changing c = pending_row c.pending ++ offer_row c.offer

-- the row with the card stored back: numbers 2 to 15 and nothing else; a row too short for them is left
unfoldable pub stored_in : Card → List ℤ → List ℤ
stored_in c row = cond (fits_at (changing c) 2 row) (placed (changing c) 2 row) row
