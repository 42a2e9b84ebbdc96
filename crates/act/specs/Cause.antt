-- Why a card doesn't accept a message: one list of tests, in the paper's order. What it accepts is what none of them turns down.
-- Document 02, tickets 4 and 5.
use Rattle.std.specs.Prelude.{Bool, true, false, not, ◌&&◌, ◌||◌, List, [], ◌∷◌, ℕ, eqb, ℤ, pos}
use Rattle.refusal.specs.Refusal.{Outcome, refused, gave}
use Rattle.refusal.specs.Check.{Check}
use Rattle.number.specs.Number.{in_range, raised, lowered}
use Rattle.message.specs.declared.Body.{Body}
use Rattle.message.specs.declared.Body.TheVariants as body
use Rattle.message.specs.declared.Message.{Message}
use Rattle.message.specs.Message.{asks_minus_zero}
use Rattle.sheet.specs.declared.Row.{Row}
use Rattle.sheet.specs.Values.{is_readable, is_writable, is_read_write}
use Rattle.act.specs.declared.Setup.{Setup}
use Rattle.act.specs.declared.causes.Standing.{Standing}
use Rattle.act.specs.declared.causes.Cause.{Cause}
use Rattle.act.specs.declared.causes.Cause.TheVariants.{NoSuchIdentifier, Access, WrongDecimals, OutOfRange, AtLimit, NotForThisCard, NoOffer, NoMessageClosed, NotWellFormed, MinusZero}
use Rattle.std.specs.Prelude.{None, Option, Some}
use Rattle.act.specs.declared.Offer.{Offer}

-- ---- the causes by their codes

-- what is given beside the reply: a code, 0 for no cause, and for a message that isn't well formed the position in it, 0 for any other
pub record Why : Type 0 where
  pub code : ℕ
  pub position : ℕ

abbrev pub why : ℕ → ℕ → Why
why n p = record { code = n; position = p }

-- in the order of the tests
abbrev pub why_of : Option Cause → Why
why_of None = why 0 0
why_of (Some NoSuchIdentifier) = why 1 0
why_of (Some Access) = why 2 0
why_of (Some WrongDecimals) = why 3 0
why_of (Some MinusZero) = why 4 0
why_of (Some OutOfRange) = why 5 0
why_of (Some AtLimit) = why 6 0
why_of (Some NotForThisCard) = why 7 0
why_of (Some NoOffer) = why 8 0
why_of (Some NoMessageClosed) = why 9 0
why_of (Some (NotWellFormed p)) = why 10 p

abbrev pub cause_code : Cause → ℕ
cause_code x = (why_of (Some x)).code

-- ---- the tests of a message

-- how a message stands with the card; each is true where its test is passed, or its type doesn't make it
abbrev pub stands : Bool → Bool → Bool → Bool → Bool → Bool → Standing
stands a b c d e f =
    record { offered = a; exists = b; allowed = c; matching = d; within = e; reachable = f }

-- the row of an entry; where there is none, one of zeros. No test of it decides then: that there is none comes before.
abbrev pub row_or_zeros : Option Row → Row
row_or_zeros (Some r) = r
row_or_zeros None = record { access = 0; decimals = 0; step = pos 0; least = pos 0; greatest = pos 0 }

abbrev pub is_found : Option Row → Bool
is_found (Some r) = true
is_found None = false

-- the offer is for the identifier i
unfoldable pub is_offered : Option Offer → ℕ → Bool
is_offered (Some o) i = eqb o.identifier i
is_offered None i = false

-- one step to the value z, where the row r is there or not: "if the row is read and write and the result is in range"
abbrev pub moves_to : Bool → Row → ℤ → Standing
moves_to there r z = stands true there (is_read_write r) true true (in_range r.least z r.greatest)

-- a message with the identifier i, where the row r is there or not, and the value is v. Type 2 `?`: "if the row exists and isn't write only";
-- Type 3: "if the row exists, isn't read only, the decimals equal the row's, and the number is in range"; Type 4: "if the offer is for this
-- identifier"
unfoldable pub standing : Bool → Row → Option Offer → ℤ → ℕ → Body → Standing
standing there r o v i body.Status = stands true true true true true true
standing there r o v i body.Query = stands true there (is_readable r) true true true
standing there r o v i body.Up = moves_to there r (raised v r.step)
standing there r o v i body.Down = moves_to there r (lowered v r.step)
standing there r o v i (body.Set x) =
    stands true there (is_writable r) (eqb x.decimals r.decimals) (in_range r.least x.number r.greatest) true
standing there r o v i body.Store = stands (is_offered o i) true true true true true

-- by its entry in the sheets
abbrev pub on_entry : Option Row → Option Offer → ℤ → ℕ → Body → Standing
on_entry e o v i b = standing (is_found e) (row_or_zeros e) o v i b

-- a message on `]`, where the card names some identifiers for its scan or none: "For `]` the cause is access, or no such identifier on a card
-- without a scan"; a Type 4 never has its offer there, and Type 1 is never on it
unfoldable pub on_bracket : Bool → Body → Standing
on_bracket some body.Status = stands true some false true true true
on_bracket some body.Query = stands true some true true true true
on_bracket some body.Up = stands true some false true true true
on_bracket some body.Down = stands true some false true true true
on_bracket some (body.Set x) = stands true some false true true true
on_bracket some body.Store = stands false some false true true true

-- a message for this card: its letter and its address
unfoldable pub is_for : Setup → Message → Bool
is_for c m = eqb m.letter c.letter && eqb m.address c.address

-- document 02, ticket 5: "A card states its revision, 1 or 2: the first treats both alike, the second answers a Type 3 of minus zero with `N`"
unfoldable pub takes_zero : Setup → Body → Bool
takes_zero c b = not (asks_minus_zero b && eqb c.revision 2)

-- one line of the list: a test, and the cause where it is not passed
abbrev pub unless : Bool → Cause → Check
unless b x = record { holds = not b; number = cause_code x }

-- "no such identifier, access forbids it, wrong decimals, out of range (Type 3), or at the limit on a step. They are tested in that order";
-- ticket 5: "`minus zero`, after wrong decimals"; silences "in this order: not for this card, Type 4 without its offer"
unfoldable pub causes : Setup → Message → Standing → List Check
causes c m s =
    unless (is_for c m) NotForThisCard
    ∷ unless s.offered NoOffer
    ∷ unless s.exists NoSuchIdentifier
    ∷ unless s.allowed Access
    ∷ unless s.matching WrongDecimals
    ∷ unless (takes_zero c m.body) MinusZero
    ∷ unless s.within OutOfRange
    ∷ unless s.reachable AtLimit
    ∷ []

-- the cause that the first test gives
abbrev pub because : Outcome (Unit {0}) → Why
because (refused n) = why n 0
because (gave x) = why_of None

-- ---- kinds of causes, for the claims; no call uses them

-- "no such identifier, access forbids it, wrong decimals, out of range (Type 3), or at the limit on a step"; ticket 5: "`minus zero`"
unfoldable pub causes_of_n : List Cause
causes_of_n = NoSuchIdentifier ∷ Access ∷ WrongDecimals ∷ MinusZero ∷ OutOfRange ∷ AtLimit ∷ []

-- those of a Type 3 up to minus zero
unfoldable pub up_to_minus_zero : List Cause
up_to_minus_zero = NoSuchIdentifier ∷ Access ∷ WrongDecimals ∷ MinusZero ∷ []

-- "not for this card, Type 4 without its offer, no message closed by this word"; and not well formed, whatever the position
unfoldable pub silences : List Cause
silences = NotForThisCard ∷ NoOffer ∷ NoMessageClosed ∷ NotWellFormed 0 ∷ []

-- by its code
unfoldable pub is_one_of : ℕ → List Cause → Bool
is_one_of n [] = false
is_one_of n (x ∷ xs) = eqb n (cause_code x) || is_one_of n xs
