-- What a card does with a heard message: what it says, the offer afterwards, and what is stored. Document 01, "What the card does",
-- as document 02, tickets 1, 2 and 5, change it.
-- Up to "the scan", v is the value stored for the message's identifier; behind it e and v give the entry in the sheets and the value of every
-- identifier.
use Rattle.act.specs.declared.Store.{Store}
use Rattle.std.specs.Prelude.{Bool, cond, not, List, [], ◌∷◌, ℕ, zero, suc, eqb, ℤ, pos, get_or}
use Rattle.refusal.specs.Check.{Check, first, decided}
use Rattle.number.specs.declared.Decimal.{Decimal}
use Rattle.number.specs.Data.{with_decimals}
use Rattle.number.specs.Number.{cut, raised, lowered}
use Rattle.message.specs.declared.Body.{Body}
use Rattle.message.specs.declared.Body.TheVariants as body
use Rattle.message.specs.declared.Message.{Message}
use Rattle.sheet.specs.declared.Row.{Row}
use Rattle.sheet.specs.Values.{entry_in, is_readable}
use Rattle.reply.specs.declared.Mark.{Mark}
use Rattle.reply.specs.declared.Mark.TheVariants.{Accepted, Offered, Declined}
use Rattle.reply.specs.declared.Content.{Content}
use Rattle.reply.specs.declared.Content.TheVariants.{Empty, Number, Four, Five}
use Rattle.reply.specs.declared.Answer.{Answer}
use Rattle.reply.specs.Reply.{scan_identifier}
use Rattle.act.specs.declared.Setup.{Setup}
use Rattle.act.specs.declared.Effect.{Effect}
use Rattle.act.specs.declared.causes.Cause.TheVariants.{NotForThisCard, NoOffer}
use Rattle.act.specs.declared.causes.Standing.{Standing}
use Rattle.act.specs.Cause.{cause_code, row_or_zeros, on_entry, on_bracket, is_for, causes}
use Rattle.std.specs.Prelude.{None, Option, Some}
use Rattle.act.specs.declared.Offer.{Offer}

-- the value z on offer for the identifier i
abbrev pub held : ℕ → ℤ → Option Offer
held i z = Some (record { identifier = i; value = z })

-- the value z to be stored for the identifier i
abbrev pub storing : ℕ → ℤ → Option Store
storing i z = Some (record { place = i; value = z })

-- "no answer, no effect": silence, the offer as it was, nothing stored
abbrev pub no_effect : Option Offer → Effect
no_effect o = record { said = None; offer = o; store = None }

-- silence, offer gone
abbrev pub silent : Effect
silent = no_effect None

-- an answer to this message
abbrev pub answer_to : Message → Mark → Content → Answer
answer_to m k x = record { letter = m.letter; address = m.address; identifier = m.identifier; mark = k; content = x }

-- a reply, offer gone, nothing stored
unfoldable pub says : Message → Mark → Content → Effect
says m k x = record { said = Some (answer_to m k x); offer = None; store = None }

-- the new value and `A`, offer gone
unfoldable pub accepts : Message → ℤ → ℕ → Effect
accepts m z d = record { said = Some (answer_to m Accepted (Number (with_decimals z d))); offer = None; store = storing m.identifier z }

-- `00000`
abbrev pub no_number : Content
no_number = Number (with_decimals (pos 0) 0)

-- "`N` carries the stored value if the row exists and can be read, otherwise `00000`."
unfoldable pub shown_by : Option Row → ℤ → Content
shown_by (Some r) v = cond (is_readable r) (Number (with_decimals v r.decimals)) no_number
shown_by None v = no_number

-- "cut down to the nearest multiple of the step not above it; that is offered, and replied with `I`"
unfoldable pub offers : Message → Row → ℤ → Effect
offers m r n =
    record { said = Some (answer_to m Offered (Number (with_decimals (cut n r.step) r.decimals))); offer = held m.identifier (cut n r.step); store = None }

-- what an offer holds
abbrev pub value_on : Option Offer → ℤ
value_on (Some o) = o.value
value_on None = pos 0

-- a message that is accepted, by its type; r is its row. Type 1: "reply `A` with no data"; Type 2 `?`: "value and `A`"; `+` or `-`: "one step
-- up or down, new value and `A`"; Type 4: "it is stored and replied with `A`"
unfoldable pub granted : Message → Row → Option Offer → ℤ → Body → Effect
granted m r o v body.Status = says m Accepted Empty
granted m r o v body.Query = says m Accepted (Number (with_decimals v r.decimals))
granted m r o v body.Up = accepts m (raised v r.step) r.decimals
granted m r o v body.Down = accepts m (lowered v r.step) r.decimals
granted m r o v (body.Set x) = offers m r x.number
granted m r o v body.Store = accepts m (value_on o) r.decimals

-- ---- the scan. Document 02, ticket 1: "A card names five identifiers for it, in order, repeats allowed; a 20-digit form with four"

-- a card with a scan
abbrev pub has_scan : Setup → Bool
has_scan c = not (eqb c.count 0)

-- so many at most
abbrev pub most_named : ℕ
most_named = 5

-- the k-th identifier that a card names
abbrev pub named : Setup → ℕ → ℕ
named c k = get_or c.scan k 0

-- n of them, from the k-th on
unfoldable pub names_from : Setup → ℕ → ℕ → List ℕ
names_from c k zero = []
names_from c k (suc n) = named c k ∷ names_from c (suc k) n

-- the value of an identifier, with the decimals of its row: e gives the entry of each identifier, v the value
unfoldable pub value_of : (ℕ → Option Row) → (ℕ → ℤ) → ℕ → Decimal
value_of e v i = with_decimals (v i) (row_or_zeros (e i)).decimals

-- the values of the four identifiers that the card names, or of the five: a sound card that names some has no other count
unfoldable pub scan_of : Setup → (ℕ → Decimal) → Content
scan_of c x =
    cond (eqb c.count 4) (Four (x (named c 0)) (x (named c 1)) (x (named c 2)) (x (named c 3)))
    (Five (x (named c 0)) (x (named c 1)) (x (named c 2)) (x (named c 3)) (x (named c 4)))

-- ---- any message

-- how a message stands with a card: on `]` by the card's setup alone, on any other identifier by its entry. e gives the entry of each
-- identifier, and v the value stored at its place.
abbrev pub standing_with : Setup → Option Offer → (ℕ → Option Row) → (ℕ → ℤ) → Message → Standing
standing_with c o e v m =
    cond (eqb m.identifier scan_identifier) (on_bracket (has_scan c) m.body) (on_entry (e m.identifier) o (v m.identifier) m.identifier m.body)

-- its tests
abbrev pub causes_with : Setup → Option Offer → (ℕ → Option Row) → (ℕ → ℤ) → Message → List Check
causes_with c o e v m = causes c m (standing_with c o e v m)

-- what a cause leads to, where `N` shows x. For another card: "the real card takes no notice of traffic for another letter or address"; a
-- Type 4 without its offer: silence, offer gone; any other: `N`, offer gone
unfoldable pub turned_down : Option Offer → Message → Content → ℕ → Effect
turned_down o m x n = cond (eqb n (cause_code NotForThisCard)) (no_effect o) (cond (eqb n (cause_code NoOffer)) silent (says m Declined x))

-- a message is accepted exactly when it has no cause. On `]` it is then a Type 2 `?`, which "answers .. five five-digit values and `A*`", and
-- `N` has `00000` there
unfoldable pub respond : Setup → Option Offer → (ℕ → Option Row) → (ℕ → ℤ) → Message → Effect
respond c o e v m =
    let x : Option Row = e m.identifier in
    let z : ℤ = v m.identifier in
    let on_it : Bool = eqb m.identifier scan_identifier in
    decided (first (causes_with c o e v m)) (turned_down o m (cond on_it no_number (shown_by x z)))
    (cond on_it (says m Accepted (scan_of c (value_of e v))) (granted m (row_or_zeros x) o z m.body))

-- under these sheets and values
unfoldable pub act : List ℤ → List ℤ → Setup → Option Offer → List ℤ → Message → Effect
act bench maker c o values m = respond c o (entry_in bench maker) (λ (i : ℕ). get_or values i (pos 0)) m

-- and its tests
unfoldable pub causes_in : List ℤ → List ℤ → Setup → Option Offer → List ℤ → Message → List Check
causes_in bench maker c o values m = causes_with c o (entry_in bench maker) (λ (i : ℕ). get_or values i (pos 0)) m

-- the same setup of another revision; claims cite it, and no call
abbrev pub of_revision : ℕ → Setup → Setup
of_revision n c = record { letter = c.letter; address = c.address; count = c.count; scan = c.scan; revision = n }

-- ---- several messages

-- those of them that are for this card; a claim cites it, and no call
unfoldable pub ours : Setup → List Message → List Message
ours c [] = []
ours c (m ∷ ms) = cond (is_for c m) (m ∷ ours c ms) (ours c ms)
