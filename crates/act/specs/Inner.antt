-- Definitions for this crate's functions and for what a run does with a closed message (`card`); no call and no claim cites them: a message on `]` and on any other identifier by itself, and a message
-- by its type, with the tests that its type has. `proofs/Judged` shows that the list of tests comes to this.
use Rattle.std.specs.Prelude.{cond, ◌&&◌, List, ℕ, eqb, ℤ}
use Rattle.refusal.specs.Check.{Check, first, decided}
use Rattle.number.specs.declared.Numeral.{Numeral}
use Rattle.number.specs.Data.{with_decimals}
use Rattle.number.specs.Number.{in_range, raised, lowered}
use Rattle.message.specs.declared.Body.{Body}
use Rattle.message.specs.declared.Body.TheVariants as body
use Rattle.message.specs.declared.Message.{Message}
use Rattle.sheet.specs.declared.Row.{Row}
use Rattle.sheet.specs.Values.{is_readable, is_writable, is_read_write}
use Rattle.reply.specs.declared.Mark.TheVariants.{Accepted, Declined}
use Rattle.reply.specs.declared.Content.{Content}
use Rattle.reply.specs.declared.Content.TheVariants.{Empty, Number}
use Rattle.act.specs.declared.Setup.{Setup}
use Rattle.act.specs.declared.Effect.{Effect}
use Rattle.act.specs.Cause.{row_or_zeros, on_entry, on_bracket, is_for, takes_zero, causes}
use Rattle.act.specs.Act.{no_effect, silent, no_number, says, accepts, shown_by, offers, granted, has_scan, value_of, scan_of, turned_down}
use Rattle.std.specs.Prelude.{None, Option, Some}
use Rattle.act.specs.declared.Offer.{Offer}

-- `N`, offer gone
unfoldable pub declines : Message → Option Row → ℤ → Effect
declines m e v = says m Declined (shown_by e v)

-- Type 2 `?`: "value and `A` if the row exists and isn't write only, otherwise `N`"
unfoldable pub query : Message → Option Row → ℤ → Effect
query m (Some r) v = cond (is_readable r) (says m Accepted (Number (with_decimals v r.decimals))) (declines m (Some r) v)
query m None v = declines m None v

-- Type 2 `+` or `-`: "one step up or down, new value and `A`, if the row is read and write and the result is in range"
unfoldable pub moves : Message → Row → ℤ → ℤ → Effect
moves m r v z = cond (is_read_write r && in_range r.least z r.greatest) (accepts m z r.decimals) (declines m (Some r) v)

-- `+`
unfoldable pub up : Message → Option Row → ℤ → Effect
up m (Some r) v = moves m r v (raised v r.step)
up m None v = declines m None v

-- `-`
unfoldable pub down : Message → Option Row → ℤ → Effect
down m (Some r) v = moves m r v (lowered v r.step)
down m None v = declines m None v

-- a step to z, where there is a row
unfoldable pub moved : Message → Option Row → ℤ → ℤ → Effect
moved m (Some r) v z = moves m r v z
moved m None v z = declines m None v

-- Type 3: "accepted if the row exists, isn't read only, the decimals equal the row's, and the number is in range"
-- ticket 5: "the second answers a Type 3 of minus zero with `N`"
unfoldable pub set_to : Setup → Message → Option Row → ℤ → Numeral → Effect
set_to c m (Some r) v x =
    cond (is_writable r && eqb x.decimals r.decimals && takes_zero c (body.Set x) && in_range r.least x.number r.greatest)
    (offers m r x.number) (declines m (Some r) v)
set_to c m None v x = declines m None v

-- Type 4: "if the offer is for this identifier, it is stored and replied with `A`. If not, silence."
unfoldable pub store : Message → Option Row → Option Offer → Effect
store m e (Some o) = cond (eqb o.identifier m.identifier) (accepts m o.value (row_or_zeros e).decimals) silent
store m e None = silent

-- a message for this card, by its type; Type 1: "reply `A` with no data"
unfoldable pub serve : Setup → Message → Option Row → Option Offer → ℤ → Body → Effect
serve c m e o v body.Status = says m Accepted Empty
serve c m e o v body.Query = query m e v
serve c m e o v body.Up = up m e v
serve c m e o v body.Down = down m e v
serve c m e o v (body.Set x) = set_to c m e v x
serve c m e o v body.Store = store m e o

-- "Otherwise a Type 2 or 3 on `]` is `N` with `00000`"
unfoldable pub declines_scan : Message → Effect
declines_scan m = says m Declined no_number

-- a message on `]`: "a Type 2 `?` on `]` answers .. five five-digit values and `A*`", where the card names some; "and a Type 4 is silence".
-- Type 1 is never on `]`.
unfoldable pub serve_scan : Setup → Message → Content → Body → Effect
serve_scan c m x body.Status = declines_scan m
serve_scan c m x body.Query = cond (eqb c.count 0) (declines_scan m) (says m Accepted x)
serve_scan c m x body.Up = declines_scan m
serve_scan c m x body.Down = declines_scan m
serve_scan c m x (body.Set y) = declines_scan m
serve_scan c m x body.Store = silent

-- document 02, ticket 2: "the real card takes no notice of traffic for another letter or address"
unfoldable pub addressed : Setup → Option Offer → Message → Effect → Effect
addressed c o m x = cond (is_for c m) x (no_effect o)

-- ---- by the list of tests, on `]` and on any other identifier

abbrev pub scan_causes : Setup → Message → List Check
scan_causes c m = causes c m (on_bracket (has_scan c) m.body)

abbrev pub row_causes : Setup → Option Offer → (ℕ → Option Row) → (ℕ → ℤ) → Message → List Check
row_causes c o e v m = causes c m (on_entry (e m.identifier) o (v m.identifier) m.identifier m.body)

unfoldable pub on_scan : Setup → Option Offer → (ℕ → Option Row) → (ℕ → ℤ) → Message → Effect
on_scan c o e v m = decided (first (scan_causes c m)) (turned_down o m no_number) (says m Accepted (scan_of c (value_of e v)))

unfoldable pub on_row : Setup → Option Offer → (ℕ → Option Row) → (ℕ → ℤ) → Message → Effect
on_row c o e v m =
    let x : Option Row = e m.identifier in
    let z : ℤ = v m.identifier in
    decided (first (row_causes c o e v m)) (turned_down o m (shown_by x z)) (granted m (row_or_zeros x) o z m.body)
