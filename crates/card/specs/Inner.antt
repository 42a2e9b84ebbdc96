-- Definitions for what a run does with a closed message, here, in `trace` and in `bus`. No call of document 01 and no claim cites any of it.
use Rattle.std.specs.Prelude.{Bool, false, cond, List, ℕ, eqb, ℤ, length}
use Rattle.refusal.specs.Refusal.{Outcome, refused, gave}
use Rattle.refusal.specs.Buffer.{fits_at, placed}
use Rattle.refusal.specs.Check.{Check, first}
use Rattle.message.specs.declared.Message.{Message}
use Rattle.message.specs.Position.{position}
use Rattle.reply.specs.Reply.{scan_identifier}
use Rattle.act.specs.declared.Effect.{Effect}
use Rattle.act.specs.declared.causes.Cause.TheVariants.{NotWellFormed}
use Rattle.act.specs.Cause.{Why, why_of, because}
use Rattle.act.specs.Act.{no_effect}
use Rattle.card.specs.Turn.{reply_of, stored}
use Rattle.std.specs.Prelude.{None, Option, Some}
use Rattle.act.specs.declared.Offer.{Offer}

-- a message on `]`
unfoldable pub is_scan : Option Message → Bool
is_scan (Some m) = eqb m.identifier scan_identifier
is_scan None = false

-- what was closed, by what a message that is heard leads to
unfoldable pub effect_by : (Message → Effect) → Option Offer → Option Message → Effect
effect_by f o (Some m) = f m
effect_by f o None = no_effect o

-- why what was closed isn't accepted, by the tests of a message that is heard; cs are its characters
unfoldable pub why_by : (Message → List Check) → List ℕ → Option Message → Why
why_by f cs (Some m) = because (first (f m))
why_by f cs None = why_of (Some (NotWellFormed (position cs)))

-- what an effect comes to at a place of the buffer: the bytes of its reply or a refusal, the values and the buffer afterwards
pub record Settled : Type 0 where
  pub outcome : Outcome ℕ
  pub values : List ℤ
  pub buffer : List ℕ

-- said and stored where its reply fits, and otherwise nothing
unfoldable pub settles : Effect → List ℤ → ℕ → List ℕ → Settled
settles e values at out =
    cond (fits_at (reply_of e.said) at out)
    (record { outcome = gave (length (reply_of e.said)); values = stored values e.store; buffer = placed (reply_of e.said) at out })
    (record { outcome = refused 5; values = values; buffer = out })
