-- Why a word is answered with `N` or with silence. Document 02, ticket 4.
use Rattle.std.specs.Prelude.{List, ℕ, ℤ}
use Rattle.refusal.specs.Check.{first}
use Rattle.message.specs.Prefix.{parse}
use Rattle.message.specs.Position.{position}
use Rattle.hearing.specs.declared.Action.{Action}
use Rattle.hearing.specs.declared.Action.TheVariants.{Ignore, Open, Add, Close, Drop}
use Rattle.hearing.specs.Hearing.{open_of, action_of}
use Rattle.act.specs.declared.Setup.{Setup}
use Rattle.act.specs.declared.causes.Cause.TheVariants.{NoMessageClosed, NotWellFormed}
use Rattle.act.specs.Cause.{Why, why_of, because}
use Rattle.act.specs.Act.{causes_in}
use Rattle.card.specs.declared.Card.{Card}
use Rattle.std.specs.Prelude.{None, Option, Some}
use Rattle.act.specs.declared.Offer.{Offer}
use Rattle.message.specs.declared.Message.{Message}

-- a closed message with the characters cs before its `*`: "A closed message that isn't well formed gives the position in it"
unfoldable pub why_closed : List ℤ → List ℤ → Setup → Option Offer → List ℤ → List ℕ → Option Message → Why
why_closed bench maker s o values cs (Some m) = because (first (causes_in bench maker s o values m))
why_closed bench maker s o values cs None = why_of (Some (NotWellFormed (position cs)))

-- by what a word does to the open message: "no message closed by this word"
unfoldable pub why_after : List ℤ → List ℤ → Card → List ℤ → Action → Why
why_after bench maker c values Ignore = why_of (Some NoMessageClosed)
why_after bench maker c values (Open x) = why_of (Some NoMessageClosed)
why_after bench maker c values (Add x) = why_of (Some NoMessageClosed)
why_after bench maker c values Close =
    why_closed bench maker c.setup c.offer values (open_of c.pending) (parse (open_of c.pending))
why_after bench maker c values Drop = why_of (Some NoMessageClosed)

-- "the answer for a single word gives the first beside the reply"
unfoldable pub why_to : List ℤ → List ℤ → Card → List ℤ → ℕ → Why
why_to bench maker c values w = why_after bench maker c values (action_of c.pending w)
