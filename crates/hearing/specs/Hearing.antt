-- Hearing: what one word does to the open message, and the messages heard in a list of words.
use Rattle.std.specs.Prelude.{Bool, true, false, cond, List, [], ◌∷◌, ℕ, ◌+◌, ltb, eqb, take, set, replicate}
use Rattle.wire.specs.Word.{received}
use Rattle.message.specs.declared.Message.{Message}
use Rattle.message.specs.Message.{star, is_letter}
use Rattle.message.specs.Prefix.{parse}
use Rattle.hearing.specs.declared.Pending.{Pending}
use Rattle.hearing.specs.declared.Action.{Action}
use Rattle.hearing.specs.declared.Action.TheVariants.{Ignore, Open, Add, Close, Drop}
use Rattle.hearing.specs.declared.Hearing.{Hearing}
use Rattle.std.specs.Prelude.{None, Option, Some}

-- document 01: "A message holds at most 10 characters before `*`"
abbrev pub most : ℕ
most = 10

-- no message open. Document 01: "Room behind an open message's last character holds 0."
unfoldable pub none : Pending
none = record { chars = replicate most 0; len = 0 }

-- document 01: "an eleventh drops the message and is itself used up"
unfoldable pub added : Pending → ℕ → Pending
added p c = cond (ltb p.len most) (record { chars = set p.chars p.len c; len = p.len + 1 }) none

-- the characters of the open message
unfoldable pub open_of : Pending → List ℕ
open_of p = take p.len p.chars

-- document 01: "With no message open, a word other than `L` or `R` in good parity is dropped. `L` or `R` opens a message."
unfoldable pub opening : Option ℕ → Action
opening (Some c) = cond (is_letter c) (Open c) Ignore
opening None = Ignore

-- while one is open: "a byte in bad parity, or 256, drops the message"; "`*` closes it"; "any other byte is added, `L` and `R` too"
unfoldable pub continuing : Option ℕ → Action
continuing (Some c) = cond (eqb c star) Close (Add c)
continuing None = Drop

-- what a word does
unfoldable pub action_of : Pending → ℕ → Action
action_of p w = cond (eqb p.len 0) (opening (received w)) (continuing (received w))

-- document 01: "`*` closes it"
abbrev pub closes : Action → Bool
closes Ignore = false
closes (Open c) = false
closes (Add c) = false
closes Close = true
closes Drop = false

-- the open message afterwards, and the message heard, if any
unfoldable pub perform : Pending → Action → Hearing
perform p Ignore = record { pending = p; message = None }
perform p (Open c) = record { pending = added none c; message = None }
perform p (Add c) = record { pending = added p c; message = None }
perform p Close = record { pending = none; message = parse (open_of p) }
perform p Drop = record { pending = none; message = None }

unfoldable pub hear : Pending → ℕ → Hearing
hear p w = perform p (action_of p w)

-- ---- lists of words

unfoldable pub before : Option Message → List Message → List Message
before (Some m) ms = m ∷ ms
before None ms = ms

-- the messages heard when the words are taken in order, with p open before the first
unfoldable pub heard_from : Pending → List ℕ → List Message
heard_from p [] = []
heard_from p (w ∷ ws) = before (hear p w).message (heard_from (hear p w).pending ws)

-- the message open behind the last
unfoldable pub open_after : Pending → List ℕ → Pending
open_after p [] = p
open_after p (w ∷ ws) = open_after (hear p w).pending ws

-- document 01: "The messages heard in a recording are those heard when its words are taken in order, with none open before its
-- first word, whatever their letter and address."
unfoldable pub heard : List ℕ → List Message
heard ws = heard_from none ws
