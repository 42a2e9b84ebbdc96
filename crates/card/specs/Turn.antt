-- What a word does to a card, and to an instrument: a card with its values.
use Rattle.std.specs.Prelude.{List, [], ℕ, ℤ, set}
use Rattle.wire.specs.Word.{travelling}
use Rattle.hearing.specs.declared.Pending.{Pending}
use Rattle.hearing.specs.Hearing.{hear}
use Rattle.reply.specs.Reply.{spell_answer}
use Rattle.act.specs.declared.Setup.{Setup}
use Rattle.card.specs.declared.Card.{Card}
use Rattle.act.specs.declared.Effect.{Effect}
use Rattle.act.specs.Act.{no_effect, act}
use Rattle.card.specs.Run.{Reaction, Played, playing}
use Rattle.std.specs.Prelude.{None, Option, Some}
use Rattle.act.specs.declared.Offer.{Offer}
use Rattle.act.specs.declared.Store.{Store}
use Rattle.message.specs.declared.Message.{Message}
use Rattle.reply.specs.declared.Answer.{Answer}

-- ---- one word

-- what a word leads to: the card afterwards, the reply's bytes, and what is stored
pub record Turn : Type 0 where
  pub card : Card
  pub reply : List ℕ
  pub store : Option Store

-- the reply as it travels; silence has no bytes
abbrev pub reply_of : Option Answer → List ℕ
reply_of None = []
reply_of (Some a) = travelling (spell_answer a)

-- document 01: "Anything not well formed is unheard: no answer, no effect"
unfoldable pub effect_of : List ℤ → List ℤ → Setup → Option Offer → List ℤ → Option Message → Effect
effect_of bench maker s o values (Some m) = act bench maker s o values m
effect_of bench maker s o values None = no_effect o

-- the card with another open message and offer
abbrev pub with_both : Card → Pending → Option Offer → Card
with_both c p o = record { setup = c.setup; pending = p; offer = o }

unfoldable pub turned : Card → Pending → Effect → Turn
turned c p e = record { card = with_both c p e.offer; reply = reply_of e.said; store = e.store }

-- the card after a word, its reply, and what is stored: the word is heard, and what it has closed is acted on
unfoldable pub turn : List ℤ → List ℤ → Card → List ℤ → ℕ → Turn
turn bench maker c values w =
    turned c (hear c.pending w).pending (effect_of bench maker c.setup c.offer values (hear c.pending w).message)

-- the values after a store
unfoldable pub stored : List ℤ → Option Store → List ℤ
stored values None = values
stored values (Some s) = set values s.place s.value

-- ---- a run

-- an instrument on the pair: its card and its values
pub record Instrument : Type 0 where
  pub card : Card
  pub values : List ℤ

-- a word to it: its own turn
abbrev pub hears : List ℤ → List ℤ → Instrument → ℕ → Reaction Instrument
hears bench maker i w =
    let t : Turn = turn bench maker i.card i.values w in
    record { state = record { card = t.card; values = stored i.values t.store }; reply = t.reply }

abbrev pub play : List ℤ → List ℤ → Card → List ℤ → ℕ → List ℕ → Played Instrument
play bench maker c values room ws = playing (hears bench maker) (record { card = c; values = values }) room ws
