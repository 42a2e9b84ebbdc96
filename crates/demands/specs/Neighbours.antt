-- Document 02, ticket 2: "the real card takes no notice of traffic for another letter or address". The claim is about the calls `step`
-- and `run`, from any sound start, with a message open and an offer left or not.
use Rattle.std.specs.Prelude.{◌≡◌, true, false, List, ◌∷◌, ℕ, ◌≤◌, ℤ, length}
use Rattle.refusal.specs.Refusal.{gave}
use Rattle.wire.specs.Word.{valid_words}
use Rattle.number.specs.declared.Numeral.{Numeral}
use Rattle.message.specs.declared.Body.TheVariants.{Set}
use Rattle.message.specs.declared.Message.{Message}
use Rattle.hearing.specs.Hearing.{none, hear, heard_from}
use Rattle.hearing.specs.Normal.{words_of}
use Rattle.reply.specs.Reply.{longest_reply}
use Rattle.act.specs.declared.causes.Cause.TheVariants.{NotForThisCard}
use Rattle.act.specs.Cause.{why_of, is_for}
use Rattle.act.specs.Act.{ours}
use Rattle.card.specs.declared.Card.{Card}
use Rattle.card.specs.Calls.{bytes_of, step_call}
use Rattle.demands.specs.Terms.{Sound, replies}
use Rattle.demands.specs.Demand3.{PlayedAlike}
use Rattle.std.specs.Prelude.{Some}
use Rattle.act.specs.Act.{held}

-- the messages for this card among those heard in a recording, what the card has open going before it
abbrev pub ours_in : Card → List ℕ → List Message
ours_in c ws = ours c.setup (heard_from c.pending ws)

-- a recording with these alone, from the same start: a silence, which drops what is open, then each as the writer spells it
unfoldable pub only_ours : Card → List ℕ → List ℕ
only_ours c ws = 256 ∷ words_of (ours_in c ws)

pub record NeighboursIgnored : Type 0 where
  -- a word that closes a message for another card is served with silence, and all stays but the message it closed
  pub no_notice : (bench maker : List ℤ) (c : Card) (values : List ℤ) (w : ℕ) (out : List ℕ) (m : Message) → Sound bench maker c values → w ≤ 256 → longest_reply ≤ length out
      → (hear c.pending w).message ≡ Some m → is_for c.setup m ≡ false
      → step_call c bench maker values w out ≡ record { card = record { setup = c.setup; pending = none; offer = c.offer }; outcome = gave (record { bytes = 0; cause = why_of (Some NotForThisCard) }); values = values; buffer = out }
  -- "A message for this card still cancels as before.": what is on offer behind one is its own, of a Type 3 for that identifier
  pub still_cancels : (bench maker : List ℤ) (c : Card) (values : List ℤ) (w : ℕ) (out : List ℕ) (k : ℕ) (m : Message) (i : ℕ) (z : ℤ) → bytes_of (step_call c bench maker values w out).outcome ≡ gave k
      → (hear c.pending w).message ≡ Some m → is_for c.setup m ≡ true → (step_call c bench maker values w out).card.offer ≡ held i z → (x : Numeral) × (m.body ≡ Set x) × (m.identifier ≡ i)
  -- recordings with the same messages for this card, whatever else is heard in them, draw the same replies and leave the same values and offer
  pub ours_decide : (bench maker : List ℤ) (c : Card) (values : List ℤ) (ws xs out out' : List ℕ) → Sound bench maker c values → valid_words ws ≡ true → valid_words xs ≡ true → ours_in c ws ≡ ours_in c xs
      → length (replies bench maker c values ws) ≤ length out → length (replies bench maker c values xs) ≤ length out' → PlayedAlike bench maker c values ws xs out out'
  -- so does a recording in which nothing else is heard
  pub only_heard : (c : Card) (ws : List ℕ) → heard_from c.pending (only_ours c ws) ≡ ours_in c ws
  pub only_played : (bench maker : List ℤ) (c : Card) (values : List ℤ) (ws out out' : List ℕ) → Sound bench maker c values → valid_words ws ≡ true
      → length (replies bench maker c values ws) ≤ length out → length (replies bench maker c values (only_ours c ws)) ≤ length out' → PlayedAlike bench maker c values ws (only_ours c ws) out out'
