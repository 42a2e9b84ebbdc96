-- Document 02, ticket 6: "One pair, one recording, many instruments". The claims are about the call `bus::run`, over lists of cards and whole
-- recordings. `BusRows` goes from the cards to the rows that the call is lent, `Demand1` has its refusals, and `BusCases` its tables.
use Rattle.card.specs.declared.Took.{Took}
use Rattle.std.specs.Prelude.{◌≡◌, ◌⊎◌, Bool, true, false, cond, ◌&&◌, List, [], ◌∷◌, ◌++◌, map, ℕ, ◌*◌, ◌≤◌, ◌<◌, eqb, ℤ, length, get_or, take, drop}
use Rattle.refusal.specs.Lists.{every}
use Rattle.refusal.specs.Refusal.{Outcome, refused, gave}
use Rattle.wire.specs.Word.{with_parity, valid_words}
use Rattle.message.specs.Message.{star}
use Rattle.sheet.specs.Sheet.{sound_sheet}
use Rattle.reply.specs.declared.Answer.{Answer}
use Rattle.reply.specs.Reply.{longest_reply}
use Rattle.reply.specs.Read.{read_call}
use Rattle.act.specs.declared.Setup.{Setup}
use Rattle.card.specs.declared.Card.{Card}
use Rattle.card.specs.Run.{Reaction}
use Rattle.card.specs.Turn.{Instrument}
use Rattle.card.specs.Refusals.{sound_card}
use Rattle.card.specs.Calls.{bytes_of, step_call, run_call}
use Rattle.bus.specs.Bus.{joined, instruments, hears_all}
use Rattle.bus.specs.Refusals.{sound_bus, fits_sheets, sound_parts}
use Rattle.bus.specs.Calls.{After, bus_call}
use Rattle.demands.specs.Terms.{replies}
use Rattle.demands.specs.Demand3.{Wrote}

-- numbers 1, 8, 2 and 3 don't hold
pub record SoundTogether (bench maker : List ℤ) (cs : List Card) (values : List ℤ) : Type 0 where
  pub cards_sound : every sound_card cs ≡ true
  pub bus_sound : sound_bus cs ≡ true
  pub sheets_sound : (sound_sheet bench && sound_sheet maker) ≡ true
  pub sheets_fit : every (fits_sheets bench maker) cs ≡ true
  pub values_sound : sound_parts bench maker (length cs) values ≡ true

-- the values of the k-th card
abbrev pub values_of : ℕ → List ℤ → List ℤ
values_of k values = take 128 (drop (k * 128) values)

-- all the replies together, whatever the room
unfoldable pub all_replies : List ℤ → List ℤ → List Instrument → List ℕ → List ℕ
all_replies bench maker is [] = []
all_replies bench maker is (w ∷ ws) =
    let r : Reaction (List Instrument) = hears_all bench maker is w in
    r.reply ++ all_replies bench maker r.state ws

-- of these cards with these values
abbrev pub replies_of : List ℤ → List ℤ → List Card → List ℤ → List ℕ → List ℕ
replies_of bench maker cs values ws = all_replies bench maker (instruments cs values) ws

-- ---- whose a reply is

-- one byte before the first of them
abbrev pub before_first : ℕ → List (List ℕ) → List (List ℕ)
before_first b [] = (b ∷ []) ∷ []
before_first b (xs ∷ xss) = (b ∷ xs) ∷ xss

-- bytes as replies: each goes up to a `*`
unfoldable pub replies_in : List ℕ → List (List ℕ)
replies_in [] = []
replies_in (b ∷ bs) = cond (eqb b (with_parity star)) ((b ∷ []) ∷ replies_in bs) (before_first b (replies_in bs))

-- the reader reads this letter and address in it
unfoldable pub spoken_by : Setup → List ℕ → Bool
spoken_by s bs = by (read_call bs)
  where
    by : Outcome Answer → Bool
    by (refused n) = false
    by (gave a) = eqb a.letter s.letter && eqb a.address s.address

unfoldable pub only_by : Setup → List (List ℕ) → List (List ℕ)
only_by s [] = []
only_by s (r ∷ rs) = cond (spoken_by s r) (r ∷ only_by s rs) (only_by s rs)

-- document 02: "each card's replies, picked out of the bench's"
abbrev pub picked : Setup → List ℕ → List ℕ
picked s bs = joined (only_by s (replies_in bs))

-- ---- each card for itself

-- the k-th card in the run of all, and in a run of its own over the same words; d stands behind the last card
module _ (bench maker : List ℤ) (cs : List Card) (values : List ℤ) (ws out own : List ℕ) (k : ℕ) (d : Card) where
  abbrev its : Card
  its = get_or cs k d

  abbrev its_replies : List ℕ
  its_replies = replies bench maker its (values_of k values) ws

  pub record Alone : Type 0 where
    pub takes_all : (run_call its bench maker (values_of k values) ws own).outcome ≡ gave (record { words = length ws; bytes = length its_replies })
    pub same_replies : picked its.setup (take (length (replies_of bench maker cs values ws)) (bus_call cs bench maker values ws out).buffer) ≡ take (length its_replies) (run_call its bench maker (values_of k values) ws own).buffer
    pub same_values : values_of k (bus_call cs bench maker values ws out).values ≡ (run_call its bench maker (values_of k values) ws own).values
    -- its offer, and the message that it holds open
    pub same_card : get_or (bus_call cs bench maker values ws out).cards k d ≡ (run_call its bench maker (values_of k values) ws own).card

-- "With room for every reply, each card's replies, picked out of the bench's, are what it alone would have given."
pub record EachAlone : Type 0 where
  pub takes_all : (bench maker : List ℤ) (cs : List Card) (values : List ℤ) (ws out : List ℕ) → SoundTogether bench maker cs values → valid_words ws ≡ true → length (replies_of bench maker cs values ws) ≤ length out
      → (bus_call cs bench maker values ws out).outcome ≡ gave (record { words = length ws; bytes = length (replies_of bench maker cs values ws) })
  pub alone : (bench maker : List ℤ) (cs : List Card) (values : List ℤ) (ws out own : List ℕ) (k : ℕ) (d : Card) → SoundTogether bench maker cs values → valid_words ws ≡ true → length (replies_of bench maker cs values ws) ≤ length out
      → k < length cs → length (replies bench maker (get_or cs k d) (values_of k values) ws) ≤ length own → Alone bench maker cs values ws out own k d

-- ---- no card by another's values

-- the same values but for the k-th card's
abbrev pub ButFor : ℕ → ℕ → List ℤ → List ℤ → Type 0
ButFor k n values values' = (j : ℕ) → j < n → (j ≡ k → ⊥) → values_of j values ≡ values_of j values'

module _ (bench maker : List ℤ) (cs : List Card) (values values' : List ℤ) (ws out : List ℕ) (k : ℕ) where
  abbrev one : After
  one = bus_call cs bench maker values ws out

  abbrev other : After
  other = bus_call cs bench maker values' ws out

  pub record Untouched : Type 0 where
    pub took : Took
    pub takes : one.outcome ≡ gave took
    pub other_takes : other.outcome ≡ gave took
    -- every card's offer, the k-th too
    pub same_cards : one.cards ≡ other.cards
    pub same_values : ButFor k (length cs) one.values other.values
    pub same_replies : (j : ℕ) (d : Card) → j < length cs → (j ≡ k → ⊥) → picked (get_or cs j d).setup (take took.bytes one.buffer) ≡ picked (get_or cs j d).setup (take took.bytes other.buffer)

-- "if one card's values are altered at will, soundly, no other card's replies or values change over any words": with any room, from any start
pub record Isolated : Type 0 where
  pub untouched : (bench maker : List ℤ) (cs : List Card) (values values' : List ℤ) (ws out : List ℕ) (k : ℕ) → SoundTogether bench maker cs values → SoundTogether bench maker cs values' → valid_words ws ≡ true
      → ButFor k (length cs) values values' → Untouched bench maker cs values values' ws out k

-- ---- demand 3

-- two runs, of the words ws and of the words xs, each with room for every reply
module _ (bench maker : List ℤ) (cs : List Card) (values : List ℤ) (ws xs out out' : List ℕ) where
  abbrev drawn : ℕ
  drawn = length (replies_of bench maker cs values ws)

  pub record AllAlike : Type 0 where
    pub takes_all : (bus_call cs bench maker values ws out).outcome ≡ gave (record { words = length ws; bytes = drawn })
    pub other_takes_all : (bus_call cs bench maker values xs out').outcome ≡ gave (record { words = length xs; bytes = drawn })
    pub same_replies : take drawn (bus_call cs bench maker values ws out).buffer ≡ take drawn (bus_call cs bench maker values xs out').buffer
    pub same_values : (bus_call cs bench maker values ws out).values ≡ (bus_call cs bench maker values xs out').values
    pub same_offers : map (λ (c : Card). c.offer) (bus_call cs bench maker values ws out).cards ≡ map (λ (c : Card). c.offer) (bus_call cs bench maker values xs out').cards

-- "Demand 3 then reads over the whole bench, for the values and offer of every card, wherever number 8 doesn't hold."
pub record BusDemand3 : Type 0 where
  pub played_alike : (ws out xs : List ℕ) → Wrote ws out xs → (bench maker : List ℤ) (cs : List Card) (values : List ℤ) (a b : List ℕ) → SoundTogether bench maker cs values → every (λ (c : Card). eqb c.pending.len 0) cs ≡ true
      → length (replies_of bench maker cs values ws) ≤ length a → length (replies_of bench maker cs values xs) ≤ length b → AllAlike bench maker cs values ws xs a b

-- ---- one pair

pub record OnePair : Type 0 where
  -- "at most one replies": of the single word's call at each card
  pub one_replies : (bench maker : List ℤ) (cs : List Card) (values : List ℤ) (w : ℕ) (out : List ℕ) (j k : ℕ) (d : Card) → SoundTogether bench maker cs values → w ≤ 256 → longest_reply ≤ length out
      → j < length cs → k < length cs → (j ≡ k → ⊥)
      → (bytes_of (step_call (get_or cs j d) bench maker (values_of j values) w out).outcome ≡ gave 0) ⊎ (bytes_of (step_call (get_or cs k d) bench maker (values_of k values) w out).outcome ≡ gave 0)
  -- what a run leaves is served again: "all hold the same open message"
  pub stays_sound : (bench maker : List ℤ) (cs : List Card) (values : List ℤ) (ws out : List ℕ) → SoundTogether bench maker cs values → valid_words ws ≡ true
      → SoundTogether bench maker (bus_call cs bench maker values ws out).cards (bus_call cs bench maker values ws out).values
  pub served : (bench maker : List ℤ) (cs : List Card) (values : List ℤ) (ws out : List ℕ) → SoundTogether bench maker cs values → valid_words ws ≡ true → (t : Took) × ((bus_call cs bench maker values ws out).outcome ≡ gave t)
  -- no card at all: every word taken, nothing written
  pub no_card : (bench maker : List ℤ) (ws out : List ℕ) → (sound_sheet bench && sound_sheet maker) ≡ true → valid_words ws ≡ true
      → bus_call [] bench maker [] ws out ≡ record { cards = []; outcome = gave (record { words = length ws; bytes = 0 }); values = []; buffer = out }
