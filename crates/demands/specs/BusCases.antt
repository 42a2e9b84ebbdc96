-- Document 02, ticket 6: many cards on one pair, by tables, as the bench cases are; a bench on which no claim is empty; and all claims together.
use Rattle.card.specs.declared.Took.{Took}
use Rattle.std.specs.Prelude.{◌≡◌, Bool, true, ◌&&◌, List, [], ◌∷◌, ◌++◌, map, ℕ, zero, suc, ◌*◌, ltb, eqb, ℤ, pos, length, get_or, take, drop, replicate}
use Prim.Native.Char.{code}
use Prim.Native.String.{String}
use Rattle.refusal.specs.Lists.{every, same}
use Rattle.refusal.specs.Refusal.{Outcome, refused, gave}
use Rattle.wire.specs.Text.{chars}
use Rattle.wire.specs.Word.{travelling, valid_words}
use Rattle.hearing.specs.Hearing.{none, added}
use Rattle.reply.specs.Reply.{longest_reply}
use Rattle.card.specs.declared.Card.{Card}
use Rattle.bus.specs.Bus.{joined}
use Rattle.bus.specs.Calls.{After, bus_call}
use Rattle.demands.specs.Bench.{bench_rows, bench_values, card_with, Exchange, ◌⇒◌, equal_z, took}
use Rattle.demands.specs.Demand3.{Wrote}
use Rattle.demands.specs.Bus.{SoundTogether, picked, EachAlone, ButFor, Isolated, BusDemand3, OnePair}
use Rattle.demands.specs.BusRows.{RowsKeep}
use Rattle.act.specs.Act.{held}

-- ---- tables

-- a card at another letter and address
unfoldable pub stands_at : ℕ → ℕ → Card → Card
stands_at l a c =
    record { setup = record { letter = l; address = a; count = c.setup.count; scan = c.setup.scan; revision = c.setup.revision }; pending = c.pending; offer = c.offer }

-- the card of the bench cases, `L7`, and beside it `R7` and `L8`
unfoldable pub three_cards : List Card
three_cards = card_with 1 "" ∷ stands_at (code "R") 7 (card_with 1 "") ∷ stands_at (code "L") 8 (card_with 1 "") ∷ []

-- each with the values of the bench cases, and these of m
unfoldable pub values_with : List ℤ → List ℤ
values_with ms = joined (map bench_values ms)

-- the run took so many words, and wrote this answer
unfoldable pub takes : After → ℕ → List ℕ → Bool
takes a words answer = took a.outcome words (length answer) && same eqb (take (length answer) a.buffer) answer

-- each exchange is a run over all cards, with room for three replies; and the last leaves these values
unfoldable pub all_answer : List Card → List ℤ → List Exchange → List ℤ → Bool
all_answer cs values [] last = same equal_z values last
all_answer cs values (x ∷ xs) last =
    let sent : List ℕ = travelling (chars x.sent) in
    let a : After = bus_call cs [] bench_rows values sent (replicate (3 * longest_reply) 0) in
    takes a (length sent) (travelling (chars x.answered)) && all_answer a.cards a.values xs last

-- a first run with room for so many bytes, of which so many words are taken; then exchanges, which meet the cards as that run left them. The
-- value of m is 20 at each card before, and these after.
pub record BusCase : Type 0 where
  pub sent : String
  pub room : ℕ
  pub taken : ℕ
  pub answered : String
  pub exchanges : List Exchange
  pub last : List ℤ

unfoldable pub passes_bus : BusCase → Bool
passes_bus x =
    let a : After = bus_call three_cards [] bench_rows (values_with (pos 20 ∷ pos 20 ∷ pos 20 ∷ [])) (travelling (chars x.sent)) (replicate x.room 0) in
    takes a x.taken (travelling (chars x.answered)) && all_answer a.cards a.values x.exchanges (values_with x.last)

unfoldable pub bus_case : String → ℕ → ℕ → String → List Exchange → List ℤ → BusCase
bus_case sent room taken answered xs last = record { sent = sent; room = room; taken = taken; answered = answered; exchanges = xs; last = last }

-- an offer at each, and each stored in another order; all three queried; cards that aren't there; and a word whose reply doesn't fit, which no
-- card takes: it is taken later, and before it the offer isn't there, nor the value stored
unfoldable pub bus_cases : List BusCase
unfolding bus_case ◌⇒◌
bus_cases =
    bus_case "L7m#00301*R7m#00401*L8m#00501*" 30 30 "L7m00301I*R7m00401I*L8m00501I*" ("R7mI*" ⇒ "R7m00401A*" ∷ "L8mI*" ⇒ "L8m00501A*" ∷ "L7mI*" ⇒ "L7m00301A*" ∷ []) (pos 30 ∷ pos 40 ∷ pos 50 ∷ [])
    ∷ bus_case "L7m#00301*R7m#00401*L8m#00501*" 30 30 "L7m00301I*R7m00401I*L8m00501I*" ("R7m?*" ⇒ "R7m00201A*" ∷ "R7mI*L8mI*L7mI*" ⇒ "L8m00501A*L7m00301A*" ∷ []) (pos 30 ∷ pos 20 ∷ pos 50 ∷ [])
    ∷ bus_case "L7m+*R7m-*" 20 10 "L7m00251A*R7m00151A*" ("L7m?*R7m?*L8m?*" ⇒ "L7m00251A*R7m00151A*L8m00201A*" ∷ []) (pos 25 ∷ pos 15 ∷ pos 20 ∷ [])
    ∷ bus_case "R8m#00301*R8mI*L9??*" 0 20 "" ("L8??*" ⇒ "L8?A*" ∷ []) (pos 20 ∷ pos 20 ∷ pos 20 ∷ [])
    ∷ bus_case "L7??*R7??*L8??*" 14 14 "L7?A*R7?A*" ("*" ⇒ "L8?A*" ∷ []) (pos 20 ∷ pos 20 ∷ pos 20 ∷ [])
    ∷ bus_case "L7m#00301*R7m#00401*" 19 19 "L7m00301I*" ("*" ⇒ "R7m00401I*" ∷ "R7mI*" ⇒ "R7m00401A*" ∷ "L7mI*" ⇒ "L7m00301A*" ∷ []) (pos 30 ∷ pos 40 ∷ pos 20 ∷ [])
    ∷ bus_case "L7m#00301*R7m#00401*" 19 19 "L7m00301I*" ("//R7mI*" ⇒ "" ∷ "L7mI*" ⇒ "L7m00301A*" ∷ []) (pos 30 ∷ pos 20 ∷ pos 20 ∷ [])
    ∷ bus_case "L7m+*R7m+*" 19 9 "L7m00251A*" [] (pos 25 ∷ pos 20 ∷ pos 20 ∷ [])
    ∷ []

-- of what the run writes, each of two cards has its own; these are their values of m
pub record PickCase : Type 0 where
  pub cards : List Card
  pub values : List ℤ
  pub sent : String
  pub answered : String
  pub first : String
  pub second : String

unfoldable pub picks : PickCase → Bool
picks x =
    let answer : List ℕ = travelling (chars x.answered) in
    let sent : List ℕ = travelling (chars x.sent) in
    let a : After = bus_call x.cards [] bench_rows (values_with x.values) sent (replicate (3 * longest_reply) 0) in
    let own : ℕ → List ℕ = λ k. picked (get_or x.cards k (card_with 1 "")).setup (take (length answer) a.buffer) in
    takes a (length sent) answer && same eqb (own 0) (travelling (chars x.first)) && same eqb (own 1) (travelling (chars x.second))

-- `L7` and `R7`; and two of one letter, `L7` and `L8`
unfoldable pub two_cards : List Card
two_cards = card_with 1 "" ∷ stands_at (code "R") 7 (card_with 1 "") ∷ []

unfoldable pub one_letter : List Card
one_letter = card_with 1 "" ∷ stands_at (code "L") 8 (card_with 1 "") ∷ []

unfoldable pub pick_cases : List PickCase
pick_cases =
    record { cards = two_cards; values = pos 20 ∷ pos 20 ∷ []; sent = "L7??*R7??*"; answered = "L7?A*R7?A*"; first = "L7?A*"; second = "R7?A*" }
    ∷ record { cards = two_cards; values = pos 20 ∷ pos 20 ∷ []; sent = "R7m?*L7M?*R7m+*"; answered = "R7m00201A*L7M02311A*R7m00251A*"; first = "L7M02311A*"; second = "R7m00201A*R7m00251A*" }
    ∷ record { cards = one_letter; values = pos 20 ∷ pos 20 ∷ []; sent = "L8??*L7m?*"; answered = "L8?A*L7m00201A*"; first = "L7m00201A*"; second = "L8?A*" }
    ∷ []

-- ---- number 8

-- the first n addresses of a letter, from the last on
unfoldable pub cards_up_to : ℕ → ℕ → List Card
cards_up_to l zero = []
cards_up_to l (suc n) = stands_at l (suc n) (card_with 1 "") ∷ cards_up_to l n

-- in the middle of a message
unfoldable pub half_open : Card → Card
half_open c = record { setup = c.setup; pending = added none (code "L"); offer = c.offer }

-- with this value on offer
unfoldable pub offering : ℕ → ℤ → Card → Card
offering i z c = record { setup = c.setup; pending = c.pending; offer = held i z }

-- each card with the values of the bench cases
unfoldable pub values_for : List Card → List ℤ
values_for cs = values_with (map (λ (c : Card). pos 20) cs)

-- the numbers that these get, with the bench's rows and with an unsound sheet; 0 where the call is served
pub record BusRefusal : Type 0 where
  pub cards : List Card
  pub values : List ℤ
  pub words : List ℕ
  pub number : ℕ
  pub unsound_sheet : ℕ

unfoldable pub refusal_with : List Card → List ℤ → List ℕ → ℕ → ℕ → BusRefusal
refusal_with cs values ws n k = record { cards = cs; values = values; words = ws; number = n; unsound_sheet = k }

-- with sound values and no words
unfoldable pub refusal : List Card → ℕ → ℕ → BusRefusal
unfolding refusal_with
refusal cs n k = refusal_with cs (values_for cs) [] n k

-- the number, 0 where it is served
unfoldable pub number_given : Outcome Took → ℕ
number_given (refused n) = n
number_given (gave t) = 0

unfoldable pub gives_both : BusRefusal → Bool
gives_both x =
    eqb (number_given (bus_call x.cards [] bench_rows x.values x.words []).outcome) x.number
    && eqb (number_given (bus_call x.cards [] (pos 0 ∷ []) x.values x.words []).outcome) x.unsound_sheet

-- the same card twice; a scan of three names; an offer for a row that can't be written
unfoldable pub two_alike : List Card
two_alike = card_with 1 "" ∷ card_with 1 "" ∷ []

unfoldable pub wrong_scan : Card
wrong_scan = card_with 1 "MJm"

unfoldable pub wrong_offer : Card
wrong_offer = offering (code "M") (pos 231) (card_with 1 "")

-- two cards alike, of another revision and with a scan too; more than 32; open messages that differ; 32 cards, and cards that all hold the
-- same open message, aren't refused. It "comes after 1 but before sheets, offers and scans"; behind them values one short, and a word above 256.
unfoldable pub bus_refusals : List BusRefusal
unfolding refusal
bus_refusals =
    refusal three_cards 0 2
    ∷ refusal (map half_open three_cards) 0 2
    ∷ refusal (cards_up_to (code "L") 32) 0 2
    ∷ refusal (card_with 1 "" ∷ three_cards) 8 8
    ∷ refusal (card_with 1 "" ∷ stands_at (code "R") 7 (card_with 1 "") ∷ card_with 2 "MJmM" ∷ []) 8 8
    ∷ refusal (cards_up_to (code "R") 1 ++ cards_up_to (code "L") 32) 8 8
    ∷ refusal (card_with 1 "" ∷ half_open (stands_at (code "R") 7 (card_with 1 "")) ∷ []) 8 8
    ∷ refusal (card_with 1 "" ∷ card_with 3 "" ∷ []) 1 1
    ∷ refusal (card_with 1 "" ∷ card_with 1 "" ∷ stands_at (code "L") 0 (card_with 1 "") ∷ []) 1 1
    ∷ refusal (card_with 1 "" ∷ wrong_scan ∷ []) 8 8
    ∷ refusal (card_with 1 "" ∷ wrong_offer ∷ []) 8 8
    ∷ refusal_with two_alike (drop 1 (values_for two_alike)) [] 8 8
    ∷ refusal (wrong_scan ∷ []) 1 2
    ∷ refusal (wrong_offer ∷ []) 1 2
    ∷ refusal_with (wrong_offer ∷ []) (drop 1 (bench_values (pos 20))) [] 1 2
    ∷ refusal_with (card_with 1 "" ∷ []) (drop 1 (bench_values (pos 20))) (257 ∷ []) 3 2
    ∷ refusal_with (card_with 1 "" ∷ []) (bench_values (pos 20)) (257 ∷ []) 4 2
    ∷ refusal_with [] (pos 0 ∷ []) [] 3 2
    ∷ refusal [] 0 2
    ∷ []

pub record BusTables : Type 0 where
  pub answered : every passes_bus bus_cases ≡ true
  pub own_replies : every picks pick_cases ≡ true
  pub refused : every gives_both bus_refusals ≡ true

-- ---- the claims are not empty

-- both with the m of the bench cases, and the first's altered
unfoldable pub both20 : List ℤ
both20 = values_with (pos 20 ∷ pos 20 ∷ [])

unfoldable pub first25 : List ℤ
first25 = values_with (pos 25 ∷ pos 20 ∷ [])

-- noise, leading zeros, and a message that a silence drops
unfoldable pub recorded : List ℕ
recorded = travelling (chars "xL07??*L7m") ++ (256 ∷ travelling (chars "R07??*"))

unfoldable pub its_form : List ℕ
its_form = travelling (chars "L7??*R7??*")

-- the words draw this answer from the two cards, with room for it
unfoldable pub draws : List ℕ → String → Bool
draws ws answer = takes (bus_call two_cards [] bench_rows both20 ws (replicate (3 * longest_reply) 0)) (length ws) (travelling (chars answer))

-- a bench of two cards that both reply, from which each claim says something
pub record NotEmpty : Type 0 where
  -- each for itself: the cards are sound together, and each has its reply
  pub sound : SoundTogether [] bench_rows two_cards both20
  pub words_valid : valid_words (travelling (chars "L7m?*R7m?*")) ≡ true
  pub own_replies : picks (record { cards = two_cards; values = pos 20 ∷ pos 20 ∷ []; sent = "L7m?*R7m?*"; answered = "L7m00201A*R7m00201A*"; first = "L7m00201A*"; second = "R7m00201A*" }) ≡ true
  -- one card's values altered, soundly: its own reply is another, the other card's is the same
  pub altered_sound : SoundTogether [] bench_rows two_cards first25
  pub altered : ButFor 0 (length two_cards) both20 first25
  pub altered_replies : picks (record { cards = two_cards; values = pos 25 ∷ pos 20 ∷ []; sent = "L7m?*R7m?*"; answered = "L7m00251A*R7m00201A*"; first = "L7m00251A*"; second = "R7m00201A*" }) ≡ true
  -- demand 3: no message open, and a recording that isn't its own normal form; both draw a reply of each card
  pub none_open : every (λ (c : Card). eqb c.pending.len 0) two_cards ≡ true
  pub wrote : Wrote recorded (replicate 10 0) its_form
  pub shorter : ltb (length its_form) (length recorded) ≡ true
  pub drawn : draws recorded "L7?A*R7?A*" ≡ true
  pub drawn_alike : draws its_form "L7?A*R7?A*" ≡ true

-- ---- all of them

pub record Bus : Type 0 where
  pub each_alone : EachAlone
  pub isolated : Isolated
  pub bus_demand_3 : BusDemand3
  pub one_pair : OnePair
  pub rows_keep : RowsKeep
  pub not_empty : NotEmpty
  pub bus_tables : BusTables
