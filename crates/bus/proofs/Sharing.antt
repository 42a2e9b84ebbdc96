-- A run over the cards of a pair: the call by its tests, which cards are apart, and where each stands after a word and after all words. The
-- cards stay apart, and all hold one open message. Assumes nothing.
use mathlib.Core.Path.{◌≡◌, refl, sym, ap, ap₂, ◌∙◌}
use mathlib.Core.Bool.{true, false, not, ◌&&◌, false≢true}
use mathlib.Core.List.{List, [], ◌∷◌, map}
use Prim.Native.Nat.{ℕ, zero, suc, ◌-◌, ◌≤◌, ◌<◌}
use native.Mathlib.Omega.{arith}
use borrow.Author.Tests.{eqb-true, eq-eqb}
use lib.Dec.{leb, eqb}
use lib.IntN.{ℤ}
use lib.ListN.{length, get_or, length-map, get_or-map}
use Rattle.refusal.specs.Lists.{every}
use Rattle.refusal.specs.Refusal.{Outcome, refused, gave}
use Rattle.refusal.specs.Check.{first, decided}
use Rattle.refusal.proofs.Logic.{ands, and_both, not_is, by-test, choice}
use Rattle.refusal.proofs.Buffers.{laid_nothing}
use Rattle.refusal.proofs.Lists.{every_at, same_is, is_same}
use Rattle.wire.specs.Word.{valid_words}
use Rattle.message.specs.declared.Message.{Message}
use Rattle.hearing.specs.declared.Pending.{Pending}
use Rattle.hearing.specs.Hearing.{none, hear, heard_from, open_after}
use Rattle.hearing.specs.Normal.{normal}
use Rattle.sheet.specs.Sheet.{sound_sheet}
use Rattle.act.specs.declared.Setup.{Setup}
use Rattle.act.specs.Cause.{is_for}
use Rattle.act.proofs.OnOffer.{for_parts}
use Rattle.card.specs.declared.Card.{Card}
use Rattle.card.specs.Run.{Reaction, Played, after, playing}
use Rattle.card.specs.Turn.{Instrument, hears}
use Rattle.card.specs.Refusals.{sound_card}
use Rattle.card.proofs.Turns.{turn_card}
use Rattle.card.proofs.Runs.{play_end, play_word, all, all_end, all_word, run_all}
use Rattle.card.proofs.Plays.{same_heard, obey_one, obey, obeyed, holding}
use Rattle.bus.specs.Bus.{joined, instruments, cards_in, values_in, hears_all}
use Rattle.bus.specs.Refusals.{most_cards, alike, apart, same_open, together, sound_bus, fits_sheets, sound_parts, bus_checks}
use Rattle.bus.specs.Calls.{After, kept, ended, bus_call}
use Rattle.bus.specs.Rows.{cards_of, is_rows, rows_checks, RowsAfter, in_rows, rows_call}
use Rattle.bus.proofs.Hearing.{holding_all, each_hears, no_one_hears, does_all, all_obey}
use Rattle.std.specs.Prelude.{Option}
use Rattle.act.specs.declared.Offer.{Offer}

-- ---- the call

module _ (cs : List Card) (bench maker values : List ℤ) (ws : List ℕ) where
  pub bus_sound_passes : every sound_card cs ≡ true → sound_bus cs ≡ true → (sound_sheet bench && sound_sheet maker) ≡ true → every (fits_sheets bench maker) cs ≡ true
      → sound_parts bench maker (length cs) values ≡ true → valid_words ws ≡ true → first (bus_checks cs bench maker values ws) ≡ gave tt
  unfolding bus_checks first
  bus_sound_passes p q r f s v = rw (p, q, r, f, s, v)

  module _ (out : List ℕ) where
    -- all that is played
    abbrev pub plays : Played (List Instrument)
    plays = playing (hears_all bench maker) (instruments cs values) (length out) ws

    -- by the first of its tests that holds
    pub bus_is : bus_call cs bench maker values ws out ≡ decided (first (bus_checks cs bench maker values ws)) (kept cs values out) (ended plays out)
    unfolding bus_call
    bus_is = refl

    pub bus_refused : (n : ℕ) → first (bus_checks cs bench maker values ws) ≡ refused n → bus_call cs bench maker values ws out ≡ kept cs values out n
    bus_refused n e = bus_is ∙ rw e

    pub bus_served : first (bus_checks cs bench maker values ws) ≡ gave tt → bus_call cs bench maker values ws out ≡ ended plays out
    bus_served e = bus_is ∙ rw e

    -- with room for every reply
    pub bus_all : first (bus_checks cs bench maker values ws) ≡ gave tt → let p = all (hears_all bench maker) (instruments cs values) ws in length p.bytes ≤ length out → bus_call cs bench maker values ws out ≡ ended p out
    bus_all e h = bus_served e ∙ ap (λ (p : Played (List Instrument)). ended p out) (run_all (hears_all bench maker) (instruments cs values) (length out) ws h)

-- ---- over rows

abbrev pub rows_kept : List ℤ → List ℤ → List ℕ → ℕ → RowsAfter
rows_kept numbers values out n = record { numbers = numbers; outcome = refused n; values = values; buffer = out }

module _ (numbers bench maker values : List ℤ) (ws out : List ℕ) where
  abbrev pub rows_ended : RowsAfter
  rows_ended = in_rows numbers (ended (plays (cards_of numbers) bench maker values ws out) out)

  in-rows : (o : Outcome (Unit {0})) (a : After) → in_rows numbers (decided o (kept (cards_of numbers) values out) a) ≡ decided o (rows_kept numbers values out) (in_rows numbers a)
  in-rows (refused n) a = refl
  in-rows (gave x) a = refl

  pub rows_is : rows_call numbers bench maker values ws out ≡ decided (first (rows_checks numbers bench maker values ws)) (rows_kept numbers values out) rows_ended
  unfolding rows_call rows_checks first
  rows_is =
      let cs = cards_of numbers in
      by-test (is_rows numbers)
      (λ t. rw t (rw (bus_is cs bench maker values ws out) (in-rows (first (bus_checks cs bench maker values ws)) (ended (plays cs bench maker values ws out) out))))
      (λ t. rw t)

-- ---- cards that are apart

pub alike_parts : (s t : Setup) → alike s t ≡ true → (s.letter ≡ t.letter) × (s.address ≡ t.address)
unfolding alike
alike_parts s t e = (eqb-true s.letter t.letter (search ands), eqb-true s.address t.address (search ands))

pub parts_alike : (s t : Setup) → s.letter ≡ t.letter → s.address ≡ t.address → alike s t ≡ true
unfolding alike
parts_alike s t p q = and_both (eq-eqb s.letter t.letter p) (eq-eqb s.address t.address q)

alike_swapped : (s t : Setup) → alike s t ≡ false → alike t s ≡ false
alike_swapped s t a = by-test (alike t s) (λ f. let x = alike_parts t s f in absurd (false≢true (sym a ∙ parts_alike s t (sym x.0) (sym x.1)))) (λ f. f)

-- a message is for one of them at most
pub not_both : (s t : Setup) (m : Message) → alike s t ≡ false → is_for s m ≡ true → is_for t m ≡ false
not_both s t m a e =
    by-test (is_for t m)
    (λ f.
    let x = for_parts m s e in
    let y = for_parts m t f in
    absurd (false≢true (sym a ∙ parts_alike s t (sym x.0 ∙ y.0) (sym x.1 ∙ y.1))))
    (λ f. f)

pub apart_at : (ss : List Setup) (d : Setup) (j k : ℕ) → apart ss ≡ true → j < length ss → k < length ss → (j ≡ k → ⊥) → alike (get_or ss j d) (get_or ss k d) ≡ false
unfolding apart
apart_at [] d j k e l h n = absurd (omega arith)
apart_at (s ∷ ss) d zero zero e l h n = absurd (n refl)
apart_at (s ∷ ss) d zero (suc k) e l h n = not_is (every_at (λ (t : Setup). not (alike s t)) d ss k (search ands) (omega arith))
apart_at (s ∷ ss) d (suc j) zero e l h n = alike_swapped s (get_or ss j d) (not_is (every_at (λ (t : Setup). not (alike s t)) d ss j (search ands) (omega arith)))
apart_at (s ∷ ss) d (suc j) (suc k) e l h n = apart_at ss d j k (search ands) (omega arith) (omega arith) (λ q. n (ap suc q))

-- ---- one open message for all

pub same-open : (p q : Pending) → same_open p q ≡ true → p ≡ q
unfolding same_open
same-open p q e =
    let c = same_is eqb eqb-true p.chars q.chars (search ands) in
    let l = eqb-true p.len q.len (search ands) in
    λ j. record { chars = c j; len = l j }

pub open_same : (p : Pending) → same_open p p ≡ true
unfolding same_open
open_same p = and_both (eq-eqb p.len p.len refl) (is_same eqb (λ n. eq-eqb n n refl) p.chars)

abbrev pub setups_in : List Card → List Setup
setups_in cs = map (λ (c : Card). c.setup) cs

abbrev pendings_in : List Card → List Pending
pendings_in cs = map (λ (c : Card). c.pending) cs

-- the first card's, or none
abbrev pub open_in : List Instrument → Pending
open_in [] = none
open_in (i ∷ is) = i.card.pending

hold_each : (p : Pending) (is : List Instrument) → every (same_open p) (pendings_in (cards_in is)) ≡ true → is ≡ holding_all is p
unfolding every
hold_each p [] e = refl
hold_each p (i ∷ is) e =
    let q = same-open p i.card.pending (search ands) in
    let r = hold_each p is (search ands) in
    λ j. holding i (sym q j) ∷ r j

hold_one : (is : List Instrument) → together (pendings_in (cards_in is)) ≡ true → is ≡ holding_all is (open_in is)
unfolding together
hold_one [] e = refl
hold_one (i ∷ is) e = ap (λ (l : List Instrument). i ∷ l) (hold_each i.card.pending is e)

one_held : (is : List Instrument) (p : Pending) → together (pendings_in (cards_in (holding_all is p))) ≡ true
unfolding together every
one_held [] p = refl
one_held (i ∷ is) p = each is
  where
    each : (is : List Instrument) → every (same_open p) (pendings_in (cards_in (holding_all is p))) ≡ true
    each [] = refl
    each (i ∷ is) = and_both (open_same p) (each is)

-- of cards that can share a pair
pub all_hold : (is : List Instrument) → sound_bus (cards_in is) ≡ true → is ≡ holding_all is (open_in is)
unfolding sound_bus
all_hold is e = hold_one is (search ands)

-- the k-th too
pub open_at : (is : List Instrument) → sound_bus (cards_in is) ≡ true → (k : ℕ) (d : Instrument) → k < length is → (get_or is k d).card.pending ≡ open_in is
open_at is e k d l = ap (λ (x : List Instrument). (get_or x k d).card.pending) (all_hold is e) ∙ held is k l
  where
    held : {p : Pending} (is : List Instrument) (k : ℕ) → k < length is → (get_or (holding_all is p) k d).card.pending ≡ p
    held [] k l = absurd (omega arith)
    held (i ∷ is) zero l = refl
    held (i ∷ is) (suc k) l = held is k (omega arith)

pub bus_apart : (cs : List Card) → sound_bus cs ≡ true → apart (setups_in cs) ≡ true
unfolding sound_bus
bus_apart cs e = search ands

-- no two of them are alike
pub cards_apart : (cs : List Card) (d : Card) (j k : ℕ) → sound_bus cs ≡ true → j < length cs → k < length cs → (j ≡ k → ⊥) → alike (get_or cs j d).setup (get_or cs k d).setup ≡ false
cards_apart cs d j k e l h n =
    let at : (i : ℕ) → get_or (setups_in cs) i d.setup ≡ (get_or cs i d).setup = λ i. get_or-map (λ (c : Card). c.setup) cs i d in
    let many = length-map cs (λ (c : Card). c.setup) in
    rw (← at j, ← at k) (apart_at (setups_in cs) d.setup j k (bus_apart cs e) (omega arith) (omega arith) n)

-- with their values too
pub others_apart : (is : List Instrument) (d : Instrument) (j k : ℕ) → sound_bus (cards_in is) ≡ true → j < length is → k < length is → (j ≡ k → ⊥) → alike (get_or is j d).card.setup (get_or is k d).card.setup ≡ false
others_apart is d j k e l h n =
    let at : (i : ℕ) → get_or (cards_in is) i d.card ≡ (get_or is i d).card = λ i. get_or-map (λ (i : Instrument). i.card) is i d in
    let many = length-map is (λ (i : Instrument). i.card) in
    rw (← at j, ← at k) (cards_apart (cards_in is) d.card j k e (omega arith) (omega arith) n)

-- none is open, if none is at any card
pub all_closed : (is : List Instrument) → every (λ (c : Card). eqb c.pending.len 0) (cards_in is) ≡ true → (open_in is).len ≡ 0
unfolding every none
all_closed [] e = refl
all_closed (i ∷ is) e = eqb-true i.card.pending.len 0 (search ands)

-- ---- a word

module _ (bench maker : List ℤ) where
  pub setups_stay : (is : List Instrument) (w : ℕ) → setups_in (cards_in (hears_all bench maker is w).state) ≡ setups_in (cards_in is)
  setups_stay [] w = rw (no_one_hears bench maker w)
  setups_stay (i ∷ is) w =
      rw (each_hears bench maker i is w)
      (ap₂ ◌∷◌ (ap (λ (c : Card). c.setup) (turn_card bench maker i.card i.values w)) (setups_stay is w))

  stays_held : (is : List Instrument) (w : ℕ) → sound_bus (cards_in is) ≡ true → together (pendings_in (cards_in (hears_all bench maker is w).state)) ≡ true
  stays_held is w e = rw (all_hold is e, all_obey bench maker is (open_in is) w) (one_held (obey_one (does_all bench maker) is (hear (open_in is) w).message).state (hear (open_in is) w).pending)

  pub bus_stays : (is : List Instrument) (w : ℕ) → sound_bus (cards_in is) ≡ true → sound_bus (cards_in (hears_all bench maker is w).state) ≡ true
  unfolding sound_bus
  bus_stays is w e =
      let cs = cards_in (hears_all bench maker is w).state in
      let many : length cs ≡ length (cards_in is) = sym (length-map cs (λ (c : Card). c.setup)) ∙ ap length (setups_stay is w) ∙ length-map (cards_in is) (λ (c : Card). c.setup) in
      let few : leb (length cs) most_cards ≡ true = rw many (search ands) in
      let separate : apart (setups_in cs) ≡ true = rw (setups_stay is w) (search ands) in
      and_both (and_both few separate) (stays_held is w e)

  pub hears_count : (is : List Instrument) (w : ℕ) → length (hears_all bench maker is w).state ≡ length is
  hears_count [] w = ap (λ (r : Reaction (List Instrument)). length r.state) (no_one_hears bench maker w)
  hears_count (i ∷ is) w = ap (λ (r : Reaction (List Instrument)). length r.state) (each_hears bench maker i is w) ∙ ap suc (hears_count is w)

  -- each takes its own turn
  pub hears_at : (is : List Instrument) (w k : ℕ) (d : Instrument) → k < length is → get_or (hears_all bench maker is w).state k d ≡ (hears bench maker (get_or is k d) w).state
  hears_at [] w k d l = absurd (omega arith)
  hears_at (i ∷ is) w zero d l = ap (λ (r : Reaction (List Instrument)). get_or r.state 0 d) (each_hears bench maker i is w)
  hears_at (i ∷ is) w (suc k) d l = ap (λ (r : Reaction (List Instrument)). get_or r.state (suc k) d) (each_hears bench maker i is w) ∙ hears_at is w k d (omega arith)

  -- so after all words
  pub run_count : (is : List Instrument) (ws : List ℕ) → length (all (hears_all bench maker) is ws).state ≡ length is
  run_count is [] = rw (all_end (hears_all bench maker) is)
  run_count is (w ∷ ws) = rw (all_word (hears_all bench maker) is w ws) (run_count (hears_all bench maker is w).state ws ∙ hears_count is w)

  pub run_at : (is : List Instrument) (ws : List ℕ) (k : ℕ) (d : Instrument) → k < length is → get_or (all (hears_all bench maker) is ws).state k d ≡ (all (hears bench maker) (get_or is k d) ws).state
  run_at is [] k d l = rw (all_end (hears_all bench maker) is, all_end (hears bench maker) (get_or is k d)) refl
  run_at is (w ∷ ws) k d l =
      rw (all_word (hears_all bench maker) is w ws, all_word (hears bench maker) (get_or is k d) w ws)
      (run_at (hears_all bench maker is w).state ws k d (omega (arith, hears_count is w))
      ∙ ap (λ (i : Instrument). (all (hears bench maker) i ws).state) (hears_at is w k d l))

  -- without a card no word does anything
  pub no_one_plays : (ws : List ℕ) → all (hears_all bench maker) [] ws ≡ record { state = []; bytes = []; taken = length ws }
  no_one_plays [] = all_end (hears_all bench maker) []
  no_one_plays (w ∷ ws) =
      all_word (hears_all bench maker) [] w ws
      ∙ ap (λ (r : Reaction (List Instrument)). after r.reply (all (hears_all bench maker) r.state ws)) (no_one_hears bench maker w)
      ∙ ap (after []) (no_one_plays ws)

-- a run keeps what every word keeps
pub play_keeps : {S : Type 0} (f : S → ℕ → Reaction S) (P : S → Type 0) → ((s : S) (w : ℕ) → P s → P (f s w).state) → (s : S) (room : ℕ) (ws : List ℕ) → P s → P (playing f s room ws).state
play_keeps f P h s room [] p = rw (play_end f s room) p
play_keeps {S} f P h s room (w ∷ ws) p =
    rw (play_word f s room w ws)
    (choice (λ (q : Played S). P q.state) (leb (length (f s w).reply) room) (λ t. play_keeps f P h (f s w).state (room - length (f s w).reply) ws (h s w p)) (λ t. p))

-- ---- no card at all

pub no_cards : sound_bus [] ≡ true
unfolding sound_bus apart together
no_cards = refl

-- without a card every word is taken, and nothing is written
pub no_card_ends : (bench maker : List ℤ) (ws out : List ℕ) → let p = all (hears_all bench maker) (instruments [] []) ws in
    (length p.bytes ≡ 0) × (ended p out ≡ record { cards = []; outcome = gave (record { words = length ws; bytes = 0 }); values = []; buffer = out })
unfolding instruments joined
no_card_ends bench maker ws out =
    let e = no_one_plays bench maker ws in (
      ap (λ (p : Played (List Instrument)). length p.bytes) e,
      ap (λ (p : Played (List Instrument)). ended p out) e ∙ (λ j. record { cards = []; outcome = gave (record { words = length ws; bytes = 0 }); values = []; buffer = laid_nothing out j }),
    )

-- ---- what a recording leaves

-- but for the open message
pub record Left : Type 0 where
  pub offers : List (Option Offer)
  pub values : List ℤ
  pub bytes : List ℕ

abbrev pub left_in : List Instrument → List ℕ → Left
left_in is bs = record { offers = map (λ (c : Card). c.offer) (cards_in is); values = values_in is; bytes = bs }

held_left : (is : List Instrument) (q : Pending) (bs : List ℕ) → left_in (holding_all is q) bs ≡ left_in is bs
held_left is q bs = λ j. record { offers = offers is j; values = joined (values is j); bytes = bs }
  where
    offers : (is : List Instrument) → map (λ (c : Card). c.offer) (cards_in (holding_all is q)) ≡ map (λ (c : Card). c.offer) (cards_in is)
    offers [] = refl
    offers (i ∷ is) = ap (λ (l : List (Option Offer)). i.card.offer ∷ l) (offers is)

    values : (is : List Instrument) → map (λ (i : Instrument). i.values) (holding_all is q) ≡ map (λ (i : Instrument). i.values) is
    values [] = refl
    values (i ∷ is) = ap (λ (l : List (List ℤ)). i.values ∷ l) (values is)

module _ (bench maker : List ℤ) (is : List Instrument) where
  -- what they obey, they leave
  left_obeyed : is ≡ holding_all is (open_in is) → (ws : List ℕ) → let p = all (hears_all bench maker) is ws in let r = obey (does_all bench maker) is (heard_from (open_in is) ws) in left_in p.state p.bytes ≡ left_in r.state r.reply
  left_obeyed e ws =
      let r = obey (does_all bench maker) is (heard_from (open_in is) ws) in
      ap (λ (p : Played (List Instrument)). left_in p.state p.bytes)
      (ap (λ (x : List Instrument). all (hears_all bench maker) x ws) e ∙ obeyed (does_all bench maker) (hears_all bench maker) holding_all (all_obey bench maker) is (open_in is) ws)
      ∙ held_left r.state (open_after (open_in is) ws) r.reply

  -- a recording and its normal form, with no message open
  pub left_alike : sound_bus (cards_in is) ≡ true → (open_in is).len ≡ 0 → (ws : List ℕ)
      → let p = all (hears_all bench maker) is ws in let q = all (hears_all bench maker) is (normal ws) in left_in p.state p.bytes ≡ left_in q.state q.bytes
  left_alike e z ws =
      let held = all_hold is e in
      left_obeyed held ws
      ∙ ap (λ (ms : List Message). let r = obey (does_all bench maker) is ms in left_in r.state r.reply) (same_heard (open_in is) ws z)
      ∙ sym (left_obeyed held (normal ws))
