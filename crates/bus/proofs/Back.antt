-- The rows after a run are the cards after it: each is stored back and read again, the rows are rows again, and their other numbers stay.
-- Assumes nothing.
use Rattle.card.specs.declared.Took.{Took}
use mathlib.Core.Path.{◌≡◌, refl, sym, ap, ap₂, ◌∙◌}
use mathlib.Core.Bool.{true}
use mathlib.Core.List.{List, [], ◌∷◌, map, tail-eq_of_cons-eq}
use Prim.Native.Nat.{ℕ, suc, ◌*◌, ◌/◌, ◌%◌, ◌<◌, ◌≤◌}
use native.Mathlib.Omega.{arith}
use lib.Dec.{eqb}
use lib.IntN.{ℤ}
use lib.ListN.{length, get_or, take, drop, length-drop, length-map, get_or-map}
use lib.Seq.{length-take-le, take_at, drop_at}
use Rattle.refusal.specs.Lists.{every}
use Rattle.refusal.specs.Refusal.{Outcome, gave}
use Rattle.refusal.specs.Check.{decided}
use Rattle.refusal.proofs.Logic.{ands, and_both}
use Rattle.refusal.proofs.Checks.{refused_gave, by_first}
use Rattle.hearing.proofs.Close.{hear_long}
use Rattle.sheet.proofs.Values.{entry_below}
use Rattle.act.specs.declared.Setup.{Setup}
use Rattle.row.specs.Row.{is_row, card_of, stored_in}
use Rattle.row.proofs.Laws.{stored_length}
use Rattle.row.proofs.Back.{Lent, sound_lent, identifier_of, card_back, card_setup, card_ten, row_length, stored_front, stored_behind, stored_row}
use Rattle.card.specs.declared.Card.{Card}
use Rattle.card.specs.Run.{playing}
use Rattle.card.specs.Turn.{Instrument}
use Rattle.card.specs.Refusals.{sound_card, sound_offer}
use Rattle.card.proofs.Turns.{turn_card}
use Rattle.card.proofs.Sounds.{card_parts, offer_parts}
use Rattle.bus.specs.Bus.{parts, instruments, cards_in, hears_all}
use Rattle.bus.specs.Rows.{rows_in, cards_of, is_rows, rows_checks, stored_back, RowsAfter, rows_call}
use Rattle.bus.proofs.Instruments.{instrument_cards, instrument_count, instrument_at}
use Rattle.bus.proofs.Sharing.{rows_kept, rows_ended, rows_is, setups_in, setups_stay, hears_count, hears_at, play_keeps}
use Rattle.bus.proofs.Checks.{cards_number, checked}
use Rattle.bus.proofs.Standing.{back_length}
use Rattle.std.specs.Prelude.{None, Option, Some}
use Rattle.act.specs.declared.Offer.{Offer}

-- ---- the call

module _ (numbers bench maker values : List ℤ) (ws out : List ℕ) where
  abbrev by : Outcome (Unit {0}) → RowsAfter
  by o = decided o (rows_kept numbers values out) (rows_ended numbers bench maker values ws out)

  pub rows_served : checked numbers bench maker values ws ≡ gave tt → rows_call numbers bench maker values ws out ≡ rows_ended numbers bench maker values ws out
  rows_served e = rows_is numbers bench maker values ws out ∙ ap by e

  -- a call that is served has passed every test
  pub rows_passed : (t : Took) → (rows_call numbers bench maker values ws out).outcome ≡ gave t → checked numbers bench maker values ws ≡ gave tt
  rows_passed t g =
      by_first (rows_checks numbers bench maker values ws)
      (λ n e. absurd (refused_gave (sym (ap (λ (a : RowsAfter). a.outcome) (rows_is numbers bench maker values ws out ∙ ap by e)) ∙ g)))
      (λ e. e)

-- ---- cards that can be stored

-- ten places for a message, of bytes, and a byte for the identifier on offer
pub record Storable (c : Card) : Type 0 where
  pub lent : Lent c.pending
  pub small : identifier_of c.offer < 256

abbrev pub AllStorable : List Card → Type 0
AllStorable cs = (k : ℕ) (d : Card) → k < length cs → Storable (get_or cs k d)

offer_small : (bench maker : List ℤ) (o : Option Offer) → sound_offer bench maker o ≡ true → identifier_of o < 256
offer_small bench maker None e = omega arith
offer_small bench maker (Some o) e = let a = (offer_parts bench maker o.identifier o.value e).allowed in omega (arith, entry_below bench maker o.identifier a.row a.found)

-- as every sound card with ten places
pub sound_storable : (bench maker : List ℤ) (c : Card) → sound_card c ≡ true → sound_offer bench maker c.offer ≡ true → length c.pending.chars ≡ 10 → Storable c
sound_storable bench maker c e f n = record { lent = sound_lent c.pending n (card_parts c e).is_open; small = offer_small bench maker c.offer f }

-- ---- rows and cards

-- each in its row
abbrev stored_each : List Card → List (List ℤ) → List (List ℤ)
stored_each [] rows = []
stored_each (c ∷ cs) [] = []
stored_each (c ∷ cs) (r ∷ rows) = stored_in c r ∷ stored_each cs rows

back_parts : (cs : List Card) (numbers : List ℤ) → length cs * 23 ≤ length numbers → parts 23 (length cs) (stored_back cs numbers) ≡ stored_each cs (parts 23 (length cs) numbers)
unfolding parts stored_back
back_parts [] numbers h = refl
back_parts (c ∷ cs) numbers h =
    let first = stored_in c (take 23 numbers) in
    let rest = stored_back cs (drop 23 numbers) in
    let n : length first ≡ 23 = stored_length c (take 23 numbers) ∙ length-take-le 23 numbers (omega arith) in
    let room : length cs * 23 ≤ length (drop 23 numbers) = simp length-drop (omega arith) in
    ap₂ ◌∷◌ (take_at first rest 23 n) (ap (parts 23 (length cs)) (drop_at first rest 23 n) ∙ back_parts cs (drop 23 numbers) room)

-- rows that these cards are stored in, by what they were
pub record Back (cs : List Card) (rows rows' : List (List ℤ)) : Type 0 where
  pub cards : map card_of rows' ≡ cs
  pub are_rows : every is_row rows' ≡ true
  pub front : map (take 2) rows' ≡ map (take 2) rows
  pub behind : map (drop 16) rows' ≡ map (drop 16) rows

each_back : (cs : List Card) (rows : List (List ℤ)) → setups_in cs ≡ setups_in (map card_of rows) → every is_row rows ≡ true → AllStorable cs → Back cs rows (stored_each cs rows)
unfolding every
each_back [] [] s e f = record { cards = refl; are_rows = refl; front = refl; behind = refl }
each_back [] (r ∷ rows) s e f = absurd (omega (arith, ap length s))
each_back (c ∷ cs) [] s e f = absurd (omega (arith, ap length s))
each_back (c ∷ cs) (r ∷ rows) s e f =
    let x : Storable c = f 0 c (omega arith) in
    let is : is_row r ≡ true = search ands in
    let n : 16 ≤ length r = omega (arith, row_length r is) in
    let own : c.setup ≡ (card_of r).setup = ap (λ (l : List Setup). get_or l 0 c.setup) s in
    let b = each_back cs rows (tail-eq_of_cons-eq s) (search ands) (λ k d l. f (suc k) d (omega arith)) in
    record {
      cards = ap₂ ◌∷◌ (card_back c x.lent x.small r n (own ∙ card_setup r)) b.cards;
      are_rows = and_both (stored_row c x.lent r is) b.are_rows;
      front = ap₂ ◌∷◌ (stored_front c x.lent r n) b.front;
      behind = ap₂ ◌∷◌ (stored_behind c x.lent r n) b.behind;
    }

module _ (cs : List Card) (numbers : List ℤ) (e : is_rows numbers ≡ true) (s : setups_in cs ≡ setups_in (cards_of numbers)) (f : AllStorable cs) where
  many : length cs ≡ length numbers / 23
  many = sym (length-map cs (λ (c : Card). c.setup)) ∙ ap length s ∙ length-map (cards_of numbers) (λ (c : Card). c.setup) ∙ cards_number numbers

  long : length (stored_back cs numbers) ≡ length numbers
  long = back_length cs numbers (omega (arith, many))

  -- the rows that the run leaves
  rows_left : rows_in (stored_back cs numbers) ≡ stored_each cs (rows_in numbers)
  rows_left =
      ap (λ (n : ℕ). parts 23 (n / 23) (stored_back cs numbers)) long
      ∙ ap (λ (n : ℕ). parts 23 n (stored_back cs numbers)) (sym many)
      ∙ back_parts cs numbers (omega (arith, many))
      ∙ ap (λ (n : ℕ). stored_each cs (parts 23 n numbers)) many

  pub rows_back : Back cs (rows_in numbers) (rows_in (stored_back cs numbers))
  unfolding is_rows
  rows_back = rw rows_left (each_back cs (rows_in numbers) s (search ands) f)

  pub back_rows : is_rows (stored_back cs numbers) ≡ true
  unfolding is_rows
  back_rows = and_both (ap (λ (n : ℕ). eqb (n % 23) 0) long ∙ search ands) rows_back.are_rows

-- ---- what a run leaves

-- ten places for every card's message
abbrev Tens : List Instrument → Type 0
Tens is = (k : ℕ) (d : Instrument) → k < length is → length (get_or is k d).card.pending.chars ≡ 10

rows_ten : (numbers values : List ℤ) → Tens (instruments (cards_of numbers) values)
rows_ten numbers values k d l =
    let n : k < length (cards_of numbers) = omega (arith, instrument_count (cards_of numbers) values) in
    ap (λ (i : Instrument). length i.card.pending.chars) (instrument_at (cards_of numbers) values k (card_of []) d n)
    ∙ ap (λ (c : Card). length c.pending.chars) (get_or-map card_of (rows_in numbers) k [])
    ∙ card_ten (get_or (rows_in numbers) k [])

module _ (bench maker : List ℤ) where
  word_ten : (is : List Instrument) (w : ℕ) → Tens is → Tens (hears_all bench maker is w).state
  word_ten is w t k d l =
      let h : k < length is = omega (arith, hears_count bench maker is w) in
      let i = get_or is k d in
      ap (λ (x : Instrument). length x.card.pending.chars) (hears_at bench maker is w k d h)
      ∙ ap (λ (c : Card). length c.pending.chars) (turn_card bench maker i.card i.values w)
      ∙ hear_long i.card.pending w (t k d h)

  module _ (numbers values : List ℤ) (room : ℕ) (ws : List ℕ) where
    abbrev left : List Instrument
    left = (playing (hears_all bench maker) (instruments (cards_of numbers) values) room ws).state

    pub run_ten : (k : ℕ) (d : Card) → k < length (cards_in left) → length (get_or (cards_in left) k d).pending.chars ≡ 10
    run_ten k d l =
        let e : Instrument = record { card = d; values = [] } in
        ap (λ (c : Card). length c.pending.chars) (get_or-map (λ (i : Instrument). i.card) left k e)
        ∙ play_keeps (hears_all bench maker) Tens (λ is w. word_ten is w) (instruments (cards_of numbers) values) room ws (rows_ten numbers values) k e (omega (arith, length-map left (λ (i : Instrument). i.card)))

    pub run_setups : setups_in (cards_in left) ≡ setups_in (cards_of numbers)
    run_setups =
        play_keeps (hears_all bench maker) (λ (is : List Instrument). setups_in (cards_in is) ≡ setups_in (cards_of numbers)) (λ is w e. setups_stay bench maker is w ∙ e)
        (instruments (cards_of numbers) values) room ws (ap setups_in (instrument_cards (cards_of numbers) values))
