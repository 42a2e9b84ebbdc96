-- The cards as the code holds them: setups and offers in two arrays, one open message, all values in one slice. One card's offer and values
-- are changed, and each card is stored back in its row. Assumes nothing.
use mathlib.Core.Path.{◌≡◌, refl, sym, ap, ap₂, ◌∙◌}
use mathlib.Core.List.{List, [], ◌∷◌, ◌++◌, map}
use Prim.Native.Nat.{ℕ, zero, suc, ◌+◌, ◌*◌, ◌/◌, ◌<◌, ◌≤◌}
use native.Mathlib.Omega.{arith}
use native.Mathlib.Numerals.{add-one}
use lib.IntN.{ℤ}
use lib.ListN.{length, get_or, set, take, drop, length-append, length-drop, take-append-drop}
use lib.Seq.{length-take-le, take_at, drop_at, take_all}
use Rattle.refusal.specs.Refusal.{gave}
use Rattle.refusal.specs.Buffer.{laid}
use Rattle.refusal.proofs.Buffers.{laid_nothing}
use Rattle.message.specs.declared.Message.{Message}
use Rattle.hearing.specs.declared.Pending.{Pending}
use Rattle.hearing.specs.declared.Hearing.{Hearing}
use Rattle.hearing.specs.Hearing.{none, hear}
use Rattle.act.specs.declared.Setup.{Setup}
use Rattle.act.specs.declared.Effect.{Effect}
use Rattle.act.specs.Cause.{is_for}
use Rattle.row.specs.Row.{card_of, stored_in}
use Rattle.row.proofs.Laws.{stored_length}
use Rattle.card.specs.declared.Card.{Card}
use Rattle.card.specs.Run.{Reaction, Played, playing}
use Rattle.card.specs.Turn.{reply_of, effect_of, stored, Instrument}
use Rattle.card.proofs.Turns.{stored_count}
use Rattle.card.proofs.Runs.{Quiet, run_all}
use Rattle.card.proofs.Plays.{obey_one, obeys_quiet, carried_out}
use Rattle.bus.specs.Bus.{parts, joined, instruments, cards_in, values_in, hears_all}
use Rattle.bus.specs.Calls.{ended}
use Rattle.bus.specs.Rows.{cards_of, stored_back, in_rows}
use Rattle.bus.specs.Inner.{setup_in, offer_in, pending_in, Finds, meant_by, cards_with, served_rows}
use Rattle.bus.proofs.Hearing.{holding_all, does_all, all_obey, Others, meant}
use Rattle.bus.proofs.Instruments.{instrument_cards, instrument_at, instrument_count}
use Rattle.bus.proofs.Sharing.{no_one_plays}
use Rattle.bus.proofs.Apart.{found, meant_inside}
use Rattle.bus.proofs.Parts.{part_at, lent_part, lent_next, put_part, put_next}
use Rattle.std.specs.Prelude.{Option, Some}
use Rattle.act.specs.declared.Offer.{Offer}

-- ---- the cards

pub cards_count : (p : Pending) (ss : List Setup) (os : List (Option Offer)) → length ss ≡ length os → length (cards_with p ss os) ≡ length ss
unfolding cards_with
cards_count p [] os e = refl
cards_count p (s ∷ ss) [] e = absurd (omega arith)
cards_count p (s ∷ ss) (o ∷ os) e = ap suc (cards_count p ss os (omega arith))

pub cards_at : (p : Pending) (ss : List Setup) (os : List (Option Offer)) (k : ℕ) (s : Setup) (o : Option Offer) (d : Card) → k < length ss → length ss ≡ length os
    → get_or (cards_with p ss os) k d ≡ record { setup = get_or ss k s; pending = p; offer = get_or os k o }
unfolding cards_with
cards_at p [] os k s o d h e = absurd (omega arith)
cards_at p (x ∷ ss) [] k s o d h e = absurd (omega arith)
cards_at p (x ∷ ss) (y ∷ os) zero s o d h e = refl
cards_at p (x ∷ ss) (y ∷ os) (suc k) s o d h e = cards_at p ss os k s o d (omega arith) (omega arith)

-- as the rows have them, with one open message
pub cards_read : (p : Pending) (rows : List (List ℤ)) → ((k : ℕ) → k < length rows → pending_in (get_or rows k []) ≡ p) → cards_with p (map setup_in rows) (map offer_in rows) ≡ map card_of rows
unfolding cards_with
cards_read p [] h = refl
cards_read p (r ∷ rows) h =
    let e : p ≡ (card_of r).pending = sym (h 0 (omega arith)) in
    ap₂ ◌∷◌ (λ j. record { setup = (card_of r).setup; pending = e j; offer = (card_of r).offer }) (cards_read p rows (λ k l. h (suc k) (omega arith)))

-- ---- with their values

-- another open message for all
pub held_with : (p q : Pending) (ss : List Setup) (os : List (Option Offer)) (values : List ℤ) → holding_all (instruments (cards_with p ss os) values) q ≡ instruments (cards_with q ss os) values
unfolding cards_with instruments
held_with p q [] os values = refl
held_with p q (s ∷ ss) [] values = refl
held_with p q (s ∷ ss) (o ∷ os) values = ap (λ (is : List Instrument). record { card = record { setup = s; pending = q; offer = o }; values = take 128 values } ∷ is) (held_with p q ss os (drop 128 values))

-- the k-th card with another offer and other values
pub set_with : (p : Pending) (ss : List Setup) (os : List (Option Offer)) (values part : List ℤ) (k : ℕ) (s : Setup) (o : Option Offer) → k < length ss → length ss ≡ length os → length ss * 128 ≤ length values → length part ≡ 128
    → instruments (cards_with p ss (set os k o)) (put_part 128 k part values)
    ≡ set (instruments (cards_with p ss os) values) k (record { card = record { setup = get_or ss k s; pending = p; offer = o }; values = part })
unfolding cards_with instruments
set_with p [] os values part k s o h e r l = absurd (omega arith)
set_with p (x ∷ ss) [] values part k s o h e r l = absurd (omega arith)
set_with p (x ∷ ss) (y ∷ os) values part zero s o h e r l =
    let rest = drop 128 values in
    ap₂ (λ (v u : List ℤ). record { card = record { setup = x; pending = p; offer = o }; values = v } ∷ instruments (cards_with p ss os) u)
    (take_at part rest 128 l) (drop_at part rest 128 l)
set_with p (x ∷ ss) (y ∷ os) values part (suc k) s o h e r l =
    let front = take 128 values in
    let rest = drop 128 values in
    let onward = put_part 128 k part rest in
    let n : length front ≡ 128 = length-take-le 128 values (omega arith) in
    let room : length ss * 128 ≤ length rest = simp length-drop (omega arith) in
    let one : Setup → Option Offer → List ℤ → Instrument = λ z u v. record { card = record { setup = z; pending = p; offer = u }; values = v } in
    ap (instruments (cards_with p (x ∷ ss) (y ∷ set os k o))) (put_next 128 k part values)
    ∙ ap₂ (λ (v u : List ℤ). one x y v ∷ instruments (cards_with p ss (set os k o)) u) (take_at front onward 128 n) (drop_at front onward 128 n)
    ∙ ap (λ (is : List Instrument). one x y front ∷ is) (set_with p ss os rest part k s o (omega arith) (omega arith) room l)

-- ---- words

module _ (bench maker : List ℤ) (ss : List Setup) (os : List (Option Offer)) (values : List ℤ) where
  -- all of them, with this open message
  abbrev pub standing : Pending → List Instrument
  standing q = instruments (cards_with q ss os) values

  -- a word that closes no heard message
  pub standing_quiet : Quiet (hears_all bench maker) standing
  standing_quiet q w u =
      ap (λ (is : List Instrument). hears_all bench maker is w) (sym (held_with none q ss os values))
      ∙ obeys_quiet (does_all bench maker) (hears_all bench maker) holding_all (all_obey bench maker) (standing none) q w u
      ∙ ap (λ (is : List Instrument). record { state = is; reply = [] }) (held_with none (hear q w).pending ss os values)

  -- a word that closes one: the card that the table finds is meant
  module _ (table : List ℕ) (f : Finds ss table) (e : length ss ≡ length os) (r : length ss * 128 ≤ length values) (s : Setup) (o : Option Offer) (x : Option Message) where
    abbrev k : ℕ
    k = meant_by table x

    abbrev pub meant_effect : Effect
    meant_effect = effect_of bench maker (get_or ss k s) (get_or os k o) (part_at 128 k values) x

    abbrev pub meant_turn : Reaction (List Instrument)
    meant_turn = record { state = instruments (cards_with none ss (set os k meant_effect.offer)) (put_part 128 k (stored (part_at 128 k values) meant_effect.store) values); reply = reply_of meant_effect.said }

    h : k < length ss
    h = meant_inside ss table f x

    d : Instrument
    d = record { card = record { setup = s; pending = none; offer = o }; values = [] }

    its : get_or (standing none) k d ≡ record { card = record { setup = get_or ss k s; pending = none; offer = get_or os k o }; values = part_at 128 k values }
    its =
        instrument_at (cards_with none ss os) values k d.card d (omega (arith, cards_count none ss os e, h))
        ∙ ap (λ (c : Card). record { card = c; values = part_at 128 k values }) (cards_at none ss os k s o d.card h e)

    others : (m : Message) → x ≡ Some m → Others bench maker (standing none) d k m
    others m q j l n =
        let b : j < length ss = omega (arith, instrument_count (cards_with none ss os) values, cards_count none ss os e) in
        ap (λ (i : Instrument). is_for i.card.setup m)
        (instrument_at (cards_with none ss os) values j d.card d (omega (arith, cards_count none ss os e))
        ∙ ap (λ (c : Card). record { card = c; values = part_at 128 j values }) (cards_at none ss os j s o d.card b e))
        ∙ found ss table f x m q j s b n

    pub standing_closes : (q : Pending) (w : ℕ) → hear q w ≡ record { pending = none; message = x } → hears_all bench maker (standing q) w ≡ meant_turn
    standing_closes q w c =
        let part = stored (part_at 128 k values) meant_effect.store in
        let long : length part ≡ 128 = stored_count (part_at 128 k values) meant_effect.store ∙ length-take-le 128 (drop (k * 128) values) (omega (arith, length-drop (k * 128) values, h)) in
        let is = standing none in
        let did : Instrument → Reaction (List Instrument) = λ i. let t = carried_out i i.card.pending (effect_of bench maker i.card.setup i.card.offer i.values x) in record { state = holding_all (set is k t.state) none; reply = t.reply } in
        ap (λ (l : List Instrument). hears_all bench maker l w) (sym (held_with none q ss os values))
        ∙ all_obey bench maker is q w
        ∙ ap (λ (g : Hearing). record { state = holding_all (obey_one (does_all bench maker) is g.message).state g.pending; reply = (obey_one (does_all bench maker) is g.message).reply }) c
        ∙ ap (λ (t : Reaction (List Instrument)). record { state = holding_all t.state none; reply = t.reply }) (meant bench maker is d k x (omega (arith, instrument_count (cards_with none ss os) values, cards_count none ss os e, h)) others)
        ∙ ap did its
        ∙ ap (λ (l : List Instrument). record { state = holding_all l none; reply = reply_of meant_effect.said }) (sym (set_with none ss os values part k s meant_effect.offer h e r long))
        ∙ ap (λ (l : List Instrument). record { state = l; reply = reply_of meant_effect.said }) (held_with none none ss (set os k meant_effect.offer) (put_part 128 k part values))

-- ---- at the end

-- all the values, as they are lent
pub values-in : (cs : List Card) (values : List ℤ) → length values ≡ length cs * 128 → values_in (instruments cs values) ≡ values
unfolding instruments joined
values-in [] [] e = refl
values-in [] (z ∷ values) e = absurd (omega arith)
values-in (c ∷ cs) values e =
    ap (λ (l : List ℤ). take 128 values ++ l) (values-in cs (drop 128 values) (simp length-drop (omega arith))) ∙ take-append-drop 128 values

-- a run that ends where these cards stand
pub ended_here : (numbers bench maker values₀ : List ℤ) (ws out₀ : List ℕ) (p : Played (List Instrument)) (cs : List Card) (values numbers' : List ℤ) (out : List ℕ) (i n : ℕ)
    → playing (hears_all bench maker) (instruments (cards_of numbers) values₀) (length out₀) ws ≡ p
    → p.state ≡ instruments cs values → p.taken ≡ i → length p.bytes ≡ n → laid p.bytes out₀ ≡ out
    → numbers' ≡ stored_back cs numbers → length values ≡ length cs * 128
    → record { numbers = numbers'; outcome = gave (record { words = i; bytes = n }); values = values; buffer = out } ≡ served_rows numbers bench maker values₀ ws out₀
ended_here numbers bench maker values₀ ws out₀ p cs values numbers' out i n e s t b o m l =
    let c : cards_in p.state ≡ cs = ap cards_in s ∙ instrument_cards cs values in
    let v : values_in p.state ≡ values = ap values_in s ∙ values-in cs values l in
    (λ j. record { numbers = (m ∙ ap (λ (x : List Card). stored_back x numbers) (sym c)) j; outcome = gave (record { words = sym t j; bytes = sym b j }); values = sym v j; buffer = sym o j })
    ∙ ap (λ (x : Played (List Instrument)). in_rows numbers (ended x out₀)) (sym e)

-- no card at all
nobody : (bench maker : List ℤ) (room : ℕ) (ws : List ℕ) → playing (hears_all bench maker) [] room ws ≡ record { state = []; bytes = []; taken = length ws }
nobody bench maker room ws =
    let e = no_one_plays bench maker ws in
    run_all (hears_all bench maker) [] room ws (omega (arith, ap (λ (p : Played (List Instrument)). length p.bytes) e)) ∙ e

pub ended-nobody : (numbers bench maker values : List ℤ) (ws out : List ℕ) → length numbers / 23 ≡ 0 → length values ≡ 0
    → record { numbers = numbers; outcome = gave (record { words = length ws; bytes = 0 }); values = values; buffer = out } ≡ served_rows numbers bench maker values ws out
unfolding parts instruments stored_back
ended-nobody numbers bench maker values ws out e l =
    let n : cards_of numbers ≡ [] = ap (λ (m : ℕ). map card_of (parts 23 m numbers)) e in
    ended_here numbers bench maker values ws out (record { state = []; bytes = []; taken = length ws }) [] values numbers out (length ws) 0
    (ap (λ (cs : List Card). playing (hears_all bench maker) (instruments cs values) (length out) ws) n ∙ nobody bench maker (length out) ws) refl refl refl (laid_nothing out) refl (omega arith)

-- ---- stored back

pub back_length : (cs : List Card) (numbers : List ℤ) → length cs * 23 ≤ length numbers → length (stored_back cs numbers) ≡ length numbers
unfolding stored_back
back_length [] numbers h = refl
back_length (c ∷ cs) numbers h =
    let room : length cs * 23 ≤ length (drop 23 numbers) = simp length-drop (omega arith) in
    length-append (stored_in c (take 23 numbers)) (stored_back cs (drop 23 numbers))
    ∙ omega (arith, stored_length c (take 23 numbers), length-take-le 23 numbers (omega arith), back_length cs (drop 23 numbers) room, length-drop 23 numbers)

-- one card more
pub back_more : (cs : List Card) (i : ℕ) (numbers : List ℤ) (d : Card) → i < length cs → length cs * 23 ≤ length numbers
    → let so_far = stored_back (take i cs) numbers in
    put_part 23 i (stored_in (get_or cs i d) (lent_part 23 i so_far)) so_far ≡ stored_back (take (suc i) cs) numbers
unfolding stored_back
back_more [] i numbers d h r = absurd (omega arith)
back_more (c ∷ cs) zero numbers d h r = refl
back_more (c ∷ cs) (suc i) numbers d h r =
    let first = stored_in c (take 23 numbers) in
    let rest = stored_back (take i cs) (drop 23 numbers) in
    let n : length first ≡ 23 = stored_length c (take 23 numbers) ∙ length-take-le 23 numbers (omega arith) in
    let room : length cs * 23 ≤ length (drop 23 numbers) = simp length-drop (omega arith) in
    let part = stored_in (get_or cs i d) in
    ap (λ (x : List ℤ). put_part 23 (suc i) (part x) (first ++ rest)) (lent_next 23 i (first ++ rest))
    ∙ put_next 23 i (part (lent_part 23 i (drop 23 (first ++ rest)))) (first ++ rest)
    ∙ ap₂ (λ (a b : List ℤ). a ++ put_part 23 i (part (lent_part 23 i b)) b) (take_at first rest 23 n) (drop_at first rest 23 n)
    ∙ ap (λ (l : List ℤ). first ++ l) (back_more cs i (drop 23 numbers) d (omega arith) room)

-- the first i cards are stored back
pub record StoredBack (cards : List Card) (numbers₀ numbers : List ℤ) (i : ℕ) : Type 0 where
  pub within : i ≤ length cards
  pub long : length numbers ≡ length numbers₀
  pub so_far : numbers ≡ stored_back (take i cards) numbers₀

pub stored_starts : (cards : List Card) (numbers : List ℤ) → StoredBack cards numbers numbers 0
unfolding stored_back
stored_starts cards numbers = record { within = omega arith; long = refl; so_far = refl }

-- and one more, by what its part of the rows has become
pub stored_more : (cards : List Card) (numbers₀ numbers : List ℤ) (i : ℕ) (d : Card) (part : List ℤ) → StoredBack cards numbers₀ numbers i → i < length cards → length cards * 23 ≤ length numbers₀
    → part ≡ stored_in (get_or cards i d) (lent_part 23 i numbers) → StoredBack cards numbers₀ (put_part 23 i part numbers) (i + 1)
stored_more cards numbers₀ numbers i d part t h r e =
    let now : put_part 23 i part numbers ≡ stored_back (take (i + 1) cards) numbers₀ =
    ap (λ (x : List ℤ). put_part 23 i x numbers) e
    ∙ ap (λ (x : List ℤ). put_part 23 i (stored_in (get_or cards i d) (lent_part 23 i x)) x) t.so_far
    ∙ rw (add-one i) (back_more cards i numbers₀ d h r) in
    record { within = omega arith; long = ap length now ∙ back_length (take (i + 1) cards) numbers₀ (omega (arith, length-take-le (i + 1) cards (omega arith))); so_far = now }

pub stored_ends : (cards : List Card) (numbers₀ numbers : List ℤ) (i : ℕ) → StoredBack cards numbers₀ numbers i → length cards ≤ i → numbers ≡ stored_back cards numbers₀
stored_ends cards numbers₀ numbers i t h = t.so_far ∙ ap (λ (cs : List Card). stored_back cs numbers₀) (take_all i cards h)
