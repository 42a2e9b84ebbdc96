-- No card by another's values: with one card's values altered, every card has the same offers and replies of the same length, so two runs take
-- the same words; and any other card has the same values and the same replies. Assumes nothing.
use mathlib.Core.Path.{◌≡◌, refl, sym, ap, ap₂, ◌∙◌, subst}
use mathlib.Core.Bool.{true}
use mathlib.Core.List.{List, [], ◌∷◌, ◌++◌, nil≢cons, head-eq_of_cons-eq, tail-eq_of_cons-eq}
use Prim.Native.Nat.{ℕ, suc, ◌-◌, ◌<◌}
use native.Mathlib.Omega.{arith}
use lib.Dec.{leb}
use lib.IntN.{ℤ}
use lib.ListN.{length, get_or, take, length-append, length-map, get_or-map}
use Rattle.refusal.specs.Refusal.{gave}
use Rattle.refusal.specs.Buffer.{laid}
use Rattle.refusal.proofs.Logic.{by-test}
use Rattle.refusal.proofs.Buffers.{laid_front}
use Rattle.wire.specs.Word.{valid_words}
use Rattle.wire.proofs.Words.{travelling_length}
use Rattle.hearing.specs.Hearing.{none, hear}
use Rattle.reply.specs.Reply.{spell_answer}
use Rattle.act.specs.declared.Setup.{Setup}
use Rattle.act.specs.Act.{no_effect}
use Rattle.act.proofs.Shapes.{size_of, Shaped, itself, act_shaped}
use Rattle.card.specs.declared.Card.{Card}
use Rattle.card.specs.Run.{Reaction, Played, after, playing}
use Rattle.card.specs.Turn.{reply_of, with_both, turn, Instrument, hears}
use Rattle.card.proofs.Turns.{effects, effect_heard, effect_unheard, turn_card, turn_reply}
use Rattle.card.proofs.Runs.{play_end, play_word}
use Rattle.bus.specs.Bus.{instruments, cards_in, values_in, hears_all}
use Rattle.bus.specs.Calls.{After, ended, bus_call}
use Rattle.bus.proofs.Hearing.{each_hears}
use Rattle.bus.proofs.Instruments.{instrument_cards, instrument_count, instrument_at, values_at}
use Rattle.bus.proofs.Sharing.{plays, bus_served, setups_in, setups_stay, hears_count, hears_at}
use Rattle.demands.specs.Bus.{SoundTogether, values_of, picked, ButFor, Untouched, Isolated}
use Rattle.demands.proofs.Pair.{Joint, starts_joint, all_pass, word_joint, whole}
use Rattle.demands.proofs.Picked.{picked_word}
use Rattle.std.specs.Prelude.{None, Option, Some}
use Rattle.message.specs.declared.Message.{Message}
use Rattle.reply.specs.declared.Answer.{Answer}

-- ---- two runs at once

-- R holds of where they stand, and B of the bytes that they reply
module _ {S : Type 0} (f : S → ℕ → Reaction S) (R : S → S → Type 0) (B : List ℕ → List ℕ → Type 0) where
  record Word (s t : S) (w : ℕ) : Type 0 where
    pub size : length (f s w).reply ≡ length (f t w).reply
    pub state : R (f s w).state (f t w).state
    pub bytes : (x y : List ℕ) → B x y → B ((f s w).reply ++ x) ((f t w).reply ++ y)

  record Both (p q : Played S) : Type 0 where
    pub taken : p.taken ≡ q.taken
    pub size : length p.bytes ≡ length q.bytes
    pub state : R p.state q.state
    pub bytes : B p.bytes q.bytes

  both_after : (s t : S) (w : ℕ) → Word s t w → (p q : Played S) → Both p q → Both (after (f s w).reply p) (after (f t w).reply q)
  both_after s t w h p q b = record {
    taken = ap suc b.taken;
    size = omega (arith, length-append (f s w).reply p.bytes, length-append (f t w).reply q.bytes, h.size, b.size);
    state = b.state;
    bytes = h.bytes p.bytes q.bytes b.bytes;
  }

  both_play : B [] [] → ((s t : S) (w : ℕ) → R s t → Word s t w) → (s t : S) (room : ℕ) (ws : List ℕ) → R s t → Both (playing f s room ws) (playing f t room ws)
  both_play z h s t room [] r = rw (play_end f s room, play_end f t room) (record { taken = refl; size = refl; state = r; bytes = z })
  both_play z h s t room (w ∷ ws) r =
      let a = h s t w r in
      let same : leb (length (f s w).reply) room ≡ leb (length (f t w).reply) room = ap (λ (n : ℕ). leb n room) a.size in
      rw (play_word f s room w ws, play_word f t room w ws, ← same)
      (by-test (leb (length (f s w).reply) room)
      (λ e.
      let next = both_play z h (f s w).state (f t w).state (room - length (f s w).reply) ws a.state in
      rw e (both_after s t w a _ _ (subst (λ (n : ℕ). Both (playing f (f s w).state (room - length (f s w).reply) ws) (playing f (f t w).state (room - n) ws)) a.size next)))
      (λ e. rw e (record { taken = refl; size = refl; state = r; bytes = z })))

-- ---- one card with two lists of values

reply_size : (s : Option Answer) → length (reply_of s) ≡ size_of s
reply_size None = refl
reply_size (Some a) = travelling_length (spell_answer a)

-- two reactions that differ at most in the values, and in the bytes but not in how many there are
record Same (r r' : Reaction (List Instrument)) : Type 0 where
  pub cards : cards_in r.state ≡ cards_in r'.state
  pub size : length r.reply ≡ length r'.reply

module _ (bench maker : List ℤ) where
  module _ (c : Card) (values values' : List ℤ) (w : ℕ) where
    shaped : (x : Option Message) → Shaped (effects bench maker c values x) (effects bench maker c values' x)
    shaped (Some m) = rw (effect_heard bench maker c.setup c.offer values m, effect_heard bench maker c.setup c.offer values' m) (act_shaped m bench maker c.setup c.offer values values')
    shaped None = rw (← effect_unheard bench maker c.setup c.offer values None refl, ← effect_unheard bench maker c.setup c.offer values' None refl) (itself (no_effect c.offer))

    turn_same : (turn bench maker c values w).card ≡ (turn bench maker c values' w).card
    turn_same =
        turn_card bench maker c values w
        ∙ ap (with_both c (hear c.pending w).pending) (shaped (hear c.pending w).message).same_offer
        ∙ sym (turn_card bench maker c values' w)

    turn_size : length (turn bench maker c values w).reply ≡ length (turn bench maker c values' w).reply
    turn_size =
        let s = (effects bench maker c values (hear c.pending w).message).said in
        let t = (effects bench maker c values' (hear c.pending w).message).said in
        ap length (turn_reply bench maker c values w)
        ∙ reply_size s
        ∙ (shaped (hear c.pending w).message).same_size
        ∙ sym (ap length (turn_reply bench maker c values' w) ∙ reply_size t)

  -- so of all cards
  word_same : (w : ℕ) (is is' : List Instrument) → cards_in is ≡ cards_in is' → Same (hears_all bench maker is w) (hears_all bench maker is' w)
  word_same w [] [] e = record { cards = refl; size = refl }
  word_same w [] (i ∷ is) e = absurd (nil≢cons e)
  word_same w (i ∷ is) [] e = absurd (nil≢cons (sym e))
  word_same w (i ∷ is) (i' ∷ is') e =
      let c : i.card ≡ i'.card = head-eq_of_cons-eq e in
      let t = turn bench maker i.card i.values w in
      let t' = turn bench maker i'.card i'.values w in
      let card : t.card ≡ t'.card = turn_same i.card i.values i'.values w ∙ ap (λ (c : Card). (turn bench maker c i'.values w).card) c in
      let one : length t.reply ≡ length t'.reply = turn_size i.card i.values i'.values w ∙ ap (λ (c : Card). length (turn bench maker c i'.values w).reply) c in
      let rest = word_same w is is' (tail-eq_of_cons-eq e) in
      let r = (hears_all bench maker is w).reply in
      let r' = (hears_all bench maker is' w).reply in
      rw (each_hears bench maker i is w, each_hears bench maker i' is' w)
      (record { cards = ap₂ ◌∷◌ card rest.cards; size = omega (arith, length-append t.reply r, length-append t'.reply r', rest.size) })

-- ---- two runs of all cards

-- the same but for the k-th card's values, both sound, at these setups
record Near (bench maker : List ℤ) (k : ℕ) (ss : List Setup) (is is' : List Instrument) : Type 0 where
  pub joint : Joint bench maker is
  pub other_joint : Joint bench maker is'
  pub cards : cards_in is ≡ cards_in is'
  pub setups : setups_in (cards_in is) ≡ ss
  pub rest : (j : ℕ) (d : Instrument) → j < length is → (j ≡ k → ⊥) → get_or is j d ≡ get_or is' j d

-- stands behind the last
abbrev behind : Setup → Instrument
behind s = record { card = record { setup = s; pending = none; offer = None }; values = [] }

module _ (is : List Instrument) (ss : List Setup) (e : setups_in (cards_in is) ≡ ss) where
  many : length is ≡ length ss
  many = sym (length-map is (λ (i : Instrument). i.card)) ∙ sym (length-map (cards_in is) (λ (c : Card). c.setup)) ∙ ap length e

  setup_at : (j : ℕ) (s : Setup) → (get_or is j (behind s)).card.setup ≡ get_or ss j s
  setup_at j s =
      ap (λ (c : Card). c.setup) (sym (get_or-map (λ (i : Instrument). i.card) is j (behind s)))
      ∙ sym (get_or-map (λ (c : Card). c.setup) (cards_in is) j (behind s).card)
      ∙ ap (λ (l : List Setup). get_or l j s) e

module _ (bench maker : List ℤ) (k : ℕ) (ss : List Setup) where
  near_count : (is is' : List Instrument) → Near bench maker k ss is is' → length is ≡ length is'
  near_count is is' n = sym (length-map is (λ (i : Instrument). i.card)) ∙ ap length n.cards ∙ length-map is' (λ (i : Instrument). i.card)

  near_word : (is is' : List Instrument) (w : ℕ) → Near bench maker k ss is is' → Near bench maker k ss (hears_all bench maker is w).state (hears_all bench maker is' w).state
  near_word is is' w n = record {
    joint = word_joint bench maker is w n.joint;
    other_joint = word_joint bench maker is' w n.other_joint;
    cards = (word_same bench maker w is is' n.cards).cards;
    setups = setups_stay bench maker is w ∙ n.setups;
    rest = λ j d l q.
        let b : j < length is = omega (arith, hears_count bench maker is w) in
        let b' : j < length is' = omega (arith, near_count is is' n) in
        hears_at bench maker is w j d b ∙ ap (λ (i : Instrument). (hears bench maker i w).state) (n.rest j d b q) ∙ sym (hears_at bench maker is' w j d b');
  }

module _ (bench maker : List ℤ) (cs : List Card) (values values' : List ℤ) (k : ℕ) (s : SoundTogether bench maker cs values) (s' : SoundTogether bench maker cs values') (b : ButFor k (length cs) values values') where
  near_start : Near bench maker k (setups_in cs) (instruments cs values) (instruments cs values')
  near_start = record {
    joint = starts_joint bench maker cs values s;
    other_joint = starts_joint bench maker cs values' s';
    cards = instrument_cards cs values ∙ sym (instrument_cards cs values');
    setups = ap setups_in (instrument_cards cs values);
    rest = λ j d l q.
        let h : j < length cs = omega (arith, instrument_count cs values) in
        instrument_at cs values j d.card d h ∙ (λ t. record { card = get_or cs j d.card; values = b j h q t }) ∙ sym (instrument_at cs values' j d.card d h);
  }

-- ---- each card's own replies

module _ (bench maker : List ℤ) (k : ℕ) (ss : List Setup) where
  -- the same replies of every card but the k-th
  abbrev Picked : List ℕ → List ℕ → Type 0
  Picked x y = (j : ℕ) (s : Setup) → j < length ss → (j ≡ k → ⊥) → picked (get_or ss j s) x ≡ picked (get_or ss j s) y

  own : (is : List Instrument) → Joint bench maker is → setups_in (cards_in is) ≡ ss → (w j : ℕ) (s : Setup) (rest : List ℕ) → j < length is
      → picked (get_or ss j s) ((hears_all bench maker is w).reply ++ rest) ≡ (hears bench maker (get_or is j (behind s)) w).reply ++ picked (get_or ss j s) rest
  own is n e w j s rest l =
      subst (λ (u : Setup). picked u ((hears_all bench maker is w).reply ++ rest) ≡ (hears bench maker (get_or is j (behind s)) w).reply ++ picked u rest) (setup_at is ss e j s)
      (picked_word bench maker is w j (behind s) rest n l)

  near_picked : (is is' : List Instrument) (w : ℕ) → Near bench maker k ss is is' → (x y : List ℕ) → Picked x y → Picked ((hears_all bench maker is w).reply ++ x) ((hears_all bench maker is' w).reply ++ y)
  near_picked is is' w n x y e j s l q =
      let b : j < length is = omega (arith, many is ss n.setups) in
      let b' : j < length is' = omega (arith, near_count bench maker k ss is is' n) in
      own is n.joint n.setups w j s x b
      ∙ ap₂ (λ (i : Instrument) (l : List ℕ). (hears bench maker i w).reply ++ l) (n.rest j (behind s) b q) (e j s l q)
      ∙ sym (own is' n.other_joint (ap setups_in (sym n.cards) ∙ n.setups) w j s y b')

  abbrev Ends : Played (List Instrument) → Played (List Instrument) → Type 0
  Ends = Both (hears_all bench maker) (Near bench maker k ss) Picked

  both_end : (is is' : List Instrument) (room : ℕ) (ws : List ℕ) → Near bench maker k ss is is' → Ends (playing (hears_all bench maker) is room ws) (playing (hears_all bench maker) is' room ws)
  both_end is is' room ws n =
      both_play (hears_all bench maker) (Near bench maker k ss) Picked (λ j s l q. refl)
      (λ is is' w n. record { size = (word_same bench maker w is is' n.cards).size; state = near_word bench maker k ss is is' w n; bytes = near_picked is is' w n })
      is is' room ws n

module _ (bench maker : List ℤ) (cs : List Card) (values values' : List ℤ) (ws out : List ℕ) (k : ℕ) (s : SoundTogether bench maker cs values) (s' : SoundTogether bench maker cs values')
    (v : valid_words ws ≡ true) (b : ButFor k (length cs) values values') where
  abbrev p : Played (List Instrument)
  p = plays cs bench maker values ws out

  abbrev q : Played (List Instrument)
  q = plays cs bench maker values' ws out

  one : bus_call cs bench maker values ws out ≡ ended p out
  one = bus_served cs bench maker values ws out (all_pass bench maker cs values s ws v)

  other : bus_call cs bench maker values' ws out ≡ ended q out
  other = bus_served cs bench maker values' ws out (all_pass bench maker cs values' s' ws v)

  ends : Ends bench maker k (setups_in cs) p q
  ends = both_end bench maker k (setups_in cs) (instruments cs values) (instruments cs values') (length out) ws (near_start bench maker cs values values' k s s' b)

  near : Near bench maker k (setups_in cs) p.state q.state
  near = ends.state

  -- the values of every card but the k-th
  others_values : ButFor k (length cs) (values_in p.state) (values_in q.state)
  others_values j l n =
      let d = behind (record { letter = 0; address = 0; count = 0; scan = []; revision = 0 }) in
      let m = many p.state (setups_in cs) near.setups in
      let x : j < length p.state = omega (arith, length-map cs (λ (c : Card). c.setup)) in
      let y : j < length q.state = omega (arith, near_count bench maker k (setups_in cs) p.state q.state near) in
      values_at p.state j d (whole bench maker p.state near.joint) x
      ∙ ap (λ (i : Instrument). i.values) (near.rest j d x n)
      ∙ sym (values_at q.state j d (whole bench maker q.state near.other_joint) y)

  -- and its replies
  others_replies : (j : ℕ) (d : Card) → j < length cs → (j ≡ k → ⊥) → picked (get_or cs j d).setup p.bytes ≡ picked (get_or cs j d).setup q.bytes
  others_replies j d l n =
      subst (λ (u : Setup). picked u p.bytes ≡ picked u q.bytes) (get_or-map (λ (c : Card). c.setup) cs j d)
      (ends.bytes j d.setup (omega (arith, length-map cs (λ (c : Card). c.setup))) n)

  untouched : Untouched bench maker cs values values' ws out k
  untouched = record {
    took = record { words = p.taken; bytes = length p.bytes };
    takes = ap (λ (a : After). a.outcome) one;
    other_takes = ap (λ (a : After). a.outcome) other ∙ (λ t. gave (record { words = sym ends.taken t; bytes = sym ends.size t }));
    same_cards = ap (λ (a : After). a.cards) one ∙ near.cards ∙ sym (ap (λ (a : After). a.cards) other);
    same_values = λ j l n. ap (λ (a : After). values_of j a.values) one ∙ others_values j l n ∙ sym (ap (λ (a : After). values_of j a.values) other);
    same_replies = λ j d l n.
        let u = (get_or cs j d).setup in
        ap (λ (a : After). picked u (take (length p.bytes) a.buffer)) one
        ∙ ap (picked u) (laid_front p.bytes out)
        ∙ others_replies j d l n
        ∙ sym (ap (λ (a : After). picked u (take (length p.bytes) a.buffer)) other ∙ ap (λ (m : ℕ). picked u (take m (laid q.bytes out))) ends.size ∙ ap (picked u) (laid_front q.bytes out));
  }

pub isolated : Isolated
isolated = record { untouched = λ bench maker cs values values' ws out k s s' v b. untouched bench maker cs values values' ws out k s s' v b }
