-- Many cards on one pair: of two at most one replies, what a run leaves is sound again, and demand 3 over all of them, by the messages heard
-- and by each card's own soundness. Assumes nothing.
use mathlib.Core.Path.{◌≡◌, refl, sym, ap, ◌∙◌, subst}
use mathlib.Core.Logic.{◌⊎◌, inl, inr}
use mathlib.Core.Bool.{true, ◌&&◌}
use mathlib.Core.List.{List, [], ◌∷◌, ◌++◌, map}
use Prim.Native.Nat.{ℕ, ◌≤◌, ◌<◌}
use native.Mathlib.Omega.{arith}
use lib.IntN.{ℤ}
use lib.ListN.{length, get_or, take, length-map}
use Rattle.refusal.specs.Refusal.{Outcome, gave}
use Rattle.refusal.specs.Buffer.{laid}
use Rattle.refusal.specs.Check.{first}
use Rattle.refusal.proofs.Logic.{by-test}
use Rattle.refusal.proofs.Buffers.{laid_front}
use Rattle.refusal.proofs.Lists.{every_at}
use Rattle.wire.specs.Word.{valid_words}
use Rattle.hearing.specs.declared.Pending.{Pending}
use Rattle.hearing.specs.Hearing.{hear}
use Rattle.hearing.proofs.Normal.{normal_valid}
use Rattle.sheet.specs.Sheet.{sound_sheet}
use Rattle.sheet.proofs.Values.{good_values}
use Rattle.reply.specs.Reply.{longest_reply}
use Rattle.act.specs.Cause.{is_for}
use Rattle.card.specs.declared.Card.{Card}
use Rattle.card.specs.Run.{Played, playing}
use Rattle.card.specs.Turn.{Turn, turn, Instrument}
use Rattle.card.specs.Refusals.{sound_card}
use Rattle.card.specs.Calls.{After, WordAnswer, bytes_of, step_call}
use Rattle.card.proofs.Turns.{turn_unheard, turn_neighbour}
use Rattle.card.proofs.Runs.{all, all_end, all_word, all_taken, run_all}
use Rattle.bus.specs.Bus.{instruments, cards_in, values_in, hears_all}
use Rattle.bus.specs.Refusals.{sound_bus, fits_sheets, bus_checks}
use Rattle.bus.specs.Calls as bus
use Rattle.bus.proofs.Instruments.{joined_none, instrument_cards, instrument_count, instrument_at, Whole, each_every, parts_sound, sound-parts, fits_parted, parts_fit}
use Rattle.bus.proofs.Sharing.{plays, bus_sound_passes, bus_served, bus_all, not_both, cards_apart, open_in, open_at, all_closed, bus_stays, hears_count, hears_at, play_keeps, no_cards, no_card_ends, Left, left_in, left_alike}
use Rattle.demands.specs.Terms.{Sound}
use Rattle.demands.specs.Bus.{SoundTogether, values_of, all_replies, replies_of, AllAlike, BusDemand3, OnePair}
use Rattle.demands.proofs.Words.{taken, left}
use Rattle.demands.proofs.Recordings.{parts}
use Rattle.std.specs.Prelude.{None, Option, Some}
use Rattle.message.specs.declared.Message.{Message}

-- ---- soundness, card by card

-- each of them with its values; d stands behind the last
abbrev pub EachSound : List ℤ → List ℤ → List Instrument → Type 0
EachSound bench maker is = (k : ℕ) (d : Instrument) → k < length is → Sound bench maker (get_or is k d).card (get_or is k d).values

-- and they can share a pair
pub record Joint (bench maker : List ℤ) (is : List Instrument) : Type 0 where
  pub sheets_sound : (sound_sheet bench && sound_sheet maker) ≡ true
  pub bus_sound : sound_bus (cards_in is) ≡ true
  pub each : EachSound bench maker is

module _ (bench maker : List ℤ) where
  module _ (cs : List Card) (values : List ℤ) (s : SoundTogether bench maker cs values) where
    -- the k-th of them
    pub sound-at : (k : ℕ) (d : Card) → k < length cs → Sound bench maker (get_or cs k d) (values_of k values)
    sound-at k d l =
        let f = fits_parted bench maker (get_or cs k d) (every_at (fits_sheets bench maker) d cs k s.sheets_fit l) in
        record {
          card_sound = every_at sound_card d cs k s.cards_sound l;
          sheets_sound = s.sheets_sound;
          offer_sound = f.0;
          scan_sound = f.1;
          values_sound = parts_sound bench maker (length cs) values k s.values_sound l;
        }

    pub starts_joint : Joint bench maker (instruments cs values)
    starts_joint = record {
      sheets_sound = s.sheets_sound;
      bus_sound = rw (instrument_cards cs values) s.bus_sound;
      each = λ k d l. let h : k < length cs = omega (arith, instrument_count cs values) in rw (instrument_at cs values k d.card d h) (sound-at k d.card h);
    }

    pub all_pass : (ws : List ℕ) → valid_words ws ≡ true → first (bus_checks cs bench maker values ws) ≡ gave tt
    all_pass ws v = bus_sound_passes cs bench maker values ws s.cards_sound s.bus_sound s.sheets_sound s.sheets_fit s.values_sound v

  pub word_joint : (is : List Instrument) (w : ℕ) → Joint bench maker is → Joint bench maker (hears_all bench maker is w).state
  word_joint is w s = record {
    sheets_sound = s.sheets_sound;
    bus_sound = bus_stays bench maker is w s.bus_sound;
    each = λ k d l.
        let h : k < length is = omega (arith, hears_count bench maker is w) in
        rw (hears_at bench maker is w k d h) (left bench maker (get_or is k d).card (get_or is k d).values (s.each k d h) w);
  }

  run_joint : (is : List Instrument) (room : ℕ) (ws : List ℕ) → Joint bench maker is → Joint bench maker (playing (hears_all bench maker) is room ws).state
  run_joint is room ws s = play_keeps (hears_all bench maker) (Joint bench maker) (λ is w. word_joint is w) is room ws s

  -- with room for every reply
  pub all_joint : (is : List Instrument) (ws : List ℕ) → Joint bench maker is → Joint bench maker (all (hears_all bench maker) is ws).state
  all_joint is ws s =
      let n = length (all (hears_all bench maker) is ws).bytes in
      subst (λ (p : Played (List Instrument)). Joint bench maker p.state) (run_all (hears_all bench maker) is n ws (omega arith)) (run_joint is n ws s)

  pub whole : (is : List Instrument) → Joint bench maker is → Whole is
  whole is s k d l = (good_values bench maker (get_or is k d).values (s.each k d l).values_sound).count

  joint_together : (is : List Instrument) → Joint bench maker is → SoundTogether bench maker (cards_in is) (values_in is)
  joint_together is s = record {
    cards_sound = each_every sound_card (λ (i : Instrument). i.card) is (λ k d l. (s.each k d l).card_sound);
    bus_sound = s.bus_sound;
    sheets_sound = s.sheets_sound;
    sheets_fit = each_every (fits_sheets bench maker) (λ (i : Instrument). i.card) is (λ k d l. let p = s.each k d l in parts_fit bench maker (get_or is k d).card p.offer_sound p.scan_sound);
    values_sound = rw (length-map is (λ (i : Instrument). i.card)) (sound-parts bench maker is (λ k d l. (s.each k d l).values_sound));
  }

-- ---- one pair

module _ (bench maker : List ℤ) (c : Card) (values : List ℤ) (w : ℕ) (out : List ℕ) (s : Sound bench maker c values) (v : w ≤ 256) (h : longest_reply ≤ length out) where
  -- a word without a reply
  silent : {t : Turn} → turn bench maker c values w ≡ t → t.reply ≡ [] → bytes_of (step_call c bench maker values w out).outcome ≡ gave 0
  silent e n = ap (λ (a : After WordAnswer). bytes_of a.outcome) (taken bench maker c values s w out v h) ∙ ap (λ (l : List ℕ). gave (length l)) (ap (λ (t : Turn). t.reply) e ∙ n)

module _ (bench maker : List ℤ) (cs : List Card) (values : List ℤ) (s : SoundTogether bench maker cs values) where
  same_pending : (j k : ℕ) (d : Card) → j < length cs → k < length cs → (get_or cs j d).pending ≡ (get_or cs k d).pending
  same_pending j k d l h =
      let is = instruments cs values in
      let n = instrument_count cs values in
      let b : sound_bus (cards_in is) ≡ true = rw (instrument_cards cs values) s.bus_sound in
      let e : Instrument = record { card = d; values = [] } in
      let at : (i : ℕ) → i < length cs → (get_or cs i d).pending ≡ open_in is = λ i x.
      ap (λ (y : Instrument). y.card.pending) (sym (instrument_at cs values i d e x)) ∙ open_at is b i e (omega arith) in
      at j l ∙ sym (at k h)

  module _ (w : ℕ) (out : List ℕ) (j k : ℕ) (d : Card) (v : w ≤ 256) (h : longest_reply ≤ length out) where
    -- what the single word's call gives at the k-th card
    abbrev given : ℕ → Outcome ℕ
    given k = bytes_of (step_call (get_or cs k d) bench maker (values_of k values) w out).outcome

    silent_at : (k : ℕ) → k < length cs → {t : Turn} → turn bench maker (get_or cs k d) (values_of k values) w ≡ t → t.reply ≡ [] → given k ≡ gave 0
    silent_at k l e n = silent bench maker (get_or cs k d) (values_of k values) w out (sound-at bench maker cs values s k d l) v h e n

    replies_one : j < length cs → k < length cs → (j ≡ k → ⊥) → (given j ≡ gave 0) ⊎ (given k ≡ gave 0)
    replies_one lj lk n = by (hear (get_or cs j d).pending w).message refl
      where
        by : (x : Option Message) → (hear (get_or cs j d).pending w).message ≡ x → (given j ≡ gave 0) ⊎ (given k ≡ gave 0)
        by None e = inl (silent_at j lj (turn_unheard bench maker (get_or cs j d) (values_of j values) w e) refl)
        by (Some m) e =
            by-test (is_for (get_or cs j d).setup m)
            (λ t.
            let other = not_both (get_or cs j d).setup (get_or cs k d).setup m (cards_apart cs d j k s.bus_sound lj lk n) t in
            inr (silent_at k lk (turn_neighbour bench maker (get_or cs k d) (values_of k values) w m (ap (λ (p : Pending). (hear p w).message) (same_pending k j d lk lj) ∙ e) other) refl))
            (λ t. inl (silent_at j lj (turn_neighbour bench maker (get_or cs j d) (values_of j values) w m e t) refl))

pub one_pair : OnePair
one_pair = record {
  one_replies = λ bench maker cs values w out j k d s v h lj lk n. replies_one bench maker cs values s w out j k d v h lj lk n;
  stays_sound = λ bench maker cs values ws out s v.
      rw (bus_served cs bench maker values ws out (all_pass bench maker cs values s ws v))
      (joint_together bench maker (plays cs bench maker values ws out).state (run_joint bench maker (instruments cs values) (length out) ws (starts_joint bench maker cs values s)));
  served = λ bench maker cs values ws out s v.
      let p = plays cs bench maker values ws out in
      (record { words = p.taken; bytes = length p.bytes }, ap (λ (a : bus.After). a.outcome) (bus_served cs bench maker values ws out (all_pass bench maker cs values s ws v)));
  no_card = λ bench maker ws out s v.
      let n = no_card_ends bench maker ws out in
      let none = subst (SoundTogether bench maker []) joined_none (joint_together bench maker [] (record { sheets_sound = s; bus_sound = no_cards; each = λ k d l. absurd (omega arith) })) in
      bus_all [] bench maker [] ws out (all_pass bench maker [] [] none ws v) (omega (arith, n.0)) ∙ n.1;
}

-- ---- demand 3

pub all-replies : (bench maker : List ℤ) (is : List Instrument) (ws : List ℕ) → (all (hears_all bench maker) is ws).bytes ≡ all_replies bench maker is ws
unfolding all_replies
all-replies bench maker is [] = ap (λ (p : Played (List Instrument)). p.bytes) (all_end (hears_all bench maker) is)
all-replies bench maker is (w ∷ ws) =
    let r = hears_all bench maker is w in
    ap (λ (p : Played (List Instrument)). p.bytes) (all_word (hears_all bench maker) is w ws) ∙ ap (λ (l : List ℕ). r.reply ++ l) (all-replies bench maker r.state ws)

module _ (bench maker : List ℤ) (cs : List Card) (values : List ℤ) (s : SoundTogether bench maker cs values) where
  abbrev pub ends : List ℕ → Played (List Instrument)
  ends ws = all (hears_all bench maker) (instruments cs values) ws

  module _ (ws out : List ℕ) (n : ℕ) (v : valid_words ws ≡ true) (b : length (ends ws).bytes ≡ n) (h : n ≤ length out) where
    pub served : bus.bus_call cs bench maker values ws out ≡ bus.ended (ends ws) out
    served = bus_all cs bench maker values ws out (all_pass bench maker cs values s ws v) (omega arith)

    pub outcome : (bus.bus_call cs bench maker values ws out).outcome ≡ gave (record { words = length ws; bytes = n })
    outcome = ap (λ (r : bus.After). r.outcome) served ∙ (λ j. gave (record { words = all_taken (hears_all bench maker) (instruments cs values) ws j; bytes = b j }))

    pub bytes_written : take n (bus.bus_call cs bench maker values ws out).buffer ≡ (ends ws).bytes
    bytes_written = ap (λ (r : bus.After). take n r.buffer) served ∙ ap (λ (k : ℕ). take k (laid (ends ws).bytes out)) (sym b) ∙ laid_front (ends ws).bytes out

  -- two recordings that leave the same
  alike : (ws xs out out' : List ℕ) → left_in (ends ws).state (ends ws).bytes ≡ left_in (ends xs).state (ends xs).bytes → valid_words ws ≡ true → valid_words xs ≡ true
      → length (replies_of bench maker cs values ws) ≤ length out → length (replies_of bench maker cs values xs) ≤ length out' → AllAlike bench maker cs values ws xs out out'
  alike ws xs out out' e v v' h h' =
      let n = length (replies_of bench maker cs values ws) in
      let b : length (ends ws).bytes ≡ n = ap length (all-replies bench maker (instruments cs values) ws) in
      let b' : length (ends xs).bytes ≡ n = sym (ap (λ (l : Left). length l.bytes) e) ∙ b in
      let k : length (ends xs).bytes ≡ length (replies_of bench maker cs values xs) = ap length (all-replies bench maker (instruments cs values) xs) in
      let m : n ≤ length out' = omega arith in
      let one = served ws out n v b h in
      let other = served xs out' n v' b' m in
      record {
        takes_all = outcome ws out n v b h;
        other_takes_all = outcome xs out' n v' b' m;
        same_replies = bytes_written ws out n v b h ∙ ap (λ (l : Left). l.bytes) e ∙ sym (bytes_written xs out' n v' b' m);
        same_values = ap (λ (r : bus.After). r.values) one ∙ ap (λ (l : Left). l.values) e ∙ sym (ap (λ (r : bus.After). r.values) other);
        same_offers = ap (λ (r : bus.After). map (λ (c : Card). c.offer) r.cards) one ∙ ap (λ (l : Left). l.offers) e ∙ sym (ap (λ (r : bus.After). map (λ (c : Card). c.offer) r.cards) other);
      }

pub bus_demand_3 : BusDemand3
bus_demand_3 = record {
  played_alike = λ ws out xs w bench maker cs values a b s p h h'.
      let q = parts ws out xs w in
      let is = instruments cs values in
      let closed = all_closed is (rw (instrument_cards cs values) p) in
      let left : List ℕ → Left = λ ys. left_in (ends bench maker cs values s ys).state (ends bench maker cs values s ys).bytes in
      let e : left ws ≡ left xs = rw q.is_normal (left_alike bench maker is (starts_joint bench maker cs values s).bus_sound closed ws) in
      alike bench maker cs values s ws xs a b e q.valid (ap valid_words q.is_normal ∙ normal_valid ws) h h';
}
