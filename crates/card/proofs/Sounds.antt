-- What a sound card, a sound offer and a sound scan are, by their parts, and what a word leaves of a sound card with sound values: both
-- are sound again, no place without a row is touched, and what the card says is an answer as the reader knows them. Assumes nothing.
use mathlib.Core.Path.{◌≡◌, refl, sym, ap, ◌∙◌, subst}
use mathlib.Core.Bool.{Bool, true, false, not, ◌&&◌, ◌||◌, false≢true}
use mathlib.Core.List.{List}
use Prim.Native.Nat.{ℕ, zero, suc, ◌+◌, ◌<◌, ◌≤◌}
use native.Mathlib.Omega.{arith}
use borrow.Author.Tests.{eqb-true, ne_eqb, ltb-true, ltb-false}
use lib.Dec.{ltb, eqb}
use lib.IntN.{ℤ, pos}
use lib.ListN.{get_or}
use Rattle.refusal.specs.Lists.{every}
use Rattle.refusal.proofs.Logic.{ands, and_both, and_left, and_right, by-test}
use Rattle.message.specs.declared.Message.{Message}
use Rattle.message.specs.Message.{is_letter, is_address}
use Rattle.message.proofs.Messages.{parts}
use Rattle.message.proofs.Reading.{Heard-is}
use Rattle.hearing.specs.Hearing.{hear}
use Rattle.hearing.specs.Sound.{sound_pending}
use Rattle.hearing.proofs.Heard.{hear_message}
use Rattle.hearing.proofs.Sound.{hear_sound}
use Rattle.sheet.specs.declared.Row.{Row}
use Rattle.sheet.specs.Lookup.{has_row}
use Rattle.sheet.specs.Values.{entry_in, is_readable, is_readable_entry, is_writable, sound_values}
use Rattle.sheet.proofs.Values.{entry_absent, entry_sound, cut_fits, set_sound, set_elsewhere}
use Rattle.reply.specs.declared.Answer.{Answer}
use Rattle.reply.specs.Reply.{scan_identifier, is_answer}
use Rattle.act.specs.declared.Setup.{Setup}
use Rattle.act.specs.Cause.{is_for}
use Rattle.act.specs.Act.{named, names_from, act}
use Rattle.act.proofs.OnOffer.{Leaves, act_leaves, act_neighbour}
use Rattle.act.proofs.Effects.{Allowed, Fair, FairScan, Good, good_silence, good_act}
use Rattle.card.specs.declared.Card.{Card}
use Rattle.card.specs.Turn.{effect_of, turn, stored}
use Rattle.card.specs.Refusals.{is_revision, sound_setup, sound_card, offerable, sound_offer, no_scan_row, sound_scan}
use Rattle.card.proofs.Turns.{effects, turn_card, turn_store}
use Rattle.std.specs.Prelude.{None, Option, Some}
use Rattle.act.specs.Act.{held}
use Rattle.act.specs.Act.{storing}
use Rattle.act.specs.declared.Offer.{Offer}
use Rattle.act.specs.declared.Store.{Store}

-- ---- a sound card

pub record CardParts (c : Card) : Type 0 where
  pub is_set : sound_setup c.setup ≡ true
  pub is_open : sound_pending c.pending ≡ true

pub card_parts : (c : Card) → sound_card c ≡ true → CardParts c
unfolding sound_card
card_parts c e = record { is_set = search ands; is_open = search ands }

pub parts_card : (c : Card) → CardParts c → sound_card c ≡ true
unfolding sound_card
parts_card c p = and_both p.is_set p.is_open

-- a setup that a message's letter and address make
pub setup_sound : (s : Setup) → is_letter s.letter ≡ true → is_address s.address ≡ true → is_revision s.revision ≡ true → sound_setup s ≡ true
unfolding sound_setup
setup_sound s p q r = and_both (and_both p q) r

-- a card of another revision isn't sound
pub unknown_revision : (c : Card) → (c.setup.revision ≡ 1 → ⊥) → (c.setup.revision ≡ 2 → ⊥) → sound_card c ≡ false
unfolding sound_card sound_setup is_revision
unknown_revision c f g =
    rw (ne_eqb c.setup.revision 1 f, ne_eqb c.setup.revision 2 g)
    (by-test (is_letter c.setup.letter && is_address c.setup.address) (λ t. rw t) (λ t. rw t))

pub first_revision : is_revision 1 ≡ true
unfolding is_revision
first_revision = refl

-- ---- a sound offer

pub nothing_sound : (bench maker : List ℤ) → sound_offer bench maker None ≡ true
unfolding sound_offer
nothing_sound bench maker = refl

-- the row of i is not read only, and allows the value z
pub record Offerable (bench maker : List ℤ) (i : ℕ) (z : ℤ) : Type 0 where
  pub allowed : Allowed bench maker i z
  pub writable : is_writable allowed.row ≡ true

module _ (bench maker : List ℤ) where
  pub offer_parts : (i : ℕ) (z : ℤ) → sound_offer bench maker (held i z) ≡ true → Offerable bench maker i z
  unfolding sound_offer offerable
  offer_parts i z h = go (entry_in bench maker i) refl h
    where
      go : (e : Option Row) → entry_in bench maker i ≡ e → offerable e z ≡ true → Offerable bench maker i z
      go (Some r) f q = record { allowed = record { row = r; found = f; fits = search ands }; writable = search ands }
      go None f q = absurd (false≢true q)

  pub parts_offer : (i : ℕ) (z : ℤ) → Offerable bench maker i z → sound_offer bench maker (held i z) ≡ true
  unfolding sound_offer offerable
  parts_offer i z p = rw p.allowed.found (and_both p.writable p.allowed.fits)

  offer_fair : (o : Option Offer) → sound_offer bench maker o ≡ true → Fair bench maker o
  offer_fair None h = tt
  offer_fair (Some o) h = (offer_parts o.identifier o.value h).allowed

  -- what a message leaves on offer
  pub leaves_sound : (m : Message) (i : ℕ) (z : ℤ) → Leaves bench maker m i z → sound_offer bench maker (held i z) ≡ true
  leaves_sound m i z l =
      let r = l.row in
      let f : entry_in bench maker i ≡ Some r = ap (entry_in bench maker) (sym l.its) ∙ l.found in
      let c = cut_fits r (entry_sound bench maker i r f) l.number.number l.in-range in
      parts_offer i z (record { allowed = record { row = r; found = f; fits = rw l.value at c }; writable = l.writable })

  act_sound : (s : Setup) (o : Option Offer) (values : List ℤ) (m : Message) → sound_offer bench maker o ≡ true → sound_offer bench maker (act bench maker s o values m).offer ≡ true
  act_sound s o values m h =
      by-test (is_for s m) (λ t. go t (act bench maker s o values m).offer refl) (λ t. rw (act_neighbour bench maker m s o values t) h)
    where
      go : is_for s m ≡ true → (x : Option Offer) → (act bench maker s o values m).offer ≡ x → sound_offer bench maker x ≡ true
      go t None e = nothing_sound bench maker
      go t (Some x) e = leaves_sound m x.identifier x.value (act_leaves bench maker m s o values t x.identifier x.value e)

-- ---- the scan

-- each of the identifiers that are tested
names_each : (f : ℕ → Bool) (s : Setup) (j n k : ℕ) → every f (names_from s j n) ≡ true → j ≤ k → k < j + n → f (named s k) ≡ true
unfolding names_from every
names_each f s j zero k e h l = absurd (nowhere j k h l)
  where
    nowhere : (j k : ℕ) → j ≤ k → k < j + 0 → ⊥
    nowhere j k h l = omega arith
names_each f s j (suc n) k e h l =
    by-test (ltb j k)
    (λ t. let b = ltb-true j k t in names_each f s (suc j) n k (and_right (f (named s j)) (every f (names_from s (suc j) n)) e) (omega arith) (omega arith))
    (λ t. let q : j ≡ k = omega (arith, ltb-false j k t) in subst (λ (x : ℕ). f (named s x) ≡ true) q (and_left (f (named s j)) (every f (names_from s (suc j) n)) e))

each_name : (f : ℕ → Bool) (s : Setup) (j n : ℕ) → ((k : ℕ) → k < j + n → f (named s k) ≡ true) → every f (names_from s j n) ≡ true
unfolding names_from every
each_name f s j zero h = refl
each_name f s j (suc n) h = and_both (h j (omega arith)) (each_name f s (suc j) n (λ k l. h k (omega arith)))

entry_read : (e : Option Row) → is_readable_entry e ≡ true → (r : Row) × (e ≡ Some r)
unfolding is_readable_entry
entry_read (Some r) h = (r, refl)
entry_read None h = absurd (false≢true h)

scan_fair : (bench maker : List ℤ) (s : Setup) → sound_scan bench maker s ≡ true → FairScan bench maker s
unfolding sound_scan
scan_fair bench maker s e = record {
  many = search ands;
  rows = λ k h. entry_read (entry_in bench maker (named s k)) (names_each (λ (i : ℕ). is_readable_entry (entry_in bench maker i)) s 0 s.count k (search ands) (omega arith) (omega arith));
}

found_missing : {r : Row} → Some r ≡ None → ⊥
found_missing e = let n : ◌≡◌ {A = ℕ} 0 1 = cc in omega arith

module _ (bench maker : List ℤ) where
  pub no-scan-row : has_row bench scan_identifier ≡ false → has_row maker scan_identifier ≡ false → no_scan_row bench maker ≡ true
  no-scan-row p q = rw (p, q)

  -- as with every sound scan
  pub scan_no_row : (s : Setup) → sound_scan bench maker s ≡ true → no_scan_row bench maker ≡ true
  unfolding sound_scan
  scan_no_row s e = search ands

  -- so an identifier with a row is another
  pub row_no_scan : no_scan_row bench maker ≡ true → (i : ℕ) (r : Row) → entry_in bench maker i ≡ Some r → eqb i scan_identifier ≡ false
  row_no_scan e i r f =
      let p = neither (has_row bench scan_identifier) (has_row maker scan_identifier) e in
      by-test (eqb i scan_identifier)
      (λ q. absurd (found_missing (sym f ∙ ap (entry_in bench maker) (eqb-true i scan_identifier q) ∙ entry_absent bench maker scan_identifier p.0 p.1)))
      (λ q. q)
    where
      neither : (a b : Bool) → not (a || b) ≡ true → (a ≡ false) × (b ≡ false)
      neither true b e = absurd (false≢true e)
      neither false true e = absurd (false≢true e)
      neither false false e = (refl, refl)

  module _ (e : no_scan_row bench maker ≡ true) (s : Setup) where
    -- a scan whose identifiers all have a row that can be read
    pub readable_scan : (eqb s.count 0 || eqb s.count 4 || eqb s.count 5) ≡ true → ((k : ℕ) → k < s.count → (r : Row) × (entry_in bench maker (named s k) ≡ Some r) × (is_readable r ≡ true)) → sound_scan bench maker s ≡ true
    unfolding sound_scan is_readable_entry
    readable_scan n h =
        and_both (and_both e n) (each_name (λ (i : ℕ). is_readable_entry (entry_in bench maker i)) s 0 s.count (λ k l. let x = h k (omega arith) in rw x.1 x.2))

    -- none named
    pub no_scan : s.count ≡ 0 → sound_scan bench maker s ≡ true
    no_scan z = readable_scan (rw z refl) (λ k l. absurd (omega arith))

-- ---- values after a store

module _ (bench maker values : List ℤ) where
  -- what it stores, the row allows
  abbrev Stores : Option Store → Type 0
  Stores s = (i : ℕ) (z : ℤ) → s ≡ storing i z → Allowed bench maker i z

  stored_sound : sound_values bench maker values ≡ true → (s : Option Store) → Stores s → sound_values bench maker (stored values s) ≡ true
  unfolding stored
  stored_sound v None h = v
  stored_sound v (Some s) h = let a = h s.place s.value refl in set_sound bench maker values s.place a.row s.value v a.found a.fits

  stored_elsewhere : (s : Option Store) → Stores s → (k : ℕ) → entry_in bench maker k ≡ None → get_or (stored values s) k (pos 0) ≡ get_or values k (pos 0)
  unfolding stored
  stored_elsewhere None h k e = refl
  stored_elsewhere (Some s) h k e =
      let a = h s.place s.value refl in
      set_elsewhere values s.place k s.value (λ (q : k ≡ s.place). found_missing (sym a.found ∙ ap (entry_in bench maker) (sym q) ∙ e))

-- ---- a word

module _ (bench maker : List ℤ) (c : Card) (values : List ℤ) (h : sound_offer bench maker c.offer ≡ true) where
  effect_offer : (p : Option Message) → sound_offer bench maker (effects bench maker c values p).offer ≡ true
  unfolding effect_of
  effect_offer (Some m) = act_sound bench maker c.setup c.offer values m h
  effect_offer None = h

  module _ (n : sound_scan bench maker c.setup ≡ true) (v : sound_values bench maker values ≡ true) where
    effect_good : (p : Option Message) → Heard-is p → Good bench maker (effects bench maker c values p)
    unfolding effect_of
    effect_good (Some m) e = good_act bench maker values v m (parts m e) c.setup c.offer (scan_fair bench maker c.setup n) (offer_fair bench maker c.offer h)
    effect_good None e = good_silence bench maker c.offer

    module _ (w : ℕ) where
      word_good : Good bench maker (effects bench maker c values (hear c.pending w).message)
      word_good = effect_good (hear c.pending w).message (hear_message c.pending w)

      pub said_answer : (a : Answer) → (effects bench maker c values (hear c.pending w).message).said ≡ Some a → is_answer a ≡ true
      said_answer = word_good.answers

      pub values_stay : sound_values bench maker (stored values (turn bench maker c values w).store) ≡ true
      values_stay = rw (turn_store bench maker c values w) (stored_sound bench maker values v _ word_good.stores)

      pub places_stay : (i : ℕ) → entry_in bench maker i ≡ None → get_or (stored values (turn bench maker c values w).store) i (pos 0) ≡ get_or values i (pos 0)
      places_stay i e = rw (turn_store bench maker c values w) (stored_elsewhere bench maker values _ word_good.stores i e)

  pub offer_stays : (w : ℕ) → sound_offer bench maker (turn bench maker c values w).card.offer ≡ true
  offer_stays w = rw (turn_card bench maker c values w) (effect_offer (hear c.pending w).message)

pub card_stays : (bench maker : List ℤ) (c : Card) (values : List ℤ) (w : ℕ) → sound_card c ≡ true → sound_card (turn bench maker c values w).card ≡ true
card_stays bench maker c values w e =
    let p = card_parts c e in
    rw (turn_card bench maker c values w) (parts_card _ (record { is_set = p.is_set; is_open = hear_sound c.pending w p.is_open }))
