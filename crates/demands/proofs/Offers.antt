-- What a Type 3 message leaves on offer is sound and not above the number asked for; and a sound offer is left by the message that asks
-- for its own value, since a multiple of the step is its own cut. Assumes nothing.
use mathlib.Core.Path.{◌≡◌, refl, sym, ap, ◌∙◌, subst}
use mathlib.Core.Bool.{true, ◌&&◌, false≢true}
use mathlib.Core.List.{List}
use Prim.Native.Nat.{ℕ}
use Prim.Native.Char.{code}
use lib.Dec.{lit≤}
use lib.IntN.{ℤ}
use lib.ListN.{length, replicate}
use Rattle.refusal.specs.Refusal.{gave}
use Rattle.refusal.proofs.Logic.{and_left, and_right}
use Rattle.wire.specs.Word.{with_parity}
use Rattle.number.specs.declared.Numeral.{Numeral}
use Rattle.number.specs.Number.{in_range, cut}
use Rattle.number.specs.Data.{with_decimals, numeral, as_decimal}
use Rattle.number.proofs.Cuts.{cut_is, cut_multiple, cut_below, cut_greatest, cut_own}
use Rattle.number.proofs.Reading.{within_fits, numeral_fits}
use Rattle.message.specs.declared.Body.TheVariants.{Set}
use Rattle.message.specs.declared.Message.{Message}
use Rattle.message.specs.Message.{star, is_message}
use Rattle.message.proofs.Messages.{whole, parts_body, letter_is, address_is}
use Rattle.hearing.specs.Hearing.{hear}
use Rattle.message.specs.Spell.{spell_open}
use Rattle.message.proofs.Spelling.{open_length}
use Rattle.hearing.proofs.Sound.{pending_holds, spelled_closed}
use Rattle.sheet.specs.declared.Row.{Row}
use Rattle.sheet.specs.Sheet.{sound_sheet}
use Rattle.sheet.proofs.Values.{SoundRow, entry_sound, entry_identifier, fits_parts, range_small}
use Rattle.sheet.proofs.Least.{least_values, least_sound}
use Rattle.act.specs.declared.Effect.{Effect}
use Rattle.act.specs.Cause.{is_for}
use Rattle.act.specs.Act.{act}
use Rattle.act.proofs.OnOffer.{Leaves, act_leaves, set_leaves}
use Rattle.card.specs.declared.Card.{Card}
use Rattle.card.specs.Turn.{turn}
use Rattle.card.specs.Refusals.{sound_offer, no_scan_row}
use Rattle.card.specs.Calls.{After, WordAnswer, bytes_of, step_call}
use Rattle.card.proofs.Turns.{effects, effect_heard, turn_card}
use Rattle.card.proofs.Steps.{served_step}
use Rattle.card.proofs.Sounds.{Offerable, offer_parts, leaves_sound, row_no_scan, scan_no_row, no_scan}
use Rattle.demands.specs.Demand2.{LeftBy, OfferReachable, NotAbove, NeverUp}
use Rattle.demands.proofs.Words.{taken}
use Rattle.demands.proofs.Possible.{card_for, for_itself, room, star_valid, card_sound}
use Rattle.std.specs.Prelude.{None, Option, Some}
use Rattle.act.specs.Act.{held}

-- ---- what a word that closes a message for this card leaves on offer

module _ (bench maker : List ℤ) (c : Card) (values : List ℤ) (w : ℕ) (m : Message) (h : (hear c.pending w).message ≡ Some m) where
  pub turn_offer : (turn bench maker c values w).card.offer ≡ (act bench maker c.setup c.offer values m).offer
  turn_offer =
      ap (λ (x : Card). x.offer) (turn_card bench maker c values w)
      ∙ ap (λ (p : Option Message). (effects bench maker c values p).offer) h
      ∙ ap (λ (x : Effect). x.offer) (effect_heard bench maker c.setup c.offer values m)

  pub call_leaves : is_for c.setup m ≡ true → (out : List ℕ) (k i : ℕ) (z : ℤ) → bytes_of (step_call c bench maker values w out).outcome ≡ gave k → (step_call c bench maker values w out).card.offer ≡ held i z → Leaves bench maker m i z
  call_leaves t out k i z g l =
      act_leaves bench maker m c.setup c.offer values t i z
      (sym turn_offer ∙ sym (ap (λ (a : After WordAnswer). a.card.offer) (served_step c bench maker values w out k g).leaves) ∙ l)

-- ---- never up

cut_not_above : (r : Row) (n : ℤ) → SoundRow r → in_range r.least n r.greatest ≡ true → NotAbove n (cut n r.step) r
cut_not_above r n s h =
    let p = s.step_least in
    rw (cut_is r.step p n (range_small r s n h) s.step_most) (record {
      multiple = cut_multiple r.step p n;
      not_above = cut_below r.step p n;
      none_between = λ y m l. cut_greatest r.step p y n m l;
    })

pub never_up : NeverUp
never_up = record {
  never_up = λ bench maker c values w out k m x z r g h t b e l.
      let i = m.identifier in
      let q = call_leaves bench maker c values w m h t out k i z g l in
      let same_row : q.row ≡ r = cc q.found in
      let same_number : q.number ≡ x = cc q.type_3 in
      subst (λ (y : Numeral). NotAbove y.number z r) same_number
      (subst (λ (y : Row). NotAbove q.number.number z y) same_row
      (subst (λ (y : ℤ). NotAbove q.number.number y q.row) q.value (cut_not_above q.row q.number.number (entry_sound bench maker i q.row q.found) q.in-range)));
}

-- ---- sound offers

module _ (bench maker : List ℤ) (i : ℕ) (z : ℤ) where
  -- what a Type 3 leaves is sound
  left_sound : LeftBy bench maker (held i z) → sound_offer bench maker (held i z) ≡ true
  left_sound l = leaves_sound bench maker l.message i z (call_leaves bench maker l.card l.values l.word l.message l.closes l.is_ours l.out l.bytes i z l.gives l.leaves)

  -- the Type 3 that asks for the value on offer
  abbrev asks : ℕ → Message
  asks d = record { letter = code "L"; address = 1; identifier = i; body = Set (numeral (with_decimals z d)) }

  abbrev unnamed : List ℕ
  unnamed = replicate 5 0

  offer_left : (sound_sheet bench && sound_sheet maker) ≡ true → no_scan_row bench maker ≡ true → Offerable bench maker i z → LeftBy bench maker (held i z)
  offer_left sheets free o =
      let r = o.allowed.row in
      let e = o.allowed.found in
      let s = entry_sound bench maker i r e in
      let c = entry_identifier bench maker i r e in
      let p = fits_parts r z o.allowed.fits in
      let b = range_small r s z p.0 in
      let m = asks r.decimals in
      let x = numeral (with_decimals z r.decimals) in
      let its = card_for m 0 unnamed in
      let is-message : is_message m ≡ true = whole m (record {
        is-letter = letter_is;
        is-address = address_is 1 (lit≤ tt) (lit≤ tt);
        is-identifier = c.0;
        fits-body = parts_body i (Set x) (c.1, numeral_fits (as_decimal x) (within_fits (as_decimal x) b s.decimals_most));
      }) in
      let values = least_values bench maker in
      let fit = least_sound bench maker (and_left (sound_sheet bench) (sound_sheet maker) sheets) (and_right (sound_sheet bench) (sound_sheet maker) sheets) in
      let sound = card_sound m 0 unnamed is-message bench maker values sheets (no_scan bench maker free its.setup refl) fit in
      let call = taken bench maker its values sound (with_parity star) room star_valid (lit≤ tt) in
      record {
        card = its;
        values = values;
        word = with_parity star;
        out = room;
        message = m;
        number = x;
        bytes = length (turn bench maker its values (with_parity star)).reply;
        sound = sound;
        room = (pending_holds (spell_open m) (open_length m)).room;
        names_room = refl;
        nothing_before = refl;
        closes = spelled_closed m is-message;
        is_ours = for_itself m 0 unnamed;
        is_type_3 = refl;
        gives = ap (λ (a : After WordAnswer). bytes_of a.outcome) call;
        leaves =
            ap (λ (a : After WordAnswer). a.card.offer) call
            ∙ turn_offer bench maker its values (with_parity star) m (spelled_closed m is-message)
            ∙ set_leaves bench maker its.setup None values m (for_itself m 0 unnamed) (row_no_scan bench maker free i r e) r e z refl o.writable p.0
            ∙ ap (held i) (cut_own r.step s.step_least z b s.step_most p.1);
      }

pub offer_reachable : OfferReachable
offer_reachable = record {
  reachable = λ bench maker h free i z. (λ s. offer_left bench maker i z h free (offer_parts bench maker i z s), left_sound bench maker i z);
  no_card = λ bench maker e c values s. false≢true (sym e ∙ scan_no_row bench maker c.setup s.scan_sound);
}
