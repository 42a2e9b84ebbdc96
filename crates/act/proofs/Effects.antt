-- What a message stores is a value that its row allows, and what is said to it is an answer as the reader knows them: its rows are
-- sound, so a stored value, an offer, a step in range and a cut have at most four digits and three decimals, and only Type 1 has the
-- identifier `?`. Assumes nothing.
use mathlib.Core.Path.{◌≡◌, refl, sym, ap, ◌∙◌, subst}
use mathlib.Core.Bool.{Bool, true, false, not, ◌&&◌, ◌||◌, false≢true}
use mathlib.Core.List.{List}
use Prim.Native.Nat.{ℕ, ◌<◌}
use native.Mathlib.Omega.{arith}
use borrow.Author.Tests.{eqb-true}
use lib.Dec.{eqb, lit≤}
use lib.IntN.{ℤ, pos}
use lib.ListN.{get_or}
use Rattle.refusal.specs.Lists.{every}
use Rattle.refusal.proofs.Logic.{and_both, and_right, ands, or_cases, choice}
use Rattle.number.specs.Number.{in_range, cut, raised, lowered}
use Rattle.number.specs.declared.Decimal.{Decimal}
use Rattle.number.specs.declared.Numeral.{Numeral}
use Rattle.number.specs.Data.{with_decimals, fits}
use Rattle.number.proofs.Cuts.{raised_is, lowered_is}
use Rattle.number.proofs.Reading.{within_fits}
use Rattle.message.specs.declared.Body.{Body}
use Rattle.message.specs.declared.Body.TheVariants as body
use Rattle.message.specs.declared.Message.{Message}
use Rattle.message.specs.Message.{question}
use Rattle.message.proofs.Messages.{Parts, BodyParts, body_parts}
use Rattle.sheet.specs.declared.Row.{Row}
use Rattle.sheet.specs.Values.{entry_in, is_readable, is_writable, is_read_write, fits_row, sound_values}
use Rattle.sheet.proofs.Values.{SoundRow, entry_sound, good_values, fits_parts, range_small, value-small, up_fits, down_fits, cut_fits}
use Rattle.reply.specs.declared.Mark.{Mark}
use Rattle.reply.specs.declared.Mark.TheVariants.{Accepted, Offered, Declined}
use Rattle.reply.specs.declared.Content.{Content}
use Rattle.reply.specs.declared.Content.TheVariants.{Empty, Number}
use Rattle.reply.specs.declared.Answer.{Answer}
use Rattle.reply.specs.Reply.{scan_identifier, is_no_number, fits_content, is_answer}
use Rattle.reply.proofs.Reader.{parts_answer, content_number, content_status, scan_no_status, scan_four, scan_five}
use Rattle.act.specs.declared.Setup.{Setup}
use Rattle.act.specs.declared.Effect.{Effect}
use Rattle.act.specs.Cause.{row_or_zeros, is_for, takes_zero}
use Rattle.act.specs.Act.{answer_to, no_number, says, accepts, shown_by, offers, named, value_of, scan_of, act}
use Rattle.act.proofs.Judged.{act_is}
use Rattle.act.specs.Inner.{declines, query, moves, up, down, set_to, store, serve, declines_scan, serve_scan, addressed}
use Rattle.std.proofs.lemmas.Option.{none-some}
use Rattle.std.specs.Prelude.{None, Option, Some}
use Rattle.act.specs.Act.{storing}
use Rattle.act.specs.declared.Offer.{Offer}
use Rattle.act.specs.declared.Store.{Store}

-- the row of i allows the value z
pub record Allowed (bench maker : List ℤ) (i : ℕ) (z : ℤ) : Type 0 where
  pub row : Row
  pub found : entry_in bench maker i ≡ Some row
  pub fits : fits_row row z ≡ true

-- what is on offer, its row allows
abbrev pub Fair : List ℤ → List ℤ → Option Offer → Type 0
Fair bench maker None = Unit {0}
Fair bench maker (Some o) = Allowed bench maker o.identifier o.value

-- the identifiers that a card names for its scan have rows, and it names none, four or five
pub record FairScan (bench maker : List ℤ) (c : Setup) : Type 0 where
  pub many : (eqb c.count 0 || eqb c.count 4 || eqb c.count 5) ≡ true
  pub rows : (k : ℕ) → k < c.count → (r : Row) × (entry_in bench maker (named c k) ≡ Some r)

-- what it stores, the row allows, and what it says is an answer
pub record Good (bench maker : List ℤ) (x : Effect) : Type 0 where
  pub stores : (i : ℕ) (z : ℤ) → x.store ≡ storing i z → Allowed bench maker i z
  pub answers : (a : Answer) → x.said ≡ Some a → is_answer a ≡ true

-- what is stored, and where
abbrev place_in : Option Store → ℕ
place_in (Some s) = s.place
place_in None = 0

abbrev value_in : Option Store → ℤ
value_in (Some s) = s.value
value_in None = pos 0

said_is : (a b : Answer) → Some a ≡ Some b → is_answer a ≡ true → is_answer b ≡ true
said_is a b e h = let q : a ≡ b = cc in rw q at h

-- what is in the range of a sound row can be written with the row's decimals
row_fits : (r : Row) → SoundRow r → (z : ℤ) → in_range r.least z r.greatest ≡ true → fits (with_decimals z r.decimals) ≡ true
row_fits r s z h = within_fits (with_decimals z r.decimals) (range_small r s z h) s.decimals_most

or_right : (a : Bool) {b : Bool} → b ≡ true → (a || b) ≡ true
or_right true e = refl
or_right false e = e

-- a count that is neither none nor four
five : (n : ℕ) → (eqb n 0 || eqb n 4 || eqb n 5) ≡ true → eqb n 0 ≡ false → eqb n 4 ≡ false → n ≡ 5
five n e p q =
    or_cases (eqb n 0 || eqb n 4) (eqb n 5) e
    (λ h. or_cases (eqb n 0) (eqb n 4) h (λ t. absurd (false≢true (sym p ∙ t))) (λ t. absurd (false≢true (sym q ∙ t))))
    (λ h. eqb-true n 5 h)

zero_fits : fits (with_decimals (pos 0) 0) ≡ true
zero_fits = within_fits (with_decimals (pos 0) 0) (lit≤ tt) (lit≤ tt)

module _ (bench maker : List ℤ) where
  -- nothing said and nothing stored, whatever is on offer
  pub good_silence : (o : Option Offer) → Good bench maker (record { said = None; offer = o; store = None })
  good_silence o = record { stores = λ i z e. absurd (none-some _ e); answers = λ a e. absurd (none-some _ e) }

  module _ (m : Message) where
    good_says : (k : Mark) (x : Content) → is_answer (answer_to m k x) ≡ true → Good bench maker (says m k x)
    unfolding says
    good_says k x h = record { stores = λ i z e. absurd (none-some _ e); answers = λ a e. said_is (answer_to m k x) a e h }

    good_accepts : (z : ℤ) (d : ℕ) → is_answer (answer_to m Accepted (Number (with_decimals z d))) ≡ true → Allowed bench maker m.identifier z → Good bench maker (accepts m z d)
    unfolding accepts
    good_accepts z d h p = record {
      stores = λ i y e.
          let q : m.identifier ≡ i = ap place_in e in
          let s : z ≡ y = ap value_in e in
          subst (λ (k : ℕ). Allowed bench maker k y) q (subst (Allowed bench maker m.identifier) s p);
      answers = λ a e. said_is (answer_to m Accepted (Number (with_decimals z d))) a e h;
    }

-- ---- a message m, under sound values

module _ (bench maker values : List ℤ) (v : sound_values bench maker values ≡ true) (m : Message) (p : Parts m) where
  abbrev entry : Option Row
  entry = entry_in bench maker m.identifier

  abbrev value : ℤ
  value = get_or values m.identifier (pos 0)

  known : (k : Mark) (x : Content) → fits_content m.identifier k x ≡ true → is_answer (answer_to m k x) ≡ true
  known k x e =
      parts_answer (answer_to m k x) (record { is-letter = p.is-letter; is-address = p.is-address; is-identifier = p.is-identifier; fits-content = e })

  -- every type but the first, on any identifier but `]`
  module _ (q : eqb m.identifier question ≡ false) (u : eqb m.identifier scan_identifier ≡ false) where
    number : (k : Mark) (x : Decimal) → fits x ≡ true → is_answer (answer_to m k (Number x)) ≡ true
    number k x f = known k (Number x) (content_number m.identifier k x (record { no_status = q; fit = f; no_scan = rw u }))

    -- with a row r
    module _ (r : Row) (f : entry ≡ Some r) where
      row_sound : SoundRow r
      row_sound = entry_sound bench maker m.identifier r f

      held : fits_row r value ≡ true
      held = (good_values bench maker values v).each m.identifier r f

      in_row : (k : Mark) (z : ℤ) → in_range r.least z r.greatest ≡ true → is_answer (answer_to m k (Number (with_decimals z r.decimals))) ≡ true
      in_row k z h = number k (with_decimals z r.decimals) (row_fits r row_sound z h)

      held_known : (k : Mark) → is_answer (answer_to m k (Number (with_decimals value r.decimals))) ≡ true
      held_known k = in_row k value (fits_parts r value held).0

      stores : (z : ℤ) → fits_row r z ≡ true → Good bench maker (accepts m z r.decimals)
      stores z h =
          good_accepts bench maker m z r.decimals (in_row Accepted z (fits_parts r z h).0) (record { row = r; found = f; fits = h })

      -- the stored value fits its row, so a step from it is a plain sum
      raises : in_range r.least (raised value r.step) r.greatest ≡ true → fits_row r (raised value r.step) ≡ true
      raises e =
          let s = raised_is value r.step (value-small r row_sound value held) row_sound.step_most in
          rw s (up_fits r value held (rw s at e))

      lowers : in_range r.least (lowered value r.step) r.greatest ≡ true → fits_row r (lowered value r.step) ≡ true
      lowers e =
          let s = lowered_is value r.step (value-small r row_sound value held) row_sound.step_most in
          rw s (down_fits r value held (rw s at e))

    shown : (e : Option Row) → entry ≡ e → is_answer (answer_to m Declined (shown_by e value)) ≡ true
    unfolding shown_by
    shown (Some r) f =
        choice (λ (x : Content). is_answer (answer_to m Declined x) ≡ true) (is_readable r)
        (λ t. held_known r f Declined) (λ t. number Declined (with_decimals (pos 0) 0) zero_fits)
    shown None f = number Declined (with_decimals (pos 0) 0) zero_fits

    good_declines : (e : Option Row) → entry ≡ e → Good bench maker (declines m e value)
    unfolding declines
    good_declines e f = good_says bench maker m Declined (shown_by e value) (shown e f)

    good_query : (e : Option Row) → entry ≡ e → Good bench maker (query m e value)
    unfolding query
    good_query (Some r) f =
        choice (Good bench maker) (is_readable r)
        (λ t. good_says bench maker m Accepted (Number (with_decimals value r.decimals)) (held_known r f Accepted)) (λ t. good_declines (Some r) f)
    good_query None f = good_declines None f

    good_moves : (r : Row) (z : ℤ) → entry ≡ Some r → (in_range r.least z r.greatest ≡ true → fits_row r z ≡ true) → Good bench maker (moves m r value z)
    unfolding moves
    good_moves r z f h =
        choice (Good bench maker) (is_read_write r && in_range r.least z r.greatest)
        (λ t. stores r f z (h (and_right (is_read_write r) (in_range r.least z r.greatest) t))) (λ t. good_declines (Some r) f)

    good_up : (e : Option Row) → entry ≡ e → Good bench maker (up m e value)
    unfolding up
    good_up (Some r) f = good_moves r (raised value r.step) f (raises r f)
    good_up None f = good_declines None f

    good_down : (e : Option Row) → entry ≡ e → Good bench maker (down m e value)
    unfolding down
    good_down (Some r) f = good_moves r (lowered value r.step) f (lowers r f)
    good_down None f = good_declines None f

    good_set : (c : Setup) (e : Option Row) (x : Numeral) → entry ≡ e → Good bench maker (set_to c m e value x)
    unfolding set_to offers
    good_set c (Some r) x f =
        choice (Good bench maker) (is_writable r && eqb x.decimals r.decimals && takes_zero c (body.Set x) && in_range r.least x.number r.greatest)
        (λ t.
        let z = cut x.number r.step in
        let h = in_row r f Offered z (fits_parts r z (cut_fits r (row_sound r f) x.number (search ands))).0 in
        record { stores = λ i y e. absurd (none-some _ e); answers = λ a e. said_is (answer_to m Offered (Number (with_decimals z r.decimals))) a e h })
        (λ t. good_declines (Some r) f)
    good_set c None x f = good_declines None f

    good_store : (o : Option Offer) → Fair bench maker o → Good bench maker (store m entry o)
    unfolding store
    good_store (Some o) g =
        choice (Good bench maker) (eqb o.identifier m.identifier)
        (λ t.
        let f : entry ≡ Some g.row = ap (entry_in bench maker) (sym (eqb-true o.identifier m.identifier t)) ∙ g.found in
        subst (λ (e : Option Row). Good bench maker (accepts m o.value (row_or_zeros e).decimals)) (sym f) (stores g.row f o.value g.fits))
        (λ t. good_silence bench maker None)
    good_store None g = good_silence bench maker None

  good_serve : (c : Setup) (o : Option Offer) → Fair bench maker o → eqb m.identifier scan_identifier ≡ false → (b : Body) → BodyParts m.identifier b → Good bench maker (serve c m entry o value b)
  unfolding serve
  good_serve c o g u body.Status f = good_says bench maker m Accepted Empty (known Accepted Empty (content_status m.identifier f))
  good_serve c o g u body.Query f = good_query f u entry refl
  good_serve c o g u body.Up f = good_up f u entry refl
  good_serve c o g u body.Down f = good_down f u entry refl
  good_serve c o g u (body.Set x) f = good_set f.0 u c entry x refl
  good_serve c o g u body.Store f = good_store f u o g

  -- ---- on `]`, at a card whose scan is fair

  module _ (u : eqb m.identifier scan_identifier ≡ true) where
    good_declined : Good bench maker (declines_scan m)
    unfolding declines_scan is_no_number
    good_declined =
        good_says bench maker m Declined no_number
        (known Declined no_number (content_number m.identifier Declined (with_decimals (pos 0) 0) (record { no_status = scan_no_status m.identifier u; fit = zero_fits; no_scan = or_right (not (eqb m.identifier scan_identifier)) refl })))

    module _ (c : Setup) (s : FairScan bench maker c) where
      -- each value can be written
      its : (k : ℕ) → k < c.count → fits (value_of (entry_in bench maker) (λ (i : ℕ). get_or values i (pos 0)) (named c k)) ≡ true
      unfolding value_of
      its k h =
          let p = s.rows k h in
          let r = p.0 in
          let held = (good_values bench maker values v).each (named c k) r p.1 in
          rw p.1 (row_fits r (entry_sound bench maker (named c k) r p.1) (get_or values (named c k) (pos 0)) (fits_parts r (get_or values (named c k) (pos 0)) held).0)

      scan_known : eqb c.count 0 ≡ false → is_answer (answer_to m Accepted (scan_of c (value_of (entry_in bench maker) (λ (i : ℕ). get_or values i (pos 0))))) ≡ true
      unfolding scan_of every
      scan_known n =
          choice (λ (x : Content). is_answer (answer_to m Accepted x) ≡ true) (eqb c.count 4)
          (λ t.
          let e = eqb-true c.count 4 t in
          known Accepted _ (scan_four m.identifier _ _ _ _ u (and_both (its 0 (omega arith)) (and_both (its 1 (omega arith)) (and_both (its 2 (omega arith)) (and_both (its 3 (omega arith)) refl))))))
          (λ t.
          let e : c.count ≡ 5 = five c.count s.many n t in
          known Accepted _ (scan_five m.identifier _ _ _ _ _ u (and_both (its 0 (omega arith)) (and_both (its 1 (omega arith)) (and_both (its 2 (omega arith)) (and_both (its 3 (omega arith)) (and_both (its 4 (omega arith)) refl)))))))

      good_scan : (b : Body) → Good bench maker (serve_scan c m (scan_of c (value_of (entry_in bench maker) (λ (i : ℕ). get_or values i (pos 0)))) b)
      unfolding serve_scan
      good_scan body.Status = good_declined
      good_scan body.Query = choice (Good bench maker) (eqb c.count 0) (λ t. good_declined) (λ t. good_says bench maker m Accepted _ (scan_known t))
      good_scan body.Up = good_declined
      good_scan body.Down = good_declined
      good_scan (body.Set x) = good_declined
      good_scan body.Store = good_silence bench maker None

  pub good_act : (c : Setup) (o : Option Offer) → FairScan bench maker c → Fair bench maker o → Good bench maker (act bench maker c o values m)
  unfolding addressed
  good_act c o s g =
      subst (Good bench maker) (sym (act_is bench maker c o values m))
      (choice (Good bench maker) (eqb m.identifier scan_identifier)
      (λ u. choice (Good bench maker) (is_for c m) (λ t. good_scan u c s m.body) (λ t. good_silence bench maker o))
      (λ u.
      choice (Good bench maker) (is_for c m) (λ t. good_serve c o g u m.body (body_parts m.identifier m.body p.fits-body))
      (λ t. good_silence bench maker o)))
