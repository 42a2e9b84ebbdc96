-- What a message leads to, by its type and by whether it is on `]`. What is on offer after one for this card: only a Type 3 leaves an
-- offer, the cut of its number for its identifier, where the row is not read only and the number is in range. And such a Type 3 does leave
-- it. One for another card leaves all as it was. Assumes nothing.
use mathlib.Core.Path.{◌≡◌, refl, sym, ap, ◌∙◌, subst}
use mathlib.Core.Bool.{true, false, ◌&&◌, ◌||◌}
use mathlib.Core.List.{List, [], ◌∷◌, map}
use Prim.Native.Nat.{ℕ}
use borrow.Author.Tests.{eqb-true, eq-eqb}
use lib.Dec.{eqb}
use lib.IntN.{ℤ, pos}
use lib.ListN.{get_or}
use Rattle.refusal.proofs.Logic.{ands, and_both, or_cases, choice, by-test}
use Rattle.number.specs.declared.Decimal.{Decimal}
use Rattle.number.specs.declared.Numeral.{Numeral}
use Rattle.number.specs.Data.{with_decimals, numeral}
use Rattle.number.specs.Number.{in_range, cut, raised, lowered}
use Rattle.message.specs.declared.Body.{Body}
use Rattle.message.specs.declared.Body.TheVariants as body
use Rattle.message.specs.declared.Message.{Message}
use Rattle.message.specs.Message.{asks_minus_zero}
use Rattle.sheet.specs.declared.Row.{Row}
use Rattle.sheet.specs.Values.{entry_in, is_readable, is_writable, is_read_write}
use Rattle.reply.specs.declared.Mark.{Mark}
use Rattle.reply.specs.declared.Mark.TheVariants.{Accepted, Offered, Declined}
use Rattle.reply.specs.declared.Content.{Content}
use Rattle.reply.specs.declared.Content.TheVariants.{Empty, Number, Four, Five}
use Rattle.reply.specs.Reply.{scan_identifier, numbers_in}
use Rattle.act.specs.declared.Setup.{Setup}
use Rattle.act.specs.declared.Effect.{Effect}
use Rattle.act.specs.Cause.{row_or_zeros, is_for, takes_zero}
use Rattle.act.specs.Act.{no_effect, answer_to, no_number, says, accepts, shown_by, offers, value_on, named, names_from, value_of, scan_of, ours, act}
use Rattle.act.proofs.Judged.{act_is}
use Rattle.act.specs.Inner.{declines, query, moves, up, down, set_to, store, serve, declines_scan, serve_scan, addressed}
use Rattle.std.proofs.lemmas.Option.{none-some}
use Rattle.std.specs.Prelude.{None, Option, Some}
use Rattle.act.specs.Act.{held}
use Rattle.act.specs.declared.Offer.{Offer}

-- the message m, at the card that it is for, leaves the value z on offer for the identifier i
pub record Leaves (bench maker : List ℤ) (m : Message) (i : ℕ) (z : ℤ) : Type 0 where
  pub row : Row
  pub number : Numeral
  pub type_3 : m.body ≡ body.Set number
  pub its : m.identifier ≡ i
  pub found : entry_in bench maker m.identifier ≡ Some row
  pub writable : is_writable row ≡ true
  pub in-range : in_range row.least number.number row.greatest ≡ true
  pub value : cut number.number row.step ≡ z

-- ---- whatever the message, by whether it is for this card

module _ (bench maker : List ℤ) (m : Message) where
  abbrev Left : Effect → Type 0
  Left x = (i : ℕ) (z : ℤ) → x.offer ≡ held i z → Leaves bench maker m i z

  -- the identifier of what is on offer
  abbrev identifier_on : Option Offer → ℕ
  identifier_on (Some o) = o.identifier
  identifier_on None = 0

  left_says : (k : Mark) (x : Content) → Left (says m k x)
  unfolding says
  left_says k x i z e = absurd (none-some _ e)

  left_accepts : (v : ℤ) (d : ℕ) → Left (accepts m v d)
  unfolding accepts
  left_accepts v d i z e = absurd (none-some _ e)

  left_declines : (e : Option Row) (v : ℤ) → Left (declines m e v)
  unfolding declines
  left_declines e v = left_says Declined (shown_by e v)

  left_query : (e : Option Row) (v : ℤ) → Left (query m e v)
  unfolding query
  left_query (Some r) v = choice Left (is_readable r) (λ t. left_says Accepted (Number (with_decimals v r.decimals))) (λ t. left_declines (Some r) v)
  left_query None v = left_declines None v

  left_moves : (r : Row) (v y : ℤ) → Left (moves m r v y)
  unfolding moves
  left_moves r v y =
      choice Left (is_read_write r && in_range r.least y r.greatest) (λ t. left_accepts y r.decimals) (λ t. left_declines (Some r) v)

  left_up : (e : Option Row) (v : ℤ) → Left (up m e v)
  unfolding up
  left_up (Some r) v = left_moves r v (raised v r.step)
  left_up None v = left_declines None v

  left_down : (e : Option Row) (v : ℤ) → Left (down m e v)
  unfolding down
  left_down (Some r) v = left_moves r v (lowered v r.step)
  left_down None v = left_declines None v

  left_set : (c : Setup) (e : Option Row) (v : ℤ) (x : Numeral) → entry_in bench maker m.identifier ≡ e → m.body ≡ body.Set x → Left (set_to c m e v x)
  unfolding set_to offers
  left_set c (Some r) v x f b =
      choice Left (is_writable r && eqb x.decimals r.decimals && takes_zero c (body.Set x) && in_range r.least x.number r.greatest)
      (λ t i z e. record {
        row = r;
        number = x;
        type_3 = b;
        its = ap identifier_on e;
        found = f;
        writable = search ands;
        in-range = search ands;
        value = ap value_on e;
      })
      (λ t. left_declines (Some r) v)
  left_set c None v x f b = left_declines None v

  left_store : (e : Option Row) (o : Option Offer) → Left (store m e o)
  unfolding store
  left_store e (Some o) = choice Left (eqb o.identifier m.identifier) (λ t. left_accepts o.value (row_or_zeros e).decimals) (λ t i z q. absurd (none-some _ q))
  left_store e None = λ i z q. absurd (none-some _ q)

  left_serve : (c : Setup) (o : Option Offer) (v : ℤ) (b : Body) → m.body ≡ b → Left (serve c m (entry_in bench maker m.identifier) o v b)
  unfolding serve
  left_serve c o v body.Status e = left_says Accepted Empty
  left_serve c o v body.Query e = left_query (entry_in bench maker m.identifier) v
  left_serve c o v body.Up e = left_up (entry_in bench maker m.identifier) v
  left_serve c o v body.Down e = left_down (entry_in bench maker m.identifier) v
  left_serve c o v (body.Set x) e = left_set c (entry_in bench maker m.identifier) v x refl e
  left_serve c o v body.Store e = left_store (entry_in bench maker m.identifier) o

  left_scan : (c : Setup) (x : Content) (b : Body) → Left (serve_scan c m x b)
  unfolding serve_scan declines_scan
  left_scan c x body.Status = left_says Declined no_number
  left_scan c x body.Query = choice Left (eqb c.count 0) (λ t. left_says Declined no_number) (λ t. left_says Accepted x)
  left_scan c x body.Up = left_says Declined no_number
  left_scan c x body.Down = left_says Declined no_number
  left_scan c x (body.Set y) = left_says Declined no_number
  left_scan c x body.Store = λ i z q. absurd (none-some _ q)

  -- at the card that it is for
  pub act_leaves : (c : Setup) (o : Option Offer) (values : List ℤ) → is_for c m ≡ true → (i : ℕ) (z : ℤ) → (act bench maker c o values m).offer ≡ held i z → Leaves bench maker m i z
  unfolding addressed
  act_leaves c o values t =
      subst Left (sym (act_is bench maker c o values m))
      (rw t (choice Left (eqb m.identifier scan_identifier) (λ u. left_scan c _ m.body) (λ u. left_serve c o (get_or values m.identifier (pos 0)) m.body refl)))

  -- at any other
  pub act_neighbour : (c : Setup) (o : Option Offer) (values : List ℤ) → is_for c m ≡ false → act bench maker c o values m ≡ no_effect o
  unfolding addressed
  act_neighbour c o values t =
      act_is bench maker c o values m ∙ rw t (choice (λ (x : Effect). x ≡ no_effect o) (eqb m.identifier scan_identifier) (λ u. refl) (λ u. refl))

-- ---- the values that a card names

-- by the row of the identifier
pub value_is : (e : ℕ → Option Row) (v : ℕ → ℤ) (i : ℕ) (r : Row) → e i ≡ Some r → value_of e v i ≡ with_decimals (v i) r.decimals
unfolding value_of
value_is e v i r f = rw f

-- all of them, in order
module _ (c : Setup) (x : ℕ → Decimal) where
  pub scan_names : (eqb c.count 4 || eqb c.count 5) ≡ true → numbers_in (scan_of c x) ≡ map x (names_from c 0 c.count)
  unfolding scan_of names_from
  scan_names n =
      or_cases (eqb c.count 4) (eqb c.count 5) n
      (λ e. rw (eqb-true c.count 4 e) refl)
      (λ e. rw (eqb-true c.count 5 e) refl)

  pub four_named : c.count ≡ 4 → scan_of c x ≡ Four (x (named c 0)) (x (named c 1)) (x (named c 2)) (x (named c 3))
  unfolding scan_of
  four_named n = rw n

  pub five_named : c.count ≡ 5 → scan_of c x ≡ Five (x (named c 0)) (x (named c 1)) (x (named c 2)) (x (named c 3)) (x (named c 4))
  unfolding scan_of
  five_named n = rw n

-- ---- a message for this card

-- the card that has the message's letter and address
pub own_card : (c : Setup) (m : Message) → c.letter ≡ m.letter → c.address ≡ m.address → is_for c m ≡ true
unfolding is_for
own_card c m p q = and_both (eq-eqb m.letter c.letter (sym p)) (eq-eqb m.address c.address (sym q))

-- and a message for this card has its letter and its address
pub for_parts : (m : Message) (c : Setup) → is_for c m ≡ true → (m.letter ≡ c.letter) × (m.address ≡ c.address)
unfolding is_for
for_parts m c e = (eqb-true m.letter c.letter (search ands), eqb-true m.address c.address (search ands))

-- those of some messages
module _ (c : Setup) where
  pub ours_none : ours c [] ≡ []
  unfolding ours
  ours_none = refl

  module _ (m : Message) (ms : List Message) where
    pub ours_own : is_for c m ≡ true → ours c (m ∷ ms) ≡ m ∷ ours c ms
    unfolding ours
    ours_own t = rw t

    pub ours_other : is_for c m ≡ false → ours c (m ∷ ms) ≡ ours c ms
    unfolding ours
    ours_other t = rw t

  pub ours_ours : (ms : List Message) → ours c (ours c ms) ≡ ours c ms
  ours_ours [] = ap (ours c) ours_none
  ours_ours (m ∷ ms) =
      by-test (is_for c m)
      (λ t. ap (ours c) (ours_own m ms t) ∙ ours_own m (ours c ms) t ∙ ap (λ (l : List Message). m ∷ l) (ours_ours ms) ∙ sym (ours_own m ms t))
      (λ t. ap (ours c) (ours_other m ms t) ∙ ours_ours ms ∙ sym (ours_other m ms t))

module _ (bench maker : List ℤ) (c : Setup) (o : Option Offer) (values : List ℤ) (m : Message) (its : is_for c m ≡ true) where
  abbrev pub answered : Effect
  answered = act bench maker c o values m

  -- on `]`: the values that the card names, or `N` with `00000`
  module _ (u : eqb m.identifier scan_identifier ≡ true) where
    scanned : (b : Body) → m.body ≡ b → answered ≡ serve_scan c m (scan_of c (value_of (entry_in bench maker) (λ (i : ℕ). get_or values i (pos 0)))) b
    unfolding addressed
    scanned b e = act_is bench maker c o values m ∙ rw (its, u, e)

    pub scan_said : m.body ≡ body.Query → eqb c.count 0 ≡ false → answered.said ≡ Some (answer_to m Accepted (scan_of c (value_of (entry_in bench maker) (λ (i : ℕ). get_or values i (pos 0)))))
    unfolding serve_scan says
    scan_said b k = ap (λ (x : Effect). x.said) (scanned body.Query b) ∙ rw k

    pub scan_declined : m.body ≡ body.Up → answered.said ≡ Some (answer_to m Declined no_number)
    unfolding serve_scan declines_scan says
    scan_declined b = ap (λ (x : Effect). x.said) (scanned body.Up b)

  -- on any other identifier
  module _ (u : eqb m.identifier scan_identifier ≡ false) where
    served : (b : Body) → m.body ≡ b → answered ≡ serve c m (entry_in bench maker m.identifier) o (get_or values m.identifier (pos 0)) b
    unfolding addressed
    served b e = act_is bench maker c o values m ∙ rw (its, u, e)

    pub status_said : m.body ≡ body.Status → answered.said ≡ Some (answer_to m Accepted Empty)
    unfolding serve says
    status_said b = ap (λ (x : Effect). x.said) (served body.Status b)

    module _ (r : Row) (f : entry_in bench maker m.identifier ≡ Some r) where
      -- its entry is known
      found : (b : Body) → m.body ≡ b → answered ≡ serve c m (Some r) o (get_or values m.identifier (pos 0)) b
      found b e = served b e ∙ rw f

      pub query_said : m.body ≡ body.Query → is_readable r ≡ true → answered.said ≡ Some (answer_to m Accepted (Number (with_decimals (get_or values m.identifier (pos 0)) r.decimals)))
      unfolding serve query says
      query_said b h = ap (λ (x : Effect). x.said) (found body.Query b) ∙ rw h

      pub up_refused : m.body ≡ body.Up → is_read_write r ≡ false → is_readable r ≡ true → answered.said ≡ Some (answer_to m Declined (Number (with_decimals (get_or values m.identifier (pos 0)) r.decimals)))
      unfolding serve up moves declines shown_by says
      up_refused b k h = ap (λ (x : Effect). x.said) (found body.Up b) ∙ rw (k, h)

      module _ (n : ℤ) (b : m.body ≡ body.Set (numeral (with_decimals n r.decimals))) (w : is_writable r ≡ true) (h : in_range r.least n r.greatest ≡ true) where
        taken : answered ≡ offers m r n
        unfolding serve set_to takes_zero asks_minus_zero
        taken = found (body.Set (numeral (with_decimals n r.decimals))) b ∙ rw (w, eq-eqb r.decimals r.decimals refl, h)

        pub set_said : answered.said ≡ Some (answer_to m Offered (Number (with_decimals (cut n r.step) r.decimals)))
        unfolding offers
        set_said = ap (λ (x : Effect). x.said) taken

        pub set_leaves : answered.offer ≡ held m.identifier (cut n r.step)
        unfolding offers
        set_leaves = ap (λ (x : Effect). x.offer) taken
