-- Both zeros and both revisions: of minus zero alone does the revision decide, so cards of two revisions act alike on any other message;
-- and where the revision is not the second, a message acts as the same message with zero in place of minus zero. Assumes nothing.
use mathlib.Core.Path.{◌≡◌, refl, sym, ap, ◌∙◌}
use mathlib.Core.Bool.{Bool, true, false, not, ◌&&◌, false≢true}
use mathlib.Core.List.{List, ◌∷◌}
use Prim.Native.Nat.{ℕ, zero, suc}
use native.Mathlib.Omega.{arith}
use lib.Dec.{eqb}
use lib.IntN.{ℤ, pos}
use lib.ListN.{get_or}
use Rattle.refusal.specs.Refusal.{Outcome, refused}
use Rattle.refusal.specs.Lists.{every}
use Rattle.refusal.specs.Check.{Check, first}
use Rattle.refusal.proofs.Logic.{by-test}
use Rattle.refusal.proofs.Checks.{refused_is, first_line}
use Rattle.message.specs.declared.Body.{Body}
use Rattle.message.specs.declared.Body.TheVariants as body
use Rattle.message.specs.declared.Message.{Message}
use Rattle.message.specs.Message.{asks_minus_zero, unsigned_body, unsigned_zero}
use Rattle.message.proofs.Messages.{by_unsigned, asks_set}
use Rattle.sheet.specs.declared.Row.{Row}
use Rattle.sheet.specs.Values.{entry_in}
use Rattle.reply.specs.Reply.{scan_identifier}
use Rattle.act.specs.declared.Setup.{Setup}
use Rattle.act.specs.declared.causes.Standing.{Standing}
use Rattle.act.specs.Cause.{standing, on_bracket, is_for, takes_zero, causes, because, causes_of_n, up_to_minus_zero, is_one_of}
use Rattle.act.specs.Act.{says, accepts, offers, granted, named, names_from, scan_of, standing_with, turned_down, respond, act, causes_in, of_revision}
use Rattle.std.specs.Prelude.{None, Option}
use Rattle.act.specs.declared.Offer.{Offer}

-- ---- two revisions

module _ (n : ℕ) (c : Setup) (m : Message) (z : asks_minus_zero m.body ≡ false) where
  same_causes : (s : Standing) → causes (of_revision n c) m s ≡ causes c m s
  unfolding causes is_for takes_zero
  same_causes s = rw z

  module _ (o : Option Offer) (bench maker values : List ℤ) where
    pub revisions_cause : causes_in bench maker (of_revision n c) o values m ≡ causes_in bench maker c o values m
    unfolding causes_in
    revisions_cause = same_causes _

    pub revisions_act : act bench maker (of_revision n c) o values m ≡ act bench maker c o values m
    unfolding act respond scan_of
    revisions_act = rw (same_causes _)

-- the names of the scan don't depend on it
pub names_revised : (n : ℕ) (c : Setup) (k j : ℕ) → names_from (of_revision n c) k j ≡ names_from c k j
unfolding names_from
names_revised n c k zero = refl
names_revised n c k (suc j) = ap (λ (l : List ℕ). named c k ∷ l) (names_revised n c (suc k) j)

-- ---- minus zero at the second

-- minus zero isn't taken
untaken : (c : Setup) (b : Body) → eqb c.revision 2 ≡ true → asks_minus_zero b ≡ true → takes_zero c b ≡ false
unfolding takes_zero
untaken c b r z = rw (z, r)

-- its cause is minus zero or comes before it, and is no silence
pub record UpToMinusZero (o : Outcome (Unit {0})) : Type 0 where
  pub number : ℕ
  pub given : o ≡ refused number
  pub among : is_one_of number up_to_minus_zero ≡ true
  pub of_n : is_one_of number causes_of_n ≡ true
  pub ours : eqb number 7 ≡ false
  pub no_store : eqb number 8 ≡ false

up_to : (c : Setup) (m : Message) (s : Standing) → is_for c m ≡ true → s.offered ≡ true → takes_zero c m.body ≡ false → UpToMinusZero (first (causes c m s))
unfolding first causes is_one_of up_to_minus_zero causes_of_n
up_to c m s its o z =
    by-test s.exists
    (λ t.
    by-test s.allowed
    (λ u.
    by-test s.matching
    (λ w. record { number = 4; given = rw (its, o, t, u, w, z); among = refl; of_n = refl; ours = refl; no_store = refl })
    (λ w. record { number = 3; given = rw (its, o, t, u, w); among = refl; of_n = refl; ours = refl; no_store = refl }))
    (λ u. record { number = 2; given = rw (its, o, t, u); among = refl; of_n = refl; ours = refl; no_store = refl }))
    (λ t. record { number = 1; given = rw (its, o, t); among = refl; of_n = refl; ours = refl; no_store = refl })

-- only minus zero has the number 4, and only where it isn't taken
four_untaken : (c : Setup) (m : Message) (s : Standing) → takes_zero c m.body ≡ true → every (λ (x : Check). not (eqb x.number 4 && x.holds)) (causes c m s) ≡ true
unfolding every causes
four_untaken c m s t = rw t

taken_other : (c : Setup) (m : Message) (s : Standing) → takes_zero c m.body ≡ true → first (causes c m s) ≡ refused 4 → ⊥
taken_other c m s t e = false≢true (first_line (λ (x : Check). not (eqb x.number 4 && x.holds)) (causes c m s) 4 (four_untaken c m s t) e)

other_seven : (c : Setup) (m : Message) (s : Standing) → is_for c m ≡ false → first (causes c m s) ≡ refused 4 → ⊥
unfolding first causes
other_seven c m s t e = let z : ◌≡◌ {A = ℕ} 7 4 = refused_is (sym (rw t) ∙ e) in omega arith

-- a Type 3 needs no offer
needs_none : (c : Setup) (o : Option Offer) (e : ℕ → Option Row) (v : ℕ → ℤ) (m : Message) → asks_minus_zero m.body ≡ true → (standing_with c o e v m).offered ≡ true
unfolding standing on_bracket
needs_none c o e v m z =
    let q = (asks_set m.body z).1 in
    by-test (eqb m.identifier scan_identifier) (λ t. rw (t, q)) (λ t. rw (t, q))

module _ (c : Setup) (m : Message) (o : Option Offer) (bench maker values : List ℤ) where
  abbrev tests : List Check
  tests = causes_in bench maker c o values m

  -- "the second answers a Type 3 of minus zero with `N`"; nothing is stored, and nothing is on offer
  pub record Declined : Type 0 where
    pub among : is_one_of (because (first tests)).code up_to_minus_zero ≡ true
    pub of_n : is_one_of (because (first tests)).code causes_of_n ≡ true
    pub keeps : (act bench maker c o values m).store ≡ None
    pub gone : (act bench maker c o values m).offer ≡ None

  pub second_declines : eqb c.revision 2 ≡ true → is_for c m ≡ true → asks_minus_zero m.body ≡ true → Declined
  unfolding causes_in act respond turned_down says
  second_declines r its z =
      let v : ℕ → ℤ = λ i. get_or values i (pos 0) in
      let n = needs_none c o (entry_in bench maker) v m z in
      let d = up_to c m (standing_with c o (entry_in bench maker) v m) its n (untaken c m.body r z) in
      record {
        among = rw d.given d.among;
        of_n = rw d.given d.of_n;
        keeps = rw (d.given, d.ours, d.no_store) refl;
        gone = rw (d.given, d.ours, d.no_store) refl;
      }

  -- and only the second has that cause
  pub minus_zero_only : first tests ≡ refused 4 → (eqb c.revision 2 ≡ true) × (is_for c m ≡ true) × (asks_minus_zero m.body ≡ true)
  unfolding causes_in takes_zero
  minus_zero_only e =
      by-test (is_for c m)
      (λ its.
      by-test (asks_minus_zero m.body)
      (λ z. by-test (eqb c.revision 2) (λ r. (r, its, z)) (λ r. absurd (taken_other c m _ (rw (z, r)) e)))
      (λ z. absurd (taken_other c m _ (rw z) e)))
      (λ f. absurd (other_seven c m _ f e))

-- ---- both zeros

-- without the second revision minus zero is taken
takes_any : (c : Setup) (b : Body) → eqb c.revision 2 ≡ false → takes_zero c b ≡ true
unfolding takes_zero
takes_any c b t = by-test (asks_minus_zero b) (λ z. rw (z, t)) (λ z. rw z)

standing_zero : (there : Bool) (r : Row) (o : Option Offer) (v : ℤ) (i : ℕ) (b : Body) → standing there r o v i (unsigned_body b) ≡ standing there r o v i b
unfolding standing
standing_zero there r o v i = by_unsigned (λ b' b. standing there r o v i b' ≡ standing there r o v i b) (λ b. refl) (λ x. refl)

bracket_zero : (some : Bool) (b : Body) → on_bracket some (unsigned_body b) ≡ on_bracket some b
unfolding on_bracket
bracket_zero some = by_unsigned (λ b' b. on_bracket some b' ≡ on_bracket some b) (λ b. refl) (λ x. refl)

-- what is granted is the same whatever the message's own body is
granted_zero : (m : Message) (r : Row) (o : Option Offer) (v : ℤ) (b : Body) → granted (unsigned_zero m) r o v (unsigned_body b) ≡ granted m r o v b
unfolding granted says accepts offers unsigned_body
granted_zero m r o v body.Status = refl
granted_zero m r o v body.Query = refl
granted_zero m r o v body.Up = refl
granted_zero m r o v body.Down = refl
granted_zero m r o v (body.Set x) = refl
granted_zero m r o v body.Store = refl

module _ (c : Setup) (m : Message) (t : eqb c.revision 2 ≡ false) where
  zero_causes : (s : Standing) → causes c (unsigned_zero m) s ≡ causes c m s
  unfolding causes is_for
  zero_causes s = rw (takes_any c (unsigned_body m.body) t, takes_any c m.body t)

  module _ (o : Option Offer) (bench maker values : List ℤ) where
    pub zeros_cause : causes_in bench maker c o values (unsigned_zero m) ≡ causes_in bench maker c o values m
    unfolding causes_in
    zeros_cause = rw (standing_zero, bracket_zero) (zero_causes _)

    pub zeros_act : act bench maker c o values (unsigned_zero m) ≡ act bench maker c o values m
    unfolding act respond turned_down says
    zeros_act = rw (standing_zero, bracket_zero, granted_zero) (rw (zero_causes _))
