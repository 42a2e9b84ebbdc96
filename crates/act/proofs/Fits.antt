-- What the causes of a message say of what the card does with it: it is answered with `N` exactly where the cause is one of those of `N`,
-- and with silence exactly where it is one of the others. Assumes nothing.
use mathlib.Core.Path.{◌≡◌, refl, sym, ap, ◌∙◌}
use mathlib.Core.Bool.{Bool, true, false, cond, not, ◌&&◌, ◌||◌, false≢true}
use mathlib.Core.List.{List}
use mathlib.Core.Logic.{◌↔◌}
use Prim.Native.Nat.{ℕ, ◌<◌}
use native.Mathlib.Omega.{arith}
use borrow.Author.Tests.{ltb-true}
use lib.Dec.{eqb, ltb}
use lib.IntN.{ℤ}
use Rattle.refusal.specs.Refusal.{refused}
use Rattle.refusal.specs.Check.{Check, first, decided}
use Rattle.refusal.specs.Lists.{every}
use Rattle.refusal.proofs.Logic.{ands, not_is, by-test}
use Rattle.refusal.proofs.Checks.{by_first, first_among}
use Rattle.message.specs.declared.Body.{Body}
use Rattle.message.specs.declared.Body.TheVariants as body
use Rattle.message.specs.declared.Message.{Message}
use Rattle.sheet.specs.declared.Row.{Row}
use Rattle.reply.specs.declared.Mark.TheVariants.{Accepted, Offered, Declined}
use Rattle.reply.specs.declared.Content.{Content}
use Rattle.reply.specs.declared.Answer.{Answer}
use Rattle.reply.specs.Reply.{scan_identifier}
use Rattle.act.specs.declared.Setup.{Setup}
use Rattle.act.specs.declared.Effect.{Effect}
use Rattle.act.specs.declared.causes.Standing.{Standing}
use Rattle.act.specs.declared.causes.Cause.{Cause}
use Rattle.act.specs.declared.causes.Cause.TheVariants.{NoSuchIdentifier, Access, WrongDecimals, OutOfRange, AtLimit, NotForThisCard, NoOffer, NoMessageClosed, NotWellFormed, MinusZero}
use Rattle.act.specs.Cause.{Why, why_of, is_for, causes, because, causes_of_n, silences, is_one_of}
use Rattle.act.specs.Act.{says, accepts, offers, granted, turned_down, respond, act, causes_in}
use Rattle.std.proofs.lemmas.Option.{none-some}
use Rattle.std.specs.Prelude.{None, Option, Some}
use Rattle.act.specs.declared.Offer.{Offer}

-- ---- the codes of the list

-- what is said with this code: nothing with the two silences of a heard message, `N` with any other; and no code is 0 or behind these
fits_code : ℕ → Bool
fits_code n =
    ltb 0 n && (ltb n 9
    && cond (eqb n 7 || eqb n 8) (is_one_of n silences && not (is_one_of n causes_of_n)) (is_one_of n causes_of_n && not (is_one_of n silences)))

fits_each : (c : Setup) (m : Message) (s : Standing) → every (λ (x : Check). fits_code x.number) (causes c m s) ≡ true
unfolding every causes fits_code is_one_of causes_of_n silences
fits_each c m s = refl

-- under these sheets and values: the codes of a heard message
pub code_ends : (bench maker : List ℤ) (c : Setup) (o : Option Offer) (values : List ℤ) (m : Message) (n : ℕ) → first (causes_in bench maker c o values m) ≡ refused n → (0 < n) × (n < 9)
unfolding causes_in fits_code
code_ends bench maker c o values m n e =
    let h = first_among fits_code (causes c m _) n (fits_each c m _) e in
    (ltb-true 0 n (search ands), ltb-true n 9 (search ands))

-- a message for another card
pub cause_other : (bench maker : List ℤ) (c : Setup) (o : Option Offer) (values : List ℤ) (m : Message) → is_for c m ≡ false → first (causes_in bench maker c o values m) ≡ refused 7
unfolding first causes causes_in
cause_other bench maker c o values m t = rw t

-- ---- what is said with each cause

-- what is said is `A` or `I` exactly with no cause, `N` exactly with a cause of `N`, and nothing exactly with a cause of silence
pub record Fits (x : Option Answer) (n : ℕ) : Type 0 where
  pub accepted : ((a : Answer) × (x ≡ Some a) × (a.mark ≡ Declined → ⊥)) ↔ (n ≡ 0)
  pub declined : ((a : Answer) × (x ≡ Some a) × (a.mark ≡ Declined)) ↔ (is_one_of n causes_of_n ≡ true)
  pub silent : (x ≡ None) ↔ (is_one_of n silences ≡ true)

same_mark : (a b : Answer) → Some a ≡ Some b → a.mark ≡ b.mark
same_mark a b e = cc

pub fits_silence : (n : ℕ) → (n ≡ 0 → ⊥) → is_one_of n causes_of_n ≡ false → is_one_of n silences ≡ true → Fits None n
fits_silence n f p q = record {
  accepted = (λ d. absurd (none-some _ d.1), λ z. absurd (f z));
  declined = (λ d. absurd (none-some _ d.1), λ t. absurd (false≢true (sym p ∙ t)));
  silent = (λ e. q, λ t. refl);
}

fits_declined : (a : Answer) (n : ℕ) → (n ≡ 0 → ⊥) → a.mark ≡ Declined → is_one_of n causes_of_n ≡ true → is_one_of n silences ≡ false → Fits (Some a) n
fits_declined a n f k p q = record {
  accepted = (λ d. absurd (d.2 (sym (same_mark a d.0 d.1) ∙ k)), λ z. absurd (f z));
  declined = (λ d. p, λ t. (a, refl, k));
  silent = (λ e. absurd (none-some _ (sym e)), λ t. absurd (false≢true (sym q ∙ t)));
}

fits_accepted : (a : Answer) → (a.mark ≡ Declined → ⊥) → Fits (Some a) 0
unfolding is_one_of causes_of_n silences
fits_accepted a f = record {
  accepted = (λ d. refl, λ z. (a, refl, f));
  declined = (λ d. absurd (f (same_mark a d.0 d.1 ∙ d.2)), λ t. absurd (false≢true t));
  silent = (λ e. absurd (none-some _ (sym e)), λ t. absurd (false≢true t));
}

-- the other marks are no `N`
accepted_other : Accepted ≡ Declined → ⊥
accepted_other e = let z : ◌≡◌ {A = ℕ} 0 1 = cc in omega arith

offered_other : Offered ≡ Declined → ⊥
offered_other e = let z : ◌≡◌ {A = ℕ} 0 1 = cc in omega arith

module _ (o : Option Offer) (m : Message) where
  says_declined : (x : Content) (n : ℕ) → (n ≡ 0 → ⊥) → is_one_of n causes_of_n ≡ true → is_one_of n silences ≡ false → Fits (says m Declined x).said n
  unfolding says
  says_declined x n f = fits_declined _ n f refl

  says_accepted : (x : Content) → Fits (says m Accepted x).said 0
  unfolding says
  says_accepted x = fits_accepted _ accepted_other

  granted_fits : (r : Row) (v : ℤ) (b : Body) → Fits (granted m r o v b).said 0
  unfolding granted says accepts offers
  granted_fits r v body.Status = fits_accepted _ accepted_other
  granted_fits r v body.Query = fits_accepted _ accepted_other
  granted_fits r v body.Up = fits_accepted _ accepted_other
  granted_fits r v body.Down = fits_accepted _ accepted_other
  granted_fits r v (body.Set x) = fits_accepted _ offered_other
  granted_fits r v body.Store = fits_accepted _ accepted_other

  -- what a cause leads to
  turned_fits : (x : Content) (n : ℕ) → fits_code n ≡ true → Fits (turned_down o m x n).said n
  unfolding turned_down fits_code
  turned_fits x n h =
      by-test (eqb n 7)
      (λ t. rw t (silent (sym (rw t) ∙ rest)))
      (λ t. by-test (eqb n 8) (λ u. rw (t, u) (silent (sym (rw (t, u)) ∙ rest))) (λ u. rw (t, u) (declined (sym (rw (t, u)) ∙ rest))))
    where
      rest : cond (eqb n 7 || eqb n 8) (is_one_of n silences && not (is_one_of n causes_of_n)) (is_one_of n causes_of_n && not (is_one_of n silences)) ≡ true
      rest = search ands

      some : n ≡ 0 → ⊥
      some z = omega (arith, z, ltb-true 0 n (search ands))

      silent : (is_one_of n silences && not (is_one_of n causes_of_n)) ≡ true → Fits None n
      silent e = fits_silence n some (not_is {a = is_one_of n causes_of_n} (search ands)) (search ands)

      declined : (is_one_of n causes_of_n && not (is_one_of n silences)) ≡ true → Fits (says m Declined x).said n
      declined e = says_declined x n some (search ands) (not_is {a = is_one_of n silences} (search ands))

  -- what the tests come to
  judged_fits : (c : Setup) (s : Standing) (x : Content) (y : Effect) → Fits y.said 0 → Fits (decided (first (causes c m s)) (turned_down o m x) y).said (because (first (causes c m s))).code
  judged_fits c s x y h =
      by_first (causes c m s)
      (λ n e. rw e (turned_fits x n (first_among fits_code (causes c m s) n (fits_each c m s) e)))
      (λ e. rw e h)

-- any message
pub act_fits : (bench maker : List ℤ) (c : Setup) (o : Option Offer) (values : List ℤ) (m : Message)
    → Fits (act bench maker c o values m).said (because (first (causes_in bench maker c o values m))).code
unfolding act respond causes_in
act_fits bench maker c o values m =
    by-test (eqb m.identifier scan_identifier)
    (λ t. rw t (judged_fits o m c _ _ _ (says_accepted o m _)))
    (λ t. rw t (judged_fits o m c _ _ _ (granted_fits o m _ _ m.body)))

-- ---- a cause by its code and position

-- the one that has them
cause_from : Why → Option Cause
cause_from y =
    cond (eqb y.code 0) None
    (cond (eqb y.code 1) (Some NoSuchIdentifier)
    (cond (eqb y.code 2) (Some Access)
    (cond (eqb y.code 3) (Some WrongDecimals)
    (cond (eqb y.code 4) (Some MinusZero)
    (cond (eqb y.code 5) (Some OutOfRange)
    (cond (eqb y.code 6) (Some AtLimit)
    (cond (eqb y.code 7) (Some NotForThisCard)
    (cond (eqb y.code 8) (Some NoOffer)
    (cond (eqb y.code 9) (Some NoMessageClosed) (Some (NotWellFormed y.position)))))))))))

cause_back : (x : Option Cause) → cause_from (why_of x) ≡ x
unfolding cause_from
cause_back None = refl
cause_back (Some NoSuchIdentifier) = refl
cause_back (Some Access) = refl
cause_back (Some WrongDecimals) = refl
cause_back (Some OutOfRange) = refl
cause_back (Some AtLimit) = refl
cause_back (Some NotForThisCard) = refl
cause_back (Some NoOffer) = refl
cause_back (Some NoMessageClosed) = refl
cause_back (Some (NotWellFormed p)) = refl
cause_back (Some MinusZero) = refl

pub why_injective : (x y : Option Cause) → why_of x ≡ why_of y → x ≡ y
why_injective x y e = sym (cause_back x) ∙ ap cause_from e ∙ cause_back y
