-- The first test that holds, in both directions, and of two lists of tests. Assumes nothing.
use mathlib.Core.Path.{◌≡◌, refl, sym, ap, ◌∙◌}
use mathlib.Core.Logic.{◌↔◌}
use mathlib.Core.Bool.{Bool, true, false}
use mathlib.Core.List.{List, [], ◌∷◌, ◌++◌}
use Prim.Native.Nat.{ℕ}
use native.Mathlib.Omega.{arith}
use Rattle.refusal.proofs.Logic.{ands, by-test}
use Rattle.refusal.specs.Lists.{every}
use Rattle.refusal.specs.Refusal.{Outcome, refused, gave}
use Rattle.refusal.specs.Check.{Check, first, decided, Given, here, later, Passed, end, next}

-- a refusal gives nothing
pub refused_gave : {A : Type 0} {k : ℕ} {x : A} → refused k ≡ gave x → ⊥
refused_gave e = let z : ◌≡◌ {A = ℕ} 0 1 = cc in omega arith

pub refused_is : {A : Type 0} {k n : ℕ} → ◌≡◌ {A = Outcome A} (refused k) (refused n) → k ≡ n
refused_is e = cc

pub gave_is : {A : Type 0} {x y : A} → ◌≡◌ {A = Outcome A} (gave x) (gave y) → x ≡ y
gave_is e = cc

-- ---- one test more

pub first_holds : (c : Check) (cs : List Check) → c.holds ≡ true → first (c ∷ cs) ≡ refused c.number
unfolding first
first_holds c cs e = rw e

pub first_passes : (c : Check) (cs : List Check) → c.holds ≡ false → first (c ∷ cs) ≡ first cs
unfolding first
first_passes c cs e = rw e

pub first_none : first [] ≡ gave tt
unfolding first
first_none = refl

-- ---- the number given, and none

pub first_given : (n : ℕ) (cs : List Check) → first cs ≡ refused n → Given n cs
unfolding first
first_given n [] e = absurd (refused_gave (sym e))
first_given n (c ∷ cs) e =
    by-test c.holds
    (λ t. here t (refused_is (sym (first_holds c cs t) ∙ e)))
    (λ t. later t (first_given n cs (sym (first_passes c cs t) ∙ e)))

pub given_first : (n : ℕ) (cs : List Check) → Given n cs → first cs ≡ refused n
given_first n [] g = elim g [ ]
given_first n (c ∷ cs) (here t e) = first_holds c cs t ∙ ap refused e
given_first n (c ∷ cs) (later t g) = first_passes c cs t ∙ given_first n cs g

pub given_is : (n : ℕ) (cs : List Check) → (first cs ≡ refused n) ↔ Given n cs
given_is n cs = (first_given n cs, given_first n cs)

pub first_passed : (cs : List Check) → first cs ≡ gave tt → Passed cs
first_passed [] e = end
first_passed (c ∷ cs) e =
    by-test c.holds
    (λ t. absurd (refused_gave (sym (first_holds c cs t) ∙ e)))
    (λ t. next t (first_passed cs (sym (first_passes c cs t) ∙ e)))

pub passed_first : (cs : List Check) → Passed cs → first cs ≡ gave tt
passed_first [] end = first_none
passed_first (c ∷ cs) (next t p) = first_passes c cs t ∙ passed_first cs p

-- ---- tests behind tests

pub first_append : (cs ds : List Check) → first (cs ++ ds) ≡ decided (first cs) refused (first ds)
unfolding first
first_append [] ds = refl
first_append (c ∷ cs) ds =
    by-test c.holds
    (λ t. rw t)
    (λ t. rw t (first_append cs ds))

pub append_refused : (cs ds : List Check) (n : ℕ) → first cs ≡ refused n → first (cs ++ ds) ≡ refused n
append_refused cs ds n e = first_append cs ds ∙ rw e

pub append_passed : (cs ds : List Check) → first cs ≡ gave tt → first (cs ++ ds) ≡ first ds
append_passed cs ds e = first_append cs ds ∙ rw e

-- what a call comes to is refused exactly when a number is given
pub by_first : {X : Type 0} (cs : List Check) → ((n : ℕ) → first cs ≡ refused n → X) → (first cs ≡ gave tt → X) → X
by_first {X} cs f g = go (first cs) refl
  where
    go : (o : Outcome (Unit {0})) → first cs ≡ o → X
    go (refused n) e = f n e
    go (gave tt) e = g e

-- what is true of every line of the list is true of the one that holds and gives its number
pub first_line : (f : Check → Bool) (cs : List Check) (n : ℕ) → every f cs ≡ true → first cs ≡ refused n → f (record { holds = true; number = n }) ≡ true
unfolding every
first_line f [] n e q = absurd (refused_gave (sym q ∙ first_none))
first_line f (c ∷ cs) n e q =
    by-test c.holds
    (λ t. (λ j. f (record { holds = sym t j; number = sym (refused_is (sym (first_holds c cs t) ∙ q)) j })) ∙ search ands)
    (λ t. first_line f cs n (search ands) (sym (first_passes c cs t) ∙ q))

-- and so of every number of the list
pub first_among : (f : ℕ → Bool) (cs : List Check) (n : ℕ) → every (λ (c : Check). f c.number) cs ≡ true → first cs ≡ refused n → f n ≡ true
first_among f cs n e q = first_line (λ (c : Check). f c.number) cs n e q
