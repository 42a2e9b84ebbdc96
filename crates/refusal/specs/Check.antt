-- Tests in the paper's order, and the first of them that holds: those of a call, by the number of its refusal; and those of a message, by the
-- code of its cause (`act/specs/Cause`).
use Rattle.std.specs.Prelude.{◌≡◌, Bool, true, false, cond, List, [], ◌∷◌, ℕ}
use Rattle.refusal.specs.Refusal.{Outcome, refused, gave, number_of}
use Rattle.refusal.specs.declared.Refusal.{Refusal}

-- one line of the table: "Given exactly when"
pub record Check : Type 0 where
  pub holds : Bool
  pub number : ℕ

abbrev pub refuse_if : Bool → Refusal → Check
refuse_if b r = record { holds = b; number = number_of r }

-- document 01: "Checked in this order; the first that holds is given, and only then."
unfoldable pub first : List Check → Outcome (Unit {0})
first [] = gave tt
first (c ∷ cs) = cond c.holds (refused c.number) (first cs)

-- what it comes to by the tests: by the number of the first that holds, or what is served where none does
abbrev pub decided : {A : Type 0} → Outcome (Unit {0}) → (ℕ → A) → A → A
decided (refused n) keeps serves = keeps n
decided (gave x) keeps serves = serves

-- the number is given: its test holds, and none before it does
pub data Given (n : ℕ) : List Check → Type 0 where
  here : {c : Check} {cs : List Check} → c.holds ≡ true → c.number ≡ n → Given n (c ∷ cs)
  later : {c : Check} {cs : List Check} → c.holds ≡ false → Given n cs → Given n (c ∷ cs)

-- no test holds
pub data Passed : List Check → Type 0 where
  end : Passed []
  next : {c : Check} {cs : List Check} → c.holds ≡ false → Passed cs → Passed (c ∷ cs)
