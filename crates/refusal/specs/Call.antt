-- What a call that writes into a buffer answers and leaves there, for every buffer.
use Rattle.std.specs.Prelude.{cond, List, [], ◌∷◌, ◌++◌, ℕ, ltb, length}
use Rattle.refusal.specs.Refusal.{Outcome, refused, gave, number_of, outcome_of}
use Rattle.refusal.specs.Buffer.{laid, fits_at, placed}
use Rattle.refusal.specs.Check.{Check, refuse_if, first, decided}
use Rattle.refusal.specs.declared.Refusal.TheVariants.{RoomTooShort}
use Rattle.std.specs.Prelude.{Result}
use Rattle.refusal.specs.declared.Refusal.{Refusal}

-- the outcome, and the whole buffer afterwards
pub record Call : Type 0 where
  pub outcome : Outcome ℕ
  pub buffer : List ℕ

-- an answer and a buffer, as a call has left them
abbrev pub call_of : Result ℕ Refusal → List ℕ → Call
call_of r out = record { outcome = outcome_of r; buffer = out }

-- document 01: "No refusal changes anything lent."
abbrev pub refuses : List ℕ → ℕ → Call
refuses out n = record { outcome = refused n; buffer = out }

-- number 5 for a list that is longer than its buffer
abbrev pub room_for : List ℕ → List ℕ → Check
room_for xs out = refuse_if (ltb (length out) (length xs)) RoomTooShort

-- the tests in their order, then room; then all of xs at the front of the buffer
unfoldable pub writes : List Check → List ℕ → List ℕ → Call
writes checks xs out =
    decided (first (checks ++ (room_for xs out ∷ []))) (refuses out) (record { outcome = gave (length xs); buffer = laid xs out })

-- all of xs from a place on; number 5 exactly when it does not fit
unfoldable pub place_call : List ℕ → ℕ → List ℕ → Call
place_call xs at out =
    cond (fits_at xs at out) (record { outcome = gave (length xs); buffer = placed xs at out }) (refuses out (number_of RoomTooShort))
