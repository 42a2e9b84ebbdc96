-- What the answer of a call that places or writes a list says of the room. Assumes nothing.
use mathlib.Core.Path.{◌≡◌, sym, ap, ◌∙◌}
use mathlib.Core.Bool.{true, false, false≢true}
use mathlib.Core.List.{List, []}
use Prim.Native.Nat.{ℕ, ◌+◌, ◌<◌, ◌≤◌}
use borrow.Author.Tests.{leb-true, leb-false}
use lib.Dec.{leb}
use lib.ListN.{length}
use Rattle.refusal.specs.Refusal.{Outcome, gave, outcome_of}
use Rattle.refusal.specs.Buffer.{fits_at}
use Rattle.refusal.specs.Call.{Call, call_of, writes, place_call}
use Rattle.refusal.specs.declared.Refusal.{Refusal}
use Rattle.refusal.proofs.Logic.{by-test}
use Rattle.refusal.proofs.Checks.{refused_gave}
use Rattle.refusal.proofs.Calls.{gave_served, placed_call, unplaced_call, fits-at, fits_not}
use Rattle.std.specs.Prelude.{Err, Ok, Result}

-- so many were written by a call: they lie in its buffer
pub wrote_within : (xs out : List ℕ) (r : Result ℕ Refusal) (n : ℕ) {left : List ℕ} → call_of r left ≡ writes [] xs out → r ≡ Ok n → n ≤ length out
wrote_within xs out r n e w =
    let s = gave_served xs out [] n (sym (ap (λ (c : Call). c.outcome) e) ∙ ap outcome_of w) in
    rw s.count s.room

module _ (xs : List ℕ) (at : ℕ) (out : List ℕ) where
  pub fits_is : fits_at xs at out ≡ true → at + length xs ≤ length out
  fits_is e =
      by-test (leb (at + length xs) (length out))
      (λ t. leb-true _ _ t)
      (λ t. absurd (false≢true (sym (fits_not xs at out (leb-false _ _ t)) ∙ e)))

  pub unfit_is : fits_at xs at out ≡ false → length out < at + length xs
  unfit_is e =
      by-test (leb (at + length xs) (length out))
      (λ t. absurd (false≢true (sym e ∙ fits-at xs at out (leb-true _ _ t))))
      (λ t. leb-false _ _ t)

  -- the answer r of a call that placed xs
  module _ (r : Result ℕ Refusal) (left : List ℕ) (e : call_of r left ≡ place_call xs at out) where
    abbrev answered : Call → Outcome ℕ
    answered c = c.outcome

    pub wrote_fits : (n : ℕ) → r ≡ Ok n → fits_at xs at out ≡ true
    wrote_fits n w =
        by-test (fits_at xs at out) (λ t. t)
        (λ t. absurd (refused_gave (sym (ap answered (e ∙ unplaced_call xs at out t)) ∙ ap outcome_of w)))

    pub wrote_count : (n : ℕ) → r ≡ Ok n → n ≡ length xs
    wrote_count n w =
        let g : gave n ≡ gave (length xs) = sym (ap outcome_of w) ∙ ap answered (e ∙ placed_call xs at out (wrote_fits n w)) in
        cc

    pub refused_unfit : (k : Refusal) → r ≡ Err k → fits_at xs at out ≡ false
    refused_unfit k w =
        by-test (fits_at xs at out)
        (λ t. absurd (refused_gave (sym (ap outcome_of w) ∙ ap answered (e ∙ placed_call xs at out t))))
        (λ t. t)
