-- The setup of an instrument, and what `give` leaves of one: number 5 where a list does not fit, otherwise three copies and the count.
-- Assumes nothing.
use mathlib.Core.Path.{◌≡◌, ap, ◌∙◌}
use mathlib.Core.Bool.{◌&&◌}
use mathlib.Core.List.{List, [], ◌∷◌, map}
use Prim.Native.Nat.{ℕ, ◌<◌, ◌≤◌}
use native.Mathlib.Omega.{arith}
use borrow.Author.Tests.{leb-true}
use lib.Dec.{leb}
use lib.IntN.{ℤ, pos}
use lib.ListN.{length, get_or}
use Rattle.std.proofs.lemmas.Bool.{le-leb}
use Rattle.refusal.specs.Refusal.{number_of}
use Rattle.refusal.specs.Buffer.{laid}
use Rattle.refusal.specs.declared.Refusal.TheVariants.{RoomTooShort}
use Rattle.refusal.proofs.Logic.{ands, by-test}
use Rattle.message.proofs.Places.{five_are}
use Rattle.models.specs.Table.{sheet_of, values_of}
use Rattle.models.specs.Scans.{padded}
use Rattle.models.specs.Model.{Model}
use Rattle.abi.specs.Result.{minus_number, count_result}
use Rattle.abi.specs.Models.{setup_numbers, model_setup, model_given, given_into, model_into}

module _ (i : Model) (xs ys zs sheet values setup : List ℤ) (p : xs ≡ sheet_of i.table) (q : ys ≡ values_of i.table) (r : zs ≡ model_setup i) where
  these : model_into sheet values setup i ≡ given_into xs ys zs sheet values setup
  unfolding model_into
  these = rw (p, q, r)

  pub fit : length xs ≤ length sheet → length ys ≤ length values → length zs ≤ length setup
      → model_into sheet values setup i ≡ model_given (count_result (length xs)) (laid xs sheet) (laid ys values) (laid zs setup)
  unfolding given_into
  fit h k l = these ∙ rw (le-leb _ _ h, le-leb _ _ k, le-leb _ _ l)

  pub too_long : (length xs ≤ length sheet → length ys ≤ length values → length setup < length zs)
      → model_into sheet values setup i ≡ model_given (minus_number (number_of RoomTooShort)) sheet values setup
  unfolding given_into
  too_long h =
      these ∙ by-test (leb (length xs) (length sheet) && leb (length ys) (length values) && leb (length zs) (length setup))
      (λ t. absurd (let l = h (leb-true _ _ (search ands)) (leb-true _ _ (search ands)) in let m = leb-true (length zs) (length setup) (search ands) in omega arith)) (λ f. rw f)

-- the seven numbers of an instrument, by the seven that are widened
pub setup_is : (i : Model) (letter count : ℕ) (scan : List ℕ) (numbers : List ℤ)
    → numbers ≡ map pos (letter ∷ count ∷ get_or scan 0 0 ∷ get_or scan 1 0 ∷ get_or scan 2 0 ∷ get_or scan 3 0 ∷ get_or scan 4 0 ∷ [])
    → length scan ≡ 5 → letter ≡ i.letter → count ≡ length i.scan → scan ≡ padded i.scan → numbers ≡ model_setup i
unfolding setup_numbers
setup_is i letter count scan numbers e five p q r =
    e ∙ ap (λ (s : List ℕ). pos letter ∷ pos count ∷ map pos s) (five_are scan five) ∙ rw (p, q, r)
