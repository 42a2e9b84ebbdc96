-- Lists written into a buffer, over any element, and what a loop that fills a buffer carries. Assumes nothing.
use mathlib.Core.Path.{◌≡◌, refl, sym, ap, ap₂, ◌∙◌}
use mathlib.Core.List.{List, [], ◌∷◌, ◌++◌, append-nil, append_assoc}
use Prim.Native.Nat.{ℕ, suc, ◌+◌, ◌<◌, ◌≤◌}
use native.Mathlib.Nat.{zero-add, add-zero, add_assoc}
use native.Mathlib.Numerals.{add-one}
use native.Mathlib.Omega.{arith}
use lib.Dec.{leb}
use lib.ListN.{length, get_or, take, drop, set, length-append, length-drop, drop_of_length-le, take-append-drop}
use lib.Seq.{take-append_seam, drop-append_seam, take_at, drop_at, drop-drop, drop-cons, set_split, sets, sets-eq, take-take, length-take-le}
use borrow.Rule.Slice.PartMut.{put_mid}
use Rattle.refusal.specs.Buffer.{laid, fits_at, placed}

module _ {A : Type 0} where
  -- ---- at the front

  -- the buffer keeps its length, and what lies behind the last written is unchanged
  pub laid_length : (xs out : List A) → length xs ≤ length out → length (laid xs out) ≡ length out
  unfolding laid
  laid_length xs out h = omega (arith, length-append xs (drop (length xs) out), length-drop (length xs) out)

  pub laid_front : (xs out : List A) → take (length xs) (laid xs out) ≡ xs
  unfolding laid
  laid_front xs out = take-append_seam xs (drop (length xs) out)

  pub laid_behind : (xs out : List A) → drop (length xs) (laid xs out) ≡ drop (length xs) out
  unfolding laid
  laid_behind xs out = drop-append_seam xs (drop (length xs) out)

  -- one list behind another
  pub laid_both : (xs ys out : List A) → laid (xs ++ ys) out ≡ xs ++ laid ys (drop (length xs) out)
  unfolding laid
  laid_both xs ys out =
      append_assoc xs ys (drop (length (xs ++ ys)) out)
      ∙ ap (λ (l : List A). xs ++ (ys ++ l)) (ap (λ (n : ℕ). drop n out) (length-append xs ys) ∙ sym (drop-drop (length ys) (length xs) out))

  pub laid_nothing : (out : List A) → laid [] out ≡ out
  unfolding laid
  laid_nothing out = refl

  -- ---- from a place on

  pub placed-front : (xs out : List A) → placed xs 0 out ≡ laid xs out
  unfolding placed laid
  placed-front xs out = ap (λ (n : ℕ). xs ++ drop n out) (zero-add (length xs))

  pub fits_front : (xs out : List A) → fits_at xs 0 out ≡ leb (length xs) (length out)
  unfolding fits_at
  fits_front xs out = ap (λ (n : ℕ). leb n (length out)) (zero-add (length xs))

  pub placed_nothing : (at : ℕ) (out : List A) → placed [] at out ≡ out
  unfolding placed
  placed_nothing at out = ap₂ ◌++◌ (append-nil (take at out)) (ap (λ (n : ℕ). drop n out) (add-zero at)) ∙ take-append-drop at out

  head_length : (xs : List A) (at : ℕ) (out : List A) → at ≤ length out → length (take at out ++ xs) ≡ at + length xs
  head_length xs at out h = length-append (take at out) xs ∙ ap (λ (n : ℕ). n + length xs) (length-take-le at out h)

  module _ (xs : List A) (at : ℕ) (out : List A) where
    pub placed_length : at + length xs ≤ length out → length (placed xs at out) ≡ length out
    unfolding placed
    placed_length h =
        let n = length-append (take at out ++ xs) (drop (at + length xs) out) in
        let m = head_length xs at out (omega arith) in
        let k = length-drop (at + length xs) out in
        omega arith

    module _ (h : at ≤ length out) where
      pub placed_before : take (at + length xs) (placed xs at out) ≡ take at out ++ xs
      unfolding placed
      placed_before = take_at (take at out ++ xs) (drop (at + length xs) out) (at + length xs) (head_length xs at out h)

      pub placed_behind : drop (at + length xs) (placed xs at out) ≡ drop (at + length xs) out
      unfolding placed
      placed_behind = drop_at (take at out ++ xs) (drop (at + length xs) out) (at + length xs) (head_length xs at out h)

      -- one list behind the other
      pub placed_both : (ys : List A) → placed ys (at + length xs) (placed xs at out) ≡ placed (xs ++ ys) at out
      unfolding placed
      placed_both ys =
          let n = at + length xs in
          let front : take n (placed xs at out) ++ ys ≡ take at out ++ (xs ++ ys) = ap (λ (l : List A). l ++ ys) placed_before ∙ append_assoc (take at out) xs ys in
          let m : n + length ys ≡ at + length (xs ++ ys) = add_assoc at (length xs) (length ys) ∙ ap (λ (k : ℕ). at + k) (sym (length-append xs ys)) in
          let back : drop (n + length ys) (placed xs at out) ≡ drop (at + length (xs ++ ys)) out
          = sym (drop-drop (length ys) n (placed xs at out)) ∙ ap (drop (length ys)) placed_behind ∙ drop-drop (length ys) n out ∙ ap (λ (k : ℕ). drop k out) m in
          ap₂ ◌++◌ front back

  -- one list before another that stands there
  pub placed_ahead : (xs : List A) (at : ℕ) (ys out : List A) → at + length xs ≤ length out → placed xs at (placed ys (at + length xs) out) ≡ placed (xs ++ ys) at out
  unfolding placed
  placed_ahead xs at ys out h =
      let n = at + length xs in
      let behind = drop (n + length ys) out in
      let same : placed ys n out ≡ take n out ++ (ys ++ behind) = append_assoc (take n out) ys behind in
      let long : length (take n out) ≡ n = length-take-le n out h in
      let front : take at (placed ys n out) ≡ take at out = sym (take-take at n (placed ys n out) (omega arith)) ∙ ap (take at) (ap (take n) same ∙ take_at (take n out) (ys ++ behind) n long) ∙ take-take at n out (omega arith) in
      let back : drop n (placed ys n out) ≡ ys ++ behind = ap (drop n) same ∙ drop_at (take n out) (ys ++ behind) n long in
      let m : n + length ys ≡ at + length (xs ++ ys) = add_assoc at (length xs) (length ys) ∙ ap (λ (k : ℕ). at + k) (sym (length-append xs ys)) in
      ap₂ (λ (l r : List A). (l ++ xs) ++ r) front back
      ∙ sym (append_assoc (take at out ++ xs) ys behind)
      ∙ ap₂ (λ (l : List A) (k : ℕ). l ++ drop k out) (append_assoc (take at out) xs ys) m

  -- what `out[at..at + n].copy_from_slice(xs)` leaves
  pub copied_placed : (xs : List A) (at k : ℕ) (out ys : List A) → ys ≡ xs → k ≡ length xs → put_mid at k out ys ≡ placed xs at out
  unfolding placed
  copied_placed xs at k out ys e n =
      ap₂ (λ (l : List A) (m : ℕ). take at out ++ (l ++ drop m (drop at out))) e n
      ∙ sym (append_assoc (take at out) xs (drop (length xs) (drop at out)))
      ∙ ap (λ (l : List A). (take at out ++ xs) ++ l) (drop-drop (length xs) at out)

  -- elements stored one behind the other
  pub placed_sets : (xs out : List A) (from : ℕ) → from + length xs ≤ length out → sets out from xs ≡ placed xs from out
  unfolding placed
  placed_sets xs out from h = sets-eq xs out from h

  -- one element
  pub placed_one : (x : A) (at : ℕ) (out : List A) → at < length out → set out at x ≡ placed (x ∷ []) at out
  unfolding placed
  placed_one x at out h =
      set_split out at x h ∙ sym (append_assoc (take at out) (x ∷ []) (drop (suc at) out)) ∙ ap (λ (n : ℕ). (take at out ++ (x ∷ [])) ++ drop n out) (sym (add-one at))

  -- ---- a loop that fills a buffer: `rest` is still to come, from the place `at` on, and then `all` stands from the place `from` on

  pub record Filling (all out₀ : List A) (from : ℕ) (rest out : List A) (at : ℕ) : Type 0 where
    pub long : length out ≡ length out₀
    pub count : at + length rest ≡ from + length all
    pub whole : placed rest at out ≡ placed all from out₀

  pub fill_begins : (all out : List A) (from : ℕ) → Filling all out from all out from
  fill_begins all out from = record { long = refl; count = refl; whole = refl }

  module _ {all out₀ : List A} {from : ℕ} where
    -- these go on
    pub fill_goes_on : (xs rest out : List A) (at : ℕ) → Filling all out₀ from (xs ++ rest) out at → at + length xs ≤ length out
        → Filling all out₀ from rest (placed xs at out) (at + length xs)
    fill_goes_on xs rest out at f h = record {
      long = placed_length xs at out h ∙ f.long;
      count = add_assoc at (length xs) (length rest) ∙ ap (λ (k : ℕ). at + k) (sym (length-append xs rest)) ∙ f.count;
      whole = placed_both xs at out (omega arith) rest ∙ f.whole;
    }

    pub fill_ends : (out : List A) (at : ℕ) → Filling all out₀ from [] out at → out ≡ placed all from out₀
    fill_ends out at f = sym (placed_nothing at out) ∙ f.whole

  -- the same from the front of a buffer
  pub fill_laid : {all out₀ : List A} (out : List A) (at : ℕ) → Filling all out₀ 0 [] out at → out ≡ laid all out₀
  fill_laid {all} {out₀} out at f = sym (placed_nothing at out) ∙ f.whole ∙ placed-front all out₀

  -- ---- a loop that copies xs, one element a turn: k are copied; d stands behind the end

  pub record Copied (xs out₀ : List A) (from : ℕ) (out : List A) (k : ℕ) : Type 0 where
    pub in' : k ≤ length xs
    pub filling : Filling xs out₀ from (drop k xs) out (from + k)

  pub copy_starts : (xs out : List A) (from : ℕ) → Copied xs out from out 0
  copy_starts xs out from = record { in' = omega arith; filling = record { long = refl; count = ap (λ (n : ℕ). n + length xs) (add-zero from); whole = ap (λ (n : ℕ). placed xs n out) (add-zero from) } }

  module _ (d : A) (xs out₀ : List A) (from : ℕ) (out : List A) (k : ℕ) (c : Copied xs out₀ from out k) (fits : from + length xs ≤ length out₀) where
    pub copy_more : k < length xs → Copied xs out₀ from (set out (from + k) (get_or xs k d)) (k + 1)
    copy_more h =
        let x = get_or xs k d in
        let l = c.filling.long in
        let m : from + k + 1 ≡ from + (k + 1) = omega arith in
        let e : Filling xs out₀ from ((x ∷ []) ++ drop (k + 1) xs) out (from + k) = rw (add-one k) (rw (drop-cons xs k d h) at c.filling) in
        let f : Filling xs out₀ from (drop (k + 1) xs) (placed (x ∷ []) (from + k) out) (from + k + 1) = fill_goes_on (x ∷ []) (drop (k + 1) xs) out (from + k) e (omega arith) in
        record { in' = omega arith; filling = rw (placed_one x (from + k) out (omega arith), ← m) f }

    pub copy-ends : length xs ≤ k → out ≡ placed xs from out₀
    copy-ends h = fill_ends out (from + k) (rw (drop_of_length-le xs h) at c.filling)
