-- Tests of lists, over any element: of each of a list, of two lists, and what a loop that tests carries. Assumes nothing.
use mathlib.Core.Path.{◌≡◌, refl, sym, ap, ap₂, ◌∙◌, subst}
use mathlib.Core.Bool.{Bool, true, false, ◌&&◌, false≢true, and_assoc, and-true}
use mathlib.Core.List.{List, [], ◌∷◌, ◌++◌, tail-eq_of_cons-eq}
use Prim.Native.Nat.{ℕ, zero, suc, ◌+◌, ◌<◌, ◌≤◌}
use native.Mathlib.Numerals.{add-one}
use native.Mathlib.Omega.{arith}
use lib.ListN.{length, get_or, take, drop, set, replicate, drop_of_length-le}
use lib.Seq.{drop-cons}
use Rattle.std.specs.List.{list_all}
use Rattle.std.specs.Cmp.Lexicographic.{pointwise}
use Rattle.refusal.specs.Lists.{every, same}
use Rattle.refusal.proofs.Logic.{and_left, and_right, and_both}

-- what is behind the same list
pub append_cancel : {A : Type 0} (us : List A) {xs ys : List A} → us ++ xs ≡ us ++ ys → xs ≡ ys
append_cancel [] e = e
append_cancel (u ∷ us) e = append_cancel us (tail-eq_of_cons-eq e)

-- ---- the library's words for both

-- what `.iter().all(..)` answers
pub every_all : {A : Type 0} (f : A → Bool) (xs : List A) → every f xs ≡ list_all f xs
unfolding every
every_all f [] = refl
every_all f (x ∷ xs) = ap (λ (b : Bool). f x && b) (every_all f xs)

-- what `==` of two slices answers
pub same_pointwise : {A : Type 0} (eq : A → A → Bool) (xs ys : List A) → same eq xs ys ≡ pointwise eq xs ys
unfolding same
same_pointwise eq [] [] = refl
same_pointwise eq [] (y ∷ ys) = refl
same_pointwise eq (x ∷ xs) [] = refl
same_pointwise eq (x ∷ xs) (y ∷ ys) = ap (λ (b : Bool). eq x y && b) (same_pointwise eq xs ys)

-- ---- a statement of each

abbrev pub Each : {A : Type 0} → (A → Type 0) → List A → Type 0
Each P [] = Unit {0}
Each P (x ∷ xs) = P x × Each P xs

pub each_append : {A : Type 0} (P : A → Type 0) (xs ys : List A) → Each P xs → Each P ys → Each P (xs ++ ys)
each_append P [] ys p q = q
each_append P (x ∷ xs) ys p q = (p.0, each_append P xs ys p.1 q)

pub each_as : {A : Type 0} {P Q : A → Type 0} → ((x : A) → P x → Q x) → (xs : List A) → Each P xs → Each Q xs
each_as f [] h = tt
each_as f (x ∷ xs) h = (f x h.0, each_as f xs h.1)

module _ {A : Type 0} (f : A → Bool) where
  -- ---- a test of each

  pub every_none : every f [] ≡ true
  unfolding every
  every_none = refl

  pub every_first : (x : A) (xs : List A) → f x ≡ true → every f xs ≡ true → every f (x ∷ xs) ≡ true
  unfolding every
  every_first x xs p q = and_both p q

  pub every_both : (xs ys : List A) → every f (xs ++ ys) ≡ every f xs && every f ys
  unfolding every
  every_both [] ys = refl
  every_both (x ∷ xs) ys = ap (λ (b : Bool). f x && b) (every_both xs ys) ∙ sym (and_assoc (f x) (every f xs) (every f ys))

  pub every_append : (xs ys : List A) → every f xs ≡ true → every f ys ≡ true → every f (xs ++ ys) ≡ true
  every_append xs ys p q = every_both xs ys ∙ and_both p q

  -- one more of the first, and one less of the rest
  pub every_set : (xs : List A) (n : ℕ) (x : A) → every f (take n xs) ≡ true → f x ≡ true → every f (take (suc n) (set xs n x)) ≡ true
  unfolding every
  every_set [] n x e h = refl
  every_set (y ∷ ys) zero x e h = rw h
  every_set (y ∷ ys) (suc n) x e h =
      and_both (and_left (f y) (every f (take n ys)) e) (every_set ys n x (and_right (f y) (every f (take n ys)) e) h)

  pub every_drop : (xs : List A) (n : ℕ) → every f (drop n xs) ≡ true → every f (drop (suc n) xs) ≡ true
  unfolding every
  every_drop [] n e = refl
  every_drop (y ∷ ys) zero e = and_right (f y) (every f ys) e
  every_drop (y ∷ ys) (suc n) e = every_drop ys n e

  -- at an index
  pub every_at : (d : A) (xs : List A) (n : ℕ) → every f xs ≡ true → n < length xs → f (get_or xs n d) ≡ true
  unfolding every
  every_at d [] n e h = absurd (omega arith)
  every_at d (x ∷ xs) zero e h = and_left (f x) (every f xs) e
  every_at d (x ∷ xs) (suc n) e h = every_at d xs n (and_right (f x) (every f xs) e) (omega arith)

  -- equal elements, from an index on
  pub every_replicate : (x : A) → f x ≡ true → (n k : ℕ) → every f (drop n (replicate k x)) ≡ true
  unfolding every
  every_replicate x e zero zero = refl
  every_replicate x e zero (suc k) = and_both e (every_replicate x e zero k)
  every_replicate x e (suc n) zero = refl
  every_replicate x e (suc n) (suc k) = every_replicate x e n k

  -- ---- a loop that tests each; d stands behind the end

  -- it has tested i of them, and `so` is whether all of those passed
  pub record Tested (xs : List A) (so : Bool) (i : ℕ) : Type 0 where
    pub in' : i ≤ length xs
    pub rest : every f xs ≡ so && every f (drop i xs)

  pub test_starts : (xs : List A) → Tested xs true 0
  test_starts xs = record { in' = omega arith; rest = refl }

  module _ (d : A) (xs : List A) {so : Bool} {i : ℕ} (t : Tested xs so i) where
    pub test_more : i < length xs → Tested xs (so && f (get_or xs i d)) (i + 1)
    unfolding every
    test_more h = record {
      in' = omega arith;
      rest = t.rest ∙ rw (add-one, drop-cons xs i d h) (sym (and_assoc so (f (get_or xs i d)) (every f (drop (suc i) xs))));
    }

    pub test_ends : length xs ≤ i → so ≡ every f xs
    unfolding every
    test_ends h = sym (t.rest ∙ rw (drop_of_length-le xs h) (and-true so))

  -- a loop that stops at the first that fails
  module _ (d : A) (xs : List A) {i : ℕ} (t : Tested xs true i) (h : i < length xs) where
    pub test_passes : f (get_or xs i d) ≡ true → Tested xs true (i + 1)
    test_passes e = subst (λ (b : Bool). Tested xs b (i + 1)) e (test_more d xs t h)

    pub test_fails : f (get_or xs i d) ≡ false → false ≡ every f xs
    test_fails e = sym ((test_more d xs t h).rest ∙ rw e)

-- ---- two lists

module _ {A : Type 0} (eq : A → A → Bool) where
  module _ (sound : (x y : A) → eq x y ≡ true → x ≡ y) where
    pub same_is : (xs ys : List A) → same eq xs ys ≡ true → xs ≡ ys
    unfolding same
    same_is [] [] e = refl
    same_is [] (y ∷ ys) e = absurd (false≢true e)
    same_is (x ∷ xs) [] e = absurd (false≢true e)
    same_is (x ∷ xs) (y ∷ ys) e =
        ap₂ ◌∷◌ (sound x y (and_left (eq x y) (same eq xs ys) e)) (same_is xs ys (and_right (eq x y) (same eq xs ys) e))

  module _ (complete : (x : A) → eq x x ≡ true) where
    pub is_same : (xs : List A) → same eq xs xs ≡ true
    unfolding same
    is_same [] = refl
    is_same (x ∷ xs) = and_both (complete x) (is_same xs)

  -- lists of different lengths
  pub same_length : (xs ys : List A) → same eq xs ys ≡ true → length xs ≡ length ys
  unfolding same
  same_length [] [] e = refl
  same_length [] (y ∷ ys) e = absurd (false≢true e)
  same_length (x ∷ xs) [] e = absurd (false≢true e)
  same_length (x ∷ xs) (y ∷ ys) e = ap suc (same_length xs ys (and_right (eq x y) (same eq xs ys) e))

  -- a loop that compares, and has found i equal: the rest decides
  pub record Compared (xs ys : List A) (i : ℕ) : Type 0 where
    pub long : length xs ≡ length ys
    pub in' : i ≤ length xs
    pub rest : same eq xs ys ≡ same eq (drop i xs) (drop i ys)

  pub compare_starts : (xs ys : List A) → length xs ≡ length ys → Compared xs ys 0
  compare_starts xs ys e = record { long = e; in' = omega arith; rest = refl }

  module _ (d : A) (xs ys : List A) {i : ℕ} (c : Compared xs ys i) where
    split : i < length xs → same eq xs ys ≡ eq (get_or xs i d) (get_or ys i d) && same eq (drop (suc i) xs) (drop (suc i) ys)
    unfolding same
    split h = c.rest ∙ rw (drop-cons xs i d h, drop-cons ys i d (omega (arith, c.long)))

    pub compare_more : i < length xs → eq (get_or xs i d) (get_or ys i d) ≡ true → Compared xs ys (i + 1)
    compare_more h e = record { long = c.long; in' = omega arith; rest = split h ∙ rw (e, add-one) }

    pub compare_fails : i < length xs → eq (get_or xs i d) (get_or ys i d) ≡ false → false ≡ same eq xs ys
    compare_fails h e = sym (split h ∙ rw e)

    pub compare_ends : length xs ≤ i → true ≡ same eq xs ys
    unfolding same
    compare_ends h =
        let a = c.in' in
        let b = c.long in
        let l : length ys ≤ i = omega arith in
        sym (c.rest ∙ rw (drop_of_length-le xs h, drop_of_length-le ys l))
