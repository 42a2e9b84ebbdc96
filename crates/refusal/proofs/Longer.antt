-- A list that is the same as another, or longer: kept by what is put behind both or before both, by a map, and from one to the next.
-- Assumes nothing.
use mathlib.Core.Path.{◌≡◌, refl, ap, ◌∙◌}
use mathlib.Core.Logic.{◌⊎◌, inl, inr}
use mathlib.Core.List.{List, [], ◌∷◌, ◌++◌, map}
use Prim.Native.Nat.{◌<◌, ◌≤◌}
use native.Mathlib.Omega.{arith}
use lib.ListN.{length, length-append, length-map}

-- ys is xs, or has more elements
abbrev pub SameOrLonger : {A : Type 0} → List A → List A → Type 0
SameOrLonger xs ys = (ys ≡ xs) ⊎ (length xs < length ys)

module _ {A : Type 0} where
  pub not_shorter : {xs ys : List A} → SameOrLonger xs ys → length xs ≤ length ys
  not_shorter (inl e) = omega (arith, ap length e)
  not_shorter (inr h) = omega arith

  -- one that is as long is the same
  pub as_long_is_same : {xs ys : List A} → SameOrLonger xs ys → length ys ≤ length xs → ys ≡ xs
  as_long_is_same (inl e) l = e
  as_long_is_same (inr h) l = absurd (omega arith)

  pub longer_than_none : (ys : List A) → SameOrLonger [] ys
  longer_than_none [] = inl refl
  longer_than_none (y ∷ ys) = inr (omega arith)

  -- with something behind it
  pub longer_by_rest : (xs : List A) (y : A) (ys : List A) → SameOrLonger xs (xs ++ (y ∷ ys))
  longer_by_rest xs y ys = inr (omega (arith, length-append xs (y ∷ ys)))

  pub longer_then : {xs ys zs : List A} → SameOrLonger xs ys → SameOrLonger ys zs → SameOrLonger xs zs
  longer_then (inl p) (inl q) = inl (q ∙ p)
  longer_then (inl p) (inr k) = inr (omega (arith, ap length p))
  longer_then (inr h) q = inr (omega (arith, not_shorter q))

  pub longer_behind : {xs ys : List A} (zs : List A) → SameOrLonger xs ys → SameOrLonger (xs ++ zs) (ys ++ zs)
  longer_behind zs (inl e) = inl (ap (λ (l : List A). l ++ zs) e)
  longer_behind {xs} {ys} zs (inr h) = inr (omega (arith, length-append xs zs, length-append ys zs))

  pub longer_ahead : {xs ys : List A} (zs : List A) → SameOrLonger xs ys → SameOrLonger (zs ++ xs) (zs ++ ys)
  longer_ahead zs (inl e) = inl (ap (λ (l : List A). zs ++ l) e)
  longer_ahead {xs} {ys} zs (inr h) = inr (omega (arith, length-append zs xs, length-append zs ys))

  pub longer_map : {B : Type 0} (f : A → B) {xs ys : List A} → SameOrLonger xs ys → SameOrLonger (map f xs) (map f ys)
  longer_map f (inl e) = inl (ap (map f) e)
  longer_map f {xs} {ys} (inr h) = inr (omega (arith, length-map xs f, length-map ys f))
