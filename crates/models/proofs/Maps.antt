-- An array's `map` by a closure that changes nothing is the list's `map`. Assumes nothing.
use mathlib.Core.Path.{◌≡◌, refl, ap₂, ◌∙◌, sym}
use mathlib.Core.List.{List, [], ◌∷◌, map}
use Prim.Native.Nat.{ℕ, suc, ◌<◌}
use native.Mathlib.Omega.{arith}
use denote.Param.Members.{Mut}
use lib.ListN.{length, get_or}
use Rattle.std.specs.Array.{IsMapOf}
use Rattle.std.specs.Fn.{Called}

module _ {A B : Type 0} (f : A → B) (a : A) (b : B) where
  each-place : (xs : List A) (ys : List B) → length ys ≡ length xs
      → ((i : ℕ) → i < length xs → get_or ys i b ≡ f (get_or xs i a)) → ys ≡ map f xs
  each-place [] [] e h = refl
  each-place [] (y ∷ ys) e h = absurd (omega arith)
  each-place (x ∷ xs) [] e h = absurd (omega arith)
  each-place (x ∷ xs) (y ∷ ys) e h =
      ap₂ (λ (z : B) (zs : List B). z ∷ zs) (h 0 (omega arith)) (each-place xs ys (omega arith) (λ i p. h (suc i) (omega arith)))

  -- `a` and `b` are any two elements; the last argument is what one call says
  pub map_same : {F : Type 0} (g : Mut F (A × Unit {0}) B) (s : F) (xs : List A) (ys : List B) (n : ℕ) → IsMapOf g s xs ys n → length xs ≡ n
      → ((p : F) (x : A) (y : B) (q : F) → Called g p (x, tt) y q → y ≡ f x) → ys ≡ map f xs
  map_same g s xs ys n m l h =
      each-place xs ys (m.long ∙ sym l) (λ i p. let k = m.at i a b (omega arith) in h k.0 (get_or xs i a) (get_or ys i b) k.1 k.2)
