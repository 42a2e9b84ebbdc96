-- What an array holds that calls have made, of each index or of each element of another, where each call leaves the callee as it was. Assumes
-- nothing.
use mathlib.Core.Path.{◌≡◌, sym, ap, ◌∙◌, subst}
use mathlib.Core.List.{List, map}
use Prim.Native.Nat.{ℕ, zero, suc, ◌+◌, ◌<◌}
use native.Mathlib.Omega.{arith}
use lib.ListN.{length, get_or, length-map, get_or-map}
use denote.Param.Members.{Mut}
use Rattle.std.specs.Array.{IsFromFnResult, IsFromFnResultFrom, IsMapOf, MapsFrom}
use Rattle.std.proofs.lemmas.List.{same_lists, get_or_default}
use Rattle.std.specs.Iterator.{ActsAs}

module _ {F B : Type 0} (g : Mut F (ℕ × Unit {0}) B) (h : ℕ → B) (ys : List B) where
  made_from : (f : F) (i n : ℕ) → ActsAs g f h → IsFromFnResultFrom g f ys i n → (k : ℕ) (d : B) → k < n → get_or ys (i + k) d ≡ h (i + k)
  made_from f i zero acts m k d l = absurd (omega arith)
  made_from f i (suc n) acts m zero d l =
      let here : i + 0 ≡ i = omega arith in
      rw here (m.2.1 d ∙ (acts i m.1 m.0 m.3).1)
  made_from f i (suc n) acts m (suc k) d l =
      let next : i + suc k ≡ (i + 1) + k = omega arith in
      rw next (made_from f (i + 1) n acts (subst (λ (q : F). IsFromFnResultFrom g q ys (i + 1) n) (acts i m.1 m.0 m.3).0 m.4) k d (omega arith))

  pub made_at : (f : F) (n : ℕ) → IsFromFnResult g f ys n → ActsAs g f h → (k : ℕ) (d : B) → k < n → get_or ys k d ≡ h k
  made_at f n m acts k d l = let here : 0 + k ≡ k = omega arith in rw here at (made_from f 0 n acts m.each k d l)

module _ {F A B : Type 0} (g : Mut F (A × Unit {0}) B) (h : A → B) (xs : List A) (ys : List B) where
  maps_from : (f : F) (i n : ℕ) → ActsAs g f h → MapsFrom g f xs ys i n → (k : ℕ) (a : A) (d : B) → k < n → get_or ys (i + k) d ≡ h (get_or xs (i + k) a)
  maps_from f i zero acts m k a d l = absurd (omega arith)
  maps_from f i (suc n) acts m zero a d l =
      let here : i + 0 ≡ i = omega arith in
      rw here (m.4.1 d ∙ (acts m.1 m.2 m.0 m.5).1 ∙ sym (ap h (m.3.1 a)))
  maps_from f i (suc n) acts m (suc k) a d l =
      let next : i + suc k ≡ (i + 1) + k = omega arith in
      rw next (maps_from f (i + 1) n acts (subst (λ (q : F). MapsFrom g q xs ys (i + 1) n) (acts m.1 m.2 m.0 m.5).0 m.6) k a d (omega arith))

  pub mapped : (f : F) (n : ℕ) → IsMapOf g f xs ys n → ActsAs g f h → (a : A) → length xs ≡ n → ys ≡ map h xs
  mapped f n m acts a e =
      same_lists ys (map h xs) (m.long ∙ sym (length-map xs h ∙ e)) (λ k d l.
      let here : 0 + k ≡ k = omega arith in
      let at : get_or ys k d ≡ h (get_or xs k a) = rw here at (maps_from f 0 n acts m.each k a d (omega (arith, m.long))) in
      at ∙ sym (get_or-map h xs k a) ∙ get_or_default (map h xs) k (h a) d (omega (arith, e, m.long, length-map xs h)))
