-- What an array's `map` by `wire::with_parity` gives: the characters as they travel. Assumes nothing.
use mathlib.Core.Path.{◌≡◌, refl, ap₂, sym, ◌∙◌}
use mathlib.Core.List.{List, [], ◌∷◌}
use Prim.Native.Nat.{ℕ, suc, ◌<◌}
use native.Mathlib.Omega.{arith}
use denote.Param.Members.{Mut}
use lib.ListN.{length, get_or}
use Rattle.std.specs.Array.{IsMapOf}
use Rattle.std.specs.Fn.{Called}
use Rattle.wire.specs.Word.{with_parity, travelling}

each-sent : (xs ys : List ℕ) → length ys ≡ length xs → ((i : ℕ) → i < length xs → get_or ys i 0 ≡ with_parity (get_or xs i 0)) → ys ≡ travelling xs
unfolding travelling
each-sent [] [] e h = refl
each-sent [] (y ∷ ys) e h = absurd (omega arith)
each-sent (x ∷ xs) [] e h = absurd (omega arith)
each-sent (x ∷ xs) (y ∷ ys) e h =
    ap₂ (λ (z : ℕ) (zs : List ℕ). z ∷ zs) (h 0 (omega arith)) (each-sent xs ys (omega arith) (λ i p. h (suc i) (omega arith)))

-- the last argument is what one call says
pub sent : {F : Type 0} (g : Mut F (ℕ × Unit {0}) ℕ) (s : F) (xs ys : List ℕ) (n : ℕ) → IsMapOf g s xs ys n → length xs ≡ n
    → ((p : F) (x y : ℕ) (q : F) → Called g p (x, tt) y q → y ≡ with_parity x) → ys ≡ travelling xs
sent g s xs ys n m l h =
    each-sent xs ys (m.long ∙ sym l) (λ i p. let k = m.at i 0 0 (omega arith) in h k.0 (get_or xs i 0) (get_or ys i 0) k.1 k.2)
