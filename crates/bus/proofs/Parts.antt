-- Laws of lists that are lent part behind part, and of a test of each part. Assumes nothing.
use mathlib.Core.Path.{◌≡◌, refl, sym, ap, ap₂, ◌∙◌}
use mathlib.Core.Bool.{Bool, true, false, ◌&&◌}
use mathlib.Core.List.{List, [], ◌∷◌, ◌++◌, map, map-append, append_assoc}
use Prim.Native.Nat.{ℕ, zero, suc, ◌+◌, ◌-◌, ◌*◌, ◌<◌, ◌≤◌}
use native.Mathlib.Omega.{arith}
use native.Mathlib.Numerals.{add-one}
use lib.IntN.{ℤ}
use lib.ListN.{length, get_or, set, take, drop, length-set, length-append, length-drop, take-append-drop}
use lib.Seq.{drop-drop, length-take-le, take-add, take-suc-set, take-suc, take_all}
use Rattle.refusal.specs.Lists.{every}
use Rattle.std.specs.Simd.{first_chunks}
use Rattle.std.specs.List.{list_all}
use Rattle.refusal.proofs.Lists.{every_all}
use Rattle.bus.specs.Bus.{parts}

module _ {A : Type 0} (k : ℕ) where
  -- the i-th part of a list
  abbrev pub part_at : ℕ → List A → List A
  part_at i xs = take k (drop (i * k) xs)

  -- the same as the code lends it: from start to end
  abbrev pub lent_part : ℕ → List A → List A
  lent_part i xs = take (i * k + k - i * k) (drop (i * k) xs)

  pub lent-part : (i : ℕ) (xs : List A) → lent_part i xs ≡ part_at i xs
  lent-part i xs = let e : i * k + k - i * k ≡ k = omega arith in ap (λ (m : ℕ). take m (drop (i * k) xs)) e

  pub parts_length : (n : ℕ) (xs : List A) → length (parts k n xs) ≡ n
  unfolding parts
  parts_length zero xs = refl
  parts_length (suc n) xs = ap suc (parts_length n (drop k xs))

  first_part : (xs : List A) → part_at 0 xs ≡ take k xs
  first_part xs = let e : 0 * k ≡ 0 = omega arith in ap (λ (m : ℕ). take k (drop m xs)) e

  next_part : (i : ℕ) (xs : List A) → part_at i (drop k xs) ≡ part_at (suc i) xs
  next_part i xs = let e : k + i * k ≡ suc i * k = omega arith in ap (take k) (drop-drop (i * k) k xs ∙ ap (λ (m : ℕ). drop m xs) e)

  pub part-at : (n i : ℕ) (xs d : List A) → i < n → get_or (parts k n xs) i d ≡ part_at i xs
  unfolding parts
  part-at zero i xs d h = absurd (omega arith)
  part-at (suc n) zero xs d h = sym (first_part xs)
  part-at (suc n) (suc i) xs d h = part-at n i (drop k xs) d (omega arith) ∙ next_part i xs

  -- the first, and those behind it
  pub parts_some : (n : ℕ) (xs : List A) → 1 ≤ n → parts k n xs ≡ take k xs ∷ parts k (n - 1) (drop k xs)
  unfolding parts
  parts_some zero xs h = absurd (omega arith)
  parts_some (suc n) xs h = let e : n ≡ suc n - 1 = omega arith in ap (λ (m : ℕ). take k xs ∷ parts k m (drop k xs)) e

  -- one part more
  pub parts_more : (n : ℕ) (xs : List A) → parts k (suc n) xs ≡ parts k n xs ++ (part_at n xs ∷ [])
  unfolding parts
  parts_more zero xs = ap (λ (x : List A). x ∷ []) (sym (first_part xs))
  parts_more (suc n) xs = ap (λ (l : List (List A)). take k xs ∷ l) (parts_more n (drop k xs) ∙ ap (λ (x : List A). parts k n (drop k xs) ++ (x ∷ [])) (next_part n xs))

  -- the i-th part of the code's put back
  abbrev pub put_part : ℕ → List A → List A → List A
  put_part i part xs = take (i * k) xs ++ (part ++ drop (i * k + k - i * k) (drop (i * k) xs))

  pub put_next : (i : ℕ) (part xs : List A) → put_part (suc i) part xs ≡ take k xs ++ put_part i part (drop k xs)
  put_next i part xs =
      let n : suc i * k ≡ k + i * k = omega arith in
      let m : suc i * k + k - suc i * k ≡ i * k + k - i * k = omega arith in
      rw (m, n, take-add k (i * k) xs, ← drop-drop (i * k) k xs) (append_assoc (take k xs) (take (i * k) (drop k xs)) _)

  -- put back as it was
  pub put_same : (i : ℕ) (xs : List A) → put_part i (lent_part i xs) xs ≡ xs
  put_same i xs = ap (λ (l : List A). take (i * k) xs ++ l) (take-append-drop (i * k + k - i * k) (drop (i * k) xs)) ∙ take-append-drop (i * k) xs

  pub put_length : (i : ℕ) (part xs : List A) → length part ≡ k → i * k + k ≤ length xs → length (put_part i part xs) ≡ length xs
  put_length i part xs e h =
      let m : i * k + k - i * k ≡ k = omega arith in
      length-append (take (i * k) xs) (part ++ drop (i * k + k - i * k) (drop (i * k) xs))
      ∙ omega (arith, length-take-le (i * k) xs (omega arith), length-append part (drop (i * k + k - i * k) (drop (i * k) xs)), length-drop (i * k + k - i * k) (drop (i * k) xs), length-drop (i * k) xs)

  pub lent_next : (i : ℕ) (xs : List A) → lent_part (suc i) xs ≡ lent_part i (drop k xs)
  lent_next i xs = lent-part (suc i) xs ∙ sym (next_part i xs) ∙ sym (lent-part i (drop k xs))

-- ---- a test of each part, as the library tests each of its chunks

pub chunks_are : {A : Type 0} (k n : ℕ) (xs : List A) → first_chunks k n xs ≡ parts k n xs
unfolding parts
chunks_are k zero xs = refl
chunks_are k (suc n) xs = ap (λ (l : List (List _)). take k xs ∷ l) (chunks_are k n (drop k xs))

pub every_chunk : {A : Type 0} (f : List A → Bool) (k n : ℕ) (xs : List A) → list_all f (first_chunks k n xs) ≡ every f (parts k n xs)
every_chunk f k n xs = ap (list_all f) (chunks_are k n xs) ∙ sym (every_all f (parts k n xs))

-- ---- tests of what is made of each

module _ {A B : Type 0} (f : B → Bool) (g : A → B) where
  pub every_made : (xs : List A) → every f (map g xs) ≡ every (λ (x : A). f (g x)) xs
  unfolding every
  every_made [] = refl
  every_made (x ∷ xs) = ap (λ (b : Bool). f (g x) && b) (every_made xs)

-- ---- a loop that makes something of each, into an array of 32

module _ {A B : Type 0} (g : A → B) where
  pub record Made (xs : List A) (made : List B) (i : ℕ) : Type 0 where
    pub long : length made ≡ 32
    pub so_far : take i made ≡ map g (take i xs)

  pub made_starts : (xs : List A) (made : List B) → length made ≡ 32 → Made xs made 0
  made_starts xs made l = record { long = l; so_far = refl }

  pub made_more : (xs : List A) (made : List B) (i : ℕ) (x : B) (d : A) → Made xs made i → i < length xs → length xs ≤ 32 → x ≡ g (get_or xs i d) → Made xs (set made i x) (i + 1)
  made_more xs made i x d t h b e = record {
    long = length-set made i x ∙ t.long;
    so_far =
        rw (add-one i)
        (take-suc-set made i x (omega (arith, t.long))
        ∙ ap₂ (λ (l : List B) (y : B). l ++ (y ∷ [])) t.so_far e
        ∙ sym (ap (map g) (take-suc xs i d h) ∙ map-append g (take i xs) (get_or xs i d ∷ [])));
  }

  pub made_ends : (xs : List A) (made : List B) (i : ℕ) → Made xs made i → i ≡ length xs → take (length xs) made ≡ map g xs
  made_ends xs made i t e = ap (λ (n : ℕ). take n made) (sym e) ∙ t.so_far ∙ ap (map g) (take_all i xs (omega arith))
