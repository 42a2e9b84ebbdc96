-- The decimal digits of a number, by the quotient and the remainder by ten, and how many there are. So a loop that puts the
-- remainders by ten before a text, from the last to the first, puts the digits. Assumes nothing.
use Rattle.std.proofs.Common.{◌≡◌, ℕ, zero, suc, ◌+◌, ◌-◌, ◌/◌, ◌%◌, ◌^◌, ◌<◌, ◌≤◌, ltb, List, [], ◌∷◌, ◌++◌, length, drop, set, sym, refl, ap, ◌∙◌, append_assoc, not-suc-le-zero, pow-suc, arith, length-append, length-set, ltb-false, ltb-true, le-ltb, lt-ltb}
use Rattle.refusal.proofs.Logic.{by-test}
use Rattle.number.specs.Data.{digit}
use Rattle.listing.specs.Line.{decimal_in, decimal}
use Rattle.listing.proofs.Texts.{set_front}

-- ---- by the quotient and the remainder

few : (k n : ℕ) → n < 10 → decimal_in k n ≡ digit n ∷ []
unfolding decimal_in
few zero n h = refl
few (suc k) n h = rw (lt-ltb n 10 h)

many : (k n : ℕ) → 10 ≤ n → decimal_in (suc k) n ≡ decimal_in k (n / 10) ++ (digit (n % 10) ∷ [])
unfolding decimal_in
many k n h = rw (le-ltb n 10 h)

-- more divisions than enough change nothing
enough : (k j n : ℕ) → n ≤ k → n ≤ j → decimal_in k n ≡ decimal_in j n
enough zero j n h l = few 0 n (omega arith) ∙ sym (few j n (omega arith))
enough (suc k) zero n h l = few (suc k) n (omega arith) ∙ sym (few 0 n (omega arith))
enough (suc k) (suc j) n h l =
    by-test (ltb n 10)
    (λ t. few (suc k) n (ltb-true n 10 t) ∙ sym (few (suc j) n (ltb-true n 10 t)))
    (λ t.
    let m = ltb-false n 10 t in
    many k n m ∙ ap (λ (l : List ℕ). l ++ (digit (n % 10) ∷ [])) (enough k j (n / 10) (omega arith) (omega arith)) ∙ sym (many j n m))

pub decimal_few : (n : ℕ) → n < 10 → decimal n ≡ digit n ∷ []
unfolding decimal
decimal_few n h = few n n h

pub decimal_many : (n : ℕ) → 10 ≤ n → decimal n ≡ decimal (n / 10) ++ (digit (n % 10) ∷ [])
unfolding decimal
decimal_many zero h = absurd (not-suc-le-zero h)
decimal_many (suc n) h =
    many n (suc n) h ∙ ap (λ (l : List ℕ). l ++ (digit (suc n % 10) ∷ [])) (enough n (suc n / 10) (suc n / 10) (omega arith) (omega arith))

-- ---- how many there are

pub decimal_some : (n : ℕ) → 1 ≤ length (decimal n)
decimal_some n =
    by-test (ltb n 10)
    (λ t. omega (arith, ap length (decimal_few n (ltb-true n 10 t))))
    (λ t. omega (arith, ap length (decimal_many n (ltb-false n 10 t)), length-append (decimal (n / 10)) (digit (n % 10) ∷ [])))

pub decimal_length : (k n : ℕ) → n < 10 ^ suc k → length (decimal n) ≤ suc k
decimal_length zero n h = omega (arith, ap length (decimal_few n h))
decimal_length (suc k) n h =
    by-test (ltb n 10)
    (λ t. omega (arith, ap length (decimal_few n (ltb-true n 10 t))))
    (λ t.
    let m = ltb-false n 10 t in
    omega
    (arith, ap length (decimal_many n m), length-append (decimal (n / 10)) (digit (n % 10) ∷ []), decimal_length k (n / 10) (omega (arith, pow-suc 10 (suc k)))))

-- a number of 64 bits
pub wide_length : (n : ℕ) → n < 2 ^ 64 → length (decimal n) ≤ 20
wide_length n h = decimal_length 19 n (omega arith)

-- ---- put before a text, from the last digit to the first

-- a loop that puts the digits of n before a text that stood from a place on: the digits of `rest` are still to be put
pub record Putting (n from : ℕ) (was : List ℕ) (rest at : ℕ) (is : List ℕ) : Type 0 where
  pub long : length is ≡ length was
  pub within : at ≤ from
  pub begins : at + length (decimal n) ≡ from + length (decimal rest)
  pub stands : decimal rest ++ drop at is ≡ decimal n ++ drop from was

pub putting_starts : (n from : ℕ) (was : List ℕ) → Putting n from was n from was
putting_starts n from was = record { long = refl; within = omega arith; begins = refl; stands = refl }

module _ (n from : ℕ) (was : List ℕ) (rest at : ℕ) (is : List ℕ) (p : Putting n from was rest at is) (wide : n < 2 ^ 64) (enough : 20 ≤ from) (ends : from ≤ length was) where
  pub putting_room : (length (decimal rest) ≤ at) × (1 ≤ at) × (at ≤ length is)
  putting_room =
      let r : length (decimal rest) ≤ at = omega (arith, wide_length n wide, p.begins) in
      (r, omega (arith, decimal_some rest), omega (arith, p.within, p.long))

  -- one digit
  pub putting_more : 9 < rest → Putting n from was (rest / 10) (at - 1) (set is (at - 1) (48 + rest % 10))
  unfolding digit
  putting_more h =
      let l = ap length (decimal_many rest h) ∙ length-append (decimal (rest / 10)) ((48 + rest % 10) ∷ []) in
      let r = putting_room in
      let g : at - 1 + 1 ≡ at = omega (arith, r.1) in
      record {
        long = length-set is (at - 1) (48 + rest % 10) ∙ p.long;
        within = omega (arith, p.within);
        begins = omega (arith, r.1, p.begins);
        stands =
            ap (λ (x : List ℕ). decimal (rest / 10) ++ x)
            (set_front is (at - 1) (48 + rest % 10) (omega (arith, r.1, r.2)) ∙ ap (λ (k : ℕ). (48 + rest % 10) ∷ drop k is) g)
            ∙ sym (append_assoc (decimal (rest / 10)) ((48 + rest % 10) ∷ []) (drop at is))
            ∙ ap (λ (x : List ℕ). x ++ drop at is) (sym (decimal_many rest h))
            ∙ p.stands;
      }

  -- the first digit
  pub putting_ends : rest ≤ 9 → drop (at - 1) (set is (at - 1) (48 + rest)) ≡ decimal n ++ drop from was
  unfolding digit
  putting_ends h =
      let d : decimal rest ≡ (48 + rest) ∷ [] = decimal_few rest (omega arith) in
      let r = putting_room in
      let g : at - 1 + 1 ≡ at = omega (arith, r.1) in
      set_front is (at - 1) (48 + rest) (omega (arith, r.1, r.2))
      ∙ ap (λ (k : ℕ). (48 + rest) ∷ drop k is) g
      ∙ ap (λ (x : List ℕ). x ++ drop at is) (sym d)
      ∙ p.stands
