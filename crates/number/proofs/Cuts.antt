-- Ranges, multiples and the cut. The cut is a multiple of the step, not above x, and no multiple lies between; each is first a
-- fact of natural numbers, since n - n % s is n / s times s, and then goes by the sign of x. A step is at least 1 by the
-- test `le_z (pos 1) step`. Assumes nothing.
use mathlib.Core.Path.{◌≡◌, refl, sym, ap, ◌∙◌, subst}
use mathlib.Core.Bool.{true, false≢true}
use Prim.Native.Nat.{ℕ, suc, ◌+◌, ◌-◌, ◌*◌, ◌/◌, ◌%◌, ◌<◌, ◌≤◌}
use native.Mathlib.Nat.{mod-lt, mul-mod_left, add-mod_right, div-add-mod', div-lt_iff_lt-mul, mul-le-mul_right, suc-mul, le-div_iff_mul-le, le_of_lt, mod-eq-sub-mod, mod-one, zero-mod}
use native.Mathlib.Omega.{arith}
use lib.Dec.{eqb, ltb}
use lib.IntN.{ℤ, pos, negsuc, neg_ℤ, nat_abs, sub_ℕ, ◌+ℤ◌, ◌-ℤ◌, neg_ℤ-+ℤ, neg_ℤ-neg_ℤ}
use lib.Signed.{lt_z, le_z}
use borrow.Author.Tests.{eqb-true, eq-eqb, ltb-true, ltb-false, lt-ltb, leb-true, le-leb}
use Rattle.refusal.proofs.Logic.{and_left, and_right, and_both, choice}
use Rattle.number.specs.Number.{in_range, is_multiple, cut_down, cut, raised, lowered}
use Rattle.number.proofs.Signed.{step_pos, step_is, nat_abs_minus}

-- ---- a range

pub in_range_ends : (least x greatest : ℤ) → in_range least x greatest ≡ true → (le_z least x ≡ true) × (le_z x greatest ≡ true)
unfolding in_range
in_range_ends least x greatest e =
    (and_left (le_z least x) (le_z x greatest) e, and_right (le_z least x) (le_z x greatest) e)

pub ends_in_range : (least x greatest : ℤ) → le_z least x ≡ true → le_z x greatest ≡ true → in_range least x greatest ≡ true
unfolding in_range
ends_in_range least x greatest p q = and_both p q

-- a number between two of magnitude at most b is itself of magnitude at most b
between : (least x greatest : ℤ) {b : ℕ} → le_z least x ≡ true → le_z x greatest ≡ true → nat_abs least ≤ b → nat_abs greatest ≤ b → nat_abs x ≤ b
between least (pos n) (pos g) p q h k = omega (arith, leb-true n g q)
between least (pos n) (negsuc g) p q h k = absurd (false≢true q)
between (pos l) (negsuc n) greatest p q h k = absurd (false≢true p)
between (negsuc l) (negsuc n) greatest p q h k = omega (arith, leb-true n l p)

pub in-range-within : (least x greatest : ℤ) {b : ℕ} → in_range least x greatest ≡ true → nat_abs least ≤ b → nat_abs greatest ≤ b → nat_abs x ≤ b
in-range-within least x greatest e h k =
    let p = in_range_ends least x greatest e in between least x greatest p.0 p.1 h k

-- four digits: from -9,999 to 9,999
pub four_digits : (x : ℤ) → nat_abs x ≤ 9999 → in_range (negsuc 9998) x (pos 9999) ≡ true
four_digits (pos n) h = ends_in_range (negsuc 9998) (pos n) (pos 9999) refl (le-leb n 9999 h)
four_digits (negsuc n) h = ends_in_range (negsuc 9998) (negsuc n) (pos 9999) (le-leb n 9998 (omega arith)) refl

pub le_z_trans : (a b c : ℤ) → le_z a b ≡ true → le_z b c ≡ true → le_z a c ≡ true
le_z_trans (pos a) (pos b) (pos c) h k = le-leb a c (omega (arith, leb-true a b h, leb-true b c k))
le_z_trans (pos a) (pos b) (negsuc c) h k = k
le_z_trans (pos a) (negsuc b) c h k = absurd (false≢true h)
le_z_trans (negsuc a) (pos b) (pos c) h k = refl
le_z_trans (negsuc a) (pos b) (negsuc c) h k = absurd (false≢true k)
le_z_trans (negsuc a) (negsuc b) (pos c) h k = refl
le_z_trans (negsuc a) (negsuc b) (negsuc c) h k = le-leb c a (omega (arith, leb-true c b k, leb-true b a h))

-- ---- a multiple

pub multiple_step : (x step : ℤ) → is_multiple x step ≡ true → le_z (pos 1) step ≡ true
unfolding is_multiple
multiple_step x step e = and_left (le_z (pos 1) step) (eqb (nat_abs x % nat_abs step) 0) e

pub multiple_rem : (x step : ℤ) → is_multiple x step ≡ true → nat_abs x % nat_abs step ≡ 0
unfolding is_multiple
multiple_rem x step e = eqb-true _ 0 (and_right (le_z (pos 1) step) (eqb (nat_abs x % nat_abs step) 0) e)

pub rem_multiple : (x step : ℤ) → le_z (pos 1) step ≡ true → nat_abs x % nat_abs step ≡ 0 → is_multiple x step ≡ true
unfolding is_multiple
rem_multiple x step p e = and_both p (eq-eqb _ 0 e)

-- every number is a multiple of 1
pub one_multiple : (x : ℤ) → is_multiple x (pos 1) ≡ true
one_multiple x = rem_multiple x (pos 1) refl (mod-one (nat_abs x))

-- ---- of natural numbers

floor_is : (n s : ℕ) → n - n % s ≡ n / s * s
floor_is n s = omega (arith, div-add-mod' n s)

floor_mod : (n s : ℕ) → (n - n % s) % s ≡ 0
floor_mod n s = ap (λ (k : ℕ). k % s) (floor_is n s) ∙ mul-mod_left (n / s) s

ceil_mod : (n s : ℕ) → 1 ≤ s → suc (n - n % s + (s - 1)) % s ≡ 0
ceil_mod n s h = ap (λ (k : ℕ). k % s) (ceil_is (n - n % s) s h) ∙ add-mod_right (n - n % s) s ∙ floor_mod n s
  where
    ceil_is : (q s : ℕ) → 1 ≤ s → suc (q + (s - 1)) ≡ q + s
    ceil_is q s h = omega arith

-- a multiple above n is at least the next one
next_least : (a n s : ℕ) → 1 ≤ s → a % s ≡ 0 → n < a → n - n % s + s ≤ a
next_least a n s h m l =
    let whole : a / s * s ≡ a = omega (arith, div-add-mod' a s) in
    let below : n / s < a / s = (div-lt_iff_lt-mul h).1 (subst (λ (k : ℕ). n < k) (sym whole) l) in
    omega (arith, floor_is n s, suc-mul (n / s) s, mul-le-mul_right s below)

-- a multiple not above n is not above the floor
floor_greatest : (a n s : ℕ) → 1 ≤ s → a % s ≡ 0 → a ≤ n → a ≤ n - n % s
floor_greatest a n s h m l =
    let whole : a / s * s ≡ a = omega (arith, div-add-mod' a s) in
    let low : a / s ≤ n / s = (le-div_iff_mul-le h).1 (omega arith) in
    omega (arith, floor_is n s, mul-le-mul_right s low)

-- ---- of whole numbers, by their signs

-- -(n + 1) is below a - b where b is at most a + n
below_sub : (n a b : ℕ) → b ≤ a + n → lt_z (negsuc n) (sub_ℕ a b) ≡ true
below_sub n a b h =
    choice (λ (z : ℤ). lt_z (negsuc n) z ≡ true) (ltb a b)
    (λ t. lt-ltb (b - suc a) n (omega (arith, ltb-true a b t))) (λ t. refl)

module _ {s : ℕ} (h : 1 ≤ s) where
  n_multiple : (x : ℤ) → nat_abs (cut_down x s) % s ≡ 0
  unfolding cut_down
  n_multiple (pos n) = floor_mod n s
  n_multiple (negsuc n) = ceil_mod n s h

  n_below : (x : ℤ) → le_z (cut_down x s) x ≡ true
  unfolding cut_down
  n_below (pos n) = le-leb (n - n % s) n (omega arith)
  n_below (negsuc n) = le-leb n (n - n % s + (s - 1)) (omega (arith, mod-lt n h))

  n_next : (x : ℤ) → lt_z x (cut_down x s +ℤ pos s) ≡ true
  unfolding cut_down
  n_next (pos n) = lt-ltb n (n - n % s + s) (omega (arith, mod-lt n h))
  n_next (negsuc n) = below_sub n s (suc (n - n % s + (s - 1))) (omega arith)

  n_greatest : (y x : ℤ) → nat_abs y % s ≡ 0 → le_z y x ≡ true → le_z y (cut_down x s) ≡ true
  unfolding cut_down
  n_greatest (pos a) (pos n) m l = le-leb a (n - n % s) (floor_greatest a n s h m (leb-true a n l))
  n_greatest (pos a) (negsuc n) m l = absurd (false≢true l)
  n_greatest (negsuc a) (pos n) m l = refl
  n_greatest (negsuc a) (negsuc n) m l =
      le-leb (n - n % s + (s - 1)) a (omega (arith, next_least (suc a) n s h m (omega (arith, leb-true n a l))))

  n_same : (x : ℤ) → nat_abs x % s ≡ 0 → cut_down x s ≡ x
  unfolding cut_down
  n_same (pos n) m = ap pos (omega (arith, m))
  n_same (negsuc n) m = ap negsuc (omega (arith, mod-lt n h, next_least (suc n) n s h m (omega arith)))

-- ---- the laws of the cut, by a step that is at least 1

module _ (step : ℤ) (p : le_z (pos 1) step ≡ true) where
  -- the cut is a multiple of the step
  pub cut_multiple : (x : ℤ) → is_multiple (cut_down x (nat_abs step)) step ≡ true
  cut_multiple x = rem_multiple (cut_down x (nat_abs step)) step p (n_multiple (step_pos step p) x)

  -- it is not above x
  pub cut_below : (x : ℤ) → le_z (cut_down x (nat_abs step)) x ≡ true
  cut_below x = n_below (step_pos step p) x

  -- x is below the cut and a step
  pub cut_next : (x : ℤ) → lt_z x (cut_down x (nat_abs step) +ℤ step) ≡ true
  cut_next x =
      subst (λ (z : ℤ). lt_z x (cut_down x (nat_abs step) +ℤ z) ≡ true) (sym (step_is step p)) (n_next (step_pos step p) x)

  -- a multiple of the step that is not above x is not above the cut
  pub cut_greatest : (y x : ℤ) → is_multiple y step ≡ true → le_z y x ≡ true → le_z y (cut_down x (nat_abs step)) ≡ true
  cut_greatest y x m l = n_greatest (step_pos step p) y x (multiple_rem y step m) l

  -- a multiple is its own cut
  pub cut_same : (x : ℤ) → is_multiple x step ≡ true → cut_down x (nat_abs step) ≡ x
  cut_same x m = n_same (step_pos step p) x (multiple_rem x step m)

  -- the cut of a number in range is in range, where the least is a multiple of the step
  pub cut_range : (least x greatest : ℤ) → is_multiple least step ≡ true → in_range least x greatest ≡ true → in_range least (cut_down x (nat_abs step)) greatest ≡ true
  cut_range least x greatest m r =
      let ends = in_range_ends least x greatest r in
      ends_in_range least (cut_down x (nat_abs step)) greatest (cut_greatest least x m ends.0)
      (le_z_trans (cut_down x (nat_abs step)) x greatest (cut_below x) ends.1)

  -- a number of four digits is cut by a step of four digits; anything else is left
  pub cut_is : (x : ℤ) → nat_abs x ≤ 9999 → nat_abs step ≤ 9999 → cut x step ≡ cut_down x (nat_abs step)
  unfolding cut
  cut_is x h k = simp (four_digits x h, ends_in_range (pos 1) step (pos 9999) p (in_range_ends (negsuc 9998) step (pos 9999) (four_digits step k)).1)

  -- a multiple of four digits stays as it is
  pub cut_own : (x : ℤ) → nat_abs x ≤ 9999 → nat_abs step ≤ 9999 → is_multiple x step ≡ true → cut x step ≡ x
  cut_own x h k m = cut_is x h k ∙ cut_same x m

-- the cut of a number in the range of a row is in that range, and a multiple
pub cut_in_row : (least x greatest step : ℤ) → nat_abs least ≤ 9999 → nat_abs greatest ≤ 9999 → nat_abs step ≤ 9999 → is_multiple least step ≡ true → in_range least x greatest ≡ true → (in_range least (cut x step) greatest ≡ true) × (is_multiple (cut x step) step ≡ true)
cut_in_row least x greatest step hl hg hs m r =
    let p = multiple_step least step m in
    let e : cut x step ≡ cut_down x (nat_abs step) = cut_is step p x (in-range-within least x greatest r hl hg) hs in
    rw e (cut_range step p least x greatest m r, cut_multiple step p x)

-- ---- a step up and a step down

step_multiple : (x : ℤ) (s : ℕ) → 1 ≤ s → nat_abs x % s ≡ 0 → nat_abs (x +ℤ pos s) % s ≡ 0
step_multiple (pos n) s h m = add-mod_right n s ∙ m
step_multiple (negsuc n) s h m =
    choice (λ (z : ℤ). nat_abs z % s ≡ 0) (ltb s (suc n))
    (λ t. let l : s < suc n = ltb-true s (suc n) t in
    ap (λ (k : ℕ). k % s) (one-more n s l) ∙ sym (mod-eq-sub-mod (le_of_lt l)) ∙ m)
    (λ t. let l : suc n ≤ s = ltb-false s (suc n) t in
    ap (λ (k : ℕ). k % s) (none_left n s l (next_least (suc n) 0 s h m (omega arith))) ∙ zero-mod s)
  where
    one-more : (n s : ℕ) → s < suc n → suc (suc n - suc s) ≡ suc n - s
    one-more n s l = omega arith

    none_left : (n s : ℕ) → suc n ≤ s → 0 - 0 % s + s ≤ suc n → s - suc n ≡ 0
    none_left n s l k = omega (arith, zero-mod s)

-- x - s is minus (-x + s)
down_is : (x : ℤ) (s : ℕ) → x -ℤ pos s ≡ neg_ℤ (neg_ℤ x +ℤ pos s)
down_is x s = sym (neg_ℤ-+ℤ (neg_ℤ x) (pos s) ∙ ap (λ (z : ℤ). z +ℤ neg_ℤ (pos s)) (neg_ℤ-neg_ℤ x))

step_multiple_down : (x : ℤ) (s : ℕ) → 1 ≤ s → nat_abs x % s ≡ 0 → nat_abs (x -ℤ pos s) % s ≡ 0
step_multiple_down x s h m =
    ap (λ (k : ℕ). k % s) (ap nat_abs (down_is x s) ∙ nat_abs_minus (neg_ℤ x +ℤ pos s))
    ∙ step_multiple (neg_ℤ x) s h (ap (λ (k : ℕ). k % s) (nat_abs_minus x) ∙ m)

pub up_multiple : (x step : ℤ) → is_multiple x step ≡ true → is_multiple (x +ℤ step) step ≡ true
up_multiple x (pos s) m =
    let p = multiple_step x (pos s) m in
    rem_multiple (x +ℤ pos s) (pos s) p (step_multiple x s (step_pos (pos s) p) (multiple_rem x (pos s) m))
up_multiple x (negsuc s) m = absurd (false≢true (multiple_step x (negsuc s) m))

pub down_multiple : (x step : ℤ) → is_multiple x step ≡ true → is_multiple (x -ℤ step) step ≡ true
down_multiple x (pos s) m =
    let p = multiple_step x (pos s) m in
    rem_multiple (x -ℤ pos s) (pos s) p (step_multiple_down x s (step_pos (pos s) p) (multiple_rem x (pos s) m))
down_multiple x (negsuc s) m = absurd (false≢true (multiple_step x (negsuc s) m))

-- ---- numbers of four digits

pub raised_is : (x y : ℤ) → nat_abs x ≤ 9999 → nat_abs y ≤ 9999 → raised x y ≡ x +ℤ y
unfolding raised
raised_is x y h k = rw (four_digits x h, four_digits y k)

pub lowered_is : (x y : ℤ) → nat_abs x ≤ 9999 → nat_abs y ≤ 9999 → lowered x y ≡ x -ℤ y
unfolding lowered
lowered_is x y h k = rw (four_digits x h, four_digits y k)
