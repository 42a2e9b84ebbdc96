-- The cut by the truncated remainder: x less its remainder, and less a step where that remainder is below zero. At zero and above
-- this is the definition; below zero the remainder of n + 1 is one more than that of n, or 0. Assumes nothing.
use mathlib.Core.Path.{◌≡◌, refl, sym, ap, ◌∙◌}
use mathlib.Core.Bool.{Bool, true, false, cond, false≢true}
use Prim.Native.Nat.{ℕ, zero, suc, ◌+◌, ◌-◌, ◌%◌, ◌≤◌, ◌<◌}
use native.Mathlib.Nat.{mod-le, mod-lt, suc-mod, mod-eq_of_lt, mod_self}
use native.Mathlib.Omega.{arith}
use lib.Dec.{ltb}
use lib.IntN.{ℤ, pos, negsuc, neg_ℤ, nat_abs, sub_ℕ, ◌+ℤ◌, ◌-ℤ◌, +ℤ_idr, +ℤ_assoc, +ℤ_comm}
use lib.Signed.{lt_z, le_z, rem_z}
use borrow.Author.Tests.{lt-ltb, le-ltb, ltb-true, ltb-false}
use Rattle.refusal.proofs.Logic.{by-test}
use Rattle.number.specs.Number.{cut_down}
use Rattle.number.proofs.Cuts.{rem_multiple, cut_same}

sub_ge : (a b : ℕ) → b ≤ a → sub_ℕ a b ≡ pos (a - b)
sub_ge a b h = ap (λ (t : Bool). cond t (negsuc (b - suc a)) (pos (a - b))) (le-ltb a b h)

sub_lt : (a b : ℕ) → a < b → sub_ℕ a b ≡ negsuc (b - suc a)
sub_lt a b h = ap (λ (t : Bool). cond t (negsuc (b - suc a)) (pos (a - b))) (lt-ltb a b h)

less : (a b : ℕ) → b ≤ a → pos a -ℤ pos b ≡ pos (a - b)
less a zero h = ap pos (omega arith)
less a (suc b) h = sub_ge a (suc b) h

-- where the remainder of n + 1 is not 0, it is one more than that of n
rem_suc : (n s k : ℕ) → 1 ≤ s → suc n % s ≡ suc k → n % s ≡ k
rem_suc n s k h e =
    by-test (ltb (suc (n % s)) s)
    (λ q. omega (arith, suc-mod n s, mod-eq_of_lt (ltb-true (suc (n % s)) s q), e))
    (λ q.
    let whole : suc (n % s) ≡ s = omega (arith, mod-lt n h, ltb-false (suc (n % s)) s q) in
    omega (arith, suc-mod n s, ap (λ (j : ℕ). j % s) whole, mod_self s, e))

-- minus m is not below zero where m is 0 only
minus-zero : (m : ℕ) → lt_z (neg_ℤ (pos m)) (pos 0) ≡ false → m ≡ 0
minus-zero zero e = refl
minus-zero (suc m) e = absurd (false≢true (sym e))

pub less_rem : (x step : ℤ) → le_z (pos 1) step ≡ true → lt_z (rem_z x step) (pos 0) ≡ false → x -ℤ rem_z x step ≡ cut_down x (nat_abs step)
unfolding cut_down
less_rem (pos n) step p e = less n (n % nat_abs step) (mod-le n (nat_abs step))
less_rem (negsuc n) step p e =
    let q : suc n % nat_abs step ≡ 0 = minus-zero (suc n % nat_abs step) e in
    ap (λ (m : ℕ). negsuc n -ℤ neg_ℤ (pos m)) q ∙ +ℤ_idr (negsuc n)
    ∙ sym (cut_same step p (negsuc n) (rem_multiple (negsuc n) step p q))

pub less_rem_step : (x step : ℤ) → le_z (pos 1) step ≡ true → lt_z (rem_z x step) (pos 0) ≡ true → (x -ℤ rem_z x step) -ℤ step ≡ cut_down x (nat_abs step)
unfolding cut_down
less_rem_step x (negsuc s) p e = absurd (false≢true p)
less_rem_step (pos n) (pos s) p e = absurd (false≢true (sym (le-ltb (n % s) 0 (omega arith)) ∙ e))
less_rem_step (negsuc n) (pos zero) p e = absurd (false≢true p)
less_rem_step (negsuc n) (pos (suc s)) p e = above (suc n % suc s) refl e
  where
    above : (m : ℕ) → suc n % suc s ≡ m → lt_z (neg_ℤ (pos m)) (pos 0) ≡ true
        → (negsuc n -ℤ neg_ℤ (pos (suc n % suc s))) -ℤ pos (suc s) ≡ negsuc (n - n % suc s + (suc s - 1))
    above zero q e = absurd (false≢true e)
    above (suc m) q e =
        ap (λ (k : ℕ). (negsuc n -ℤ neg_ℤ (pos k)) -ℤ pos (suc s)) q
        ∙ +ℤ_assoc (negsuc n) (pos (suc m)) (negsuc s)
        ∙ ap (λ (z : ℤ). negsuc n +ℤ z) (+ℤ_comm (pos (suc m)) (negsuc s))
        ∙ sym (+ℤ_assoc (negsuc n) (negsuc s) (pos (suc m)))
        ∙ sub_lt (suc m) (suc (suc (n + s))) (omega (arith, q, mod-le (suc n) (suc s)))
        ∙ ap negsuc (omega (arith, q, mod-le (suc n) (suc s), rem_suc n (suc s) m (omega arith) q))
