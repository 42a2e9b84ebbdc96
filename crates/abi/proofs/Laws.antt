-- Laws that the boundary's proofs cite: results as the machine holds them. Assumes nothing.
use mathlib.Core.Path.{◌≡◌, ap, ◌∙◌}
use Prim.Native.Nat.{ℕ, zero, suc, ◌<◌, ◌≤◌, ◌^◌}
use native.Mathlib.Omega.{arith}
use lib.Dec.{lit<}
use lib.IntN.{ℤ, pos, neg_ℤ, ◌-ℤ◌}
use lib.Signed.{mag}
use mir.Syntax.{w64}
use mir.Val.{SFits, to_z, of_z}
use mir.ValLaws.{to_z-of_z}
use Rattle.number.proofs.Signed.{minus_is}
use Rattle.abi.specs.Result.{minus_number}

-- what the machine reads back from the bits of an i64
abbrev pub wide : ℤ → ℤ
wide z = to_z w64 (of_z w64 z)

pub wide_ok : (z : ℤ) → mag z < 2 ^ 63 → wide z ≡ z
wide_ok z h = to_z-of_z w64 z (record { sfits = h })

neg_fits : (m : ℕ) → m ≤ 16 → SFits w64 (neg_ℤ (pos m))
neg_fits zero h = record { sfits = lit< tt }
neg_fits (suc m) h = record { sfits = omega arith }

-- the code's `-n` is `0 - n`, and n is widened to an i64
pub minus_wide : (x : ℤ) (m : ℕ) → x ≡ pos m → m ≤ 16 → wide (pos 0 -ℤ wide x) ≡ minus_number m
unfolding minus_number
minus_wide x m e h =
    let n : wide x ≡ pos m = ap wide e ∙ wide_ok (pos m) (omega arith) in
    ap (λ (z : ℤ). wide (pos 0 -ℤ z)) n ∙ ap wide (minus_is (pos m)) ∙ to_z-of_z w64 (neg_ℤ (pos m)) (neg_fits m h)
