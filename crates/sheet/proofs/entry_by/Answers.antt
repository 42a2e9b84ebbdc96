-- `sheet::entry_by` meets its contract: access and decimals in range are bytes. Assumes nothing.
use mathlib.Core.Path.{◌≡◌, refl, sym, ◌∙◌}
use mathlib.Core.Bool.{true}
use native.Mathlib.Omega.{arith}
use lib.Dec.{T}
use lib.IntN.{ℤ, pos, nat_abs}
use lib.Signed.{le_z, non_neg}
use mir.Syntax.{w8}
use mir.Val.{Fits}
use Rattle.refusal.proofs.Logic.{ands}
use Rattle.number.specs.Number.{in_range}
use Rattle.sheet.proofs.SoundSheets.{range_natural}
use Rattle.sheet.proofs.entry_by.Goals as goal

byte : (least x : ℤ) → le_z (pos 0) least ≡ true → in_range least x (pos 3) ≡ true → T (non_neg x) × Fits w8 (nat_abs x)
byte least x p e = let r = range_natural least x (pos 3) p e in (r.0, record { fits = omega (arith, r.1) })

pub overflow_cast-result : goal.overflow_cast-result
overflow_cast-result c = byte (pos 1) _ refl (sym c.in_range.ensures ∙ search ands)

pub overflow_cast-result-2 : goal.overflow_cast-result-2
overflow_cast-result-2 c = byte (pos 0) _ refl (sym c.in_range-2.ensures ∙ search ands)
