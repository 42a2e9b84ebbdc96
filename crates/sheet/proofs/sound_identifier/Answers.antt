-- `sheet::sound_identifier` meets its contract: a number from 0 to 127 is a byte, and no other is an identifier. Assumes nothing.
use mathlib.Core.Path.{◌≡◌, refl, sym, ap, ◌∙◌}
use mathlib.Core.Bool.{true, false, not, ◌&&◌, false≢true}
use native.Mathlib.Omega.{arith}
use borrow.Author.Tests.{le-leb}
use lib.Dec.{eqb}
use lib.IntN.{ℤ, pos, negsuc, nat_abs}
use Rattle.refusal.proofs.Logic.{by-test}
use Rattle.number.specs.Number.{in_range}
use Rattle.number.proofs.Signed.{rd-is}
use Rattle.number.proofs.Cuts.{in_range_ends, ends_in_range}
use Rattle.message.specs.Message.{is_identifier, question}
use Rattle.message.proofs.Messages.{plain_identifier}
use Rattle.sheet.specs.Sheet.{sound_identifier}
use Rattle.sheet.proofs.SoundSheets.{range_natural, sound_code}
use Rattle.sheet.proofs.sound_identifier.Goals as goal

inside : (x : ℤ) → in_range (pos 0) x (pos 127) ≡ true → (is_identifier (nat_abs x) && not (eqb (nat_abs x) question)) ≡ sound_identifier x
unfolding sound_identifier
inside (pos n) e = refl
inside (negsuc n) e = absurd (false≢true (in_range_ends (pos 0) (negsuc n) (pos 127) e).0)

outside : (x : ℤ) → in_range (pos 0) x (pos 127) ≡ false → false ≡ sound_identifier x
outside (pos n) e =
    by-test (sound_identifier (pos n))
    (λ t.
    let h = (plain_identifier n (sound_code n t).0).small in
    absurd (false≢true (sym e ∙ ends_in_range (pos 0) (pos n) (pos 127) (le-leb 0 n (omega arith)) (le-leb n 127 (omega arith)))))
    sym
outside (negsuc n) e = unfold sound_identifier in refl

pub overflow_cast-c : goal.overflow_cast-c
overflow_cast-c c =
    let r = range_natural (pos 0) _ (pos 127) refl (sym c.in_range.ensures ∙ c.if-in_range.true) in
    (r.0, record { fits = omega (arith, r.1) })

pub returns-then-in_range : goal.returns-then-in_range
returns-then-in_range c =
    rw c.is_identifier.ensures (inside _ (sym c.in_range.ensures ∙ c.if-in_range.true) ∙ ap sound_identifier (rd-is c.ranges.x))

pub returns-else-in_range : goal.returns-else-in_range
returns-else-in_range c = outside _ (sym c.in_range.ensures ∙ c.if-in_range.false) ∙ ap sound_identifier (rd-is c.ranges.x)
