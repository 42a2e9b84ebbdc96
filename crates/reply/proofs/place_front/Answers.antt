-- `reply::place_front` meets its contract: the bytes are those of the front, for one digit of address and for two. Assumes nothing.
use mathlib.Core.Path.{◌≡◌, refl, sym, ap, ◌∙◌}
use mathlib.Core.List.{List}
use Prim.Native.Nat.{ℕ, ◌+◌}
use native.Mathlib.Omega.{arith}
use borrow.Author.Rules.{rules}
use lib.ListN.{length}
use borrow.Rule.Slice.PartMut.{put_mid}
use Rattle.refusal.specs.Buffer.{placed}
use Rattle.refusal.proofs.Buffers.{copied_placed}
use Rattle.wire.specs.Word.{travelling}
use Rattle.wire.proofs.Words.{travelling_length}
use Rattle.reply.proofs.Spelled.{front_one, front_two}
use Rattle.reply.proofs.Sent.{sent}
use Rattle.reply.proofs.place_front.Goals as goal

-- a copy of the characters xs, which are those of the front
copied-front : (front xs : List ℕ) (at k : ℕ) (out ys : List ℕ) → front ≡ xs → ys ≡ travelling xs → k ≡ length xs
    → (at + length xs ≡ at + length front) × (put_mid at k out ys ≡ placed (travelling front) at out)
copied-front front xs at k out ys e s n = (
  ap (λ (l : List ℕ). at + length l) (sym e),
  copied_placed _ at k out ys (s ∙ ap travelling (sym e)) (omega (arith, n, ap length e, travelling_length xs, ap (λ (l : List ℕ). length (travelling l)) e)),
)

pub returns-then-address-le9 : goal.returns-then-address-le9
returns-then-address-le9 c =
    let a = c.args in
    copied-front _ _ _ _ _ _ (front_one a.letter a.address a.identifier c.if-address-le9.true)
    (c.copy_from_slice.ensures.after ∙ sent _ _ _ _ _ c.map.ensures.items refl (λ p x y q k. search rules)) (omega arith)

pub returns-else-address-le9 : goal.returns-else-address-le9
returns-else-address-le9 c =
    let a = c.args in
    copied-front _ _ _ _ _ _ (front_two a.letter a.address a.identifier c.if-address-le9.false)
    (c.copy_from_slice-else-address-le9.ensures.after ∙ sent _ _ _ _ _ c.map-else-address-le9.ensures.items refl (λ p x y q k. search rules)) (omega arith)
