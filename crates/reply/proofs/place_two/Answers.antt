-- `reply::place_two` meets its contract: the two bytes are those of the characters. Assumes nothing.
use mathlib.Core.Path.{refl, ◌∙◌}
use mathlib.Core.List.{[], ◌∷◌}
use native.Mathlib.Omega.{arith}
use borrow.Author.Rules.{rules}
use Rattle.refusal.proofs.Buffers.{copied_placed}
use Rattle.reply.proofs.Sent.{sent}
use Rattle.wire.proofs.Words.{travelling_length}
use Rattle.reply.proofs.place_two.Goals as goal

pub returns : goal.returns
returns c =
    let s = sent _ _ _ _ _ c.map.ensures.items refl (λ p x y q k. search rules) in
    (refl, copied_placed _ _ _ _ _ (c.copy_from_slice.ensures.after ∙ s) (omega (arith, travelling_length (c.args.x ∷ c.args.y ∷ []))))
