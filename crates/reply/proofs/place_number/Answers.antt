-- `reply::place_number` meets its contract: the bytes are those of the five digits. Assumes nothing.
use mathlib.Core.Path.{refl, ap, ◌∙◌}
use native.Mathlib.Omega.{arith}
use borrow.Author.Rules.{rules}
use Rattle.refusal.proofs.Buffers.{copied_placed}
use Rattle.wire.specs.Word.{travelling}
use Rattle.wire.proofs.Words.{travelling_length}
use Rattle.number.specs.Data.{spell_data}
use Rattle.number.proofs.Digits.{data_length}
use lib.ListN.{length}
use Rattle.reply.proofs.Sent.{sent}
use Rattle.reply.proofs.place_number.Goals as goal

pub returns : goal.returns
returns c =
    let x = c.args.x in
    let e = c.write_data.ensures in
    let s = sent _ _ _ _ _ c.map.ensures.items (ap length e ∙ data_length x) (λ p x y q k. search rules) ∙ ap travelling e in
    (refl, copied_placed _ _ _ _ _ (c.copy_from_slice.ensures.after ∙ s) (omega (arith, travelling_length (spell_data x), data_length x)))
