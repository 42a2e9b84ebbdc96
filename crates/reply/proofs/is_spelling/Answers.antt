-- `reply::is_spelling` meets its contract: the array has room for every reply, and what was written is compared. Assumes nothing.
use mathlib.Core.Path.{◌≡◌, refl, sym, ap, ◌∙◌}
use mathlib.Core.List.{List}
use Prim.Native.Nat.{ℕ, ◌≤◌}
use native.Mathlib.Omega.{arith}
use lib.Dec.{eqb}
use lib.ListN.{length, take}
use lib.Seq.{length-take-le}
use Rattle.refusal.specs.Lists.{same}
use Rattle.wire.proofs.Words.{travelling_length}
use Rattle.reply.specs.declared.Answer.{Answer}
use Rattle.reply.specs.Reply.{spell_answer}
use Rattle.reply.proofs.Spelled.{answer-length, Spelt, spelt, spelt_count, spelt_always}
use Rattle.reply.proofs.is_spelling.Goals as goal
use Rattle.std.specs.Prelude.{Ok, Result}
use Rattle.refusal.specs.declared.Refusal.{Refusal}

-- so many bytes were written, and the array has as many
fit : (a : Answer) {w : Result ℕ Refusal} {array : List ℕ} {n : ℕ} → Spelt a w array → w ≡ Ok n → n ≤ length array
fit a s e = omega (arith, spelt_count _ _ _ _ s e, travelling_length (spell_answer a), answer-length a, s.long)

pub slice_bounds-spelled-end : goal.slice_bounds-spelled-end
slice_bounds-spelled-end c = fit c.args.answer (spelt c.args.answer _ c.place.result _ refl c.place.ensures) c.in-Ok.is

pub slice_bounds-equal-end : goal.slice_bounds-equal-end
slice_bounds-equal-end c = sym (length-take-le _ _ (fit c.args.answer (spelt c.args.answer _ c.place.result _ refl c.place.ensures) c.in-Ok.is))

pub returns-in-Ok : goal.returns-in-Ok
returns-in-Ok c =
    let h = spelt c.args.answer _ c.place.result _ refl c.place.ensures in
    c.equal.ensures ∙ ap (λ (l : List ℕ). same eqb l c.args.bytes.now) (ap (λ (n : ℕ). take n c.place.new.out) (spelt_count _ _ _ _ h c.in-Ok.is) ∙ h.front)

pub returns-in-Err : goal.returns-in-Err
returns-in-Err c = absurd (spelt_always _ _ _ _ (spelt c.args.answer _ c.place.result _ refl c.place.ensures) c.in-Err.is)
