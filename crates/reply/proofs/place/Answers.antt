-- `reply::place` meets its contract: there is room for the whole reply, and its parts stand one behind the other. Assumes nothing.
use mathlib.Core.Path.{◌≡◌, refl, sym, ◌∙◌}
use mathlib.Core.List.{[], ◌∷◌}
use Prim.Native.Nat.{ℕ, ◌+◌, ◌-◌, ◌≤◌}
use native.Mathlib.Omega.{arith}
use lib.ListN.{length}
use Rattle.refusal.specs.Refusal.{gave}
use Rattle.refusal.proofs.Calls.{placed_call, fits-at}
use Rattle.wire.specs.Word.{travelling}
use Rattle.message.specs.Message.{star}
use Rattle.reply.specs.declared.Answer.{Answer}
use Rattle.reply.specs.Reply.{mark_of, spell_content, spell_answer}
use Rattle.reply.specs.Inner.{spell_front}
use Rattle.reply.proofs.Spelled.{travelling_count, answer_parted, answer_sum, stands_from, stands_both, stands_ahead, stands-as, stands-at}
use Rattle.reply.proofs.place.Goals as goal

-- where the front has come, and that there is room for the content and for the end
rest : (a : Answer) (at : ℕ) {n m : ℕ} → n ≡ length (spell_answer a) → m ≡ at + length (spell_front a.letter a.address a.identifier) → m + length (spell_content a.content) + 2 ≡ at + n
rest a at e d = omega (arith, e, d, answer_sum a)

pub place_front-data-requires : goal.place_front-data-requires
place_front-data-requires c = omega (arith, c.spelled_len-n.ensures, answer_sum c.args.answer)

pub overflow_add-at : goal.overflow_add-at
overflow_add-at c = omega (arith, rest c.args.answer _ c.spelled_len-n.ensures c.place_front-data.ensures.0, c.place_front-data.auto.out)

pub overflow_sub-at : goal.overflow_sub-at
overflow_sub-at c = omega (arith, rest c.args.answer _ c.spelled_len-n.ensures c.place_front-data.ensures.0)

pub place_two-requires : goal.place_two-requires
place_two-requires c = omega (arith, rest c.args.answer _ c.spelled_len-n.ensures c.place_front-data.ensures.0, c.place_front-data.auto.out)

pub place_content-requires : goal.place_content-requires
place_content-requires c = omega (arith, rest c.args.answer _ c.spelled_len-n.ensures c.place_front-data.ensures.0, c.place_front-data.auto.out, c.place_two.auto.out)

pub returns : goal.returns
returns c =
    let a = c.args in
    let x = a.answer in
    let xs = travelling (spell_answer x) in
    let n = travelling_count x ∙ sym c.spelled_len-n.ensures in
    let after = c.place_front-data.new.out in
    let r = rest x _ c.spelled_len-n.ensures c.place_front-data.ensures.0 in
    let within : c.place_front-data.result + length (spell_content x.content) + 2 ≤ length after = omega (arith, r, c.place_front-data.auto.out) in
    let h : a.at ≤ length a.out.now = omega arith in
    let end : a.at + c.spelled_len-n.result - 2 ≡ c.place_content.result = omega (arith, r, c.place_content.ensures.0) in
    let whole =
    stands-as (answer_parted x)
    (stands_both h (stands_from (spell_front x.letter x.address x.identifier) a.out.now refl c.place_front-data.ensures)
    (stands_ahead (omega (arith, within)) (stands-at end (stands_from (mark_of x.mark ∷ star ∷ []) after refl (rw c.into.ensures at c.place_two.ensures)))
    (stands_from (spell_content x.content) c.place_two.new.out refl c.place_content.ensures))) in
    (λ j. record { outcome = gave (sym n j); buffer = whole.leaves j })
    ∙ sym (placed_call xs a.at a.out.now (fits-at xs a.at a.out.now (omega arith)))
