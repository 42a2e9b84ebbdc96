-- `reply::place_content` meets its contract: no data leaves the buffer as it was, a number is five digits, and a scan is the count of its
-- digits and the digits. Assumes nothing.
use mathlib.Core.Path.{◌≡◌, refl, sym, ap, ◌∙◌}
use mathlib.Core.List.{[], ◌∷◌, ◌++◌}
use Prim.Native.Nat.{◌≤◌}
use Prim.Native.Char.{code}
use native.Mathlib.Omega.{arith}
use lib.ListN.{length, length-append}
use Rattle.number.specs.Data.{spell_data, spell_all}
use Rattle.number.specs.declared.Decimal.{Decimal}
use Rattle.number.proofs.Digits.{data_length}
use Rattle.number.proofs.Several.{all_length}
use Rattle.reply.specs.declared.Content.{Content}
use Rattle.reply.specs.declared.Content.TheVariants.{Number, Four, Five}
use Rattle.reply.specs.Reply.{spell_content}
use Rattle.reply.proofs.Spelled.{no_data, number_data, four_data, five_data, stands_from, stands_nothing, stands_both, stands-as}
use Rattle.reply.proofs.place_content.Goals as goal

-- what the arm tells: the content, and so its length
module _ {content : Content} where
  is_number : (x : Decimal) → content ≡ Number x → spell_content content ≡ spell_data x
  is_number x e = ap spell_content e ∙ number_data x

  is-four : (a b c d : Decimal) → content ≡ Four a b c d → spell_content content ≡ code "2" ∷ code "0" ∷ spell_all (a ∷ b ∷ c ∷ d ∷ [])
  is-four a b c d e = ap spell_content e ∙ four_data a b c d

  four-long : (a b c d : Decimal) → content ≡ Four a b c d → length (spell_content content) ≡ 22
  four-long a b c d e = omega (arith, ap length (is-four a b c d e), all_length (a ∷ b ∷ c ∷ d ∷ []))

  is-five : (a b c d e : Decimal) → content ≡ Five a b c d e → spell_content content ≡ code "2" ∷ code "5" ∷ (spell_data a ++ spell_all (b ∷ c ∷ d ∷ e ∷ []))
  unfolding spell_all
  is-five a b c d e h = ap spell_content h ∙ five_data a b c d e

  five-long : (a b c d e : Decimal) → content ≡ Five a b c d e → length (spell_content content) ≡ 27
  five-long a b c d e h =
      omega (arith, ap length (is-five a b c d e h), length-append (spell_data a) (spell_all (b ∷ c ∷ d ∷ e ∷ [])), data_length a, all_length (b ∷ c ∷ d ∷ e ∷ []))

pub place_number-requires : goal.place_number-requires
place_number-requires c = omega (arith, c.requires, ap length (is_number c.in-Number.x c.in-Number.is), data_length c.in-Number.x)

pub place_two-first-requires : goal.place_two-first-requires
place_two-first-requires c = omega (arith, c.requires, four-long _ _ _ _ c.in-Four.is)

pub place_four-requires : goal.place_four-requires
place_four-requires c = omega (arith, c.requires, four-long _ _ _ _ c.in-Four.is, c.place_two-first.ensures.0, c.place_two-first.auto.out)

pub place_two-first-requires-in-Five : goal.place_two-first-requires-in-Five
place_two-first-requires-in-Five c = omega (arith, c.requires, five-long _ _ _ _ _ c.in-Five.is)

pub place_number-second-requires : goal.place_number-second-requires
place_number-second-requires c = omega (arith, c.requires, five-long _ _ _ _ _ c.in-Five.is, c.place_two-first-in-Five.ensures.0, c.place_two-first-in-Five.auto.out)

pub place_four-requires-in-Five : goal.place_four-requires-in-Five
place_four-requires-in-Five c =
    omega (
      arith,
      c.requires,
      five-long _ _ _ _ _ c.in-Five.is,
      c.place_two-first-in-Five.ensures.0,
      c.place_two-first-in-Five.auto.out,
      c.place_number-second.ensures.0,
      c.place_number-second.auto.out,
    )

pub returns-in-Empty : goal.returns-in-Empty
returns-in-Empty c =
    let s = stands-as (sym (ap spell_content c.in-Empty.is ∙ no_data)) (stands_nothing c.args.at c.args.out.now) in
    (s.ends, s.leaves)

pub returns-in-Number : goal.returns-in-Number
returns-in-Number c =
    let k = c.in-Number in
    let s = stands-as (sym (is_number k.x k.is)) (stands_from (spell_data k.x) c.args.out.now (data_length k.x) c.place_number.ensures) in
    (s.ends, s.leaves)

pub returns-in-Four : goal.returns-in-Four
returns-in-Four c =
    let k = c.in-Four in
    let xs = k.a ∷ k.b ∷ k.c ∷ k.d ∷ [] in
    let h : c.args.at ≤ length c.args.out.now = omega (arith, c.requires) in
    let s =
    stands-as (sym (is-four k.a k.b k.c k.d k.is))
    (stands_both h (stands_from (code "2" ∷ code "0" ∷ []) c.args.out.now refl c.place_two-first.ensures)
    (stands_from (spell_all xs) c.place_two-first.new.out (all_length xs) c.place_four.ensures)) in
    (s.ends, s.leaves)

pub returns-in-Five : goal.returns-in-Five
returns-in-Five c =
    let k = c.in-Five in
    let xs = k.b ∷ k.c ∷ k.d ∷ k.e ∷ [] in
    let h : c.args.at ≤ length c.args.out.now = omega (arith, c.requires) in
    let g : c.place_two-first-in-Five.result ≤ length c.place_two-first-in-Five.new.out =
    omega (arith, c.requires, five-long _ _ _ _ _ k.is, c.place_two-first-in-Five.ensures.0, c.place_two-first-in-Five.auto.out) in
    let s =
    stands-as (sym (is-five k.a k.b k.c k.d k.e k.is))
    (stands_both h (stands_from (code "2" ∷ code "5" ∷ []) c.args.out.now refl c.place_two-first-in-Five.ensures)
    (stands_both g (stands_from (spell_data k.a) c.place_two-first-in-Five.new.out (data_length k.a) c.place_number-second.ensures)
    (stands_from (spell_all xs) c.place_number-second.new.out (all_length xs) c.place_four-in-Five.ensures))) in
    (s.ends, s.leaves)
