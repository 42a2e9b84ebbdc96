-- `hearing::put` meets its contract: the array of a message with a sign, or the line of one with data, holds its words. Assumes nothing.
use mathlib.Core.Path.{◌≡◌, sym, ap, ◌∙◌, subst}
use mathlib.Core.List.{List, []}
use Prim.Native.Nat.{ℕ, ◌+◌, ◌≤◌}
use native.Mathlib.Omega.{arith}
use lib.ListN.{length}
use lib.Seq.{length-take-le}
use Rattle.refusal.specs.Buffer.{placed}
use Rattle.refusal.proofs.Buffers.{placed_nothing}
use Rattle.wire.specs.Word.{travelling}
use Rattle.wire.proofs.Lines.{line_part, line_fits}
use Rattle.message.specs.declared.Message.{Message}
use Rattle.message.specs.Spell.{spell}
use Rattle.message.proofs.Spelling.{spell_length}
use Rattle.hearing.specs.Inner.{worth}
use Rattle.hearing.proofs.passes.put.Goals as goal
use Rattle.std.specs.Prelude.{Option, Some}

-- what is asked where xs are copied in place of the words
module _ (m : Option Message) (at : ℕ) (out : List ℕ) (xs : List ℕ) (e : xs ≡ worth m) where
  room : at + length (worth m) ≤ length out → at + length xs ≤ length out
  room h = subst (λ (l : List ℕ). at + length l ≤ length out) (sym e) h

  copied : (n : ℕ) (now : List ℕ) → (n ≡ at + length xs) × (now ≡ placed xs at out)
      → (n ≡ at + length (worth m)) × (now ≡ placed (worth m) at out)
  copied n now p = subst (λ (l : List ℕ). (n ≡ at + length l) × (now ≡ placed l at out)) e p

-- a message is heard
its-words : (m : Option Message) (said : Message) → m ≡ Some said → travelling (spell said) ≡ worth m
unfolding worth
its-words m said e = ap worth (sym e)

pub returns-in_default : goal.returns-in_default
unfolding worth
returns-in_default c =
    let a = c.args in
    let n : worth a.message ≡ [] = ap worth c.in_default.is in
    (omega (arith, ap length n), sym (ap (λ (l : List ℕ). placed l a.at a.out.now) n ∙ placed_nothing a.at a.out.now))

pub put_sign-requires : goal.put_sign-requires
put_sign-requires c =
    (sym c.kind_of.ensures ∙ c.in-Sign.is, room c.args.message c.args.at c.args.out.now (travelling (spell c.in-Some.m)) (its-words c.args.message c.in-Some.m c.in-Some.is) c.requires)

pub slice_bounds-bytes-end : goal.slice_bounds-bytes-end
slice_bounds-bytes-end c = line_fits c.spell-len.result (spell c.in-Some.m) c.spell-len.ensures (spell_length c.in-Some.m)

pub slice_bounds-copy-end : goal.slice_bounds-copy-end
slice_bounds-copy-end c = sym (length-take-le _ _ (line_fits c.spell-len.result (spell c.in-Some.m) c.spell-len.ensures (spell_length c.in-Some.m)))

pub copy-requires : goal.copy-requires
copy-requires c =
    room c.args.message c.args.at c.args.out.now _ (line_part c.spell-len.result (spell c.in-Some.m) c.spell-len.ensures ∙ its-words c.args.message c.in-Some.m c.in-Some.is) c.requires

pub returns-in-Sign : goal.returns-in-Sign
returns-in-Sign c =
    copied c.args.message c.args.at c.args.out.now (travelling (spell c.in-Some.m)) (its-words c.args.message c.in-Some.m c.in-Some.is) _ _ c.put_sign.ensures

pub returns-in-Data : goal.returns-in-Data
returns-in-Data c =
    copied c.args.message c.args.at c.args.out.now _ (line_part c.spell-len.result (spell c.in-Some.m) c.spell-len.ensures ∙ its-words c.args.message c.in-Some.m c.in-Some.is) _ _ c.copy.ensures
