-- `bus::sound_parts` meets its contract: whole parts, as many as cards, each judged. Assumes nothing.
use Rattle.std.proofs.Common.{rules, tests, sym, ◌∙◌, ◌/◌, length, arith}
use Rattle.std.proofs.lemmas.Iterator.{YieldsList-from_slice}
use Rattle.std.proofs.lemmas.Iterator.Search.{all_from_yields_List}
use mathlib.Core.Bool.{false≢true}
use mathlib.Core.Logic.{inl, inr}
use borrow.Author.Tests.{eq-eqb}
use Rattle.std.specs.Simd.{first_chunks}
use Rattle.sheet.specs.Values.{sound_values}
use Rattle.bus.proofs.Instruments.{other_parts, same_parts}
use Rattle.bus.proofs.sound_parts.Goals as goal

pub returns : goal.returns
returns c =
    let s = c.args.sheets.now in
    let values = c.args.values.now in
    all_from_yields_List (sound_values s.bench.now s.maker.now) _ _ c.all.result c.all.ensures.ran (YieldsList-from_slice (first_chunks 128 (length values / 128) values) cc) (λ x b q k. search (rules, tests))
    ∙ same_parts s.bench.now s.maker.now c.args.count values (search (rules, arith, tests)) (omega (arith, c.as_chunks.ensures.front_len))

pub returns-then-not-is_empty : goal.returns-then-not-is_empty
returns-then-not-is_empty c =
    let s = c.args.sheets.now in
    other_parts s.bench.now s.maker.now c.args.count c.args.values.now (λ e.
    elim c.then-not-is_empty.either [
      | inl a ↦ false≢true (sym a ∙ c.is_empty.ensures ∙ eq-eqb _ 0 (omega (arith, c.as_chunks.ensures.back_len, e)))
      | inr b ↦ omega (arith, b.1, c.as_chunks.ensures.front_len, e)
    ])
