-- `models::Instrument::values` meets its contract: the values of the lines passed are stored, so what is left fills the rest in.
-- Assumes nothing.
use mathlib.Core.Path.{◌≡◌, refl, sym, ap, ap₂, ◌∙◌}
use mathlib.Core.Bool.{true}
use mathlib.Core.List.{List, [], ◌∷◌}
use Prim.Native.Nat.{ℕ, ◌≤◌, ◌<◌, ◌+◌}
use native.Mathlib.Numerals.{add-one}
use native.Mathlib.Omega.{arith}
use borrow.Author.Rules.{rules}
use lib.Dec.{T}
use lib.IntN.{ℤ, pos, nat_abs}
use lib.ListN.{length, get_or, set, drop, length-set, drop_of_length-le}
use lib.Signed.{non_neg}
use mir.Syntax.{w32}
use mir.Val.{SFits}
use lib.Seq.{drop-cons}
use Rattle.refusal.proofs.Logic.{and_left, and_right}
use Rattle.number.specs.Number.{in_range}
use Rattle.number.proofs.Signed.{rd, rd-is}
use Rattle.sheet.specs.Sheet.{at}
use Rattle.sheet.proofs.SoundSheets.{range-cast}
use Rattle.models.specs.Table.{are_codes, filled, values_of}
use Rattle.models.specs.Model.{Model}
use Rattle.models.proofs.Instrument.values.Goals as goal

module _ (table : List (List ℤ)) (i : ℕ) (h : i < length table) where
  abbrev line : List ℤ
  line = get_or table i []

  -- the line at i, and those behind it
  here : drop i table ≡ line ∷ drop (i + 1) table
  here = rw (drop-cons table i [] h, add-one)

  code_here : are_codes (drop i table) ≡ true → in_range (pos 0) (at line 0) (pos 127) ≡ true
  unfolding are_codes
  code_here e = and_left _ _ (rw here at e)

  codes-more : are_codes (drop i table) ≡ true → are_codes (drop (i + 1) table) ≡ true
  unfolding are_codes
  codes-more e = and_right (in_range (pos 0) (at line 0) (pos 127)) _ (rw here at e)

  filled_more : (vs : List ℤ) → filled vs (drop i table) ≡ filled (set vs (nat_abs (at line 0)) (at line 6)) (drop (i + 1) table)
  unfolding filled
  filled_more vs = rw here

  -- the place read is that of a character code
  place : are_codes (drop i table) ≡ true → SFits w32 (at line 0) → T (non_neg (rd (at line 0))) × (nat_abs (rd (at line 0)) ≤ 127)
  place e = range-cast (pos 0) (at line 0) (pos 127) refl (code_here e)

  -- a line more
  stored : (vs : List ℤ) → SFits w32 (at line 0) → SFits w32 (at line 6)
      → filled vs (drop i table) ≡ filled (set vs (nat_abs (rd (at line 0))) (rd (at line 6))) (drop (i + 1) table)
  stored vs p q = filled_more vs ∙ ap₂ (λ (x v : ℤ). filled (set vs (nat_abs x) v) (drop (i + 1) table)) (sym (rd-is p)) (sym (rd-is q))

pub overflow_cast-values : goal.overflow_cast-values
overflow_cast-values g c =
    let l = c.loop-identifier in
    let k = place c.self.inside.table l.identifier-index (omega arith) l.invariant.1 (record { sfits = search rules }) in
    (k.0, record { fits = omega (arith, k.1) })

pub bounds-values-identifier : goal.bounds-values-identifier
bounds-values-identifier g c =
    let l = c.loop-identifier in
    omega (arith, (place c.self.inside.table l.identifier-index (omega arith) l.invariant.1 (record { sfits = search rules })).1)

pub loop-identifier-preserved : goal.loop-identifier-preserved
loop-identifier-preserved g c =
    let l = c.loop-identifier in (
      length-set l.values _ _ ∙ l.invariant.0,
      codes-more c.self.inside.table l.identifier-index (omega arith) l.invariant.1,
      l.invariant.2 ∙ stored c.self.inside.table l.identifier-index (omega arith) l.values (record { sfits = search rules }) (record { sfits = search rules }),
    )

pub returns : goal.returns
unfolding filled values_of
returns g c =
    let l = c.loop-identifier in
    sym (ap (λ (m : Model). values_of m.table) (sym c.self.view_is) ∙ l.invariant.2 ∙ ap (filled l.values) (drop_of_length-le c.self.inside.table {i = l.identifier-index} (omega arith)))
