-- `hearing::to_letter` meets its contract: `position` finds the first word that opens a message. Assumes nothing.
use mathlib.Core.Path.{◌≡◌, sym, ap, ◌∙◌}
use mathlib.Core.List.{List}
use Prim.Native.Nat.{ℕ, ◌-◌}
use native.Mathlib.Omega.{arith}
use lib.ListN.{length, take, drop, length-drop}
use Rattle.std.specs.Prelude.{Option}
use Rattle.std.proofs.Common.{rules, tests}
use Rattle.std.proofs.lemmas.Iterator.{YieldsList-from_slice}
use Rattle.std.proofs.lemmas.Iterator.Search.{position_from_yields_List}
use Rattle.std.specs.List.{position}
use Rattle.hearing.proofs.Spans.{opens, letter_found, letter_none, part_whole}
use Rattle.hearing.proofs.to_letter.Goals as goal

-- what `position` answers for the part that it goes over
ahead : (ws : List ℕ) (from : ℕ) (r : Option ℕ) → r ≡ position opens (take (length ws - from) (drop from ws)) → r ≡ position opens (drop from ws)
ahead ws from r e = e ∙ ap (position opens) (part_whole ws from)

pub returns-in-Some : goal.returns-in-Some
returns-in-Some c =
    let a = c.args in
    let r = position_from_yields_List opens _ _ c.position.result c.position.ensures.ran (YieldsList-from_slice (take (length a.words.now - a.from) (drop a.from a.words.now)) cc) (λ x b q k. search (rules, tests)) in
    letter_found (drop a.from a.words.now) a.from c.in-Some.i (sym (ahead a.words.now a.from c.position.result r) ∙ c.in-Some.is)

pub returns-in-None : goal.returns-in-None
returns-in-None c =
    let a = c.args in
    let r = position_from_yields_List opens _ _ c.position.result c.position.ensures.ran (YieldsList-from_slice (take (length a.words.now - a.from) (drop a.from a.words.now)) cc) (λ x b q k. search (rules, tests)) in
    let n = letter_none (drop a.from a.words.now) a.from (sym (ahead a.words.now a.from c.position.result r) ∙ c.in-None.is) in
    omega (arith, n, length-drop a.from a.words.now, c.requires)
