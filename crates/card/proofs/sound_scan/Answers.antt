-- `card::sound_scan` meets its contract: behind the two tests each name is judged. Assumes nothing.
use mathlib.Core.Path.{◌≡◌, sym, ◌∙◌}
use mathlib.Core.Bool.{true, ◌||◌}
use Prim.Native.Nat.{ℕ}
use native.Mathlib.Omega.{arith}
use borrow.Author.Rules.{rules}
use borrow.Author.Tests.{tests}
use lib.Dec.{eqb}
use lib.ListN.{take}
use Rattle.std.proofs.lemmas.Iterator.{YieldsList-from_slice}
use Rattle.std.proofs.lemmas.Iterator.Search.{all_from_yields_List}
use Rattle.sheet.specs.Values.{entry_in, is_readable_entry}
use Rattle.card.proofs.Scans.{by_names}
use Rattle.card.proofs.sound_scan.Goals as goal
use Rattle.card.proofs.sound_scan.Goals.{in_default, in_default-2, in-0, in-0-2}

pub returns : goal.returns
returns c =
    let s = c.args.setup in
    let bench = c.args.sheets.now.bench.now in
    let maker = c.args.sheets.now.maker.now in
    let counts : (eqb s.count 0 || eqb s.count 4 || eqb s.count 5) ≡ true
    = grind arith in
    let each = all_from_yields_List (λ (i : ℕ). is_readable_entry (entry_in bench maker i)) _ _ c.all.result c.all.ensures.ran (YieldsList-from_slice (take s.count s.scan) cc) (λ x b q k. search (rules, tests)) in
    each ∙ sym (by_names bench maker s (search rules) counts (search rules))
