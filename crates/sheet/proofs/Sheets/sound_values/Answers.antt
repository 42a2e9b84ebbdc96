-- `sheet::Sheets::sound_values` meets its contract: the values are sound where the rows of both sheets allow them, the bench's first.
-- Assumes nothing.
use mathlib.Core.Path.{◌≡◌, ap, ap₂, ◌∙◌}
use mathlib.Core.Bool.{Bool, ◌&&◌}
use borrow.Author.Rules.{rules}
use lib.ListN.{length}
use Rattle.sheet.specs.Sheet.{rows}
use Rattle.sheet.specs.Inner.{fits_rows}
use Rattle.sheet.proofs.Places.{values_count, values_by_rows}
use Rattle.sheet.proofs.Sheets.sound_values.Goals as goal

pub returns-in_default : goal.returns-in_default
returns-in_default c =
    let a = c.args in
    values_count a.self.now.bench.now a.self.now.maker.now a.values.now (λ (e : length a.values.now ≡ 128). search rules)

pub returns : goal.returns
returns c =
    let b = c.args.self.now.bench.now in
    let m = c.args.self.now.maker.now in
    let vs = c.args.values.now in
    let same : c.in-Some.values.now ≡ vs = search rules in
    rw (← same) (ap₂ (λ (x y : Bool). x && y) c.fits_rows-by_bench.ensures.fits
    (c.fits_rows-by_maker.ensures.fits ∙ ap (fits_rows (rows m) c.in-Some.values.now) c.fits_rows-by_bench.ensures.seen))
    ∙ values_by_rows b m vs (search rules)
