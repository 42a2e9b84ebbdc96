-- `bus::run` meets its contract: a refused run leaves everything, and a served one is played. Assumes nothing.
use mathlib.Core.Path.{◌≡◌, sym, ap, ◌∙◌}
use borrow.Author.Rules.{rules}
use Rattle.std.specs.Prelude.{Result, Err}
use Rattle.refusal.specs.declared.Refusal.{Refusal}
use Rattle.card.specs.declared.Took.{Took}
use Rattle.refusal.specs.Refusal.{Outcome, outcome_of}
use Rattle.refusal.specs.Check.{decided}
use Rattle.bus.specs.Rows.{RowsAfter}
use Rattle.bus.specs.Inner.{served_rows}
use Rattle.bus.proofs.Sharing.{rows_kept, rows_is}
use Rattle.bus.proofs.run.Goals as goal

pub returns-in_err-check : goal.returns-in_err-check
returns-in_err-check c =
    let a = c.args in
    let s = a.sheets.now in
    let n = a.numbers.now in
    let comes : Outcome (Unit {0}) → RowsAfter = λ o. decided o (rows_kept n a.values.now a.out.now) (served_rows n s.bench.now s.maker.now a.values.now a.words.now a.out.now) in
    let e : c.from_residual.result ≡ Err c.in_err-check.field-0.0 = search rules in
    ap (λ (r : Result Took Refusal). record { numbers = n; outcome = outcome_of r; values = a.values.now; buffer = a.out.now }) e
    ∙ sym (rows_is n s.bench.now s.maker.now a.values.now a.words.now a.out.now ∙ ap comes (sym c.check.ensures ∙ ap outcome_of c.in_err-check.was))

pub returns : goal.returns
returns c =
    let a = c.args in
    let s = a.sheets.now in
    let n = a.numbers.now in
    let comes : Outcome (Unit {0}) → RowsAfter = λ o. decided o (rows_kept n a.values.now a.out.now) (served_rows n s.bench.now s.maker.now a.values.now a.words.now a.out.now) in
    c.take_all.ensures ∙ sym (rows_is n s.bench.now s.maker.now a.values.now a.words.now a.out.now ∙ ap comes (sym c.check.ensures ∙ ap outcome_of c.in_ok-check.was))
