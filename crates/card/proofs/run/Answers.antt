-- `card::run` meets its contract: a refused run leaves everything, and a served one is played. Assumes nothing.
use Rattle.refusal.specs.Refusal.{outcome_of}
use mathlib.Core.Path.{sym, ap, ◌∙◌}
use Rattle.card.proofs.Steps.{sheets_passed}
use Rattle.card.proofs.run.Goals as goal

pub invariant_of-take_all : goal.invariant_of-take_all
invariant_of-take_all c =
    let a = c.args in
    let s = sheets_passed a.card a.sheets.now.bench.now a.sheets.now.maker.now a.values.now a.words.now (sym c.check.ensures ∙ ap outcome_of c.in-Ok.is) in
    record { bench_sound = s.0; maker_sound = s.1 }
