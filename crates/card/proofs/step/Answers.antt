-- `card::step` meets its contract: a refused word leaves everything, and a served one is taken. Assumes nothing.
use Rattle.refusal.specs.Refusal.{outcome_of}
use mathlib.Core.Path.{sym, ap, ◌∙◌}
use mathlib.Core.List.{[], ◌∷◌}
use Rattle.card.proofs.Steps.{sheets_passed}
use Rattle.card.proofs.step.Goals as goal

pub invariant_of-take : goal.invariant_of-take
invariant_of-take c =
    let a = c.args in
    let s = sheets_passed a.card a.sheets.now.bench.now a.sheets.now.maker.now a.values.now (a.word ∷ []) (sym c.check.ensures ∙ ap outcome_of c.in-Ok.is) in
    record { bench_sound = s.0; maker_sound = s.1 }
