-- `trace::trace` meets its contract: the sheets of a trace that passed are sound, and there is room for its notes. Assumes nothing.
use Rattle.refusal.specs.Refusal.{outcome_of}
use mathlib.Core.Path.{sym, ap, ◌∙◌}
use Rattle.card.proofs.Steps.{sheets_passed}
use Rattle.trace.proofs.Calls.{trace_passed}
use Rattle.trace.proofs.trace.Goals as goal

pub invariant_of-tested : goal.invariant_of-tested
invariant_of-tested c =
    let a = c.args in
    let h = a.sheets.now in
    let p = trace_passed a.card h.bench.now h.maker.now a.values.now a.words.now a.notes.now (sym c.check.ensures ∙ ap outcome_of c.in-Ok.is) in
    let s = sheets_passed a.card h.bench.now h.maker.now a.values.now a.words.now p.0 in
    record { bench_sound = s.0; maker_sound = s.1 }

pub take_all-requires : goal.take_all-requires
take_all-requires c =
    let a = c.args in
    let h = a.sheets.now in
    (trace_passed a.card h.bench.now h.maker.now a.values.now a.words.now a.notes.now (sym c.check.ensures ∙ ap outcome_of c.in-Ok.is)).1
