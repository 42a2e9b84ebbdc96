-- A trace is a run, and a note is what the single word's call answers: the laws of `trace`. Assumes nothing.
use mathlib.Core.Path.{ap}
use Rattle.trace.specs.Calls.{TraceAfter}
use Rattle.trace.proofs.Calls.{call_served, trace_is_run, note_is_step, open_is_step}
use Rattle.demands.specs.Traces.{Traces}

pub traces : Traces
traces = record {
  as_a_run = λ c bench maker values ws out notes. trace_is_run c bench maker values ws notes out;
  as_noted = λ c bench maker values ws out notes e.
      let s = call_served c bench maker values ws notes out e in
      (ap (λ (a : TraceAfter). a.messages) s, ap (λ (a : TraceAfter). a.notes) s);
  closed_as_a_step = note_is_step;
  open_as_a_step = open_is_step;
}
