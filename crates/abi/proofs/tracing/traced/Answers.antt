-- `abi::traced` meets its contract: the refusal, or what `ran` leaves, with the third count. Assumes nothing.
use mathlib.Core.Path.{sym, ap, ◌∙◌}
use mathlib.Core.List.{List}
use Prim.Native.Nat.{ℕ}
use Rattle.std.specs.Prelude.{Result}
use Rattle.refusal.specs.Refusal.{outcome_of}
use Rattle.refusal.specs.declared.Refusal.{Refusal}
use Rattle.card.specs.declared.Took.{Took}
use Rattle.card.specs.Calls.{run_after}
use Rattle.abi.specs.Calls.{ManyWords, run_on}
use Rattle.abi.specs.Trace.{NotedWords, messages_in}
use Rattle.abi.proofs.tracing.traced.Goals as goal

pub returns : goal.returns
returns c values out notes =
    let a = c.args in
    let noted : ManyWords → NotedWords = λ x. record { many = x; notes = notes } in
    ap noted (c.ran.ensures values out)
    ∙ ap (λ (x : Result Took Refusal). noted (run_on a.row.now (messages_in (outcome_of x) a.trace.messages a.counts.now) (run_after a.trace.ran values out))) (sym c.in_ok-run.was)
