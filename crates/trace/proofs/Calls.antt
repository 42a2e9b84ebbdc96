-- A trace by its tests: the numbers of a run, then room for the notes; a trace is a run with notes, and a note is what the single word's call
-- answers. Assumes nothing.
use Rattle.std.specs.Prelude.{Some}
use mathlib.Core.Path.{◌≡◌, sym, ap, ◌∙◌}
use mathlib.Core.Bool.{true, false, false≢true}
use mathlib.Core.List.{List, [], ◌∷◌}
use Prim.Native.Nat.{ℕ, ◌*◌, ◌<◌, ◌≤◌}
use borrow.Author.Tests.{lt-ltb, le-ltb, ltb-true, ltb-false}
use lib.Dec.{ltb}
use lib.IntN.{ℤ}
use lib.ListN.{length}
use Rattle.refusal.specs.Refusal.{refused, gave}
use Rattle.refusal.specs.Check.{first}
use Rattle.refusal.proofs.Logic.{by-test}
use Rattle.refusal.proofs.Checks.{refused_gave, gave_is, first_holds, first_passes, first_none, append_refused, append_passed, by_first}
use Rattle.hearing.specs.Hearing.{action_of, closes}
use Rattle.act.specs.declared.causes.Cause.TheVariants.{NoMessageClosed}
use Rattle.act.specs.Cause.{why_of}
use Rattle.card.specs.declared.Card.{Card}
use Rattle.card.specs.Turn.{turn, Instrument, play}
use Rattle.card.specs.Cause.{why_to}
use Rattle.card.specs.Refusals.{card_checks}
use Rattle.card.specs.Calls.{After, WordAnswer, bytes_of, step_call, run_call, ended}
use Rattle.card.proofs.Steps.{served_step, run_refused, run_served}
use Rattle.card.proofs.Causes.{why_none}
use Rattle.trace.specs.Notes.{note_to}
use Rattle.trace.specs.Calls.{notes_check, trace_checks, TraceAfter, unnoted, noted, notes_in, trace_call}

module _ (c : Card) (bench maker values : List ℤ) (ws notes : List ℕ) where
  pub trace_refused : (n : ℕ) → first (card_checks c bench maker values ws) ≡ refused n → first (trace_checks c bench maker values ws notes) ≡ refused n
  unfolding trace_checks
  trace_refused n e = append_refused (card_checks c bench maker values ws) (notes_check ws notes ∷ []) n e

  module _ (e : first (card_checks c bench maker values ws) ≡ gave tt) where
    pub notes_short : length notes < length ws * 5 → first (trace_checks c bench maker values ws notes) ≡ refused 5
    unfolding trace_checks
    notes_short h =
        append_passed (card_checks c bench maker values ws) (notes_check ws notes ∷ []) e ∙ first_holds (notes_check ws notes) [] (lt-ltb (length notes) (length ws * 5) h)

    pub notes_enough : length ws * 5 ≤ length notes → first (trace_checks c bench maker values ws notes) ≡ gave tt
    unfolding trace_checks
    notes_enough h =
        append_passed (card_checks c bench maker values ws) (notes_check ws notes ∷ []) e ∙ first_passes (notes_check ws notes) [] (le-ltb (length notes) (length ws * 5) h) ∙ first_none

  -- what a trace that passed has
  pub trace_passed : first (trace_checks c bench maker values ws notes) ≡ gave tt → (first (card_checks c bench maker values ws) ≡ gave tt) × (length ws * 5 ≤ length notes)
  trace_passed e =
      by_first (card_checks c bench maker values ws)
      (λ n r. absurd (refused_gave (sym (trace_refused n r) ∙ e)))
      (λ p.
      by-test (ltb (length notes) (length ws * 5))
      (λ t. absurd (refused_gave (sym (notes_short p (ltb-true _ _ t)) ∙ e)))
      (λ t. (p, ltb-false _ _ t)))

  module _ (out : List ℕ) where
    pub call_refused : (n : ℕ) → first (trace_checks c bench maker values ws notes) ≡ refused n → trace_call c bench maker values ws out notes ≡ unnoted c values out notes n
    unfolding trace_call
    call_refused n e = rw e

    pub call_served : first (trace_checks c bench maker values ws notes) ≡ gave tt
        → trace_call c bench maker values ws out notes ≡ noted (ended (play bench maker c values (length out) ws) out) (notes_in bench maker c values (length out) ws) notes
    unfolding trace_call
    call_served e = rw e

    -- with room for the notes a trace is refused exactly as a run, and otherwise it answers and leaves what a run does
    pub trace_is_run : length ws * 5 ≤ length notes → (trace_call c bench maker values ws out notes).run ≡ run_call c bench maker values ws out
    trace_is_run h =
        by_first (card_checks c bench maker values ws)
        (λ n r. ap (λ (a : TraceAfter). a.run) (call_refused n (trace_refused n r)) ∙ sym (run_refused c bench maker values ws out n r))
        (λ p. ap (λ (a : TraceAfter). a.run) (call_served (notes_enough p h)) ∙ sym (run_served c bench maker values ws out p))

module _ (bench maker : List ℤ) (i : Instrument) (k w : ℕ) (out : List ℕ) (a : WordAnswer) (e : (step_call i.card bench maker i.values w out).outcome ≡ gave a) where
  -- what the single word's call answers
  step_answers : a ≡ record { bytes = length (turn bench maker i.card i.values w).reply; cause = why_to bench maker i.card i.values w }
  step_answers =
      let s = served_step i.card bench maker i.values w out a.bytes (ap bytes_of e) in
      gave_is (sym e ∙ ap (λ (x : After WordAnswer). x.outcome) s.leaves)

  -- a note is what it would have answered there
  pub note_is_step : closes (action_of i.card.pending w) ≡ true → note_to bench maker i k w ≡ record { at = k; characters = i.card.pending.len; bytes = a.bytes; cause = a.cause } ∷ []
  unfolding note_to
  note_is_step c =
      rw c (ap (λ (x : WordAnswer). record { at = k; characters = i.card.pending.len; bytes = x.bytes; cause = x.cause } ∷ []) (sym step_answers))

  -- and a word that closes no message is not noted, whose cause there is that none was closed
  pub open_is_step : closes (action_of i.card.pending w) ≡ false → (note_to bench maker i k w ≡ []) × (a.cause ≡ why_of (Some NoMessageClosed))
  unfolding note_to
  open_is_step o =
      (rw o, ap (λ (x : WordAnswer). x.cause) step_answers ∙ why_none bench maker i.card i.values w (λ n. false≢true (sym o ∙ ap closes n)))
