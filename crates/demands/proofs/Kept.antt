-- A word leaves a sound card with sound values sound, and touches no place without a row, whether it is served or refused.
-- Assumes nothing.
use mathlib.Core.Path.{◌≡◌, refl, sym, ap, subst}
use mathlib.Core.List.{List}
use Prim.Native.Nat.{ℕ}
use lib.IntN.{ℤ, pos}
use lib.ListN.{get_or}
use Rattle.refusal.specs.Refusal.{Outcome}
use Rattle.refusal.specs.Check.{decided}
use Rattle.refusal.proofs.Checks.{by_first}
use Rattle.card.specs.declared.Card.{Card}
use Rattle.card.specs.Turn.{turn}
use Rattle.card.specs.Cause.{why_to}
use Rattle.card.specs.Refusals.{step_checks}
use Rattle.card.specs.Calls.{After, kept, WordAnswer, answered, step_call}
use Rattle.card.proofs.Steps.{step_is}
use Rattle.card.proofs.Sounds.{places_stay}
use Rattle.demands.specs.Terms.{Sound}
use Rattle.demands.specs.Demand2.{StaysSound}
use Rattle.demands.proofs.Words.{left}

module _ (bench maker : List ℤ) (c : Card) (values : List ℤ) (w : ℕ) (out : List ℕ) where
  -- what holds of a refused call and of one that is served
  by_call : (P : After WordAnswer → Type 0) → ((n : ℕ) → P (kept c values out n)) → P (answered (turn bench maker c values w) (why_to bench maker c values w) values out) → P (step_call c bench maker values w out)
  by_call P keeps serves =
      let by : Outcome (Unit {0}) → After WordAnswer = λ o. decided o (kept c values out) (answered (turn bench maker c values w) (why_to bench maker c values w) values out) in
      subst P (sym (step_is c bench maker values w out))
      (by_first (step_checks c bench maker values w out)
      (λ n e. subst P (sym (ap by e)) (keeps n))
      (λ e. subst P (sym (ap by e)) serves))

pub stays_sound : StaysSound
stays_sound = record {
  stays = λ bench maker c values w out s. by_call bench maker c values w out (λ (a : After WordAnswer). Sound bench maker a.card a.values) (λ n. s) (left bench maker c values s w);
  untouched = λ bench maker c values w out i s e.
      by_call bench maker c values w out (λ (a : After WordAnswer). get_or a.values i (pos 0) ≡ get_or values i (pos 0)) (λ n. refl) (places_stay bench maker c values s.offer_sound s.scan_sound s.values_sound w i e);
}
