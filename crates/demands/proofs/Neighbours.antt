-- A message for another card changes nothing but the open message, and what playing draws and leaves is decided by the messages for this
-- card alone. Assumes nothing.
use Rattle.std.specs.Prelude.{Some}
use mathlib.Core.Path.{◌≡◌, sym, ap, ap₂, ◌∙◌, subst}
use mathlib.Core.Bool.{true}
use mathlib.Core.List.{List, [], ◌∷◌}
use Prim.Native.Nat.{ℕ}
use lib.Dec.{lit≤}
use Rattle.refusal.proofs.Logic.{by-test}
use Rattle.wire.specs.Word.{valid_words}
use Rattle.wire.proofs.Words.{word_valid, append_valid}
use Rattle.message.specs.declared.Message.{Message}
use Rattle.hearing.specs.Hearing.{none, heard_from}
use Rattle.hearing.specs.Normal.{words_of}
use Rattle.hearing.proofs.Heard.{Messages, heard_start, heard_messages}
use Rattle.hearing.proofs.Normal.{heard_words, words_valid}
use Rattle.hearing.proofs.Quiet.{heard_silence}
use Rattle.act.specs.declared.Setup.{Setup}
use Rattle.act.specs.declared.causes.Cause.TheVariants.{NotForThisCard}
use Rattle.act.specs.Cause.{Why, why_of, is_for}
use Rattle.act.specs.Act.{ours}
use Rattle.act.proofs.OnOffer.{ours_none, ours_own, ours_other, ours_ours}
use Rattle.card.specs.declared.Card.{Card}
use Rattle.card.specs.Turn.{Turn, with_both}
use Rattle.card.specs.Calls.{answered}
use Rattle.card.proofs.Causes.{why_neighbour}
use Rattle.card.proofs.Steps.{quiet_answered}
use Rattle.card.proofs.Turns.{turn_neighbour}
use Rattle.card.proofs.Plays.{left_ours}
use Rattle.demands.specs.Neighbours.{ours_in, only_ours, NeighboursIgnored}
use Rattle.demands.proofs.Offers.{call_leaves}
use Rattle.demands.proofs.Words.{taken}
use Rattle.demands.proofs.Recordings.{alike}

-- ---- the messages for this card

ours_messages : (s : Setup) (ms : List Message) → Messages ms → Messages (ours s ms)
ours_messages s [] h = subst Messages (sym (ours_none s)) h
ours_messages s (m ∷ ms) h =
    by-test (is_for s m)
    (λ t. subst Messages (sym (ours_own s m ms t)) (h.0, ours_messages s ms h.1))
    (λ t. subst Messages (sym (ours_other s m ms t)) (ours_messages s ms h.1))

module _ (c : Card) (ws : List ℕ) where
  only_heard : heard_from c.pending (only_ours c ws) ≡ ours_in c ws
  unfolding only_ours
  only_heard =
      heard_silence c.pending (words_of (ours_in c ws))
      ∙ sym (heard_start (words_of (ours_in c ws)))
      ∙ heard_words (ours_in c ws) (ours_messages c.setup (heard_from c.pending ws) (heard_messages c.pending ws))

  only-ours : ours_in c ws ≡ ours_in c (only_ours c ws)
  only-ours = sym (ap (ours c.setup) only_heard ∙ ours_ours c.setup (heard_from c.pending ws))

  only_valid : valid_words (only_ours c ws) ≡ true
  unfolding only_ours
  only_valid = append_valid (256 ∷ []) (words_of (ours_in c ws)) (word_valid 256 (lit≤ tt)) (words_valid (ours_in c ws))

pub neighbours_ignored : NeighboursIgnored
neighbours_ignored = record {
  no_notice = λ bench maker c values w out m s v h e t.
      taken bench maker c values s w out v h
      ∙ ap₂ (λ (x : Turn) (y : Why). answered x y values out) (turn_neighbour bench maker c values w m e t) (why_neighbour bench maker c values w m e t)
      ∙ sym (quiet_answered (with_both c none c.offer) (why_of (Some NotForThisCard)) values out);
  still_cancels = λ bench maker c values w out k m i z g h t l.
      let q = call_leaves bench maker c values w m h t out k i z g l in
      (q.number, q.type_3, q.its);
  ours_decide = λ bench maker c values ws xs out out' s v v' e. alike bench maker c values s ws xs out out' (left_ours bench maker c values ws xs e) v v';
  only_heard = only_heard;
  only_played = λ bench maker c values ws out out' s v.
      alike bench maker c values s ws (only_ours c ws) out out' (left_ours bench maker c values ws (only_ours c ws) (only-ours c ws)) v (only_valid c ws);
}
