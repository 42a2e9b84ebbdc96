-- Demand 1: what a call comes to by the first of its tests that holds, over any call. Assumes nothing.
use Rattle.card.specs.declared.Took.{Took}
use mathlib.Core.Path.{◌≡◌, refl, sym, ap, ◌∙◌, subst}
use mathlib.Core.Bool.{not}
use mathlib.Core.List.{List, [], ◌∷◌}
use Prim.Native.Nat.{ℕ}
use lib.ListN.{length}
use Rattle.refusal.specs.Refusal.{Outcome, refused, gave}
use Rattle.refusal.specs.Check.{Check, refuse_if, first, decided}
use Rattle.refusal.specs.Call.{Call, refuses, room_for, writes}
use Rattle.refusal.specs.declared.Refusal.TheVariants.{WordAbove256, NotReply, NotMessage}
use Rattle.refusal.proofs.Checks.{refused_gave, refused_is, first_given, given_first, first_passed, passed_first, by_first}
use Rattle.refusal.proofs.Calls.{by, writes_is}
use Rattle.wire.specs.Word.{travelling, valid_words}
use Rattle.message.specs.Message.{is_message}
use Rattle.message.specs.Spell.{spell}
use Rattle.message.proofs.Spelling.{write_is}
use Rattle.hearing.specs.Normal.{normal}
use Rattle.hearing.proofs.Normal.{normal_is}
use Rattle.reply.specs.declared.Answer.{Answer}
use Rattle.reply.specs.Read.{is_reply, characters_of, guess}
use Rattle.reply.proofs.Reader.{read_is}
use Rattle.card.specs.Turn.{turn, play}
use Rattle.card.specs.Refusals.{card_checks, step_checks}
use Rattle.card.specs.Cause.{why_to}
use Rattle.card.specs.Calls.{After, kept, WordAnswer, answered, ended}
use Rattle.card.proofs.Steps.{step_is, run_is}
use Rattle.listing.specs.Line.{line}
use Rattle.listing.proofs.Calls.{line_is}
use Rattle.bus.specs.Refusals.{bus_checks}
use Rattle.bus.specs.Calls as bus
use Rattle.bus.specs.Rows.{RowsAfter, cards_of, rows_checks}
use Rattle.bus.proofs.Sharing.{plays, bus_is, rows_kept, rows_ended, rows_is}
use Rattle.demands.specs.Demand1.{Refuses, Kept, Demand1}

-- a call that keeps everything with a number, or serves
module _ {A S : Type 0} (outcome : S → Outcome A) (Unchanged : S → Type 0) (checks : List Check) (keeps : ℕ → S) (serves : S) (x : A)
    (numbered : (n : ℕ) → outcome (keeps n) ≡ refused n) (unchanged : (n : ℕ) → Unchanged (keeps n)) (gives : outcome serves ≡ gave x) where
  abbrev comes : Outcome (Unit {0}) → S
  comes o = decided o keeps serves

  refuses_by : Refuses (outcome (comes (first checks))) checks (Unchanged (comes (first checks)))
  refuses_by =
      by_first checks
      (λ k r.
      let d : comes (first checks) ≡ keeps k = ap comes r in
      let e : outcome (comes (first checks)) ≡ refused k = ap outcome d ∙ numbered k in
      record {
        number = λ n. (
          λ q. first_given n checks (r ∙ ap refused (refused_is (sym e ∙ q))),
          λ g. e ∙ ap refused (refused_is (sym r ∙ given_first n checks g)),
        );
        served = (λ s. absurd (refused_gave (sym e ∙ s.1)), λ p. absurd (refused_gave (sym r ∙ passed_first checks p)));
        unchanged = λ n q. subst Unchanged (sym d) (unchanged k);
      })
      (λ p.
      let e : outcome (comes (first checks)) ≡ gave x = ap (λ (o : Outcome (Unit {0})). outcome (comes o)) p ∙ gives in
      record {
        number = λ n. (λ q. absurd (refused_gave (sym q ∙ e)), λ g. absurd (refused_gave (sym (given_first n checks g) ∙ p)));
        served = (λ s. first_passed checks p, λ q. (x, e));
        unchanged = λ n q. absurd (refused_gave (sym q ∙ e));
      })

  pub refuses_decided : {s : S} → s ≡ comes (first checks) → Refuses (outcome s) checks (Unchanged s)
  refuses_decided e = subst (λ (s : S). Refuses (outcome s) checks (Unchanged s)) (sym e) refuses_by

-- a call that writes xs into its buffer behind one test
module _ (check : Check) (xs out : List ℕ) where
  written : {s : Call} → s ≡ writes (check ∷ []) xs out → Refuses s.outcome (check ∷ room_for xs out ∷ []) (s.buffer ≡ out)
  written e =
      refuses_decided (λ (s : Call). s.outcome) (λ (s : Call). s.buffer ≡ out) (check ∷ room_for xs out ∷ []) (refuses out) (by xs out (gave tt)) (length xs)
      (λ n. refl) (λ n. refl) refl (e ∙ writes_is xs out (check ∷ []))

pub demand_1 : Demand1
demand_1 = record {
  step = λ c bench maker values w out.
      let t = turn bench maker c values w in
      let y = why_to bench maker c values w in
      refuses_decided (λ (s : After WordAnswer). s.outcome) (λ (s : After WordAnswer). Kept s c values out) (step_checks c bench maker values w out) (kept c values out) (answered t y values out) (record { bytes = length t.reply; cause = y })
      (λ n. refl) (λ n. (refl, refl, refl)) refl (step_is c bench maker values w out);
  run = λ c bench maker values ws out.
      let p = play bench maker c values (length out) ws in
      refuses_decided (λ (s : After Took). s.outcome) (λ (s : After Took). Kept s c values out) (card_checks c bench maker values ws) (kept c values out) (ended p out) (record { words = p.taken; bytes = length p.bytes })
      (λ n. refl) (λ n. (refl, refl, refl)) refl (run_is c bench maker values ws out);
  write = λ m out. written (refuse_if (not (is_message m)) NotMessage) (travelling (spell m)) out (write_is m out);
  normal_form = λ ws out. written (refuse_if (not (valid_words ws)) WordAbove256) (normal ws) out (normal_is ws out);
  line = λ at m out. written (refuse_if (not (is_message m)) NotMessage) (line at m) out (line_is at m out);
  read = λ bs.
      refuses_decided (λ (o : Outcome Answer). o) (λ (o : Outcome Answer). Unit {0}) (refuse_if (not (is_reply bs)) NotReply ∷ []) refused (gave (guess (characters_of bs))) (guess (characters_of bs))
      (λ n. refl) (λ n. tt) refl (read_is bs);
  bus = λ cs bench maker values ws out.
      let p = plays cs bench maker values ws out in
      refuses_decided (λ (s : bus.After). s.outcome) (λ (s : bus.After). (s.cards ≡ cs) × (s.values ≡ values) × (s.buffer ≡ out)) (bus_checks cs bench maker values ws) (bus.kept cs values out) (bus.ended p out) (record { words = p.taken; bytes = length p.bytes })
      (λ n. refl) (λ n. (refl, refl, refl)) refl (bus_is cs bench maker values ws out);
  bus_rows = λ numbers bench maker values ws out.
      let p = plays (cards_of numbers) bench maker values ws out in
      refuses_decided (λ (s : RowsAfter). s.outcome) (λ (s : RowsAfter). (s.numbers ≡ numbers) × (s.values ≡ values) × (s.buffer ≡ out)) (rows_checks numbers bench maker values ws) (rows_kept numbers values out) (rows_ended numbers bench maker values ws out) (record { words = p.taken; bytes = length p.bytes })
      (λ n. refl) (λ n. (refl, refl, refl)) refl (rows_is numbers bench maker values ws out);
}
