-- Both zeros: the laws of the digits, what the two revisions do with them, and why recordings with the one and the other have different
-- normal forms. Assumes nothing.
use mathlib.Core.Path.{◌≡◌, refl, sym, ap, ap₂, ◌∙◌}
use mathlib.Core.Bool.{true, false}
use mathlib.Core.List.{List, [], ◌∷◌, ◌++◌, head-eq_of_cons-eq}
use Prim.Native.Nat.{ℕ}
use native.Mathlib.Omega.{arith}
use borrow.Author.Tests.{eqb-true, eq-eqb}
use lib.Dec.{eqb, lit<}
use lib.IntN.{ℤ}
use lib.ListN.{length}
use Rattle.refusal.specs.Refusal.{gave}
use Rattle.refusal.specs.Check.{Check, first}
use Rattle.refusal.proofs.Lists.{append_cancel}
use Rattle.number.proofs.Reading.{read_written, written_read, read_fits, read_number, only_zero}
use Rattle.message.specs.declared.Message.{Message}
use Rattle.message.specs.Message.{asks_minus_zero, unsigned_zero}
use Rattle.message.proofs.Messages.{unsigned_message, unsigned_other, zero_message}
use Rattle.hearing.specs.declared.Pending.{Pending}
use Rattle.hearing.specs.Hearing.{hear, heard}
use Rattle.hearing.proofs.Quiet.{close_hears}
use Rattle.reply.proofs.Zeros.{minus_zero_refused}
use Rattle.act.specs.declared.Effect.{Effect}
use Rattle.act.specs.declared.causes.Cause.TheVariants.{MinusZero}
use Rattle.act.specs.Cause.{Why, why_of, is_for, because, causes_of_n, up_to_minus_zero, is_one_of}
use Rattle.act.specs.Act.{act, causes_in}
use Rattle.act.proofs.Zeros as zero
use Rattle.card.specs.declared.Card.{Card}
use Rattle.card.specs.Turn.{reply_of, with_both, stored}
use Rattle.card.specs.Calls.{After, revised, kept, WordAnswer, bytes_of, step_call, run_call}
use Rattle.card.proofs.Causes.{why_heard, why_unheard, why_none}
use Rattle.card.proofs.Plays.{left_zeros}
use Rattle.card.proofs.Revised.{run_revised, step_revised}
use Rattle.card.proofs.Sounds.{unknown_revision}
use Rattle.card.proofs.Steps.{card_unsound, step_refused, run_refused, served_step}
use Rattle.card.proofs.Turns.{effects, effect_heard, turn_reply, turn_store, stored_keep}
use Rattle.listing.proofs.Zeros.{lines_apart}
use Rattle.demands.specs.Demand3.{Wrote}
use Rattle.demands.specs.Zeros.{DataExact, DeclinesZero, Revisions, ZerosApart, Zeros}
use Rattle.demands.proofs.Cases.{own_forms, both_revisions}
use Rattle.demands.proofs.Causes.{because_is, by_closed, cause_is, served_is, causes}
use Rattle.demands.proofs.Offers.{turn_offer}
use Rattle.demands.proofs.Recordings.{alike, demand_3}
use Rattle.std.specs.Prelude.{Option, Some}

data_exact : DataExact
data_exact = record {
  read_written = read_written;
  written_read = λ cs x e. (written_read cs x e, read_fits cs x e);
  only_zero = only_zero;
  never_replied = read_number;
  never_read = minus_zero_refused;
}

-- ---- the revisions

unknown : (bench maker : List ℤ) (c : Card) (values : List ℤ) (w : ℕ) (ws out : List ℕ) → (c.setup.revision ≡ 1 → ⊥) → (c.setup.revision ≡ 2 → ⊥)
    → (step_call c bench maker values w out ≡ kept c values out 1) × (run_call c bench maker values ws out ≡ kept c values out 1)
unknown bench maker c values w ws out f g =
    let e = unknown_revision c f g in
    (step_refused c bench maker values w out 1 (card_unsound c bench maker values (w ∷ []) e), run_refused c bench maker values ws out 1 (card_unsound c bench maker values ws e))

module _ (bench maker : List ℤ) (c : Card) (values : List ℤ) (w : ℕ) (out : List ℕ) (s : WordAnswer) (g : (step_call c bench maker values w out).outcome ≡ gave s) where
  -- by the message that the word closes
  answer_by : (m : Message) → (hear c.pending w).message ≡ Some m
      → s ≡ record { bytes = length (reply_of (act bench maker c.setup c.offer values m).said); cause = because (first (causes_in bench maker c.setup c.offer values m)) }
  answer_by m h =
      let said = turn_reply bench maker c values w
      ∙ ap (λ (p : Option Message). reply_of (effects bench maker c values p).said) h
      ∙ ap (λ (e : Effect). reply_of e.said) (effect_heard bench maker c.setup c.offer values m) in
      served_is bench maker c values w out s g ∙ (λ j. record { bytes = length (said j); cause = why_heard bench maker c values w m h j })

  second_declines : (m : Message) → c.setup.revision ≡ 2 → (hear c.pending w).message ≡ Some m → is_for c.setup m ≡ true → asks_minus_zero m.body ≡ true → DeclinesZero bench maker c values w out s
  second_declines m r h its z =
      let d = zero.second_declines c.setup m c.offer bench maker values (eq-eqb c.setup.revision 2 r) its z in
      let y : s.cause ≡ because (first (causes_in bench maker c.setup c.offer values m)) = ap (λ (x : WordAnswer). x.cause) (answer_by m h) in
      let left = (served_step c bench maker values w out s.bytes (ap bytes_of g)).leaves in
      record {
        cause = ap (λ (x : Why). is_one_of x.code up_to_minus_zero) y ∙ d.among;
        says_n = (causes.exact bench maker c values w out s g).declined.1 (ap (λ (x : Why). is_one_of x.code causes_of_n) y ∙ d.of_n);
        keeps =
            ap (λ (a : After WordAnswer). a.values) left
            ∙ ap (stored values) (turn_store bench maker c values w ∙ ap (λ (p : Option Message). (effects bench maker c values p).store) h ∙ ap (λ (e : Effect). e.store) (effect_heard bench maker c.setup c.offer values m) ∙ d.keeps)
            ∙ stored_keep values;
        gone = ap (λ (a : After WordAnswer). a.card.offer) left ∙ turn_offer bench maker c values w m h ∙ d.gone;
      }

  minus_zero_only : s.cause ≡ why_of (Some MinusZero)
      → (c.setup.revision ≡ 2) × ((m : Message) × ((hear c.pending w).message ≡ Some m) × (is_for c.setup m ≡ true) × (asks_minus_zero m.body ≡ true))
  minus_zero_only e =
      let y = sym (cause_is bench maker c values w out s g) ∙ e in
      by_closed bench maker c values w
      (λ m k p.
      let h = close_hears c.pending w k ∙ p in
      let f = (because_is (first (causes_in bench maker c.setup c.offer values m)) 4 (lit< tt)).0 (sym (why_heard bench maker c values w m h) ∙ y) in
      let d = zero.minus_zero_only c.setup m c.offer bench maker values f in
      (eqb-true c.setup.revision 2 d.0, (m, h, d.1, d.2)))
      (λ k p. absurd (omega (arith, ap (λ (x : Why). x.code) (sym (why_unheard bench maker c values w k p) ∙ y))))
      (λ f. absurd (omega (arith, ap (λ (x : Why). x.code) (sym (why_none bench maker c values w f) ∙ y))))

first_word_alike : (bench maker : List ℤ) (c : Card) (p : Pending) (values : List ℤ) (w : ℕ) (out : List ℕ) (s s' : WordAnswer) (m m' : Message) → eqb c.setup.revision 2 ≡ false
    → (step_call c bench maker values w out).outcome ≡ gave s → (step_call (with_both c p c.offer) bench maker values w out).outcome ≡ gave s'
    → (hear c.pending w).message ≡ Some m → (hear p w).message ≡ Some m' → unsigned_zero m ≡ unsigned_zero m' → s ≡ s'
first_word_alike bench maker c p values w out s s' m m' r g g' h h' e =
    let by : Effect → List Check → WordAnswer = λ x cs. record { bytes = length (reply_of x.said); cause = because (first cs) } in
    let same-act = sym (zero.zeros_act c.setup m r c.offer bench maker values) ∙ ap (act bench maker c.setup c.offer values) e ∙ zero.zeros_act c.setup m' r c.offer bench maker values in
    let same_tests = sym (zero.zeros_cause c.setup m r c.offer bench maker values) ∙ ap (causes_in bench maker c.setup c.offer values) e ∙ zero.zeros_cause c.setup m' r c.offer bench maker values in
    answer_by bench maker c values w out s g m h ∙ ap₂ by same-act same_tests ∙ sym (answer_by bench maker (with_both c p c.offer) values w out s' g' m' h')

first_not_second : (n : ℕ) → n ≡ 1 → eqb n 2 ≡ false
first_not_second n e = rw e refl

revisions : Revisions
revisions = record {
  unknown = unknown;
  first_alike = λ bench maker c values ws xs out out' s r v v' e.
      alike bench maker c values s ws xs out out' (left_zeros bench maker c values ws xs (first_not_second c.setup.revision r) e) v v';
  first_word_alike = λ bench maker c p values w out s s' m m' r. first_word_alike bench maker c p values w out s s' m m' (first_not_second c.setup.revision r);
  second_declines = λ bench maker c values w out s m g. second_declines bench maker c values w out s g m;
  minus_zero_only = λ bench maker c values w out s g. minus_zero_only bench maker c values w out s g;
  run_agrees = λ bench maker c values ws out e. run_revised 2 bench maker (revised 1 c) values both_revisions ws out e;
  word_agrees = λ bench maker c values w out e. step_revised 2 bench maker (revised 1 c) values both_revisions w out e;
}

-- ---- demand 3

two_forms : (a b out out' xs ys : List ℕ) (before behind : List Message) (m : Message) → Wrote a out xs → Wrote b out' ys → asks_minus_zero m.body ≡ true
    → heard a ≡ before ++ (m ∷ behind) → heard b ≡ before ++ (unsigned_zero m ∷ behind) → xs ≡ ys → ⊥
two_forms a b out out' xs ys before behind m p q z h k e =
    let same : heard a ≡ heard b = (demand_3.same a b out out' xs ys p q).0 e in
    unsigned_other m z (head-eq_of_cons-eq (append_cancel before (sym h ∙ same ∙ k)))

zeros_apart : ZerosApart
zeros_apart = record {
  both_messages = zero_message;
  zero_too = unsigned_message;
  two_messages = unsigned_other;
  two_forms = two_forms;
  two_lines = lines_apart;
  own_forms = own_forms;
}

pub zeros : Zeros
zeros = record { data_exact = data_exact; revisions = revisions; zeros_apart = zeros_apart }
