-- The cause that the call gives: exactly when its test holds and none before it does; the position is that of the first character that no
-- well-formed message could have there; and the reply is `N`, and silence, exactly with its causes. Assumes nothing.
use mathlib.Core.Path.{◌≡◌, refl, sym, ap, ◌∙◌, subst}
use mathlib.Core.Logic.{◌↔◌}
use mathlib.Core.Bool.{true, ◌||◌}
use mathlib.Core.List.{List, [], ◌∷◌}
use Prim.Native.Nat.{ℕ, ◌<◌, ◌≤◌}
use native.Mathlib.Omega.{arith}
use borrow.Author.Tests.{eqb-true}
use lib.Dec.{eqb}
use lib.IntN.{ℤ}
use lib.ListN.{length, take}
use Rattle.refusal.specs.Refusal.{Outcome, refused, gave}
use Rattle.refusal.proofs.Logic.{or_cases, below}
use Rattle.refusal.specs.Check.{Check, first}
use Rattle.refusal.proofs.Checks.{refused_gave, refused_is, gave_is, first_given, given_first, first_passed, passed_first, by_first, first_among}
use Rattle.wire.proofs.Words.{valid_first, travelling_length}
use Rattle.message.specs.declared.Message.{Message}
use Rattle.message.specs.Prefix.{parse}
use Rattle.message.specs.Position.{position, WellFormed, Impossible}
use Rattle.message.proofs.Messages.{Plain}
use Rattle.message.proofs.Completion.{position_is, position_only, well_formed, well_formed_heard, well_formed_is, position_least, position_most}
use Rattle.hearing.specs.declared.Action.{Action}
use Rattle.hearing.specs.declared.Action.TheVariants.{Ignore, Open, Add, Close, Drop}
use Rattle.hearing.specs.Hearing.{open_of, action_of, hear}
use Rattle.hearing.proofs.Quiet.{close_hears, heard_close}
use Rattle.hearing.proofs.Sound.{open_plain, open_most, open_begins}
use Rattle.reply.specs.declared.Answer.{Answer}
use Rattle.reply.specs.declared.Mark.TheVariants.{Declined}
use Rattle.reply.specs.Read.{read_call}
use Rattle.reply.specs.Reply.{spell_answer}
use Rattle.reply.proofs.Spelled.{answer_some}
use Rattle.reply.proofs.Reader.{read_exact}
use Rattle.act.specs.declared.causes.Cause.TheVariants.{NoMessageClosed, NotWellFormed}
use Rattle.act.specs.Cause.{Why, why, why_of, because, causes_of_n, silences, is_one_of}
use Rattle.act.specs.Act.{causes_in}
use Rattle.act.proofs.Fits.{code_ends, Fits}
use Rattle.card.specs.declared.Card.{Card}
use Rattle.card.specs.Turn.{turn}
use Rattle.card.specs.Cause.{why_to}
use Rattle.card.specs.Calls.{After, WordAnswer, bytes_of, step_call}
use Rattle.card.proofs.Causes.{closed_heard, why_heard, why_close, why_unheard, why_none, word_fits}
use Rattle.card.proofs.Steps.{StepServed, served_step, passed_sound}
use Rattle.card.proofs.Sounds.{card_parts}
use Rattle.demands.specs.Terms.{Sound, said_to}
use Rattle.demands.specs.Causes.{every_cause, is_among, Closes, as_sent, Gives, CauseExact, Causes}
use Rattle.demands.proofs.Answers.{reply_reads, reply_silent}
use Rattle.demands.proofs.Cases.{each_drawn, all_cases, tests_known, none_known, open_known, places_known}
use Rattle.std.specs.Prelude.{None, Option, Some}

-- ---- codes

-- a code is given exactly when it is the number of the first test that holds
pub because_is : (o : Outcome (Unit {0})) (n : ℕ) → 0 < n → (because o ≡ why n 0) ↔ (o ≡ refused n)
because_is (refused k) n h = (λ e. ap refused (ap (λ (y : Why). y.code) e), λ e. ap (λ (j : ℕ). why j 0) (refused_is e))
because_is (gave tt) n h = (λ e. absurd (omega (arith, ap (λ (y : Why). y.code) e)), λ e. absurd (refused_gave (sym e)))

-- none is given exactly when no test holds
abbrev Alike : Outcome (Unit {0}) → Type 0
Alike o = (because o ≡ why_of None) ↔ (o ≡ gave tt)

some : (n : ℕ) → 0 < n → Alike (refused n)
some n h = (λ e. absurd (omega (arith, ap (λ (y : Why). y.code) e)), λ e. absurd (refused_gave e))

-- every position from 1 to 9 is one of a cause
place_known : (p : ℕ) → 1 ≤ p → p ≤ 9 → is_among (why_of (Some (NotWellFormed p))) every_cause ≡ true
place_known p l h =
    or_cases (eqb p 0) (is_among (why_of (Some (NotWellFormed p))) every_cause)
    (below 10 (λ (k : ℕ). eqb k 0 || is_among (why_of (Some (NotWellFormed k))) every_cause) places_known p (omega arith))
    (λ t. absurd (omega (arith, eqb-true p 0 t))) (λ t. t)

module _ (bench maker : List ℤ) (c : Card) (values : List ℤ) where
  abbrev tests : Message → List Check
  tests m = causes_in bench maker c.setup c.offer values m

  -- no code of a test is 0
  none_is : (m : Message) → Alike (first (tests m))
  none_is m = by_first (tests m) (λ n e. rw e (some n (code_ends bench maker c.setup c.offer values m n e).0)) (λ e. rw e (λ q. refl, λ q. refl))

  zero_is : (m : Message) → (because (first (tests m))).code ≡ 0 → because (first (tests m)) ≡ why_of None
  zero_is m =
      by_first (tests m)
      (λ n e. rw e (λ q. absurd (omega (arith, q, (code_ends bench maker c.setup c.offer values m n e).0))))
      (λ e. rw e (λ q. refl))

  -- nor any above 8
  test_below : (m : Message) → (because (first (tests m))).code ≤ 8
  test_below m =
      by_first (tests m) (λ n e. rw e (omega (arith, (code_ends bench maker c.setup c.offer values m n e).1))) (λ e. rw e (omega arith))

  test_known : (m : Message) → is_among (because (first (tests m))) every_cause ≡ true
  test_known m =
      by_first (tests m)
      (λ n e. rw e (first_among (λ (k : ℕ). is_among (why k 0) every_cause) (tests m) n (tests_known bench maker c.setup c.offer values m) e))
      (λ e. rw e none_known)

  -- ---- a word by what it closes

  module _ (w : ℕ) where
    pub by_closed : {X : Type 0} → ((m : Message) → Closes c w → parse (open_of c.pending) ≡ Some m → X) → (Closes c w → parse (open_of c.pending) ≡ None → X) → ((Closes c w → ⊥) → X) → X
    by_closed {X} heard unheard none = go (action_of c.pending w) refl
      where
        mark : Action → ℕ
        mark Ignore = 0
        mark (Open x) = 0
        mark (Add x) = 0
        mark Close = 1
        mark Drop = 0

        other : (a : Action) → mark a ≡ 0 → action_of c.pending w ≡ a → Closes c w → ⊥
        other a z e k = omega (arith, sym (ap mark k) ∙ ap mark e ∙ z)

        ended : (q : Option Message) → parse (open_of c.pending) ≡ q → Closes c w → X
        ended (Some m) h k = heard m k h
        ended None h k = unheard k h

        go : (a : Action) → action_of c.pending w ≡ a → X
        go Ignore e = none (other Ignore refl e)
        go (Open x) e = none (other (Open x) refl e)
        go (Add x) e = none (other (Add x) refl e)
        go Close e = ended (parse (open_of c.pending)) refl e
        go Drop e = none (other Drop refl e)

    -- its code, where a message is heard: none above 8
    heard_code : (m : Message) → Closes c w → parse (open_of c.pending) ≡ Some m → (why_to bench maker c values w).code ≤ 8
    heard_code m k h =
        rw (why_close bench maker c values w k ∙ closed_heard bench maker c.setup c.offer values (open_of c.pending) (parse (open_of c.pending)) m h) (test_below m)

    -- with the code 0 it is none
    zero_none : (why_to bench maker c values w).code ≡ 0 → why_to bench maker c values w ≡ why_of None
    zero_none e =
        by_closed
        (λ m k h.
        let y = why_close bench maker c values w k ∙ closed_heard bench maker c.setup c.offer values (open_of c.pending) (parse (open_of c.pending)) m h in
        y ∙ zero_is m (sym (ap (λ (z : Why). z.code) y) ∙ e))
        (λ k h. absurd (omega (arith, ap (λ (y : Why). y.code) (why_unheard bench maker c values w k h), e)))
        (λ f. absurd (omega (arith, ap (λ (y : Why). y.code) (why_none bench maker c values w f), e)))

    -- ---- a call that is served

    module _ (out : List ℕ) (s : WordAnswer) (g : Gives bench maker c values w out s) where
      abbrev step_made : StepServed c bench maker values w out
      step_made = served_step c bench maker values w out s.bytes (ap bytes_of g)

      sound : Sound bench maker c values
      sound =
          let p = passed_sound c bench maker values (w ∷ []) step_made.passed in
          record { card_sound = p.card_sound; sheets_sound = p.sheets_sound; offer_sound = p.offer_sound; scan_sound = p.scan_sound; values_sound = p.values_sound }

      small : w ≤ 256
      small = (valid_first w [] (passed_sound c bench maker values (w ∷ []) step_made.passed).words_valid).0

      pub served_is : s ≡ record { bytes = length (turn bench maker c values w).reply; cause = why_to bench maker c values w }
      served_is = gave_is (sym g ∙ ap (λ (a : After WordAnswer). a.outcome) step_made.leaves)

      pub cause_is : s.cause ≡ why_to bench maker c values w
      cause_is = ap (λ (x : WordAnswer). x.cause) served_is

      code-is : (n p : ℕ) → s.cause ≡ why n p → (why_to bench maker c values w).code ≡ n
      code-is n p e = ap (λ (y : Why). y.code) (sym cause_is ∙ e)

      plain : Plain (open_of c.pending)
      plain = open_plain c.pending (card_parts c sound.card_sound).is_open

      no_message_is : (s.cause ≡ why_of (Some NoMessageClosed)) ↔ (Closes c w → ⊥)
      no_message_is = (
        λ e. by_closed
            (λ m k h. absurd (omega (arith, heard_code m k h, code-is 9 0 e)))
            (λ k h. absurd (omega (arith, ap (λ (y : Why). y.code) (why_unheard bench maker c values w k h), code-is 9 0 e)))
            (λ f. f),
        λ f. cause_is ∙ why_none bench maker c values w f,
      )

      position_of : (p : ℕ) → (s.cause ≡ why_of (Some (NotWellFormed p))) ↔ (Closes c w × Impossible (as_sent c) p)
      position_of p = (
        λ e. by_closed
            (λ m k h. absurd (omega (arith, heard_code m k h, code-is 10 p e)))
            (λ k h.
            let q : position (open_of c.pending) ≡ p = ap (λ (y : Why). y.position) (sym (why_unheard bench maker c values w k h) ∙ sym cause_is ∙ e) in
            (k, subst (Impossible (as_sent c)) q (position_is (open_of c.pending) plain h)))
            (λ f. absurd (omega (arith, ap (λ (y : Why). y.code) (why_none bench maker c values w f), code-is 10 p e))),
        λ i.
            let o = position_only (open_of c.pending) plain p i.1 in
            cause_is ∙ why_unheard bench maker c values w i.0 o.0 ∙ ap (λ (n : ℕ). why_of (Some (NotWellFormed n))) (sym o.1),
      )

      place_ends : Closes c w → parse (open_of c.pending) ≡ None → (1 ≤ position (open_of c.pending)) × (position (open_of c.pending) ≤ 9)
      place_ends k h =
          let b = open_begins c.pending w (card_parts c sound.card_sound).is_open k in (
            subst (λ (xs : List ℕ). 1 ≤ position xs) (sym b.is) (position_least b.letter b.rest b.is-letter),
            position_most (open_of c.pending) (open_most c.pending (card_parts c sound.card_sound).is_open) h,
          )

      ends : (p : ℕ) → s.cause ≡ why_of (Some (NotWellFormed p)) → (1 ≤ p) × (p ≤ 9)
      ends p e =
          let i = (position_of p).0 e in
          let o = position_only (open_of c.pending) plain p i.1 in
          let b = place_ends i.0 o.0 in
          (omega (arith, o.1, b.0), omega (arith, o.1, b.1))

      known_is : is_among s.cause every_cause ≡ true
      known_is =
          rw cause_is
          (by_closed
          (λ m k h. rw (why_close bench maker c values w k ∙ closed_heard bench maker c.setup c.offer values (open_of c.pending) (parse (open_of c.pending)) m h) (test_known m))
          (λ k h. let b = place_ends k h in rw (why_unheard bench maker c values w k h) (place_known (position (open_of c.pending)) b.0 b.1))
          (λ f. rw (why_none bench maker c values w f) open_known))

      heard_is : ((m : Message) × ((hear c.pending w).message ≡ Some m)) ↔ (Closes c w × WellFormed (as_sent c))
      heard_is = (
        λ d.
            let k = heard_close c.pending w d.0 d.1 in
            (k, well_formed (open_of c.pending) plain d.0 (sym (close_hears c.pending w k) ∙ d.1)),
        λ d. let h = well_formed_heard (open_of c.pending) plain d.1 in (h.0, close_hears c.pending w d.0 ∙ h.1),
      )

      -- ---- what is said

      fits : Fits (said_to bench maker c values w) s.cause.code
      unfolding said_to
      fits = subst (λ (y : Why). Fits (said_to bench maker c values w) y.code) (sym cause_is) (word_fits bench maker c values w)

      abbrev buffer : List ℕ
      buffer = (step_call c bench maker values w out).buffer

      count-is : {n : ℕ} → bytes_of (step_call c bench maker values w out).outcome ≡ gave n → s.bytes ≡ n
      count-is e = gave_is (sym (ap bytes_of g) ∙ e)

      -- a reply is read as what was said, and has some bytes; silence has none, and nothing is read in it
      replied : (a : Answer) → said_to bench maker c values w ≡ Some a → (read_call (take s.bytes buffer) ≡ gave a) × (0 < s.bytes)
      replied a e =
          let r = reply_reads bench maker c values w out sound small step_made.room a e in
          let n = count-is r.0 in
          (ap (λ (k : ℕ). read_call (take k buffer)) n ∙ r.1, omega (arith, n, answer_some a))

      quiet : said_to bench maker c values w ≡ None → s.bytes ≡ 0
      quiet e = count-is (reply_silent bench maker c values w out sound small step_made.room e).0

      nothing_read : (a : Answer) → read_call [] ≡ gave a → ⊥
      nothing_read a e = omega (arith, ap length (read_exact [] a e).1, travelling_length (spell_answer a), answer_some a)

      by_said : {X : Type 0} → ((a : Answer) → said_to bench maker c values w ≡ Some a → X) → (said_to bench maker c values w ≡ None → X) → X
      by_said {X} reply silence = go (said_to bench maker c values w) refl
        where
          go : (x : Option Answer) → said_to bench maker c values w ≡ x → X
          go (Some a) e = reply a e
          go None e = silence e

      declined_is : ((a : Answer) × (read_call (take s.bytes buffer) ≡ gave a) × (a.mark ≡ Declined)) ↔ (is_one_of s.cause.code causes_of_n ≡ true)
      declined_is = (
        λ d. by_said
            (λ a e.
            let q : a ≡ d.0 = gave_is (sym (replied a e).0 ∙ d.1) in
            fits.declined.0 (a, e, ap (λ (x : Answer). x.mark) q ∙ d.2))
            (λ e. absurd (nothing_read d.0 (sym (ap (λ (n : ℕ). read_call (take n buffer)) (quiet e)) ∙ d.1))),
        λ t. let d = fits.declined.1 t in (d.0, (replied d.0 d.1).0, d.2),
      )

      accepted_is : ((a : Answer) × (read_call (take s.bytes buffer) ≡ gave a) × (a.mark ≡ Declined → ⊥)) ↔ (s.cause ≡ why_of None)
      accepted_is = (
        λ d. by_said
            (λ a e.
            let q : a ≡ d.0 = gave_is (sym (replied a e).0 ∙ d.1) in
            cause_is ∙ zero_none (sym (ap (λ (y : Why). y.code) cause_is) ∙ fits.accepted.0 (a, e, λ k. d.2 (sym (ap (λ (x : Answer). x.mark) q) ∙ k))))
            (λ e. absurd (nothing_read d.0 (sym (ap (λ (n : ℕ). read_call (take n buffer)) (quiet e)) ∙ d.1))),
        λ t. let d = fits.accepted.1 (ap (λ (y : Why). y.code) t) in (d.0, (replied d.0 d.1).0, d.2),
      )

      silent_is : (s.bytes ≡ 0) ↔ (is_one_of s.cause.code silences ≡ true)
      silent_is = (
        λ z. by_said (λ a e. absurd (omega (arith, z, (replied a e).1))) (λ e. fits.silent.0 e),
        λ t. quiet (fits.silent.1 t),
      )

      exact : CauseExact bench maker c values w out s
      exact = record {
        known = known_is;
        heard = heard_is;
        given = λ m n e h.
            let y = why_heard bench maker c values w m e in
            let b = because_is (first (tests m)) n h in
            (λ q. first_given n (tests m) (b.0 (sym (cause_is ∙ y) ∙ q)), λ t. cause_is ∙ y ∙ b.1 (given_first n (tests m) t));
        none = λ m e.
            let y = why_heard bench maker c values w m e in
            let b = none_is m in
            (λ q. first_passed (tests m) (b.0 (sym (cause_is ∙ y) ∙ q)), λ t. cause_is ∙ y ∙ b.1 (passed_first (tests m) t));
        no_message = no_message_is;
        position = position_of;
        position_ends = ends;
        well_formed = well_formed_is (open_of c.pending) plain;
        accepted = accepted_is;
        declined = declined_is;
        silent = silent_is;
      }

pub causes : Causes
causes = record {
  exact = λ bench maker c values w out s g. exact bench maker c values w out s g;
  same = λ bench maker c values w out out' s s' g g'. served_is bench maker c values w out s g ∙ sym (served_is bench maker c values w out' s' g');
  each = each_drawn;
  all = all_cases;
}
