-- The tests of a call in their order, by those that led there, and what a call comes to by them. Assumes nothing.
use mathlib.Core.Path.{◌≡◌, refl, sym, ap, ◌∙◌}
use mathlib.Core.Bool.{Bool, true, false, not, ◌&&◌}
use mathlib.Core.List.{List, [], ◌∷◌}
use Prim.Native.Nat.{ℕ, ◌<◌, ◌≤◌}
use borrow.Author.Tests.{lt-ltb, le-ltb, ltb-true, ltb-false}
use lib.Dec.{ltb}
use lib.IntN.{ℤ}
use lib.ListN.{length}
use Rattle.refusal.specs.Refusal.{Outcome, refused, gave}
use Rattle.refusal.specs.Check.{Check, first, decided}
use Rattle.refusal.proofs.Logic.{and_left, and_right, by-test}
use Rattle.refusal.proofs.Buffers.{laid_nothing}
use Rattle.refusal.proofs.Checks.{refused_gave, first_holds, first_passes, first_none, append_refused, append_passed, by_first}
use Rattle.wire.specs.Word.{valid_words}
use Rattle.reply.specs.Reply.{longest_reply}
use Rattle.sheet.specs.Sheet.{sound_sheet}
use Rattle.sheet.specs.Values.{sound_values}
use Rattle.card.specs.declared.Card.{Card}
use Rattle.refusal.specs.declared.Refusal.TheVariants.{RoomTooShort}
use Rattle.act.specs.Cause.{Why}
use Rattle.card.specs.Cause.{why_to}
use Rattle.card.specs.Turn.{turn, stored, play}
use Rattle.card.proofs.Turns.{stays}
use Rattle.card.specs.Refusals.{sound_card, sound_offer, sound_scan, card_checks, room_check, step_checks}
use Rattle.card.specs.Calls.{After, kept, WordAnswer, bytes_of, step_after, answered, step_call, ended, run_call}
use Rattle.std.specs.Prelude.{Err}

-- a test that is passed
passes : {b : Bool} → b ≡ true → not b ≡ false
passes e = rw e

-- ---- the tests that every call on a card begins with

module _ (c : Card) (bench maker values : List ℤ) (ws : List ℕ) where
  abbrev pub outcome : Outcome (Unit {0})
  outcome = first (card_checks c bench maker values ws)

  pub card_unsound : sound_card c ≡ false → outcome ≡ refused 1
  unfolding card_checks first
  card_unsound e = rw e

  module _ (p : sound_card c ≡ true) where
    pub sheet_unsound : (sound_sheet bench && sound_sheet maker) ≡ false → outcome ≡ refused 2
    unfolding card_checks first
    sheet_unsound e = rw (p, e)

    module _ (q : (sound_sheet bench && sound_sheet maker) ≡ true) where
      pub offer_unsound : sound_offer bench maker c.offer ≡ false → outcome ≡ refused 1
      unfolding card_checks first
      offer_unsound e = rw (p, q, e)

      module _ (r : sound_offer bench maker c.offer ≡ true) where
        pub scan_unsound : sound_scan bench maker c.setup ≡ false → outcome ≡ refused 1
        unfolding card_checks first
        scan_unsound e = rw (p, q, r, e)

        module _ (n : sound_scan bench maker c.setup ≡ true) where
          pub values_unsound : sound_values bench maker values ≡ false → outcome ≡ refused 3
          unfolding card_checks first
          values_unsound e = rw (p, q, r, n, e)

          module _ (s : sound_values bench maker values ≡ true) where
            pub word_above : valid_words ws ≡ false → outcome ≡ refused 4
            unfolding card_checks first
            word_above e = rw (p, q, r, n, s, e)

            pub all_sound : valid_words ws ≡ true → outcome ≡ gave tt
            unfolding card_checks first
            all_sound e = rw (p, q, r, n, s, e)

  -- what a call that passed has
  pub record Passes : Type 0 where
    pub card_sound : sound_card c ≡ true
    pub sheets_sound : (sound_sheet bench && sound_sheet maker) ≡ true
    pub offer_sound : sound_offer bench maker c.offer ≡ true
    pub scan_sound : sound_scan bench maker c.setup ≡ true
    pub values_sound : sound_values bench maker values ≡ true
    pub words_valid : valid_words ws ≡ true

  pub passed_sound : outcome ≡ gave tt → Passes
  passed_sound e =
      by-test (sound_card c)
      (λ p. by-test (sound_sheet bench && sound_sheet maker)
      (λ q. by-test (sound_offer bench maker c.offer)
      (λ r. by-test (sound_scan bench maker c.setup)
      (λ n. by-test (sound_values bench maker values)
      (λ s. by-test (valid_words ws)
      (λ t. record { card_sound = p; sheets_sound = q; offer_sound = r; scan_sound = n; values_sound = s; words_valid = t })
      (λ t. absurd (refused_gave (sym (word_above p q r n s t) ∙ e))))
      (λ s. absurd (refused_gave (sym (values_unsound p q r n s) ∙ e))))
      (λ n. absurd (refused_gave (sym (scan_unsound p q r n) ∙ e))))
      (λ r. absurd (refused_gave (sym (offer_unsound p q r) ∙ e))))
      (λ q. absurd (refused_gave (sym (sheet_unsound p q) ∙ e))))
      (λ p. absurd (refused_gave (sym (card_unsound p) ∙ e)))

  pub sheets_passed : outcome ≡ gave tt → (sound_sheet bench ≡ true) × (sound_sheet maker ≡ true)
  sheets_passed e =
      let q = (passed_sound e).sheets_sound in
      (and_left (sound_sheet bench) (sound_sheet maker) q, and_right (sound_sheet bench) (sound_sheet maker) q)

-- ---- room for a single word's reply

pub room_short : (out : List ℕ) → length out < longest_reply → first (room_check out ∷ []) ≡ refused 5
room_short out h = first_holds (room_check out) [] (lt-ltb (length out) longest_reply h)

pub room_enough : (out : List ℕ) → longest_reply ≤ length out → first (room_check out ∷ []) ≡ gave tt
room_enough out h = first_passes (room_check out) [] (le-ltb (length out) longest_reply h) ∙ first_none

-- a word refused for want of room, as the code gives it
pub short_taken : (c : Card) (bench maker values : List ℤ) (w : ℕ) (out : List ℕ) → length out < longest_reply
    → decided (first (room_check out ∷ [])) (kept c values out) (answered (turn bench maker c values w) (why_to bench maker c values w) values out) ≡ step_after (record { card = c; answer = Err RoomTooShort }) values out
short_taken c bench maker values w out h = rw (room_short out h)

-- ---- the calls

module _ (c : Card) (bench maker values : List ℤ) (w : ℕ) (out : List ℕ) where
  abbrev checks : List Check
  checks = card_checks c bench maker values (w ∷ [])

  -- by the first of its tests that holds
  pub step_is : step_call c bench maker values w out ≡ decided (first (step_checks c bench maker values w out)) (kept c values out) (answered (turn bench maker c values w) (why_to bench maker c values w) values out)
  unfolding step_call
  step_is = refl

  pub step_refused : (n : ℕ) → first checks ≡ refused n → step_call c bench maker values w out ≡ kept c values out n
  unfolding step_call step_checks
  step_refused n e = rw (append_refused checks (room_check out ∷ []) n e)

  pub step_passed : first checks ≡ gave tt → step_call c bench maker values w out ≡ decided (first (room_check out ∷ [])) (kept c values out) (answered (turn bench maker c values w) (why_to bench maker c values w) values out)
  unfolding step_call step_checks
  step_passed e = rw (append_passed checks (room_check out ∷ []) e)

  -- it is served exactly where its tests are passed and there is room
  pub step_served : first checks ≡ gave tt → longest_reply ≤ length out → step_call c bench maker values w out ≡ answered (turn bench maker c values w) (why_to bench maker c values w) values out
  step_served e h = step_passed e ∙ rw (room_enough out h)

  pub record StepServed : Type 0 where
    pub passed : first checks ≡ gave tt
    pub room : longest_reply ≤ length out
    pub leaves : step_call c bench maker values w out ≡ answered (turn bench maker c values w) (why_to bench maker c values w) values out

  pub served_step : (n : ℕ) → bytes_of (step_call c bench maker values w out).outcome ≡ gave n → StepServed
  served_step n e =
      by_first checks
      (λ k r. absurd (refused_gave (sym (ap (λ (s : After WordAnswer). bytes_of s.outcome) (step_refused k r)) ∙ e)))
      (λ p.
      by-test (ltb (length out) longest_reply)
      (λ t.
      let s : step_call c bench maker values w out ≡ kept c values out 5 = step_passed p ∙ rw (room_short out (ltb-true _ _ t)) in
      absurd (refused_gave (sym (ap (λ (s : After WordAnswer). bytes_of s.outcome) s) ∙ e)))
      (λ t. let h = ltb-false _ _ t in record { passed = p; room = h; leaves = step_served p h }))

module _ (c : Card) (bench maker values : List ℤ) (ws out : List ℕ) where
  pub run_is : run_call c bench maker values ws out ≡ decided (first (card_checks c bench maker values ws)) (kept c values out) (ended (play bench maker c values (length out) ws) out)
  unfolding run_call
  run_is = refl

  pub run_refused : (n : ℕ) → first (card_checks c bench maker values ws) ≡ refused n → run_call c bench maker values ws out ≡ kept c values out n
  unfolding run_call
  run_refused n e = rw e

  pub run_served : first (card_checks c bench maker values ws) ≡ gave tt → run_call c bench maker values ws out ≡ ended (play bench maker c values (length out) ws) out
  unfolding run_call
  run_served e = rw e

-- ---- what a word that is served leaves, as the code has it

-- a word that draws nothing and stores nothing
pub quiet_answered : (c : Card) (y : Why) (values : List ℤ) (out : List ℕ) → record { card = c; outcome = gave (record { bytes = 0; cause = y }); values = values; buffer = out } ≡ answered (stays c) y values out
unfolding stored
quiet_answered c y values out =
    λ j. record { card = c; outcome = gave (record { bytes = 0; cause = y }); values = values; buffer = sym (laid_nothing out) j }
