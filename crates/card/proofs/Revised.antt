-- Cards of two revisions, on words in which no Type 3 of minus zero is heard: they take the same turns, are refused alike, and give the
-- same causes. Assumes nothing.
use mathlib.Core.Path.{◌≡◌, refl, ap, ap₂, ◌∙◌}
use mathlib.Core.Bool.{true, false, cond}
use mathlib.Core.List.{List, [], ◌∷◌}
use Prim.Native.Nat.{ℕ, ◌-◌}
use lib.Dec.{leb}
use lib.IntN.{ℤ}
use lib.ListN.{length}
use Rattle.refusal.specs.Lists.{every}
use Rattle.refusal.specs.Check.{Check, first}
use Rattle.refusal.proofs.Logic.{ands, not_is, by-test}
use Rattle.refusal.proofs.Checks.{by_first}
use Rattle.message.specs.declared.Message.{Message}
use Rattle.message.specs.Message.{asks_minus_zero, no_minus_zero}
use Rattle.hearing.specs.declared.Action.{Action}
use Rattle.hearing.specs.declared.Action.TheVariants.{Ignore, Open, Add, Close, Drop}
use Rattle.hearing.specs.Hearing.{open_of, action_of, perform, hear, before, heard_from}
use Rattle.message.specs.Prefix.{parse}
use Rattle.act.specs.declared.Setup.{Setup}
use Rattle.act.specs.declared.Effect.{Effect}
use Rattle.act.specs.Cause.{Why, because}
use Rattle.act.specs.Act.{of_revision}
use Rattle.act.proofs.Zeros.{revisions_act, revisions_cause, names_revised}
use Rattle.card.specs.declared.Card.{Card}
use Rattle.card.specs.Run.{Played, stopped, after, playing}
use Rattle.card.specs.Turn.{Turn, effect_of, turned, turn, stored, Instrument, play}
use Rattle.card.specs.Cause.{why_closed, why_after, why_to}
use Rattle.card.specs.Refusals.{is_revision, sound_setup, sound_card, sound_scan, card_checks, step_checks}
use Rattle.card.specs.Calls.{revised, revised_after, answered, step_call, ended, run_call}
use Rattle.std.specs.Prelude.{None, Option, Some}
use Rattle.act.specs.declared.Offer.{Offer}

-- no minus zero is heard: of the first message, and of the others
abbrev Unsigned : Option Message → Type 0
Unsigned (Some m) = asks_minus_zero m.body ≡ false
Unsigned None = Unit {0}

split : (p : Option Message) (ms : List Message) → no_minus_zero (before p ms) ≡ true → Unsigned p × (no_minus_zero ms ≡ true)
unfolding no_minus_zero before every
split (Some m) ms e = (not_is {a = asks_minus_zero m.body} (search ands), search ands)
split None ms e = (tt, e)

module _ (n : ℕ) (bench maker : List ℤ) where
  -- ---- a word

  effect_revised : (s : Setup) (o : Option Offer) (values : List ℤ) (p : Option Message) → Unsigned p → effect_of bench maker (of_revision n s) o values p ≡ effect_of bench maker s o values p
  unfolding effect_of
  effect_revised s o values (Some m) z = revisions_act n s m z o bench maker values
  effect_revised s o values None z = refl

  abbrev revised_turn : Turn → Turn
  revised_turn t = record { card = revised n t.card; reply = t.reply; store = t.store }

  turn_revised : (c : Card) (values : List ℤ) (w : ℕ) → Unsigned (hear c.pending w).message → turn bench maker (revised n c) values w ≡ revised_turn (turn bench maker c values w)
  unfolding turn turned
  turn_revised c values w z =
      ap (λ (e : Effect). turned (revised n c) (hear c.pending w).pending e) (effect_revised c.setup c.offer values (hear c.pending w).message z)

  -- ---- a run

  abbrev revised_play : Played Instrument → Played Instrument
  revised_play p = record { state = record { card = revised n p.state.card; values = p.state.values }; bytes = p.bytes; taken = p.taken }

  play_revised : (c : Card) (values : List ℤ) (room : ℕ) (ws : List ℕ) → no_minus_zero (heard_from c.pending ws) ≡ true → play bench maker (revised n c) values room ws ≡ revised_play (play bench maker c values room ws)
  unfolding playing heard_from turn turned
  play_revised c values room [] e = refl
  play_revised c values room (w ∷ ws) e =
      let s = split (hear c.pending w).message (heard_from (hear c.pending w).pending ws) e in
      let t : Turn = turn bench maker c values w in
      let goes : Turn → Played Instrument = λ u. cond (leb (length u.reply) room) (after u.reply (play bench maker u.card (stored values u.store) (room - length u.reply) ws)) (stopped (record { card = revised n c; values = values })) in
      ap goes (turn_revised c values w s.0)
      ∙ by-test (leb (length t.reply) room)
      (λ h. rw h (ap (after t.reply) (play_revised t.card (stored values t.store) (room - length t.reply) ws s.1)))
      (λ h. rw h)

  -- ---- the tests

  checks_revised : (c : Card) (values : List ℤ) (ws : List ℕ) → is_revision n ≡ is_revision c.setup.revision → card_checks (revised n c) bench maker values ws ≡ card_checks c bench maker values ws
  unfolding card_checks sound_card sound_setup sound_scan
  checks_revised c values ws e = rw (e, names_revised n c.setup 0 c.setup.count)

  -- ---- the cause

  closed_revised : (s : Setup) (o : Option Offer) (values : List ℤ) (cs : List ℕ) (p : Option Message) → Unsigned p → why_closed bench maker (of_revision n s) o values cs p ≡ why_closed bench maker s o values cs p
  unfolding why_closed
  closed_revised s o values cs (Some m) z = ap (λ (l : List Check). because (first l)) (revisions_cause n s m z o bench maker values)
  closed_revised s o values cs None z = refl

  after_revised : (c : Card) (values : List ℤ) (a : Action) → Unsigned (perform c.pending a).message → why_after bench maker (revised n c) values a ≡ why_after bench maker c values a
  unfolding why_after perform
  after_revised c values Ignore z = refl
  after_revised c values (Open x) z = refl
  after_revised c values (Add x) z = refl
  after_revised c values Close z = closed_revised c.setup c.offer values (open_of c.pending) (parse (open_of c.pending)) z
  after_revised c values Drop z = refl

  why_revised : (c : Card) (values : List ℤ) (w : ℕ) → Unsigned (hear c.pending w).message → why_to bench maker (revised n c) values w ≡ why_to bench maker c values w
  unfolding why_to hear
  why_revised c values w z = after_revised c values (action_of c.pending w) z

  -- ---- the calls, of two revisions that a card may have

  module _ (c : Card) (values : List ℤ) (r : is_revision n ≡ is_revision c.setup.revision) where
    pub run_revised : (ws out : List ℕ) → no_minus_zero (heard_from c.pending ws) ≡ true → run_call (revised n c) bench maker values ws out ≡ revised_after n (run_call c bench maker values ws out)
    unfolding run_call
    run_revised ws out e =
        rw (checks_revised c values ws r)
        (by_first (card_checks c bench maker values ws)
        (λ k q. rw q refl)
        (λ q. rw q (ap (λ (p : Played Instrument). ended p out) (play_revised c values (length out) ws e))))

    pub step_revised : (w : ℕ) (out : List ℕ) → no_minus_zero (heard_from c.pending (w ∷ [])) ≡ true → step_call (revised n c) bench maker values w out ≡ revised_after n (step_call c bench maker values w out)
    unfolding step_call step_checks heard_from
    step_revised w out e =
        let z = (split (hear c.pending w).message [] e).0 in
        rw (checks_revised c values (w ∷ []) r)
        (by_first (step_checks c bench maker values w out)
        (λ k q. rw q refl)
        (λ q. rw q (ap₂ (λ (t : Turn) (y : Why). answered t y values out) (turn_revised c values w z) (why_revised c values w z))))
