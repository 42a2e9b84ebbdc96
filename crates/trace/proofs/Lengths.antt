-- From a sound card on, every message that is noted has 1 to 10 characters before its `*`. Assumes nothing.
use mathlib.Core.Path.{◌≡◌, refl, sym, ◌∙◌}
use mathlib.Core.Bool.{true, false, false≢true}
use mathlib.Core.List.{List, [], ◌∷◌}
use Prim.Native.Nat.{ℕ, suc, ◌≤◌}
use native.Mathlib.Omega.{arith}
use borrow.Author.Tests.{eqb-false}
use lib.Dec.{eqb}
use lib.IntN.{ℤ}
use Rattle.refusal.proofs.Logic.{by-test, choice}
use Rattle.refusal.proofs.Lists.{Each, each_append}
use Rattle.wire.specs.Word.{received}
use Rattle.message.specs.Message.{is_letter}
use Rattle.hearing.specs.declared.Pending.{Pending}
use Rattle.hearing.specs.declared.Action.{Action}
use Rattle.hearing.specs.Hearing.{most, opening, action_of, closes}
use Rattle.hearing.proofs.Sound.{pending_parts}
use Rattle.card.specs.declared.Card.{Card}
use Rattle.card.specs.Refusals.{sound_card}
use Rattle.card.specs.Turn.{Instrument, hears}
use Rattle.card.proofs.Sounds.{card_parts, card_stays}
use Rattle.trace.specs.Notes.{Note, note_to, noting, notes_of}
use Rattle.trace.specs.Calls.{notes_in}
use Rattle.std.specs.Prelude.{None, Option, Some}

-- with no message open, none is closed
opens : (r : Option ℕ) → closes (opening r) ≡ false
unfolding opening
opens (Some c) = choice (λ (a : Action). closes a ≡ false) (is_letter c) (λ t. refl) (λ t. refl)
opens None = refl

closing_long : (p : Pending) (w : ℕ) → closes (action_of p w) ≡ true → 1 ≤ p.len
unfolding action_of
closing_long p w e =
    by-test (eqb p.len 0)
    (λ t. absurd (false≢true (sym (rw t (opens (received w))) ∙ e)))
    (λ t. let n = eqb-false p.len 0 t in omega arith)

abbrev pub OneToTen : Note → Type 0
OneToTen n = (1 ≤ n.characters) × (n.characters ≤ most)

module _ (bench maker : List ℤ) where
  noted_long : (i : Instrument) (k w : ℕ) → sound_card i.card ≡ true → Each OneToTen (note_to bench maker i k w)
  unfolding note_to
  noted_long i k w s =
      choice (Each OneToTen) (closes (action_of i.card.pending w))
      (λ e. ((closing_long i.card.pending w e, (pending_parts i.card.pending (card_parts i.card s).is_open).short), tt))
      (λ o. tt)

  notes_long : (i : Instrument) (k : ℕ) (ws : List ℕ) → sound_card i.card ≡ true → Each OneToTen (notes_of bench maker i k ws)
  unfolding noting
  notes_long i k [] s = tt
  notes_long i k (w ∷ ws) s =
      let next = (hears bench maker i w).state in
      each_append OneToTen (note_to bench maker i k w) (notes_of bench maker next (suc k) ws) (noted_long i k w s)
      (notes_long next (suc k) ws (card_stays bench maker i.card i.values w s))

  -- so of a trace that is served, since its card is sound
  pub trace_long : (c : Card) (values : List ℤ) (room : ℕ) (ws : List ℕ) → sound_card c ≡ true → Each OneToTen (notes_in bench maker c values room ws)
  trace_long c values room ws s = notes_long (record { card = c; values = values }) 0 _ s
