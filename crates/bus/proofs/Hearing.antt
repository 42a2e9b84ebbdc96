-- Many instruments hear as one: with one open message for all, they obey the messages heard, and of a message only the card that is meant
-- takes notice. Assumes nothing.
use mathlib.Core.Path.{◌≡◌, refl, sym, ap, ap₂, ◌∙◌}
use mathlib.Core.Bool.{false}
use mathlib.Core.List.{List, [], ◌∷◌, ◌++◌, map, append-nil}
use Prim.Native.Nat.{ℕ, zero, suc, ◌<◌}
use native.Mathlib.Omega.{arith}
use lib.IntN.{ℤ}
use lib.ListN.{length, get_or, set}
use lib.Seq.{set-get_or}
use Rattle.message.specs.declared.Message.{Message}
use Rattle.hearing.specs.declared.Pending.{Pending}
use Rattle.hearing.specs.Hearing.{hear}
use Rattle.act.specs.declared.Effect.{Effect}
use Rattle.act.specs.Cause.{is_for}
use Rattle.act.proofs.OnOffer.{act_neighbour}
use Rattle.card.specs.Run.{Reaction}
use Rattle.card.specs.Turn.{effect_of, stored, Instrument, hears}
use Rattle.card.proofs.Turns.{effect_heard, effect_unheard}
use Rattle.card.proofs.Plays.{obey_one, Obeys, holding, carried_out, does, hears_obeys}
use Rattle.bus.specs.Bus.{hears_all}
use Rattle.std.specs.Prelude.{None, Option, Some}

-- one instrument more
abbrev pub beside : Reaction Instrument → Reaction (List Instrument) → Reaction (List Instrument)
beside r rs = record { state = r.state ∷ rs.state; reply = r.reply ++ rs.reply }

-- all of them with one open message
abbrev pub holding_all : List Instrument → Pending → List Instrument
holding_all is p = map (λ (i : Instrument). holding i p) is

module _ (bench maker : List ℤ) where
  pub no_one_hears : (w : ℕ) → hears_all bench maker [] w ≡ record { state = []; reply = [] }
  unfolding hears_all
  no_one_hears w = refl

  pub each_hears : (i : Instrument) (is : List Instrument) (w : ℕ) → hears_all bench maker (i ∷ is) w ≡ beside (hears bench maker i w) (hears_all bench maker is w)
  unfolding hears_all
  each_hears i is w = refl

  -- a message to all of them
  unfoldable pub does_all : List Instrument → Message → Reaction (List Instrument)
  does_all [] m = record { state = []; reply = [] }
  does_all (i ∷ is) m = beside (does bench maker i m) (does_all is m)

  abbrev closes : Option Message → List Instrument → Pending → Reaction (List Instrument)
  closes x is q = record { state = holding_all (obey_one does_all is x).state q; reply = (obey_one does_all is x).reply }

  none_obeys : (x : Option Message) (q : Pending) → record { state = []; reply = [] } ≡ closes x [] q
  unfolding does_all
  none_obeys (Some m) q = refl
  none_obeys None q = refl

  one_obeys : (x : Option Message) (i : Instrument) (is : List Instrument) (q : Pending)
      → beside (record { state = holding (obey_one (does bench maker) i x).state q; reply = (obey_one (does bench maker) i x).reply }) (closes x is q) ≡ closes x (i ∷ is) q
  unfolding does_all
  one_obeys (Some m) i is q = refl
  one_obeys None i is q = refl

  pub all_obey : Obeys does_all (hears_all bench maker) holding_all
  all_obey [] p w = no_one_hears w ∙ none_obeys (hear p w).message (hear p w).pending
  all_obey (i ∷ is) p w =
      each_hears (holding i p) (holding_all is p) w
      ∙ ap₂ beside (hears_obeys bench maker i p w) (all_obey is p w)
      ∙ one_obeys (hear p w).message i is (hear p w).pending

  -- ---- the card that is meant

  -- for another card
  pub does_nothing : (i : Instrument) (m : Message) → is_for i.card.setup m ≡ false → does bench maker i m ≡ record { state = i; reply = [] }
  unfolding stored
  does_nothing i m t = ap (carried_out i i.card.pending) (act_neighbour bench maker m i.card.setup i.card.offer i.values t)

  no_one_does : (is : List Instrument) (m : Message) (d : Instrument) → ((j : ℕ) → j < length is → is_for (get_or is j d).card.setup m ≡ false) → does_all is m ≡ record { state = is; reply = [] }
  unfolding does_all
  no_one_does [] m d h = refl
  no_one_does (i ∷ is) m d h = ap₂ beside (does_nothing i m (h 0 (omega arith))) (no_one_does is m d (λ j l. h (suc j) (omega arith)))

  -- no other than the k-th is meant
  abbrev pub Others : List Instrument → Instrument → ℕ → Message → Type 0
  Others is d k m = (j : ℕ) → j < length is → (j ≡ k → ⊥) → is_for (get_or is j d).card.setup m ≡ false

  one_does : (is : List Instrument) (m : Message) (d : Instrument) (k : ℕ) → k < length is → Others is d k m
      → does_all is m ≡ record { state = set is k (does bench maker (get_or is k d) m).state; reply = (does bench maker (get_or is k d) m).reply }
  unfolding does_all
  one_does [] m d k l h = absurd (omega arith)
  one_does (i ∷ is) m d zero l h =
      ap (beside (does bench maker i m)) (no_one_does is m d (λ j b. h (suc j) (omega arith) (λ e. absurd (omega arith))))
      ∙ (λ t. record { state = (does bench maker i m).state ∷ is; reply = append-nil (does bench maker i m).reply t })
  one_does (i ∷ is) m d (suc k) l h =
      ap₂ beside (does_nothing i m (h 0 (omega arith) (λ e. absurd (omega arith)))) (one_does is m d k (omega arith) (λ j b n. h (suc j) (omega arith) (λ e. n (omega arith))))

  -- what the code has: the effect of what was closed, at the card that is meant
  pub meant : (is : List Instrument) (d : Instrument) (k : ℕ) (x : Option Message) → k < length is → ((m : Message) → x ≡ Some m → Others is d k m)
      → let i = get_or is k d in
      let r = carried_out i i.card.pending (effect_of bench maker i.card.setup i.card.offer i.values x) in
      obey_one does_all is x ≡ record { state = set is k r.state; reply = r.reply }
  unfolding stored
  meant is d k (Some m) l h =
      let i = get_or is k d in
      one_does is m d k l (h m refl)
      ∙ ap (λ (e : Effect). let r = carried_out i i.card.pending e in record { state = set is k r.state; reply = r.reply }) (sym (effect_heard bench maker i.card.setup i.card.offer i.values m))
  meant is d k None l h =
      let i = get_or is k d in
      (λ t. record { state = sym (set-get_or is k d) t; reply = [] })
      ∙ ap (λ (e : Effect). let r = carried_out i i.card.pending e in record { state = set is k r.state; reply = r.reply }) (effect_unheard bench maker i.card.setup i.card.offer i.values None refl)
