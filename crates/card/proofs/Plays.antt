-- To play words is to obey the messages heard in them, whatever takes them: so a recording and its normal form, in which the same messages
-- are heard, leave the same. And at one card two recordings with the same messages for it leave the same. Assumes nothing.
use mathlib.Core.Path.{◌≡◌, refl, sym, ap, ◌∙◌}
use mathlib.Core.Bool.{false}
use mathlib.Core.List.{List, [], ◌∷◌, ◌++◌, map}
use Prim.Native.Nat.{ℕ, suc}
use lib.Dec.{eqb}
use lib.IntN.{ℤ}
use lib.ListN.{length}
use Rattle.refusal.proofs.Logic.{by-test}
use Rattle.message.specs.declared.Message.{Message}
use Rattle.message.specs.Message.{unsigned_zero}
use Rattle.hearing.specs.declared.Pending.{Pending}
use Rattle.hearing.specs.Hearing.{none, hear, before, heard_from, open_after}
use Rattle.hearing.specs.Normal.{normal}
use Rattle.hearing.proofs.Heard.{heard_start, heard_end, heard_word, before_heard, before_unheard}
use Rattle.hearing.proofs.Normal.{heard_normal}
use Rattle.hearing.proofs.Quiet.{heard_closed}
use Rattle.act.specs.declared.Effect.{Effect}
use Rattle.act.specs.Cause.{is_for}
use Rattle.act.specs.Act.{ours, act}
use Rattle.act.proofs.OnOffer.{act_neighbour, ours_none, ours_own, ours_other}
use Rattle.act.proofs.Zeros.{zeros_act}
use Rattle.card.specs.declared.Card.{Card}
use Rattle.card.specs.Run.{Reaction, Played, after}
use Rattle.card.specs.Turn.{reply_of, effect_of, with_both, turned, turn, stored, Instrument, hears}
use Rattle.card.proofs.Runs.{Quiet, all, all_end, all_word}
use Rattle.std.specs.Prelude.{None, Option, Some}
use Rattle.act.specs.declared.Offer.{Offer}

-- ---- messages in place of words

-- a recording and its normal form
pub same_heard : (p : Pending) (ws : List ℕ) → p.len ≡ 0 → heard_from p ws ≡ heard_from p (normal ws)
same_heard p ws e =
    let same : heard_from none ws ≡ heard_from none (normal ws) = sym (heard_start ws) ∙ sym (heard_normal ws) ∙ heard_start (normal ws) in
    heard_closed p e ws ∙ same ∙ sym (heard_closed p e (normal ws))

-- g obeys a message
module _ {T : Type 0} (g : T → Message → Reaction T) where
  abbrev pub obey_one : T → Option Message → Reaction T
  obey_one t (Some m) = g t m
  obey_one t None = record { state = t; reply = [] }

  unfoldable pub obey : T → List Message → Reaction T
  obey t [] = record { state = t; reply = [] }
  obey t (m ∷ ms) = record { state = (obey (g t m).state ms).state; reply = (g t m).reply ++ (obey (g t m).state ms).reply }

  obey_before : (t : T) (p : Option Message) (ms : List Message)
      → obey t (before p ms) ≡ record { state = (obey (obey_one t p).state ms).state; reply = (obey_one t p).reply ++ (obey (obey_one t p).state ms).reply }
  unfolding obey
  obey_before t (Some m) ms = ap (obey t) (before_heard m ms)
  obey_before t None ms = ap (obey t) (before_unheard ms)

  -- f takes words: it holds the open message beside what g changes, and obeys the message that a word has closed
  module _ {S : Type 0} (f : S → ℕ → Reaction S) (holding : T → Pending → S) where
    abbrev pub Obeys : Type 0
    Obeys = (t : T) (p : Pending) (w : ℕ) → f (holding t p) w ≡ record { state = holding (obey_one t (hear p w).message).state (hear p w).pending; reply = (obey_one t (hear p w).message).reply }

    module _ (o : Obeys) where
      pub obeys_quiet : (t : T) → Quiet f (holding t)
      obeys_quiet t q w u = o t q w ∙ ap (λ (p : Option Message). record { state = holding (obey_one t p).state (hear q w).pending; reply = (obey_one t p).reply }) u

      pub obeyed : (t : T) (p : Pending) (ws : List ℕ)
          → all f (holding t p) ws ≡ record { state = holding (obey t (heard_from p ws)).state (open_after p ws); bytes = (obey t (heard_from p ws)).reply; taken = length ws }
      unfolding obey open_after
      obeyed t p [] = all_end f (holding t p) ∙ sym (ap (λ (ms : List Message). record { state = holding (obey t ms).state p; bytes = (obey t ms).reply; taken = 0 }) (heard_end p))
      obeyed t p (w ∷ ws) =
          let x = (hear p w).message in
          let q = (hear p w).pending in
          all_word f (holding t p) w ws
          ∙ ap (λ (r : Reaction S). after r.reply (all f r.state ws)) (o t p w)
          ∙ ap (after (obey_one t x).reply) (obeyed (obey_one t x).state q ws)
          ∙ sym (ap (λ (r : Reaction T). record { state = holding r.state (open_after q ws); bytes = r.reply; taken = suc (length ws) }) (ap (obey t) (heard_word p w ws) ∙ obey_before t x (heard_from q ws)))

-- ---- one card

-- what playing leaves, but for the open message
pub record Left : Type 0 where
  pub offer : Option Offer
  pub values : List ℤ
  pub bytes : List ℕ

abbrev pub left_by : Played Instrument → Left
left_by p = record { offer = p.state.card.offer; values = p.state.values; bytes = p.bytes }

-- an instrument that holds another open message
abbrev pub holding : Instrument → Pending → Instrument
holding i p = record { card = with_both i.card p i.card.offer; values = i.values }

-- what an effect comes to at it
abbrev pub carried_out : Instrument → Pending → Effect → Reaction Instrument
carried_out i p e = record { state = record { card = with_both i.card p e.offer; values = stored i.values e.store }; reply = reply_of e.said }

module _ (bench maker : List ℤ) where
  -- a message to it
  abbrev pub does : Instrument → Message → Reaction Instrument
  does i m = carried_out i i.card.pending (act bench maker i.card.setup i.card.offer i.values m)

  pub hears_obeys : Obeys does (hears bench maker) holding
  unfolding turn turned effect_of stored
  hears_obeys i p w = by (hear p w).message
    where
      by : (x : Option Message) → carried_out i (hear p w).pending (effect_of bench maker i.card.setup i.card.offer i.values x) ≡ record { state = holding (obey_one does i x).state (hear p w).pending; reply = (obey_one does i x).reply }
      by (Some m) = refl
      by None = refl

  -- what it obeys, it leaves
  abbrev lefts : Reaction Instrument → Left
  lefts r = record { offer = r.state.card.offer; values = r.state.values; bytes = r.reply }

  module _ (c : Card) (values : List ℤ) where
    abbrev start : Instrument
    start = record { card = c; values = values }

    left_obeyed : (ws : List ℕ) → left_by (all (hears bench maker) start ws) ≡ lefts (obey does start (heard_from c.pending ws))
    left_obeyed ws = ap left_by (obeyed does (hears bench maker) holding hears_obeys start c.pending ws)

    -- two recordings whose messages are obeyed alike
    left-by : (a b : List ℕ) → obey does start (heard_from c.pending a) ≡ obey does start (heard_from c.pending b) → left_by (all (hears bench maker) start a) ≡ left_by (all (hears bench maker) start b)
    left-by a b e = left_obeyed a ∙ ap lefts e ∙ sym (left_obeyed b)

  abbrev lead : List ℕ → Reaction Instrument → Reaction Instrument
  lead bs r = record { state = r.state; reply = bs ++ r.reply }

  -- a message for another card draws nothing and leaves nothing
  obey_ours : (i : Instrument) (ms : List Message) → obey does i ms ≡ obey does i (ours i.card.setup ms)
  unfolding obey stored
  obey_ours i [] = ap (obey does i) (sym (ours_none i.card.setup))
  obey_ours i (m ∷ ms) =
      let s = i.card.setup in
      let obeys : Effect → Reaction Instrument = λ e. let r = carried_out i i.card.pending e in lead r.reply (obey does r.state ms) in
      by-test (is_for s m)
      (λ t. ap (lead (does i m).reply) (obey_ours (does i m).state ms) ∙ ap (obey does i) (sym (ours_own s m ms t)))
      (λ t. ap obeys (act_neighbour bench maker m s i.card.offer i.values t) ∙ obey_ours i ms ∙ ap (obey does i) (sym (ours_other s m ms t)))

  -- where the revision is not the second, a message is obeyed as with zero in place of minus zero
  obey_zeros : (i : Instrument) (ms : List Message) → eqb i.card.setup.revision 2 ≡ false → obey does i (map unsigned_zero ms) ≡ obey does i ms
  unfolding obey
  obey_zeros i [] t = refl
  obey_zeros i (m ∷ ms) t =
      let obeys : Effect → Reaction Instrument = λ e. let r = carried_out i i.card.pending e in lead r.reply (obey does r.state (map unsigned_zero ms)) in
      ap obeys (zeros_act i.card.setup m t i.card.offer bench maker i.values) ∙ ap (lead (does i m).reply) (obey_zeros (does i m).state ms t)

  module _ (c : Card) (values : List ℤ) (a b : List ℕ) where
    -- so two recordings that are heard alike but for the sign of zero leave the same
    pub left_zeros : eqb c.setup.revision 2 ≡ false → map unsigned_zero (heard_from c.pending a) ≡ map unsigned_zero (heard_from c.pending b)
        → left_by (all (hears bench maker) (start c values) a) ≡ left_by (all (hears bench maker) (start c values) b)
    left_zeros t e =
        left-by c values a b
        (sym (obey_zeros (start c values) (heard_from c.pending a) t) ∙ ap (obey does (start c values)) e ∙ obey_zeros (start c values) (heard_from c.pending b) t)

    -- and so do two recordings with the same messages for this card
    pub left_ours : ours c.setup (heard_from c.pending a) ≡ ours c.setup (heard_from c.pending b)
        → left_by (all (hears bench maker) (start c values) a) ≡ left_by (all (hears bench maker) (start c values) b)
    left_ours e =
        left-by c values a b
        (obey_ours (start c values) (heard_from c.pending a) ∙ ap (obey does (start c values)) e ∙ sym (obey_ours (start c values) (heard_from c.pending b)))

  -- a recording and its normal form, from one card with no message open
  pub left_alike : (c : Card) (values : List ℤ) (ws : List ℕ) → c.pending.len ≡ 0 → left_by (all (hears bench maker) (start c values) ws) ≡ left_by (all (hears bench maker) (start c values) (normal ws))
  left_alike c values ws e = left-by c values ws (normal ws) (ap (obey does (start c values)) (same_heard c.pending ws e))
