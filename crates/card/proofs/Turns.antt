-- One word, by what it does and by what it has closed: the laws that the code of a word and of a run cites. Assumes nothing.
use mathlib.Core.Path.{◌≡◌, refl, sym, ap, ◌∙◌, subst}
use mathlib.Core.Bool.{true, false, false≢true}
use mathlib.Core.List.{List, []}
use Prim.Native.Nat.{ℕ, ◌≤◌}
use lib.Dec.{lit≤}
use lib.IntN.{ℤ, pos}
use lib.ListN.{length, get_or, length-set}
use Rattle.wire.specs.Word.{travelling}
use Rattle.wire.proofs.Words.{travelling_length}
use Rattle.sheet.specs.Sheet.{sound_sheet}
use Rattle.sheet.specs.Values.{entry_in}
use Rattle.sheet.specs.Inner.{entry_at, index_of}
use Rattle.sheet.proofs.Marks.{index_entry}
use Rattle.reply.specs.declared.Answer.{Answer}
use Rattle.reply.specs.Reply.{longest_reply, spell_answer}
use Rattle.reply.proofs.Spelled.{answer-length}
use Rattle.message.specs.declared.Message.{Message}
use Rattle.message.specs.Prefix.{parse}
use Rattle.hearing.specs.declared.Action.{Action}
use Rattle.hearing.specs.declared.Action.TheVariants.{Ignore, Open, Add, Close, Drop}
use Rattle.hearing.specs.declared.Hearing.{Hearing}
use Rattle.hearing.specs.declared.Pending.{Pending}
use Rattle.hearing.specs.Hearing.{none, added, open_of, action_of, perform, hear}
use Rattle.hearing.proofs.Quiet.{heard_closes}
use Rattle.act.specs.declared.Setup.{Setup}
use Rattle.act.specs.declared.Effect.{Effect}
use Rattle.act.specs.Cause.{is_for}
use Rattle.act.specs.Act.{no_effect, respond, act}
use Rattle.act.specs.Inner.{on_scan, on_row}
use Rattle.act.proofs.Judged.{scan_responds, row_responds}
use Rattle.act.proofs.OnOffer.{act_neighbour}
use Rattle.act.proofs.Spoken.{silence, act_speaks}
use Rattle.card.specs.declared.Card.{Card}
use Rattle.card.specs.Inner.{is_scan, effect_by}
use Rattle.card.specs.Turn.{Turn, reply_of, effect_of, with_both, turned, turn, stored}
use Rattle.std.specs.Prelude.{None, Option, Some}
use Rattle.act.specs.declared.Offer.{Offer}
use Rattle.act.specs.declared.Store.{Store}
use Rattle.sheet.specs.declared.Row.{Row}

-- a word that draws nothing and stores nothing
abbrev pub stays : Card → Turn
stays c = record { card = c; reply = []; store = None }

-- nothing is stored
pub stored_keep : (values : List ℤ) → stored values None ≡ values
unfolding stored
stored_keep values = refl

-- no value more, and none less
pub stored_count : (values : List ℤ) (s : Option Store) → length (stored values s) ≡ length values
unfolding stored
stored_count values None = refl
stored_count values (Some s) = length-set values s.place s.value

-- document 02, ticket 1: "Longest reply becomes 33 bytes"
pub reply_length : (s : Option Answer) → length (reply_of s) ≤ longest_reply
reply_length None = lit≤ tt
reply_length (Some a) = subst (λ (n : ℕ). n ≤ longest_reply) (sym (travelling_length (spell_answer a))) (answer-length a)

module _ (bench maker : List ℤ) where
  -- ---- what a closed message leads to

  module _ (s : Setup) (o : Option Offer) (values : List ℤ) where
    -- a message that was heard is acted on
    pub effect_heard : (m : Message) → effect_of bench maker s o values (Some m) ≡ act bench maker s o values m
    unfolding effect_of
    effect_heard m = refl

    -- what was not heard has none
    pub effect_unheard : (p : Option Message) → p ≡ None → no_effect o ≡ effect_of bench maker s o values p
    unfolding effect_of
    effect_unheard p h = ap (effect_of bench maker s o values) (sym h)

    -- an answer has the card's letter and address
    pub effect_speaks : (p : Option Message) (a : Answer) → (effect_of bench maker s o values p).said ≡ Some a → (a.letter ≡ s.letter) × (a.address ≡ s.address)
    unfolding effect_of
    effect_speaks (Some m) a e = act_speaks m bench maker s o values a e
    effect_speaks None a e = absurd (silence e)

    -- under sound sheets the index gives the entries
    effect_index : (places : List ℕ) (m : Message) → sound_sheet bench ≡ true → sound_sheet maker ≡ true → places ≡ index_of bench maker
        → respond s o (entry_at bench maker places) (λ (i : ℕ). get_or values i (pos 0)) m ≡ effect_of bench maker s o values (Some m)
    unfolding effect_of act
    effect_index places m b k e =
        let each : (i : ℕ) → entry_at bench maker places i ≡ entry_in bench maker i = λ i. ap (λ (l : List ℕ). entry_at bench maker l i) e ∙ index_entry bench maker i b k in
        λ j. respond s o (λ (i : ℕ). each i j) (λ (i : ℕ). get_or values i (pos 0)) m

    -- what was heard, by whether it is on `]`
    module _ (places : List ℕ) (p : Option Message) (m : Message) (h : p ≡ Some m) (b : sound_sheet bench ≡ true) (k : sound_sheet maker ≡ true) (e : places ≡ index_of bench maker) where
      indexed : respond s o (entry_at bench maker places) (λ (i : ℕ). get_or values i (pos 0)) m ≡ effect_of bench maker s o values p
      indexed = effect_index places m b k e ∙ ap (effect_of bench maker s o values) (sym h)

      pub effect_scan : is_scan p ≡ true → on_scan s o (entry_at bench maker places) (λ (i : ℕ). get_or values i (pos 0)) m ≡ effect_of bench maker s o values p
      unfolding is_scan
      effect_scan q = scan_responds s o m (entry_at bench maker places) (λ (i : ℕ). get_or values i (pos 0)) (sym (ap is_scan h) ∙ q) ∙ indexed

      pub effect_row : is_scan p ≡ false → on_row s o (entry_at bench maker places) (λ (i : ℕ). get_or values i (pos 0)) m ≡ effect_of bench maker s o values p
      unfolding is_scan
      effect_row q = row_responds s o m (entry_at bench maker places) (λ (i : ℕ). get_or values i (pos 0)) (sym (ap is_scan h) ∙ q) ∙ indexed

    -- so with the code's two functions, under sound sheets with their index
    module _ (places : List ℕ) (b : sound_sheet bench ≡ true) (k : sound_sheet maker ≡ true) (e : places ≡ index_of bench maker) where
      abbrev responds : (Setup → Option Offer → (ℕ → Option Row) → (ℕ → ℤ) → Message → Effect) → Message → Effect
      responds on = on s o (entry_at bench maker places) (λ (i : ℕ). get_or values i (pos 0))

      pub scan_leads : (p : Option Message) → is_scan p ≡ true → effect_by (responds on_scan) o p ≡ effect_of bench maker s o values p
      unfolding effect_by is_scan
      scan_leads (Some m) q = effect_scan places (Some m) m refl b k e q
      scan_leads None q = absurd (false≢true q)

      pub row_leads : (p : Option Message) → is_scan p ≡ false → effect_by (responds on_row) o p ≡ effect_of bench maker s o values p
      unfolding effect_by
      row_leads (Some m) q = effect_row places (Some m) m refl b k e q
      row_leads None q = effect_unheard None refl

  -- ---- a word

  module _ (c : Card) (values : List ℤ) where
    -- what was closed leads to
    abbrev pub effects : Option Message → Effect
    effects = effect_of bench maker c.setup c.offer values

    module _ (w : ℕ) where
      pub turn_card : (turn bench maker c values w).card ≡ with_both c (hear c.pending w).pending (effects (hear c.pending w).message).offer
      unfolding turn turned
      turn_card = refl

      pub turn_reply : (turn bench maker c values w).reply ≡ reply_of (effects (hear c.pending w).message).said
      unfolding turn turned
      turn_reply = refl

      pub turn_store : (turn bench maker c values w).store ≡ (effects (hear c.pending w).message).store
      unfolding turn turned
      turn_store = refl

      -- a reply is the spelling of what is said
      pub turn_spells : (a : Answer) → (effects (hear c.pending w).message).said ≡ Some a → (turn bench maker c values w).reply ≡ travelling (spell_answer a)
      turn_spells a e = turn_reply ∙ ap reply_of e

      pub turn_silent : (effects (hear c.pending w).message).said ≡ None → (turn bench maker c values w).reply ≡ []
      turn_silent e = turn_reply ∙ ap reply_of e

      pub turn_length : length (turn bench maker c values w).reply ≤ longest_reply
      turn_length = rw turn_reply (reply_length (effects (hear c.pending w).message).said)

    -- a word that closes no heard message
    pub turn_unheard : (w : ℕ) → (hear c.pending w).message ≡ None → turn bench maker c values w ≡ stays (with_both c (hear c.pending w).pending c.offer)
    unfolding turn turned effect_of
    turn_unheard w e = ap (λ (o : Option Message). turned c (hear c.pending w).pending (effects o)) e

    -- a word that closes one
    pub turn_closes : (w : ℕ) (o : Option Message) → hear c.pending w ≡ record { pending = none; message = o } → turn bench maker c values w ≡ turned c none (effects o)
    unfolding turn
    turn_closes w o e = ap (λ (h : Hearing). turned c h.pending (effects h.message)) e

    -- a message for another card
    pub turn_neighbour : (w : ℕ) (m : Message) → (hear c.pending w).message ≡ Some m → is_for c.setup m ≡ false → turn bench maker c values w ≡ stays (with_both c none c.offer)
    unfolding turn turned
    turn_neighbour w m e t =
        let p = heard_closes c.pending w m e in
        ap (λ (o : Option Message). turned c (hear c.pending w).pending (effects o)) e
        ∙ ap (turned c (hear c.pending w).pending) (effect_heard c.setup c.offer values m ∙ act_neighbour bench maker m c.setup c.offer values t)
        ∙ ap (λ (q : Pending). turned c q (no_effect c.offer)) p

    -- ---- a word by what it does

    module _ (w : ℕ) where
      did : (a : Action) → action_of c.pending w ≡ a → turn bench maker c values w ≡ turned c (perform c.pending a).pending (effects (perform c.pending a).message)
      unfolding turn hear
      did a e = ap (λ (x : Action). turned c (perform c.pending x).pending (effects (perform c.pending x).message)) e

      pub turn_ignore : action_of c.pending w ≡ Ignore → turn bench maker c values w ≡ stays c
      unfolding turned effect_of perform
      turn_ignore e = did Ignore e

      pub turn_open : (x : ℕ) → action_of c.pending w ≡ Open x → turn bench maker c values w ≡ stays (with_both c (added none x) c.offer)
      unfolding turned effect_of perform
      turn_open x e = did (Open x) e

      pub turn_add : (x : ℕ) → action_of c.pending w ≡ Add x → turn bench maker c values w ≡ stays (with_both c (added c.pending x) c.offer)
      unfolding turned effect_of perform
      turn_add x e = did (Add x) e

      pub turn_close : action_of c.pending w ≡ Close → turn bench maker c values w ≡ turned c none (effects (parse (open_of c.pending)))
      unfolding perform
      turn_close e = did Close e

      pub turn_drop : action_of c.pending w ≡ Drop → turn bench maker c values w ≡ stays (with_both c none c.offer)
      unfolding turned effect_of perform
      turn_drop e = did Drop e
