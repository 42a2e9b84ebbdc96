-- The cause of a word, by what it does to the open message and by what it has closed: the laws that the code of a word cites.
-- Assumes nothing.
use mathlib.Core.Path.{◌≡◌, refl, sym, ap, ◌∙◌}
use mathlib.Core.Bool.{true, false}
use mathlib.Core.List.{List}
use Prim.Native.Nat.{ℕ}
use native.Mathlib.Omega.{arith}
use lib.Dec.{eqb}
use lib.IntN.{ℤ, pos}
use lib.ListN.{get_or}
use Rattle.refusal.specs.Check.{Check, first}
use Rattle.message.specs.declared.Message.{Message}
use Rattle.message.specs.Prefix.{parse}
use Rattle.message.specs.Position.{position}
use Rattle.hearing.specs.declared.Action.{Action}
use Rattle.hearing.specs.declared.Action.TheVariants.{Ignore, Open, Add, Close, Drop}
use Rattle.hearing.specs.Hearing.{open_of, action_of, perform, hear}
use Rattle.message.proofs.Short.{unheard}
use Rattle.sheet.specs.Sheet.{sound_sheet}
use Rattle.sheet.specs.Values.{entry_in}
use Rattle.sheet.specs.Inner.{entry_at, index_of}
use Rattle.sheet.proofs.Marks.{index_entry}
use Rattle.reply.specs.Reply.{scan_identifier}
use Rattle.act.specs.declared.Setup.{Setup}
use Rattle.act.specs.declared.Effect.{Effect}
use Rattle.act.specs.declared.causes.Cause.TheVariants.{NotForThisCard, NoMessageClosed, NotWellFormed}
use Rattle.act.specs.Cause.{Why, why_of, is_for, because, causes_of_n, silences, is_one_of}
use Rattle.act.specs.Act.{causes_with, causes_in}
use Rattle.act.specs.Inner.{scan_causes, row_causes}
use Rattle.act.proofs.Fits.{cause_other, Fits, fits_silence, act_fits}
use Rattle.card.specs.declared.Card.{Card}
use Rattle.card.specs.Turn.{effect_of}
use Rattle.card.specs.Cause.{why_closed, why_after, why_to}
use Rattle.card.specs.Inner.{why_by}
use Rattle.std.specs.Prelude.{None, Option, Some}
use Rattle.act.specs.declared.Offer.{Offer}

module _ (bench maker : List ℤ) where
  -- ---- a closed message

  module _ (s : Setup) (o : Option Offer) (values : List ℤ) (cs : List ℕ) (p : Option Message) where
    pub closed_unheard : p ≡ None → why_of (Some (NotWellFormed (position cs))) ≡ why_closed bench maker s o values cs p
    unfolding why_closed
    closed_unheard h = ap (why_closed bench maker s o values cs) (sym h)

    pub closed_heard : (m : Message) → p ≡ Some m → why_closed bench maker s o values cs p ≡ because (first (causes_in bench maker s o values m))
    unfolding why_closed
    closed_heard m h = ap (why_closed bench maker s o values cs) h

    -- by an index of the sheets
    module _ (places : List ℕ) where
      abbrev tests : Message → List Check
      tests = causes_with s o (entry_at bench maker places) (λ (i : ℕ). get_or values i (pos 0))

      pub by_unheard : p ≡ None → why_of (Some (NotWellFormed (position cs))) ≡ why_by tests cs p
      unfolding why_by
      by_unheard h = ap (why_by tests cs) (sym h)

      module _ (m : Message) (h : p ≡ Some m) where
        pub by_scan : eqb m.identifier scan_identifier ≡ true → because (first (scan_causes s m)) ≡ why_by tests cs p
        unfolding why_by
        by_scan q = sym (ap (why_by tests cs) h ∙ rw q)

        pub by_row : eqb m.identifier scan_identifier ≡ false → because (first (row_causes s o (entry_at bench maker places) (λ (i : ℕ). get_or values i (pos 0)) m)) ≡ why_by tests cs p
        unfolding why_by
        by_row q = sym (ap (why_by tests cs) h ∙ rw q)

      by_sheets : (q : Option Message) → why_by (causes_with s o (entry_in bench maker) (λ (i : ℕ). get_or values i (pos 0))) cs q ≡ why_closed bench maker s o values cs q
      unfolding why_by why_closed causes_in
      by_sheets (Some m) = refl
      by_sheets None = refl

      -- under sound sheets their own index gives the entries
      pub by_index : sound_sheet bench ≡ true → sound_sheet maker ≡ true → places ≡ index_of bench maker → why_by tests cs p ≡ why_closed bench maker s o values cs p
      by_index b k e =
          let each : (i : ℕ) → entry_at bench maker places i ≡ entry_in bench maker i = λ i. ap (λ (l : List ℕ). entry_at bench maker l i) e ∙ index_entry bench maker i b k in
          (λ j. why_by (causes_with s o (λ (i : ℕ). each i j) (λ (i : ℕ). get_or values i (pos 0))) cs p) ∙ by_sheets p

  -- ---- a word by what it does

  module _ (c : Card) (values : List ℤ) (w : ℕ) where
    why_done : (a : Action) → action_of c.pending w ≡ a → why_to bench maker c values w ≡ why_after bench maker c values a
    unfolding why_to
    why_done a e = ap (why_after bench maker c values) e

    pub why_ignore : action_of c.pending w ≡ Ignore → why_to bench maker c values w ≡ why_of (Some NoMessageClosed)
    unfolding why_after
    why_ignore e = why_done Ignore e

    pub why_open : (x : ℕ) → action_of c.pending w ≡ Open x → why_to bench maker c values w ≡ why_of (Some NoMessageClosed)
    unfolding why_after
    why_open x e = why_done (Open x) e

    pub why_add : (x : ℕ) → action_of c.pending w ≡ Add x → why_to bench maker c values w ≡ why_of (Some NoMessageClosed)
    unfolding why_after
    why_add x e = why_done (Add x) e

    pub why_close : action_of c.pending w ≡ Close → why_to bench maker c values w ≡ why_closed bench maker c.setup c.offer values (open_of c.pending) (parse (open_of c.pending))
    unfolding why_after
    why_close e = why_done Close e

    pub why_drop : action_of c.pending w ≡ Drop → why_to bench maker c values w ≡ why_of (Some NoMessageClosed)
    unfolding why_after
    why_drop e = why_done Drop e

    -- ---- a word by what it has closed

    abbrev known : Action → Why
    known = why_after bench maker c values

    done_heard : (m : Message) (a : Action) → (perform c.pending a).message ≡ Some m → known a ≡ because (first (causes_in bench maker c.setup c.offer values m))
    unfolding perform why_after
    done_heard m Ignore e = absurd (unheard e)
    done_heard m (Open x) e = absurd (unheard e)
    done_heard m (Add x) e = absurd (unheard e)
    done_heard m Close e = closed_heard c.setup c.offer values (open_of c.pending) (parse (open_of c.pending)) m e
    done_heard m Drop e = absurd (unheard e)

    -- a message that is heard
    pub why_heard : (m : Message) → (hear c.pending w).message ≡ Some m → why_to bench maker c values w ≡ because (first (causes_in bench maker c.setup c.offer values m))
    unfolding hear why_to
    why_heard m e = done_heard m (action_of c.pending w) e

    pub why_neighbour : (m : Message) → (hear c.pending w).message ≡ Some m → is_for c.setup m ≡ false → why_to bench maker c values w ≡ why_of (Some NotForThisCard)
    why_neighbour m e t = why_heard m e ∙ ap because (cause_other bench maker c.setup c.offer values m t)

    -- one that isn't
    pub why_unheard : action_of c.pending w ≡ Close → parse (open_of c.pending) ≡ None → why_to bench maker c values w ≡ why_of (Some (NotWellFormed (position (open_of c.pending))))
    why_unheard e h =
        why_close e ∙ sym (closed_unheard c.setup c.offer values (open_of c.pending) (parse (open_of c.pending)) h)

    done_open : (a : Action) → (a ≡ Close → ⊥) → known a ≡ why_of (Some NoMessageClosed)
    unfolding why_after
    done_open Ignore f = refl
    done_open (Open x) f = refl
    done_open (Add x) f = refl
    done_open Close f = absurd (f refl)
    done_open Drop f = refl

    -- none
    pub why_none : (action_of c.pending w ≡ Close → ⊥) → why_to bench maker c values w ≡ why_of (Some NoMessageClosed)
    unfolding why_to
    why_none f = done_open (action_of c.pending w) f

    -- ---- what is said fits the cause

    abbrev effect : Option Message → Effect
    effect = effect_of bench maker c.setup c.offer values

    closed_fits : (cs : List ℕ) (q : Option Message) → Fits (effect q).said (why_closed bench maker c.setup c.offer values cs q).code
    unfolding effect_of why_closed is_one_of causes_of_n silences
    closed_fits cs (Some m) = act_fits bench maker c.setup c.offer values m
    closed_fits cs None = fits_silence 10 (λ z. omega arith) refl refl

    done_fits : (a : Action) → Fits (effect (perform c.pending a).message).said (known a).code
    unfolding effect_of perform why_after is_one_of causes_of_n silences
    done_fits Ignore = fits_silence 9 (λ z. omega arith) refl refl
    done_fits (Open x) = fits_silence 9 (λ z. omega arith) refl refl
    done_fits (Add x) = fits_silence 9 (λ z. omega arith) refl refl
    done_fits Close = closed_fits (open_of c.pending) (parse (open_of c.pending))
    done_fits Drop = fits_silence 9 (λ z. omega arith) refl refl

    pub word_fits : Fits (effect (hear c.pending w).message).said (why_to bench maker c values w).code
    unfolding hear why_to
    word_fits = done_fits (action_of c.pending w)
