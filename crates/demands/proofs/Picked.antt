-- Whose the bytes on a pair are: a card's reply to a word is nothing, or one reply that the reader reads as its own, so of replies one
-- behind the other those of one card are picked out, and no others. Assumes nothing.
use mathlib.Core.Path.{◌≡◌, refl, sym, ap, ◌∙◌, subst}
use mathlib.Core.Bool.{true, false, ◌&&◌, false≢true}
use mathlib.Core.List.{List, [], ◌∷◌, ◌++◌, append_assoc}
use Prim.Native.Nat.{ℕ, zero, suc, ◌%◌, ◌<◌}
use native.Mathlib.Omega.{arith}
use borrow.Author.Tests.{eq-eqb, ne_eqb}
use lib.Dec.{eqb, lit<}
use lib.IntN.{ℤ}
use lib.ListN.{length, get_or}
use Rattle.refusal.proofs.Logic.{and_both}
use Rattle.wire.specs.Word.{with_parity, travelling}
use Rattle.wire.proofs.Words.{written_low, travelling_append}
use Rattle.message.specs.Message.{star}
use Rattle.message.proofs.Messages.{PlainChar, Plain}
use Rattle.reply.specs.declared.Answer.{Answer}
use Rattle.reply.specs.Reply.{spell_answer, is_answer}
use Rattle.reply.proofs.Spelled.{before_star, star_ends, before_plain}
use Rattle.reply.proofs.Reader.{answer_parts, read_spelled}
use Rattle.hearing.specs.Hearing.{hear}
use Rattle.act.specs.declared.Setup.{Setup}
use Rattle.card.specs.declared.Card.{Card}
use Rattle.card.specs.Run.{Reaction}
use Rattle.card.specs.Turn.{turn, Instrument, hears}
use Rattle.card.proofs.Turns.{effects, effect_speaks, turn_spells, turn_silent}
use Rattle.card.proofs.Sounds.{said_answer}
use Rattle.bus.specs.Bus.{hears_all}
use Rattle.bus.specs.Refusals.{alike}
use Rattle.bus.proofs.Hearing.{no_one_hears, each_hears}
use Rattle.bus.proofs.Instruments.{joined_none, joined_first}
use Rattle.bus.proofs.Sharing.{others_apart}
use Rattle.demands.specs.Terms.{Sound}
use Rattle.demands.specs.Bus.{replies_in, spoken_by, only_by, picked}
use Rattle.demands.proofs.Pair.{EachSound, Joint}
use Rattle.std.specs.Prelude.{None, Option, Some}

-- ---- one reply, up to its `*`

-- no other character travels as `*` does
no_star : (c : ℕ) → PlainChar c → eqb (with_parity c) (with_parity star) ≡ false
no_star c p =
    ne_eqb (with_parity c) (with_parity star)
    (λ e.
    let q : c ≡ star = sym (written_low c p.small) ∙ ap (λ (b : ℕ). b % 128) e ∙ written_low star (lit< tt) in
    false≢true (sym p.no_star ∙ eq-eqb c star q))

up_to_star : (cs : List ℕ) → Plain cs → (rest : List ℕ) → replies_in (travelling cs ++ (with_parity star ∷ rest)) ≡ (travelling cs ++ (with_parity star ∷ [])) ∷ replies_in rest
unfolding replies_in travelling
up_to_star [] p rest = rw (eq-eqb (with_parity star) (with_parity star) refl)
up_to_star (c ∷ cs) p rest = rw (no_star c p.0) (rw (up_to_star cs p.1 rest) refl)

module _ (a : Answer) (e : is_answer a ≡ true) where
  abbrev its : List ℕ
  its = travelling (spell_answer a)

  ends : its ≡ travelling (before_star a) ++ (with_parity star ∷ [])
  unfolding travelling
  ends = ap travelling (star_ends a) ∙ travelling_append (before_star a) (star ∷ [])

  first_reply : (rest : List ℕ) → replies_in (its ++ rest) ≡ its ∷ replies_in rest
  first_reply rest =
      let p = answer_parts a e in
      let xs = travelling (before_star a) in
      ap (λ (bs : List ℕ). replies_in (bs ++ rest)) ends
      ∙ ap replies_in (append_assoc xs (with_parity star ∷ []) rest)
      ∙ up_to_star (before_star a) (before_plain a p.is-letter p.is-address p.is-identifier) rest
      ∙ ap (λ (bs : List ℕ). bs ∷ replies_in rest) (sym ends)

  read_by : (s : Setup) → spoken_by s its ≡ (eqb a.letter s.letter && eqb a.address s.address)
  unfolding spoken_by
  read_by s = rw (read_spelled a e)

-- ---- the replies of one card

-- the answer's bytes, and the letter and address of this setup in it
record Replies (s : Setup) (bs : List ℕ) (a : Answer) : Type 0 where
  pub is-answer : is_answer a ≡ true
  pub its_letter : a.letter ≡ s.letter
  pub its_address : a.address ≡ s.address
  pub spelled : bs ≡ travelling (spell_answer a)

-- what a card with this setup says: nothing, or one answer
data Says (s : Setup) (bs : List ℕ) : Type 0 where
  nothing : bs ≡ [] → Says s bs
  replies : (a : Answer) → Replies s bs a → Says s bs

module _ (s : Setup) where
  pub picked_none : picked s [] ≡ []
  unfolding replies_in only_by
  picked_none = joined_none

  module _ (a : Answer) (e : is_answer a ≡ true) (rest : List ℕ) where
    kept : spoken_by s (its a e) ≡ true → picked s (its a e ++ rest) ≡ its a e ++ picked s rest
    unfolding only_by
    kept t = rw (first_reply a e rest) (rw t (joined_first (its a e) (only_by s (replies_in rest))))

    left_out : spoken_by s (its a e) ≡ false → picked s (its a e ++ rest) ≡ picked s rest
    unfolding only_by
    left_out t = rw (first_reply a e rest) (rw t refl)

  -- its own reply comes first
  picked_own : (bs rest : List ℕ) → Says s bs → picked s (bs ++ rest) ≡ bs ++ picked s rest
  picked_own bs rest (nothing e) = subst (λ (xs : List ℕ). picked s (xs ++ rest) ≡ xs ++ picked s rest) (sym e) refl
  picked_own bs rest (replies a r) =
      let t = read_by a r.is-answer s ∙ and_both (eq-eqb a.letter s.letter r.its_letter) (eq-eqb a.address s.address r.its_address) in
      subst (λ (xs : List ℕ). picked s (xs ++ rest) ≡ xs ++ picked s rest) (sym r.spelled) (kept a r.is-answer rest t)

  -- one of a card with another letter or address
  picked_other : (o : Setup) (bs rest : List ℕ) → Says o bs → alike o s ≡ false → picked s (bs ++ rest) ≡ picked s rest
  unfolding alike
  picked_other o bs rest (nothing e) f = ap (λ (xs : List ℕ). picked s (xs ++ rest)) e
  picked_other o bs rest (replies a r) f =
      let t : spoken_by s (its a r.is-answer) ≡ false = read_by a r.is-answer s ∙ rw (r.its_letter, r.its_address) f in
      ap (λ (xs : List ℕ). picked s (xs ++ rest)) r.spelled ∙ left_out a r.is-answer rest t

-- ---- a word

module _ (bench maker : List ℤ) (c : Card) (values : List ℤ) (s : Sound bench maker c values) (w : ℕ) where
  abbrev said : Option Answer
  said = (effects bench maker c values (hear c.pending w).message).said

  -- what a sound card replies to it
  turn_says : Says c.setup (turn bench maker c values w).reply
  turn_says = by said refl
    where
      by : (x : Option Answer) → said ≡ x → Says c.setup (turn bench maker c values w).reply
      by None e = nothing (turn_silent bench maker c values w e)
      by (Some a) e =
          let p = effect_speaks bench maker c.setup c.offer values (hear c.pending w).message a e in
          replies a (record {
            is-answer = said_answer bench maker c values s.offer_sound s.scan_sound s.values_sound w a e;
            its_letter = p.0;
            its_address = p.1;
            spelled = turn_spells bench maker c values w a e;
          })

-- ---- a word to all cards of a pair

module _ (bench maker : List ℤ) where
  -- the first card's reply, and all others
  behind_first : (i : Instrument) (is : List Instrument) (w : ℕ) (rest : List ℕ) → (hears_all bench maker (i ∷ is) w).reply ++ rest ≡ (hears bench maker i w).reply ++ ((hears_all bench maker is w).reply ++ rest)
  behind_first i is w rest = rw (each_hears bench maker i is w) (append_assoc (hears bench maker i w).reply (hears_all bench maker is w).reply rest)

  -- by whether it is the card that is picked
  module _ (i : Instrument) (is : List Instrument) (w : ℕ) (rest : List ℕ) (t : Sound bench maker i.card i.values) where
    first_own : picked i.card.setup ((hears_all bench maker (i ∷ is) w).reply ++ rest) ≡ (hears bench maker i w).reply ++ picked i.card.setup ((hears_all bench maker is w).reply ++ rest)
    first_own = ap (picked i.card.setup) (behind_first i is w rest) ∙ picked_own i.card.setup (hears bench maker i w).reply ((hears_all bench maker is w).reply ++ rest) (turn_says bench maker i.card i.values t w)

    first_other : (s : Setup) → alike i.card.setup s ≡ false → picked s ((hears_all bench maker (i ∷ is) w).reply ++ rest) ≡ picked s ((hears_all bench maker is w).reply ++ rest)
    first_other s a = ap (picked s) (behind_first i is w rest) ∙ picked_other s i.card.setup (hears bench maker i w).reply ((hears_all bench maker is w).reply ++ rest) (turn_says bench maker i.card i.values t w) a

  -- no card like it is there
  picked_others : (s : Setup) (is : List Instrument) (w : ℕ) (d : Instrument) (rest : List ℕ) → EachSound bench maker is → ((j : ℕ) → j < length is → alike (get_or is j d).card.setup s ≡ false)
      → picked s ((hears_all bench maker is w).reply ++ rest) ≡ picked s rest
  picked_others s [] w d rest h a = ap (λ (r : Reaction (List Instrument)). picked s (r.reply ++ rest)) (no_one_hears bench maker w)
  picked_others s (i ∷ is) w d rest h a =
      first_other i is w rest (h 0 d (omega arith)) s (a 0 (omega arith)) ∙ picked_others s is w d rest (λ k d l. h (suc k) d (omega arith)) (λ j l. a (suc j) (omega arith))

  own_reply : (is : List Instrument) (w k : ℕ) (d : Instrument) (rest : List ℕ) → EachSound bench maker is → k < length is
      → let s = (get_or is k d).card.setup in ((j : ℕ) → j < length is → (j ≡ k → ⊥) → alike (get_or is j d).card.setup s ≡ false)
      → picked s ((hears_all bench maker is w).reply ++ rest) ≡ (hears bench maker (get_or is k d) w).reply ++ picked s rest
  own_reply [] w k d rest h l a = absurd (omega arith)
  own_reply (i ∷ is) w zero d rest h l a =
      first_own i is w rest (h 0 d l)
      ∙ ap (λ (bs : List ℕ). (hears bench maker i w).reply ++ bs) (picked_others i.card.setup is w d rest (λ k d l. h (suc k) d (omega arith)) (λ j b. a (suc j) (omega arith) (λ e. omega arith)))
  own_reply (i ∷ is) w (suc k) d rest h l a =
      first_other i is w rest (h 0 d (omega arith)) (get_or is k d).card.setup (a 0 (omega arith) (λ e. omega arith))
      ∙ own_reply is w k d rest (λ k d l. h (suc k) d (omega arith)) (omega arith) (λ j b n. a (suc j) (omega arith) (λ e. n (omega arith)))

  -- of all replies to a word its own is picked out
  pub picked_word : (is : List Instrument) (w k : ℕ) (d : Instrument) (rest : List ℕ) → Joint bench maker is → k < length is
      → let s = (get_or is k d).card.setup in picked s ((hears_all bench maker is w).reply ++ rest) ≡ (hears bench maker (get_or is k d) w).reply ++ picked s rest
  picked_word is w k d rest s l = own_reply is w k d rest s.each l (λ j b n. others_apart is d j k s.bus_sound b l n)
