-- What finds two cards alike, and the table that finds a card by its letter and address. Assumes nothing.
use mathlib.Core.Path.{◌≡◌, refl, sym, ap, ap₂, ◌∙◌}
use mathlib.Core.Bool.{Bool, true, false, not, ◌||◌, ◌&&◌, false≢true}
use mathlib.Core.List.{List, [], ◌∷◌}
use Prim.Native.Nat.{ℕ, zero, suc, ◌+◌, ◌<◌, ◌≤◌}
use Prim.Native.Char.{code}
use native.Mathlib.Omega.{arith}
use native.Mathlib.Numerals.{add-one}
use borrow.Author.Tests.{eqb-true, eqb-false, leb-true}
use lib.Dec.{eqb}
use lib.ListN.{length, get_or, set, take, drop, replicate, drop_of_length-le, length-set}
use lib.Seq.{drop-cons, get_or-take, length-take-le, get_or-set_same, get_or-set_other}
use Rattle.refusal.specs.Lists.{every}
use Rattle.refusal.proofs.Logic.{ands, by-test}
use Rattle.refusal.proofs.Lists.{every_at, same_pointwise}
use Rattle.std.specs.Cmp.Lexicographic.{pointwise}
use Rattle.hearing.specs.declared.Pending.{Pending}
use Rattle.message.specs.declared.Message.{Message}
use Rattle.message.specs.Message.{is_letter, is_address}
use Rattle.act.specs.declared.Setup.{Setup}
use Rattle.act.specs.Cause.{is_for}
use Rattle.act.proofs.OnOffer.{for_parts}
use Rattle.card.specs.Refusals.{sound_setup}
use Rattle.bus.specs.Refusals.{alike, apart, same_open}
use Rattle.bus.specs.Inner.{slot_of, slot_in, Finds, meant_by}
use Rattle.bus.proofs.Sharing.{parts_alike, apart_at}
use Rattle.std.specs.Prelude.{None, Option, Some}

-- ---- two open messages, as the derived comparison has them

pub open_compared : (p q : Pending) → (pointwise eqb p.chars q.chars && eqb p.len q.len) ≡ same_open p q
unfolding same_open
open_compared p q = turn (pointwise eqb p.chars q.chars) (eqb p.len q.len) ∙ ap (λ (b : Bool). eqb p.len q.len && b) (sym (same_pointwise eqb p.chars q.chars))
  where
    turn : (a b : Bool) → (a && b) ≡ (b && a)
    turn true true = refl
    turn true false = refl
    turn false true = refl
    turn false false = refl

-- ---- one card against those behind it

abbrev tests : Setup → Setup → Bool
tests s t = not (alike s t)

pub apart_fails : (s : Setup) (ss : List Setup) → every (tests s) ss ≡ false → apart (s ∷ ss) ≡ false
unfolding apart
apart_fails s ss e = rw e

pub apart_more : (s : Setup) (ss : List Setup) → every (tests s) ss ≡ true → apart (s ∷ ss) ≡ apart ss
unfolding apart
apart_more s ss e = rw e

pub apart_none : (ss : List Setup) → length ss ≡ 0 → apart ss ≡ true
unfolding apart
apart_none [] e = refl
apart_none (s ∷ ss) e = absurd (omega arith)

-- ---- the table

-- letters and addresses that a sound card can have, in one slot, are the same
one_slot : (l a m b : ℕ) → is_letter l ≡ true → is_letter m ≡ true → a ≤ 99 → b ≤ 99 → slot_of l a ≡ slot_of m b → (l ≡ m) × (a ≡ b)
unfolding slot_of is_letter
one_slot l a m b p q h k e =
    by-test (eqb l (code "R"))
    (λ t.
    by-test (eqb m (code "R"))
    (λ u. let x = rw (t, u) at e in (eqb-true l (code "R") t ∙ sym (eqb-true m (code "R") u), omega arith))
    (λ u. let x = rw (t, u) at e in absurd (omega arith)))
    (λ t.
    by-test (eqb m (code "R"))
    (λ u. let x = rw (t, u) at e in absurd (omega arith))
    (λ u. let x = rw (t, u) at e in (letter l p t ∙ sym (letter m q u), omega arith)))
  where
    letter : (x : ℕ) → (eqb x (code "L") || eqb x (code "R")) ≡ true → eqb x (code "R") ≡ false → x ≡ code "L"
    letter x p t = by-test (eqb x (code "L")) (λ u. eqb-true x (code "L") u) (λ u. absurd (false≢true (sym (rw (t, u) refl) ∙ p)))

setup_parts : (s : Setup) → sound_setup s ≡ true → (is_letter s.letter ≡ true) × (s.address ≤ 99)
unfolding sound_setup is_address
setup_parts s e = (search ands, leb-true s.address 99 (search ands))

empty : (n k : ℕ) → ◌≡◌ {A = ℕ} (get_or (replicate k 0) n 0) 0
empty n zero = refl
empty zero (suc k) = refl
empty (suc n) (suc k) = empty n k

-- ---- the first so many of a list

module _ {A : Type 0} (xs : List A) (n : ℕ) (l : n ≤ length xs) where
  -- the first n from the j-th on
  pub next_of : (d : A) (j : ℕ) → j < n → drop j (take n xs) ≡ get_or xs j d ∷ drop (j + 1) (take n xs)
  next_of d j h =
      rw (add-one j)
      (drop-cons (take n xs) j d (omega (arith, length-take-le n xs l)) ∙ ap (λ (x : A). x ∷ drop (suc j) (take n xs)) (get_or-take n xs j d h))

  pub none_behind : (j : ℕ) → n ≤ j → drop j (take n xs) ≡ []
  none_behind j h = let b : length (take n xs) ≤ j = omega (arith, length-take-le n xs l) in drop_of_length-le (take n xs) b

module _ (ss : List Setup) where
  -- so many cards are in it
  pub record Placed (table : List ℕ) (i : ℕ) : Type 0 where
    pub within : i ≤ length ss
    pub long : length table ≡ 256
    pub inside : (n : ℕ) → get_or table n 0 < length ss
    pub finds : (j : ℕ) (d : Setup) → j < i → get_or table (slot_in (get_or ss j d)) 0 ≡ j

  pub placed_starts : 1 ≤ length ss → Placed (replicate 256 0) 0
  placed_starts h = record { within = omega arith; long = refl; inside = λ n. omega (arith, empty n 256); finds = λ j d l. absurd (omega arith) }

  pub placed-ends : (table : List ℕ) {i : ℕ} → Placed table i → length ss ≤ i → Finds ss table
  placed-ends table t h = record { inside = t.inside; finds = λ j d l. t.finds j d (omega arith) }

module _ (ss : List Setup) (sound : every sound_setup ss ≡ true) (are : apart ss ≡ true) where
  -- two of them have two slots
  two_slots : (j i : ℕ) (d : Setup) → j < i → i < length ss → slot_in (get_or ss j d) ≡ slot_in (get_or ss i d) → ⊥
  two_slots j i d l h e =
      let s = setup_parts (get_or ss j d) (every_at sound_setup d ss j sound (omega arith)) in
      let t = setup_parts (get_or ss i d) (every_at sound_setup d ss i sound h) in
      let o = one_slot _ _ _ _ s.0 t.0 s.1 t.1 e in
      false≢true (sym (apart_at ss d j i are (omega arith) h (λ q. absurd (omega arith))) ∙ parts_alike (get_or ss j d) (get_or ss i d) o.0 o.1)

  module _ (table : List ℕ) {i : ℕ} (t : Placed ss table i) (h : i < length ss) (d : Setup) (at : ℕ) (e : at ≡ slot_in (get_or ss i d)) (b : at < 256) where
    same_card : (j : ℕ) (c : Setup) → j < length ss → get_or ss j c ≡ get_or ss j d
    same_card j c l = every_default ss j c d l
      where
        every_default : (ss : List Setup) (j : ℕ) (c d : Setup) → j < length ss → get_or ss j c ≡ get_or ss j d
        every_default [] j c d l = absurd (omega arith)
        every_default (s ∷ ss) zero c d l = refl
        every_default (s ∷ ss) (suc j) c d l = every_default ss j c d (omega arith)

    stands : get_or (set table at i) at 0 ≡ i
    stands = get_or-set_same table at i 0 (omega (arith, t.long))

    pub placed-more : Placed ss (set table at i) (i + 1)
    placed-more = record {
      within = omega arith;
      long = length-set table at i ∙ t.long;
      inside = λ n.
          by-test (eqb n at)
          (λ q. let x = ap (λ (m : ℕ). get_or (set table at i) m 0) (eqb-true n at q) ∙ stands in omega arith)
          (λ q. let x = get_or-set_other table at n i 0 (eqb-false n at q) in omega (arith, t.inside n));
      finds = λ j c l.
          by-test (eqb j i)
          (λ q.
          let k = eqb-true j i q in
          ap (λ (m : ℕ). get_or (set table at i) (slot_in (get_or ss m c)) 0) k
          ∙ ap (λ (s : Setup). get_or (set table at i) (slot_in s) 0) (same_card i c h)
          ∙ ap (λ (m : ℕ). get_or (set table at i) m 0) (sym e) ∙ stands ∙ sym k)
          (λ q.
          let k = eqb-false j i q in
          let m : j < i = omega arith in
          get_or-set_other table at (slot_in (get_or ss j c)) i 0 (λ x. two_slots j i d m h (ap slot_in (sym (same_card j c (omega arith))) ∙ x ∙ e)) ∙ t.finds j c m);
    }

-- no other card is meant than the one found
pub found : (ss : List Setup) (table : List ℕ) → Finds ss table → (x : Option Message) (m : Message) → x ≡ Some m → (j : ℕ) (d : Setup) → j < length ss → (j ≡ meant_by table x → ⊥) → is_for (get_or ss j d) m ≡ false
unfolding meant_by
found ss table f x m e j d l n =
    by-test (is_for (get_or ss j d) m)
    (λ t.
    let p = for_parts m (get_or ss j d) t in
    absurd (n (sym (f.finds j d l) ∙ ap₂ (λ (a b : ℕ). get_or table (slot_of a b) 0) (sym p.0) (sym p.1) ∙ ap (meant_by table) (sym e))))
    (λ t. t)

pub meant_inside : (ss : List Setup) (table : List ℕ) → Finds ss table → (x : Option Message) → meant_by table x < length ss
unfolding meant_by
meant_inside ss table f (Some m) = f.inside (slot_of m.letter m.address)
meant_inside ss table f None = let h = f.inside 0 in omega arith
