-- What a call that writes comes to, by its tests and by whether it fits; and that a number tells which refusal it was. Assumes nothing.
use mathlib.Core.Path.{◌≡◌, refl, sym, ap, ap₂, ◌∙◌}
use mathlib.Core.Bool.{true, false, cond}
use mathlib.Core.List.{List, [], ◌∷◌, ◌++◌}
use Prim.Native.Nat.{ℕ, ◌+◌, ◌<◌, ◌≤◌}
use borrow.Author.Tests.{le-ltb, lt-ltb, ltb-true, ltb-false, leb-true, leb-false, le-leb, lt-leb}
use lib.Dec.{leb, eqb, ltb}
use lib.ListN.{length, take}
use Rattle.refusal.proofs.Logic.{by-test}
use Rattle.refusal.proofs.Buffers.{laid_front, placed-front, fits_front}
use Rattle.refusal.proofs.Checks.{refused_gave, first_holds, first_passes, first_none, append_refused, append_passed, by_first}
use Rattle.refusal.specs.Refusal.{Outcome, refused, gave, number_of, outcome_of}
use Rattle.refusal.specs.Buffer.{laid, fits_at, placed}
use Rattle.refusal.specs.Check.{Check, first, decided}
use Rattle.refusal.specs.Call.{Call, call_of, refuses, room_for, writes, place_call}
use Rattle.refusal.specs.declared.Refusal.{Refusal}
use Rattle.refusal.specs.declared.Refusal.TheVariants.{UnsoundCard, UnsoundSheet, UnsoundValues, WordAbove256, RoomTooShort, NotReply, NotMessage, UnsoundBus}
use Rattle.std.specs.Prelude.{Err, Ok, Result}

-- ---- a list at the front of a buffer

module _ (xs out : List ℕ) where
  room_enough : length xs ≤ length out → first (room_for xs out ∷ []) ≡ gave tt
  room_enough h = first_passes (room_for xs out) [] (le-ltb (length out) (length xs) h) ∙ first_none

  room_short : length out < length xs → first (room_for xs out ∷ []) ≡ refused 5
  room_short h = first_holds (room_for xs out) [] (lt-ltb (length out) (length xs) h)

  abbrev pub by : Outcome (Unit {0}) → Call
  by o = decided o (refuses out) (record { outcome = gave (length xs); buffer = laid xs out })

  module _ (cs : List Check) where
    -- by the first of its tests that holds
    pub writes_is : writes cs xs out ≡ by (first (cs ++ (room_for xs out ∷ [])))
    unfolding writes
    writes_is = refl

    -- a number before room is given
    pub writes_refused : (n : ℕ) → first cs ≡ refused n → writes cs xs out ≡ refuses out n
    unfolding writes
    writes_refused n e = rw (append_refused cs (room_for xs out ∷ []) n e)

    module _ (e : first cs ≡ gave tt) where
      pub writes_all : length xs ≤ length out → writes cs xs out ≡ record { outcome = gave (length xs); buffer = laid xs out }
      unfolding writes
      writes_all h = rw (append_passed cs (room_for xs out ∷ []) e ∙ room_enough h)

      pub writes_none : length out < length xs → writes cs xs out ≡ refuses out 5
      unfolding writes
      writes_none h = rw (append_passed cs (room_for xs out ∷ []) e ∙ room_short h)

      -- the tests before room do not matter once they are passed
      pub writes_passed : writes cs xs out ≡ writes [] xs out
      unfolding writes
      writes_passed = rw (append_passed cs (room_for xs out ∷ []) e)

    -- where a count is given, no test held, and so many at the front of the buffer are what was to be written
    pub record Served (n : ℕ) : Type 0 where
      pub passed : first cs ≡ gave tt
      pub room : length xs ≤ length out
      pub count : n ≡ length xs
      pub leaves : writes cs xs out ≡ record { outcome = gave (length xs); buffer = laid xs out }
      pub front : take n (writes cs xs out).buffer ≡ xs

    pub gave_served : (n : ℕ) → (writes cs xs out).outcome ≡ gave n → Served n
    gave_served n e =
        by_first cs
        (λ k r. absurd (refused_gave (sym (ap (λ (c : Call). c.outcome) (writes_refused k r)) ∙ e)))
        (λ p.
        by-test (ltb (length out) (length xs))
        (λ t. absurd (refused_gave (sym (ap (λ (c : Call). c.outcome) (writes_none p (ltb-true _ _ t))) ∙ e)))
        (λ t.
        let r : length xs ≤ length out = ltb-false _ _ t in
        let w = writes_all p r in
        let g : gave (length xs) ≡ gave n = sym (ap (λ (c : Call). c.outcome) w) ∙ e in
        let k : n ≡ length xs = cc in
        record { passed = p; room = r; count = k; leaves = w; front = ap (λ (c : Call). take n c.buffer) w ∙ ap (λ (j : ℕ). take j (laid xs out)) k ∙ laid_front xs out }))

    -- a refused call leaves its buffer, and its number is that of the tests
    by_outcome : (n : ℕ) (o : Outcome (Unit {0})) → (by o).outcome ≡ refused n → ((by o).buffer ≡ out) × (o ≡ refused n)
    by_outcome n (refused k) e = let q : k ≡ n = cc in (refl, ap refused q)
    by_outcome n (gave x) e = absurd (refused_gave (sym e))

    pub refused_keeps : (n : ℕ) → (writes cs xs out).outcome ≡ refused n → (writes cs xs out).buffer ≡ out
    unfolding writes
    refused_keeps n e = (by_outcome n (first (cs ++ (room_for xs out ∷ []))) e).0

    pub refused_first : (n : ℕ) → (writes cs xs out).outcome ≡ refused n → first (cs ++ (room_for xs out ∷ [])) ≡ refused n
    unfolding writes
    refused_first n e = (by_outcome n (first (cs ++ (room_for xs out ∷ []))) e).1

    pub first_refused : (n : ℕ) → first (cs ++ (room_for xs out ∷ [])) ≡ refused n → (writes cs xs out).outcome ≡ refused n
    unfolding writes
    first_refused n e = rw e

-- ---- from a place on

pub placed_call : (xs : List ℕ) (at : ℕ) (out : List ℕ) → fits_at xs at out ≡ true → place_call xs at out ≡ record { outcome = gave (length xs); buffer = placed xs at out }
unfolding place_call
placed_call xs at out e = rw e

pub unplaced_call : (xs : List ℕ) (at : ℕ) (out : List ℕ) → fits_at xs at out ≡ false → place_call xs at out ≡ refuses out 5
unfolding place_call
unplaced_call xs at out e = rw e

-- where it fits, and where it does not
pub fits-at : (xs : List ℕ) (at : ℕ) (out : List ℕ) → at + length xs ≤ length out → fits_at xs at out ≡ true
unfolding fits_at
fits-at xs at out h = le-leb (at + length xs) (length out) h

pub fits_not : (xs : List ℕ) (at : ℕ) (out : List ℕ) → length out < at + length xs → fits_at xs at out ≡ false
unfolding fits_at
fits_not xs at out h = lt-leb (at + length xs) (length out) h

-- the answer of a function that places
pub place_refuses : (xs : List ℕ) (at : ℕ) (out : List ℕ) → length out < at + length xs → call_of (Err RoomTooShort) out ≡ place_call xs at out
place_refuses xs at out h = sym (unplaced_call xs at out (fits_not xs at out h))

pub place_gives : (xs : List ℕ) (at : ℕ) (out left : List ℕ) (n : ℕ) → at + length xs ≤ length out → n ≡ length xs → left ≡ placed xs at out
    → call_of (Ok n) left ≡ place_call xs at out
place_gives xs at out left n h e l = ap₂ (λ (k : ℕ) (b : List ℕ). call_of (Ok k) b) e l ∙ sym (placed_call xs at out (fits-at xs at out h))

-- what a call that had room has left
pub placed_is : (xs : List ℕ) (at : ℕ) (out : List ℕ) {c : Call} → at + length xs ≤ length out → c ≡ place_call xs at out → c.buffer ≡ placed xs at out
placed_is xs at out h e = ap (λ (x : Call). x.buffer) (e ∙ placed_call xs at out (fits-at xs at out h))

-- by its answer: it had room, or nothing is written
pub record Placed (xs : List ℕ) (at : ℕ) (out out' : List ℕ) (n : ℕ) : Type 0 where
  pub room : at + length xs ≤ length out
  pub count : n ≡ length xs
  pub leaves : out' ≡ placed xs at out

pub placed_gave : (xs : List ℕ) (at : ℕ) (out : List ℕ) (n : ℕ) (c : Call) → c ≡ place_call xs at out → c.outcome ≡ gave n → Placed xs at out c.buffer n
unfolding fits_at
placed_gave xs at out n c e g =
    by-test (fits_at xs at out)
    (λ t.
    let p = e ∙ placed_call xs at out t in
    let q : gave n ≡ gave (length xs) = sym g ∙ ap (λ (x : Call). x.outcome) p in
    let k : n ≡ length xs = cc in
    record { room = leb-true (at + length xs) (length out) t; count = k; leaves = ap (λ (x : Call). x.buffer) p })
    (λ t. absurd (refused_gave (sym (ap (λ (x : Call). x.outcome) (e ∙ unplaced_call xs at out t)) ∙ g)))

pub record Unplaced (xs : List ℕ) (at : ℕ) (out out' : List ℕ) : Type 0 where
  pub short : length out < at + length xs
  pub leaves : out' ≡ out

pub placed_refused : (xs : List ℕ) (at : ℕ) (out : List ℕ) (k : ℕ) (c : Call) → c ≡ place_call xs at out → c.outcome ≡ refused k → Unplaced xs at out c.buffer
unfolding fits_at
placed_refused xs at out k c e g =
    by-test (fits_at xs at out)
    (λ t. absurd (refused_gave (sym g ∙ ap (λ (x : Call). x.outcome) (e ∙ placed_call xs at out t))))
    (λ t. record { short = leb-false (at + length xs) (length out) t; leaves = ap (λ (x : Call). x.buffer) (e ∙ unplaced_call xs at out t) })

-- from the front on, it is what a call writes
pub placed_writes : (xs out : List ℕ) → place_call xs 0 out ≡ writes [] xs out
placed_writes xs out =
    by-test (fits_at xs 0 out)
    (λ t.
    let h : length xs ≤ length out = leb-true _ _ (sym (fits_front xs out) ∙ t) in
    placed_call xs 0 out t ∙ ap (λ (l : List ℕ). record { outcome = gave (length xs); buffer = l }) (placed-front xs out) ∙ sym (writes_all xs out [] first_none h))
    (λ t. unplaced_call xs 0 out t ∙ sym (writes_none xs out [] first_none (leb-false _ _ (sym (fits_front xs out) ∙ t))))

-- ---- a number tells which refusal it was, so an outcome tells the whole answer

named : ℕ → Refusal
named n =
    cond (eqb n 1) UnsoundCard (cond (eqb n 2) UnsoundSheet (cond (eqb n 3) UnsoundValues
    (cond (eqb n 4) WordAbove256 (cond (eqb n 5) RoomTooShort (cond (eqb n 6) NotReply (cond (eqb n 7) NotMessage UnsoundBus))))))

named_number : (r : Refusal) → named (number_of r) ≡ r
unfolding named
named_number UnsoundCard = refl
named_number UnsoundSheet = refl
named_number UnsoundValues = refl
named_number WordAbove256 = refl
named_number RoomTooShort = refl
named_number NotReply = refl
named_number NotMessage = refl
named_number UnsoundBus = refl

pub number_injective : (a b : Refusal) → number_of a ≡ number_of b → a ≡ b
number_injective a b e = sym (named_number a) ∙ ap named e ∙ named_number b

-- no number is above 16, the last that the requests name
pub number_small : (r : Refusal) → number_of r ≤ 16
number_small r = leb-true (number_of r) 16 (all r)
  where
    all : (r : Refusal) → leb (number_of r) 16 ≡ true
    all UnsoundCard = refl
    all UnsoundSheet = refl
    all UnsoundValues = refl
    all WordAbove256 = refl
    all RoomTooShort = refl
    all NotReply = refl
    all NotMessage = refl
    all UnsoundBus = refl

answer : Outcome ℕ → Result ℕ Refusal
answer (refused n) = Err (named n)
answer (gave n) = Ok n

answer_outcome : (w : Result ℕ Refusal) → answer (outcome_of w) ≡ w
unfolding answer
answer_outcome (Err r) = ap Err (named_number r)
answer_outcome (Ok n) = refl

pub outcome_injective : (v w : Result ℕ Refusal) → outcome_of v ≡ outcome_of w → v ≡ w
outcome_injective v w e = sym (answer_outcome v) ∙ ap answer e ∙ answer_outcome w
