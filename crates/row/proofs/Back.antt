-- A card that is stored back into the row that it came from is the card of that row: reading what was written gives it again. And the row is
-- some card's again, with its other numbers as they were. Assumes nothing.
use mathlib.Core.Path.{◌≡◌, refl, sym, ap, ap₂, ◌∙◌}
use mathlib.Core.Bool.{true}
use mathlib.Core.List.{List, [], ◌∷◌, ◌++◌, map, append_assoc}
use Prim.Native.Nat.{ℕ, suc, ◌+◌, ◌<◌, ◌≤◌}
use native.Mathlib.Omega.{arith}
use borrow.Author.Tests.{le-leb, eqb-true, eq-eqb}
use lib.IntN.{ℤ, pos}
use lib.ListN.{length, get_or, take, drop}
use lib.Seq.{length-take-le, take_at, get_or-drop, get_or-append-add}
use Rattle.refusal.specs.Lists.{every}
use Rattle.refusal.specs.Buffer.{placed}
use Rattle.refusal.proofs.Logic.{ands, and_both}
use Rattle.refusal.proofs.Lists.{every_append}
use Rattle.refusal.proofs.Buffers.{placed_length, placed_before, placed_behind}
use Rattle.number.specs.Number.{in_range}
use Rattle.sheet.specs.Sheet.{at}
use Rattle.hearing.specs.declared.Pending.{Pending}
use Rattle.hearing.specs.Hearing.{open_of}
use Rattle.hearing.specs.Sound.{sound_pending}
use Rattle.hearing.proofs.Sound.{pending_parts, place_small}
use Rattle.act.specs.declared.Setup.{Setup}
use Rattle.card.specs.declared.Card.{Card}
use Rattle.row.specs.Row.{is_byte, is_row, byte_or, byte_of, bytes_in, offer_of, setup_of, pending_of, card_of, pending_row, offer_row, changing, stored_in}
use Rattle.row.proofs.Laws.{bytes_length, setup_same, pending_length, offer_length, stored_length, changing_length, stored_placed, stored_parts}
use Rattle.std.specs.Prelude.{None, Option, Some}
use Rattle.act.specs.declared.Offer.{Offer}

pub is-byte : (n : ℕ) → n < 256 → is_byte (pos n) ≡ true
unfolding is_byte in_range
is-byte n h = and_both (le-leb 0 n (omega arith)) (le-leb n 255 (omega arith))

pub byte_back : (n : ℕ) → n < 256 → byte_of (pos n) ≡ n
unfolding byte_or
byte_back n h = rw (is-byte n h)

-- characters that are bytes
pub bytes_back : (cs : List ℕ) (rest : List ℤ) → ((k : ℕ) → get_or cs k 0 < 256) → bytes_in (length cs) (map pos cs ++ rest) ≡ cs
unfolding bytes_in
bytes_back [] rest h = refl
bytes_back (x ∷ cs) rest h = ap₂ ◌∷◌ (byte_back x (h 0)) (bytes_back cs rest (λ k. h (suc k)))

-- what the code's types say of an open message, and that no more than ten characters are open, as in every sound card
pub record Lent (p : Pending) : Type 0 where
  pub ten : length p.chars ≡ 10
  pub held : p.len ≤ 10
  pub chars : (k : ℕ) → get_or p.chars k 0 < 256

pub sound_lent : (p : Pending) → length p.chars ≡ 10 → sound_pending p ≡ true → Lent p
sound_lent p n e = record { ten = n; held = (pending_parts p e).short; chars = λ k. omega (arith, place_small p e k) }

open_length : (p : Pending) → Lent p → length (open_of p) ≡ p.len
unfolding open_of
open_length p l = length-take-le p.len p.chars (omega (arith, l.ten, l.held))

pub pending_back : (p : Pending) (a b : ℤ) (rest : List ℤ) → Lent p → pending_of (a ∷ b ∷ (pending_row p ++ rest)) ≡ p
unfolding pending_of pending_row
pending_back p a b rest l =
    let n = open_length p l in
    let cs : bytes_in 10 (map pos p.chars ++ rest) ≡ p.chars = ap (λ (k : ℕ). bytes_in k (map pos p.chars ++ rest)) (sym l.ten) ∙ bytes_back p.chars rest l.chars in
    let m : byte_of (pos (length (open_of p))) ≡ p.len = byte_back (length (open_of p)) (omega (arith, n, l.held)) ∙ n in
    ap₂ (λ (x : List ℕ) (k : ℕ). record { chars = x; len = k }) cs m

-- the identifier of an offer; 0 where there is none
abbrev pub identifier_of : Option Offer → ℕ
identifier_of None = 0
identifier_of (Some o) = o.identifier

offer_back : (o : Option Offer) (rest : List ℤ) → identifier_of o < 256 → offer_of (at (offer_row o ++ rest) 0) (at (offer_row o ++ rest) 1) (at (offer_row o ++ rest) 2) ≡ o
unfolding offer_of offer_row in_range
offer_back None rest h = refl
offer_back (Some o) rest h = rw (is-byte o.identifier h, byte_back o.identifier h)

-- ---- the whole card

module _ (c : Card) (l : Lent c.pending) (small : identifier_of c.offer < 256) where
  module _ (a b : ℤ) (rest : List ℤ) where
    abbrev q : List ℤ
    q = offer_row c.offer ++ rest

    behind : (k : ℕ) → at (pending_row c.pending ++ q) (11 + k) ≡ at q k
    behind k =
        let n : 11 ≡ length (pending_row c.pending) = omega (arith, pending_length c.pending, l.ten) in
        ap (λ (j : ℕ). at (pending_row c.pending ++ q) (j + k)) n ∙ get_or-append-add (pending_row c.pending) q k (pos 0)

    abbrev x : List ℤ
    x = a ∷ b ∷ (pending_row c.pending ++ q)

    unchanged : (k : ℕ) → at x (16 + k) ≡ at rest k
    unchanged k =
        let n : 3 ≡ length (offer_row c.offer) = sym (offer_length c.offer) in
        let place : 16 + k ≡ suc (suc (11 + (3 + k))) = omega arith in
        ap (at x) place
        ∙ behind (3 + k)
        ∙ ap (λ (j : ℕ). at q (j + k)) n
        ∙ get_or-append-add (offer_row c.offer) rest k (pos 0)

    card-of : c.setup ≡ setup_of x → card_of x ≡ c
    unfolding card_of
    card-of e =
        let o : offer_of (at x 13) (at x 14) (at x 15) ≡ c.offer =
        ap₂ (λ (m i : ℤ). offer_of m i (at x 15)) (behind 0) (behind 1) ∙ ap (offer_of (at q 0) (at q 1)) (behind 2) ∙ offer_back c.offer rest small in
        ap₂ (λ (p : Pending) (y : Option Offer). record { setup = setup_of x; pending = p; offer = y }) (pending_back c.pending a b q l) o
        ∙ ap (λ (s : Setup). record { setup = s; pending = c.pending; offer = c.offer }) (sym e)

  pub card_back : (row : List ℤ) → 16 ≤ length row → c.setup ≡ setup_of row → card_of (stored_in c row) ≡ c
  unfolding placed
  card_back [] h e = absurd (omega arith)
  card_back (a ∷ []) h e = absurd (omega arith)
  card_back (a ∷ b ∷ rest) h e =
      let n = 2 + length (changing c) in
      let d = drop n (a ∷ b ∷ rest) in
      let sixteen : n ≡ 16 = omega (arith, changing_length c (a ∷ b ∷ rest) l.ten) in
      let stays : setup_of (a ∷ b ∷ rest) ≡ setup_of (x a b d) =
      setup_same (a ∷ b ∷ rest) (x a b d) refl refl (λ k. sym (unchanged a b d k ∙ get_or-drop n (a ∷ b ∷ rest) k (pos 0) ∙ ap (λ (j : ℕ). at (a ∷ b ∷ rest) (j + k)) sixteen)) in
      ap card_of (stored_placed c (a ∷ b ∷ rest) l.ten h ∙ ap (λ (y : List ℤ). a ∷ b ∷ y) (append_assoc (pending_row c.pending) (offer_row c.offer) d))
      ∙ card-of a b d (e ∙ stays)

-- ---- what a row says of its card

pub card_setup : (row : List ℤ) → (card_of row).setup ≡ setup_of row
unfolding card_of
card_setup row = refl

pub card_ten : (row : List ℤ) → length (card_of row).pending.chars ≡ 10
unfolding card_of pending_of
card_ten row = bytes_length 10 (drop 3 row)

pub row_length : (row : List ℤ) → is_row row ≡ true → length row ≡ 23
unfolding is_row
row_length row e = eqb-true (length row) 23 (search ands)

-- ---- the row afterwards

-- what stands before the place
placed_start : {A : Type 0} (xs : List A) (at : ℕ) (out : List A) → at ≤ length out → take at (placed xs at out) ≡ take at out
unfolding placed
placed_start xs at out h =
    let behind = drop (at + length xs) out in
    ap (take at) (append_assoc (take at out) xs behind) ∙ take_at (take at out) (xs ++ behind) at (length-take-le at out h)

every_byte : (cs : List ℕ) → ((k : ℕ) → get_or cs k 0 < 256) → every is_byte (map pos cs) ≡ true
unfolding every
every_byte [] h = refl
every_byte (x ∷ cs) h = and_both (is-byte x (h 0)) (every_byte cs (λ k. h (suc k)))

pending_bytes : (p : Pending) → Lent p → every is_byte (pending_row p) ≡ true
unfolding every pending_row
pending_bytes p l = and_both (is-byte (length (open_of p)) (omega (arith, open_length p l, l.held))) (every_byte p.chars l.chars)

-- the first two of thirteen
first_two : (row : List ℤ) → every is_byte (take 13 row) ≡ true → every is_byte (take 2 row) ≡ true
unfolding every
first_two [] e = refl
first_two (a ∷ []) e = e
first_two (a ∷ b ∷ rest) e =
    let one : is_byte a ≡ true = search ands in
    let other : is_byte b ≡ true = search ands in
    and_both one (and_both other refl)

module _ (c : Card) (l : Lent c.pending) (row : List ℤ) where
  abbrev p : Pending
  p = c.pending

  module _ (h : 16 ≤ length row) where
    -- letter and address stay
    pub stored_front : take 2 (stored_in c row) ≡ take 2 row
    stored_front = ap (take 2) (stored_placed c row l.ten h) ∙ placed_start (changing c) 2 row (omega arith)

    -- so do scan and revision
    pub stored_behind : drop 16 (stored_in c row) ≡ drop 16 row
    stored_behind =
        let n : 2 + length (changing c) ≡ 16 = omega (arith, changing_length c row l.ten) in
        ap (drop 16) (stored_placed c row l.ten h)
        ∙ ap (λ (k : ℕ). drop k (placed (changing c) 2 row)) (sym n)
        ∙ placed_behind (changing c) 2 row (omega arith)
        ∙ ap (λ (k : ℕ). drop k row) n

    stored_before : take 13 (stored_in c row) ≡ take 2 row ++ pending_row p
    stored_before =
        let n : 2 + length (pending_row p) ≡ 13 = omega (arith, pending_length p, l.ten) in
        let x = placed (pending_row p) 2 row in
        let m : 13 ≤ length x = omega (arith, placed_length (pending_row p) 2 row (omega arith)) in
        ap (take 13) (sym (stored_parts c row l.ten h))
        ∙ placed_start (offer_row c.offer) 13 x m
        ∙ ap (λ (k : ℕ). take k x) (sym n)
        ∙ placed_before (pending_row p) 2 row (omega arith)

  pub stored_row : is_row row ≡ true → is_row (stored_in c row) ≡ true
  unfolding is_row
  stored_row e =
      let n : length row ≡ 23 = row_length row e in
      let two : every is_byte (take 2 row) ≡ true = first_two row (search ands) in
      let bytes : every is_byte (take 13 (stored_in c row)) ≡ true = rw (stored_before (omega arith)) (every_append is_byte (take 2 row) (pending_row p) two (pending_bytes p l)) in
      and_both (eq-eqb (length (stored_in c row)) 23 (stored_length c row ∙ n)) bytes
