-- Laws of rows: what the loops of the code carry, and what a card stored back has left. Assumes nothing.
use mathlib.Core.Path.{◌≡◌, refl, sym, ap, ap₂, ◌∙◌}
use mathlib.Core.Bool.{Bool, true, false, ◌&&◌}
use mathlib.Core.List.{List, [], ◌∷◌, ◌++◌, map, append-nil}
use Prim.Native.Nat.{ℕ, zero, suc, ◌+◌, ◌<◌, ◌≤◌}
use native.Mathlib.Omega.{arith}
use borrow.Author.Tests.{leb-true, le-leb, lt-leb}
use lib.Dec.{leb}
use lib.IntN.{ℤ, pos}
use lib.ListN.{length, get_or, drop, set, length-append, length-map, drop_of_length-le}
use lib.Seq.{get_or-drop, drop-drop}
use Rattle.std.proofs.lemmas.List.{same_lists, get_or_default}
use Rattle.refusal.specs.Buffer.{laid, fits_at, placed}
use Rattle.refusal.proofs.Logic.{by-test}
use Rattle.refusal.proofs.Buffers.{placed-front, placed_length, placed_one, placed_both}
use Rattle.sheet.specs.Sheet.{at}
use Rattle.hearing.specs.declared.Pending.{Pending}
use Rattle.hearing.specs.Hearing.{open_of}
use Rattle.card.specs.declared.Card.{Card}
use Rattle.row.specs.Row.{is_byte, byte_of, bytes_in, setup_of, is_exactly, offer_of, pending_row, offer_row, changing, stored_in}
use Rattle.std.specs.Prelude.{None, Option, Some}
use Rattle.act.specs.declared.Offer.{Offer}
use Rattle.act.specs.Act.{held}

-- ---- bytes read from a row

pub bytes_length : (n : ℕ) (zs : List ℤ) → length (bytes_in n zs) ≡ n
unfolding bytes_in
bytes_length zero zs = refl
bytes_length (suc n) zs = ap suc (bytes_length n (drop 1 zs))

bytes_at : (n k : ℕ) (zs : List ℤ) → k < n → get_or (bytes_in n zs) k 0 ≡ byte_of (at zs k)
unfolding bytes_in
bytes_at zero k zs h = absurd (omega arith)
bytes_at (suc n) zero zs h = refl
bytes_at (suc n) (suc k) zs h = bytes_at n k (drop 1 zs) (omega arith) ∙ ap byte_of (get_or-drop 1 zs k (pos 0) ∙ ap (at zs) (omega arith))

-- the number at a place of the row, as the loop reads it
pub byte_read : (row : List ℤ) (from n k : ℕ) → k < n → get_or (bytes_in n (drop from row)) k 0 ≡ byte_of (at row (from + k))
byte_read row from n k h = bytes_at n k (drop from row) h ∙ ap byte_of (get_or-drop from row k (pos 0))

-- an array of n that holds them
pub bytes_made : (row : List ℤ) (from n : ℕ) (ys : List ℕ) → length ys ≡ n → ((k : ℕ) → k < n → get_or ys k 0 ≡ byte_of (at row (from + k))) → ys ≡ bytes_in n (drop from row)
bytes_made row from n ys e h =
    let m = bytes_length n (drop from row) in
    same_lists ys (bytes_in n (drop from row)) (e ∙ sym m) (λ k d l. get_or_default ys k d 0 l ∙ h k (omega arith) ∙ sym (byte_read row from n k (omega arith)) ∙ sym (get_or_default (bytes_in n (drop from row)) k d 0 (omega arith)))

-- five numbers from a place on
bytes_next : (row : List ℤ) (n k : ℕ) → bytes_in (suc n) (drop k row) ≡ byte_of (at row k) ∷ bytes_in n (drop (suc k) row)
unfolding bytes_in
bytes_next row n k =
    let here : k + 0 ≡ k = omega arith in
    let next : k + 1 ≡ suc k = omega arith in
    ap₂ (λ (x : ℕ) (xs : List ℕ). x ∷ xs) (ap byte_of (get_or-drop k row 0 (pos 0) ∙ ap (at row) here)) (ap (bytes_in n) (drop-drop 1 k row ∙ ap (λ (j : ℕ). drop j row) next))

pub scan_bytes : (row : List ℤ) → bytes_in 5 (drop 17 row) ≡ byte_of (at row 17) ∷ byte_of (at row 18) ∷ byte_of (at row 19) ∷ byte_of (at row 20) ∷ byte_of (at row 21) ∷ []
unfolding bytes_in
scan_bytes row = rw (bytes_next row 4 17, bytes_next row 3 18, bytes_next row 2 19, bytes_next row 1 20, bytes_next row 0 21)

-- a list over the whole of a buffer
pub placed_whole : (xs out : List ℕ) → length out ≤ length xs → placed xs 0 out ≡ xs
unfolding laid
placed_whole xs out h = placed-front xs out ∙ ap (λ (l : List ℕ). xs ++ l) (drop_of_length-le out h) ∙ append-nil xs

-- the setup by the numbers at its places
pub setup_same : (row row' : List ℤ) → at row 0 ≡ at row' 0 → at row 1 ≡ at row' 1 → ((k : ℕ) → at row (16 + k) ≡ at row' (16 + k)) → setup_of row ≡ setup_of row'
unfolding setup_of
setup_same row row' l a h =
    simp (l, a, h 0, scan_bytes row, scan_bytes row', h 1, h 2, h 3, h 4, h 5, h 6)

-- ---- an offer by its three numbers, any numbers

module _ (m i z : ℤ) where
  abbrev pub is_none : Bool
  is_none = is_exactly 0 m && is_exactly 0 i && is_exactly 0 z

  abbrev pub is_marked : Bool
  is_marked = is_exactly 1 m && is_byte i

  pub offer_none : is_none ≡ true → offer_of m i z ≡ None
  unfolding offer_of
  offer_none e = rw e

  pub offer_marked : is_none ≡ false → is_marked ≡ true → offer_of m i z ≡ held (byte_of i) z
  unfolding offer_of
  offer_marked e f = rw (e, f)

  pub offer_other : is_none ≡ false → is_marked ≡ false → offer_of m i z ≡ held 0 (pos 0)
  unfolding offer_of
  offer_other e f = rw (e, f)

-- ---- a card stored back

pub pending_length : (p : Pending) → length (pending_row p) ≡ suc (length p.chars)
unfolding pending_row
pending_length p = ap suc (length-map p.chars pos)

pub offer_length : (o : Option Offer) → length (offer_row o) ≡ 3
unfolding offer_row
offer_length None = refl
offer_length (Some o) = refl

-- the count, and the characters behind it
pub pending_placed : (p : Pending) (row : List ℤ) → 13 ≤ length row → placed (map pos p.chars) 3 (set row 2 (pos (length (open_of p)))) ≡ placed (pending_row p) 2 row
unfolding pending_row
pending_placed p row h =
    let x = pos (length (open_of p)) in
    ap (placed (map pos p.chars) 3) (placed_one x 2 row (omega arith)) ∙ placed_both (x ∷ []) 2 row (omega arith) (map pos p.chars)

-- no number more, and none less
pub stored_length : (c : Card) (row : List ℤ) → length (stored_in c row) ≡ length row
unfolding stored_in fits_at
stored_length c row =
    by-test (leb (2 + length (changing c)) (length row))
    (λ t. rw t (placed_length (changing c) 2 row (leb-true (2 + length (changing c)) (length row) t)))
    (λ t. rw t)

module _ (c : Card) (row : List ℤ) (ten : length c.pending.chars ≡ 10) where
  pub changing_length : length (changing c) ≡ 14
  changing_length = omega (arith, length-append (pending_row c.pending) (offer_row c.offer), pending_length c.pending, offer_length c.offer, ten)

  pub stored_placed : 16 ≤ length row → stored_in c row ≡ placed (changing c) 2 row
  unfolding stored_in fits_at
  stored_placed h = rw (le-leb (2 + length (changing c)) (length row) (omega (arith, changing_length)))

  -- the offer behind the open message
  pub stored_parts : 16 ≤ length row → placed (offer_row c.offer) 13 (placed (pending_row c.pending) 2 row) ≡ stored_in c row
  stored_parts h =
      let n : 13 ≡ 2 + length (pending_row c.pending) = omega (arith, pending_length c.pending, ten) in
      ap (λ (k : ℕ). placed (offer_row c.offer) k (placed (pending_row c.pending) 2 row)) n
      ∙ placed_both (pending_row c.pending) 2 row (omega arith) (offer_row c.offer)
      ∙ sym (stored_placed h)

  pub stored_short : length row < 16 → stored_in c row ≡ row
  unfolding stored_in fits_at
  stored_short h = rw (lt-leb (2 + length (changing c)) (length row) (omega (arith, changing_length)))
