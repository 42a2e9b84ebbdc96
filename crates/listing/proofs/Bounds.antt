-- What a call takes lies in its bytes, and what it writes in its room: what a caller needs that lends parts of its buffers.
-- Assumes nothing.
use Rattle.std.proofs.Common.{◌≡◌, ℕ, ◌+◌, ◌-◌, ◌≤◌, leb, List, [], ◌∷◌, length, sym, refl, ap, subst, arith, length-append, leb-false, leb-true}
use Rattle.refusal.proofs.Logic.{by-test}
use Rattle.wire.specs.Bytes.{word_of}
use Rattle.listing.specs.declared.Progress.{Progress}
use Rattle.listing.specs.declared.Listed.{Listed}
use Rattle.listing.specs.Listing.{line_at, after, Lines, stopped, behind, listed, answer_of, ListCall, list_call_of, list_call}
use Rattle.listing.proofs.Loops.{listed_bad, listed_full, listed_more}

Bounded : List ℕ → ℕ → Lines → Type 0
Bounded bytes room l = (l.taken + l.taken ≤ length bytes) × (length l.text ≤ room)

bounded_behind : (low high : ℕ) (bytes : List ℕ) (room : ℕ) (xs : List ℕ) (l : Lines) → length xs ≤ room → Bounded bytes (room - length xs) l → Bounded (low ∷ high ∷ bytes) room (behind xs l)
unfolding Bounded behind
bounded_behind low high bytes room xs l h b = let c = b.0 in let d = b.1 in (omega arith, omega (arith, length-append xs l.text))

bounded : (p : Progress) (bytes : List ℕ) (room : ℕ) → Bounded bytes room (listed p bytes room)
unfolding Bounded listed stopped
bounded p [] room = (omega arith, omega arith)
bounded p (low ∷ []) room = (omega arith, omega arith)
bounded p (low ∷ high ∷ bytes) room =
    let w = word_of low high in
    by-test (leb w 256)
    (λ t.
    by-test (leb (length (line_at p w)) room)
    (λ u.
    subst (Bounded (low ∷ high ∷ bytes) room) (sym (listed_more p low high bytes room w refl (leb-true w 256 t) (leb-true (length (line_at p w)) room u)))
    (bounded_behind low high bytes room (line_at p w) (listed (after p w) bytes (room - length (line_at p w))) (leb-true (length (line_at p w)) room u) (bounded (after p w) bytes (room - length (line_at p w)))))
    (λ u. subst (Bounded (low ∷ high ∷ bytes) room) (sym (listed_full p low high bytes room w refl (leb-true w 256 t) (leb-false (length (line_at p w)) room u))) (omega arith, omega arith)))
    (λ t. subst (Bounded (low ∷ high ∷ bytes) room) (sym (listed_bad p low high bytes room w refl (leb-false w 256 t))) (omega arith, omega arith))

module _ (p : Progress) (bytes out : List ℕ) (r : Listed) (left : List ℕ) (e : list_call_of r left ≡ list_call p bytes out) where
  answers : r ≡ answer_of (listed p bytes (length out))
  unfolding list_call
  answers = ap (λ (c : ListCall). c.answer) e

  pub words_within : r.taken + r.taken ≤ length bytes
  unfolding Bounded answer_of
  words_within = let k = ap (λ (x : Listed). x.taken) answers in omega (arith, (bounded p bytes (length out)).0)

  pub lines_within : r.written ≤ length out
  unfolding Bounded answer_of
  lines_within = let k = ap (λ (x : Listed). x.written) answers in omega (arith, (bounded p bytes (length out)).1)
