-- Every input has a session: one call over all of it, with room for the whole listing, and the last line. So `session-is-listing` speaks
-- of something. Assumes nothing.
use Rattle.std.proofs.Common.{◌≡◌, ℕ, suc, ◌+◌, ◌-◌, ◌≤◌, leb, List, [], ◌∷◌, ◌++◌, length, drop, sym, refl, ap, ◌∙◌, subst, append-nil, arith, lit≤, length-append, leb-false, leb-true}
use Rattle.refusal.proofs.Logic.{by-test}
use Rattle.wire.specs.Bytes.{word_of}
use Rattle.listing.specs.declared.Progress.{Progress}
use Rattle.listing.specs.declared.Stop.{Stop}
use Rattle.listing.specs.declared.Stop.TheVariants.{Done, Bad, Full}
use Rattle.listing.specs.Listing.{start, line_at, after, last_line, listing_from, Lines, stopped, behind, listed}
use Rattle.listing.specs.Session.{ended, untaken, Session, goes_on, breaks_off, ends}
use Rattle.listing.proofs.Loops.{listed_bad, listed_more}
use Rattle.listing.proofs.Whole.{word_good, session_lists}

-- a call with room for the listing never stops for want of it, and where it takes all words it leaves less than one
record Finishes (bytes : List ℕ) (l : Lines) : Type 0 where
  roomy : l.stop ≡ Full → ⊥
  all : l.stop ≡ Done → length (untaken bytes l) ≤ 1

rank : Stop → ℕ
rank Done = 0
rank Bad = 1
rank Full = 2

apart : {a b : Stop} → (rank a ≡ rank b → ⊥) → a ≡ b → ⊥
apart f e = f (ap rank e)

finishes_behind : (low high : ℕ) (bytes xs : List ℕ) (l : Lines) → Finishes bytes l → Finishes (low ∷ high ∷ bytes) (behind xs l)
unfolding behind untaken
finishes_behind low high bytes xs l f =
    let n : l.taken + 1 + (l.taken + 1) ≡ suc (suc (l.taken + l.taken)) = omega arith in
    record { roomy = f.roomy; all = λ e. subst (λ (k : ℕ). length (drop k (low ∷ high ∷ bytes)) ≤ 1) (sym n) (f.all e) }

finishes : (p : Progress) (bytes : List ℕ) (room : ℕ) → length (listing_from p bytes) ≤ room → Finishes bytes (listed p bytes room)
unfolding listed stopped untaken rank
finishes p [] room h = record { roomy = apart (λ e. omega arith); all = λ e. lit≤ tt }
finishes p (low ∷ []) room h = record { roomy = apart (λ e. omega arith); all = λ e. lit≤ tt }
finishes p (low ∷ high ∷ bytes) room h =
    let w = word_of low high in
    by-test (leb w 256)
    (λ t.
    let n = ap length (word_good p low high bytes t) ∙ length-append (line_at p w) (listing_from (after p w) bytes) in
    subst (Finishes (low ∷ high ∷ bytes)) (sym (listed_more p low high bytes room w refl (leb-true w 256 t) (omega arith)))
    (finishes_behind low high bytes (line_at p w) (listed (after p w) bytes (room - length (line_at p w))) (finishes (after p w) bytes (room - length (line_at p w)) (omega arith))))
    (λ t.
    subst (Finishes (low ∷ high ∷ bytes)) (sym (listed_bad p low high bytes room w refl (leb-false w 256 t)))
    (record { roomy = apart (λ e. omega arith); all = λ e. absurd (apart (λ q. omega arith) e) }))

-- by how the one call stops
from_stop : (p : Progress) (bytes : List ℕ) (room : ℕ) (s : Stop) → (listed p bytes room).stop ≡ s → Finishes bytes (listed p bytes room)
    → Session p [] (bytes ++ []) (listing_from p (bytes ++ []))
unfolding rank
from_stop p bytes room Done e f =
    let l = listed p bytes room in
    let s = goes_on p [] bytes [] (last_line (ended l.progress (untaken bytes l))) room (λ q. apart (λ r. omega arith) (sym e ∙ q)) (ends l.progress (untaken bytes l) (f.all e)) in
    subst (Session p [] (bytes ++ [])) (session_lists s) s
from_stop p bytes room Bad e f =
    let s = breaks_off p [] bytes [] room e in
    subst (Session p [] (bytes ++ [])) (session_lists s) s
from_stop p bytes room Full e f = absurd (f.roomy e)

pub has_session : (input : List ℕ) → Session start [] input (listing_from start input)
has_session input =
    let room = length (listing_from start input) in
    subst (λ (i : List ℕ). Session start [] i (listing_from start i)) (append-nil input)
    (from_stop start input room (listed start input room).stop refl (finishes start input room (omega arith)))
