-- However an input is cut into buffers, and whatever room the calls have, what they write is the listing of the whole input. A call
-- resumes where the one before it stopped, by going through its words; the rest is joining. Assumes nothing.
use Rattle.std.proofs.Common.{◌≡◌, ℕ, suc, ◌+◌, ◌-◌, ◌≤◌, true, false, leb, List, [], ◌∷◌, ◌++◌, length, drop, sym, refl, ap, ◌∙◌, subst, append_assoc, append-nil, arith, leb-false, leb-true}
use Rattle.refusal.proofs.Logic.{by-test}
use Rattle.wire.specs.Bytes.{word_of}
use Rattle.listing.specs.declared.Progress.{Progress}
use Rattle.listing.specs.declared.Stop.{Stop}
use Rattle.listing.specs.declared.Stop.TheVariants.{Done, Bad, Full}
use Rattle.listing.specs.declared.Ending.TheVariants as ending
use Rattle.listing.specs.Listing.{heading, start, line_at, after, last_line, listing_from, listing, Lines, stopped, behind, listed}
use Rattle.listing.specs.Session.{ended, untaken, Session, goes_on, breaks_off, ends}
use Rattle.listing.proofs.Loops.{listed_bad, listed_full, listed_more}

-- ---- one call

-- what follows a call that stopped so, at p, with these bytes to come
follows : Stop → Progress → List ℕ → List ℕ
follows Done p bytes = listing_from p bytes
follows Bad p bytes = last_line (ending.Bad p.at)
follows Full p bytes = listing_from p bytes

-- the lines of a call, and what follows it, are the listing
abbrev Resumes : Progress → List ℕ → List ℕ → Lines → Type 0
Resumes p bytes rest l = listing_from p (bytes ++ rest) ≡ l.text ++ follows l.stop l.progress (untaken bytes l ++ rest)

module _ (p : Progress) (low high : ℕ) (bytes : List ℕ) where
  pub word_bad : leb (word_of low high) 256 ≡ false → listing_from p (low ∷ high ∷ bytes) ≡ last_line (ending.Bad p.at)
  unfolding listing_from
  word_bad e = rw e

  pub word_good : leb (word_of low high) 256 ≡ true → listing_from p (low ∷ high ∷ bytes) ≡ line_at p (word_of low high) ++ listing_from (after p (word_of low high)) bytes
  unfolding listing_from
  word_good e = rw e

resumes_behind : (p : Progress) (low high : ℕ) (bytes rest : List ℕ) (l : Lines) → leb (word_of low high) 256 ≡ true
    → Resumes (after p (word_of low high)) bytes rest l → Resumes p (low ∷ high ∷ bytes) rest (behind (line_at p (word_of low high)) l)
unfolding behind untaken
resumes_behind p low high bytes rest l e r =
    let n : l.taken + 1 + (l.taken + 1) ≡ suc (suc (l.taken + l.taken)) = omega arith in
    word_good p low high (bytes ++ rest) e
    ∙ ap (λ (t : List ℕ). line_at p (word_of low high) ++ t) r
    ∙ sym (append_assoc (line_at p (word_of low high)) l.text (follows l.stop l.progress (drop (l.taken + l.taken) bytes ++ rest)))
    ∙ ap (λ (k : ℕ). (line_at p (word_of low high) ++ l.text) ++ follows l.stop l.progress (drop k (low ∷ high ∷ bytes) ++ rest)) (sym n)

resumes : (p : Progress) (bytes rest : List ℕ) (room : ℕ) → Resumes p bytes rest (listed p bytes room)
unfolding listed stopped follows untaken
resumes p [] rest room = refl
resumes p (low ∷ []) rest room = refl
resumes p (low ∷ high ∷ bytes) rest room =
    let w = word_of low high in
    by-test (leb w 256)
    (λ t.
    by-test (leb (length (line_at p w)) room)
    (λ u.
    subst (Resumes p (low ∷ high ∷ bytes) rest) (sym (listed_more p low high bytes room w refl (leb-true w 256 t) (leb-true (length (line_at p w)) room u)))
    (resumes_behind p low high bytes rest (listed (after p w) bytes (room - length (line_at p w))) t (resumes (after p w) bytes rest (room - length (line_at p w)))))
    (λ u. subst (Resumes p (low ∷ high ∷ bytes) rest) (sym (listed_full p low high bytes room w refl (leb-true w 256 t) (leb-false (length (line_at p w)) room u))) refl))
    (λ t. subst (Resumes p (low ∷ high ∷ bytes) rest) (sym (listed_bad p low high bytes room w refl (leb-false w 256 t))) (word_bad p low high (bytes ++ rest) t))

follows_on : (s : Stop) (p : Progress) (bytes : List ℕ) → (s ≡ Bad → ⊥) → follows s p bytes ≡ listing_from p bytes
unfolding follows
follows_on Done p bytes h = refl
follows_on Bad p bytes h = absurd (h refl)
follows_on Full p bytes h = refl

-- a call that does not stop at a word above 256: the listing goes on with what it leaves
pub resumed : (p : Progress) (bytes rest : List ℕ) (room : ℕ) → ((listed p bytes room).stop ≡ Bad → ⊥)
    → listing_from p (bytes ++ rest) ≡ (listed p bytes room).text ++ listing_from (listed p bytes room).progress (untaken bytes (listed p bytes room) ++ rest)
resumed p bytes rest room h =
    let l = listed p bytes room in
    resumes p bytes rest room ∙ ap (λ (t : List ℕ). l.text ++ t) (follows_on l.stop l.progress (untaken bytes l ++ rest) h)

-- and one that does: the listing ends there
pub broken_off : (p : Progress) (bytes rest : List ℕ) (room : ℕ) → (listed p bytes room).stop ≡ Bad
    → listing_from p (bytes ++ rest) ≡ (listed p bytes room).text ++ last_line (ending.Bad (listed p bytes room).progress.at)
unfolding follows
broken_off p bytes rest room e =
    let l = listed p bytes room in
    resumes p bytes rest room ∙ ap (λ (s : Stop). l.text ++ follows s l.progress (untaken bytes l ++ rest)) e

-- ---- all calls

last_left : (p : Progress) (left : List ℕ) → length left ≤ 1 → last_line (ended p left) ≡ listing_from p left
unfolding ended listing_from
last_left p [] h = refl
last_left p (b ∷ []) h = refl
last_left p (b ∷ c ∷ bytes) h = absurd (too_long (length bytes) h)
  where
    too_long : (n : ℕ) → suc (suc n) ≤ 1 → ⊥
    too_long n h = omega arith

pub session_lists : {p : Progress} {left input out : List ℕ} → Session p left input out → out ≡ listing_from p (left ++ input)
session_lists (goes_on p left new rest out' room h s) =
    let l = listed p (left ++ new) room in
    ap (λ (t : List ℕ). l.text ++ t) (session_lists s)
    ∙ sym (resumed p (left ++ new) rest room h)
    ∙ ap (listing_from p) (append_assoc left new rest)
session_lists (breaks_off p left new rest room e) =
    sym (broken_off p (left ++ new) rest room e) ∙ ap (listing_from p) (append_assoc left new rest)
session_lists (ends p left h) = last_left p left h ∙ ap (listing_from p) (sym (append-nil left))

-- the heading and what any session over the input writes are the whole output
pub session_is_listing : (input out : List ℕ) → Session start [] input out → heading ++ out ≡ listing input
unfolding listing
session_is_listing input out s = ap (λ (t : List ℕ). heading ++ t) (session_lists s)
