-- Words up to one that closes the open message: what each of them does, and that nothing is heard on the way. Assumes nothing.
use mathlib.Core.Path.{◌≡◌, refl, sym, ap, ◌∙◌, subst}
use mathlib.Core.Bool.{Bool, true, false, false≢true}
use mathlib.Core.List.{List, [], ◌∷◌}
use Prim.Native.Nat.{ℕ, suc, ◌+◌, ◌<◌, ◌≤◌}
use native.Mathlib.Numerals.{add-one}
use native.Mathlib.Omega.{arith}
use borrow.Author.Tests.{ltb-true, ltb-false}
use lib.Dec.{ltb}
use lib.ListN.{length, get_or, drop, drop_of_length-le, length-set}
use lib.Seq.{drop-cons}
use Rattle.refusal.proofs.Logic.{choice}
use Rattle.message.specs.Prefix.{parse}
use Rattle.hearing.specs.declared.Pending.{Pending}
use Rattle.hearing.specs.declared.Action.{Action}
use Rattle.hearing.specs.declared.Action.TheVariants.{Ignore, Open, Add, Close, Drop}
use Rattle.hearing.specs.Hearing.{most, none, added, open_of, action_of, perform, hear, closes}
use Rattle.hearing.specs.Inner.{Reached, left_by, to_close}
use Rattle.std.specs.Prelude.{None}

module _ (p : Pending) (ws : List ℕ) (i : ℕ) where
  -- the next word, and what it does
  abbrev word : ℕ
  word = get_or ws i 0

  -- the words are at their end
  pub at_end : length ws ≤ i → to_close p (drop i ws) i ≡ record { pending = p; at = i }
  unfolding to_close
  at_end h = rw (drop_of_length-le ws h)

  module _ (h : i < length ws) where
    pub at_close : closes (action_of p word) ≡ true → to_close p (drop i ws) i ≡ record { pending = p; at = i }
    unfolding to_close
    at_close e = rw (drop-cons ws i 0 h) (rw e)

    -- any other word is taken
    pub at_other : closes (action_of p word) ≡ false → to_close p (drop i ws) i ≡ to_close (left_by p (action_of p word)) (drop (i + 1) ws) (i + 1)
    unfolding to_close hear left_by
    at_other f = rw (drop-cons ws i 0 h) (rw (f, add-one i) refl)

-- a word that closes the message leaves it
pub left_closed : (p : Pending) (a : Action) → closes a ≡ true → left_by p a ≡ p
unfolding left_by
left_closed p a e = rw e refl

-- any other leaves what is heard on
pub left_other : (p : Pending) (w : ℕ) → closes (action_of p w) ≡ false → left_by p (action_of p w) ≡ (hear p w).pending
unfolding left_by hear
left_other p w e = rw e refl

-- ---- where the words reach

close_hears : (p : Pending) (w : ℕ) → action_of p w ≡ Close → hear p w ≡ record { pending = none; message = parse (open_of p) }
unfolding hear perform
close_hears p w e = rw e refl

-- what keeps a message open, opens one or drops one is not heard
pub other_unheard : (p : Pending) (w : ℕ) → closes (action_of p w) ≡ false → (hear p w).message ≡ None
unfolding hear perform
other_unheard p w e = go (action_of p w) e
  where
    go : (a : Action) → closes a ≡ false → (perform p a).message ≡ None
    go Ignore f = refl
    go (Open c) f = refl
    go (Add c) f = refl
    go Close f = absurd (false≢true (sym f))
    go Drop f = refl

is_close : (a : Action) → closes a ≡ true → a ≡ Close
is_close Ignore e = absurd (false≢true e)
is_close (Open c) e = absurd (false≢true e)
is_close (Add c) e = absurd (false≢true e)
is_close Close e = refl
is_close Drop e = absurd (false≢true e)

pub closing_hears : (p : Pending) (w : ℕ) → closes (action_of p w) ≡ true → hear p w ≡ record { pending = none; message = parse (open_of p) }
closing_hears p w e = close_hears p w (is_close (action_of p w) e)

pub hear_long : (p : Pending) (w : ℕ) → length p.chars ≡ most → length (hear p w).pending.chars ≡ most
unfolding hear perform added none
hear_long p w e = go (action_of p w)
  where
    go : (a : Action) → length (perform p a).pending.chars ≡ most
    go Ignore = e
    go (Open c) = refl
    go (Add c) = choice (λ (q : Pending). length q.chars ≡ most) (ltb p.len most) (λ t. length-set p.chars p.len c ∙ e) (λ t. refl)
    go Close = refl
    go Drop = refl

-- whatever a word does, ten places stay ten
pub left_long : (p : Pending) (w : ℕ) → length p.chars ≡ most → length (left_by p (action_of p w)).chars ≡ most
unfolding left_by hear
left_long p w e = choice (λ (q : Pending). length q.chars ≡ most) (closes (action_of p w)) (λ t. e) (λ t. hear_long p w e)

pub nil_cons : {x : ℕ} {xs : List ℕ} → [] ≡ x ∷ xs → ⊥
nil_cons {x} {xs} e = let n : 0 ≡ length (x ∷ xs) = ap length e in omega arith

module _ (ws : List ℕ) where
  -- the first of the words from a place on
  pub word_at : (i x : ℕ) (rest : List ℕ) → drop i ws ≡ x ∷ rest → (i < length ws) × (x ≡ get_or ws i 0) × (rest ≡ drop (i + 1) ws)
  word_at i x rest e = go (ltb i (length ws)) refl
    where
      go : (b : Bool) → ltb i (length ws) ≡ b → (i < length ws) × (x ≡ get_or ws i 0) × (rest ≡ drop (i + 1) ws)
      go true t =
          let h : i < length ws = ltb-true i (length ws) t in
          let q : x ∷ rest ≡ get_or ws i 0 ∷ drop (suc i) ws = sym e ∙ drop-cons ws i 0 h in
          (h, ap (λ (l : List ℕ). get_or l 0 0) q, ap (drop 1) q ∙ ap (λ (k : ℕ). drop k ws) (sym (add-one i)))
      go false t = absurd (nil_cons (sym (drop_of_length-le ws (ltb-false i (length ws) t)) ∙ e))

  -- what every unheard word keeps holds where the words reach
  module _ (P : Pending → ℕ → Type 0)
      (keeps : (p : Pending) (i : ℕ) → i < length ws → (hear p (get_or ws i 0)).message ≡ None → P p i → P (hear p (get_or ws i 0)).pending (i + 1)) where
    along : (rest : List ℕ) (p : Pending) (i : ℕ) → drop i ws ≡ rest → P p i → P (to_close p rest i).pending (to_close p rest i).at
    unfolding to_close
    along [] p i e h = h
    along (x ∷ rest) p i e h =
        let f = word_at i x rest e in
        choice (λ (r : Reached). P r.pending r.at) (closes (action_of p x)) (λ t. h)
        (λ t. along rest (hear p x).pending (i + 1) (sym f.2)
        (subst (λ (w : ℕ). P (hear p w).pending (i + 1)) (sym f.1) (keeps p i f.0 (subst (λ (w : ℕ). (hear p w).message ≡ None) f.1 (other_unheard p x t)) h)))

    pub reached : (p : Pending) (i : ℕ) → P p i → P (to_close p (drop i ws) i).pending (to_close p (drop i ws) i).at
    reached p i h = along (drop i ws) p i refl h

  -- not before it began, and not behind the words
  pub reached_in : (p : Pending) (i : ℕ) → i ≤ length ws → (i ≤ (to_close p (drop i ws) i).at) × ((to_close p (drop i ws) i).at ≤ length ws)
  reached_in p i h =
      reached (λ (q : Pending) (k : ℕ). (i ≤ k) × (k ≤ length ws)) (λ q k l u g. (omega (arith, g.0), omega arith)) p i (omega arith, h)

  -- a word that is left closes the message
  stops : (rest : List ℕ) (p : Pending) (i : ℕ) → drop i ws ≡ rest → (to_close p rest i).at < length ws
      → action_of (to_close p rest i).pending (get_or ws (to_close p rest i).at 0) ≡ Close
  unfolding to_close
  stops [] p i e = λ h. absurd (nil_cons (sym e ∙ drop-cons ws i 0 h))
  stops (x ∷ rest) p i e =
      let f = word_at i x rest e in
      choice (λ (r : Reached). r.at < length ws → action_of r.pending (get_or ws r.at 0) ≡ Close) (closes (action_of p x))
      (λ t h. subst (λ (w : ℕ). action_of p w ≡ Close) f.1 (is_close (action_of p x) t))
      (λ t. stops rest (hear p x).pending (i + 1) (sym f.2))

  pub reached_hears : (p : Pending) (i : ℕ) → (to_close p (drop i ws) i).at < length ws
      → hear (to_close p (drop i ws) i).pending (get_or ws (to_close p (drop i ws) i).at 0) ≡ record { pending = none; message = parse (open_of (to_close p (drop i ws) i).pending) }
  reached_hears p i h = close_hears _ _ (stops (drop i ws) p i refl h)

  -- ten places stay ten
  pub reached_long : (p : Pending) (i : ℕ) → length p.chars ≡ most → length (to_close p (drop i ws) i).pending.chars ≡ most
  reached_long p i e = reached (λ (q : Pending) (k : ℕ). length q.chars ≡ most) (λ q k l u g. hear_long q (get_or ws k 0) g) p i e
