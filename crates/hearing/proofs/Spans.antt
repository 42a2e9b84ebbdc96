-- The words between two messages and the words of one, each taken in a loop of its own: that both loops together reach where the words
-- reach. Assumes nothing.
use mathlib.Core.Path.{◌≡◌, refl, sym, ap, ◌∙◌, subst}
use mathlib.Core.Bool.{Bool, true, false, not, cond, false≢true}
use mathlib.Core.List.{List, [], ◌∷◌}
use Prim.Native.Nat.{ℕ, ◌+◌, ◌-◌, ◌%◌, ◌<◌, ◌≤◌}
use native.Mathlib.Numerals.{add-one}
use native.Mathlib.Omega.{arith}
use borrow.Author.Tests.{lt-ltb, ltb-false, eqb-true, eqb-false, ne_eqb, eq-eqb}
use lib.Dec.{ltb, eqb}
use lib.ListN.{length, get_or, take, drop, set, drop_of_length-le, length-drop}
use lib.Seq.{drop-cons, take_all}
use Rattle.refusal.proofs.Logic.{choice}
use Rattle.wire.specs.Word.{received}
use Rattle.wire.proofs.Words.{only_word, written_low, received_small}
use Rattle.message.specs.Message.{star}
use Rattle.hearing.specs.declared.Pending.{Pending}
use Rattle.hearing.specs.declared.Action.{Action}
use Rattle.hearing.specs.declared.Action.TheVariants.{Ignore, Open, Add, Close, Drop}
use Rattle.hearing.specs.Hearing.{most, none, added, opening, continuing, action_of, perform, hear, closes}
use Rattle.hearing.specs.Inner.{Reached, left_by, to_close, is_opening, to_letter, to_end}
use Rattle.hearing.proofs.Close.{at_other, word_at, nil_cons}
use Rattle.std.specs.Prelude.{None, Option, Some}
use Rattle.std.specs.List.{position, position_or_len}
use Rattle.std.proofs.lemmas.List.Sums.{prefix_len-le-length}
use Rattle.std.proofs.lemmas.Option.{none-some}

-- what a word does, by whether a message is open
quiet_action : (p : Pending) (w : ℕ) → p.len ≡ 0 → action_of p w ≡ opening (received w)
unfolding action_of
quiet_action p w z = rw (eq-eqb p.len 0 z) refl

open_action : (p : Pending) (w : ℕ) → 1 ≤ p.len → action_of p w ≡ continuing (received w)
unfolding action_of
open_action p w h = rw (ne_eqb p.len 0 (λ e. omega arith)) refl

-- ---- up to a letter

opening_ignored : (o : Option ℕ) → is_opening o ≡ false → opening o ≡ Ignore
unfolding opening is_opening
opening_ignored (Some c) e = rw e
opening_ignored None e = refl

opening_opens : (w : ℕ) → is_opening (received w) ≡ true → opening (received w) ≡ Open (w % 128)
unfolding opening is_opening
opening_opens w = go (received w) refl
  where
    go : (o : Option ℕ) → received w ≡ o → is_opening o ≡ true → opening o ≡ Open (w % 128)
    go (Some c) q e = rw e (ap Open (sym (ap (λ (n : ℕ). n % 128) (only_word w c q) ∙ written_low c (received_small w c q))))
    go None q e = absurd (false≢true e)

-- by how many words the next letter is ahead
abbrev pub opens : ℕ → Bool
opens w = is_opening (received w)

letter_ahead : (ws : List ℕ) (at : ℕ) → to_letter ws at ≡ at + position_or_len opens ws
unfolding to_letter
letter_ahead [] at = omega arith
letter_ahead (w ∷ ws) at =
    choice (λ (k : ℕ). k ≡ at + position_or_len opens (w ∷ ws)) (opens w) (λ t. rw t (omega arith)) (λ f. rw f (omega (arith, letter_ahead ws (at + 1))))

place : Option ℕ → ℕ
place (Some k) = k
place None = 0

found : (b : Bool) (k i : ℕ) → cond b (Some k) None ≡ Some i → k ≡ i
unfolding place
found true k i e = ap place e
found false k i e = absurd (none-some i e)

nowhere : (b : Bool) (k : ℕ) → cond b (Some k) None ≡ None → b ≡ false
nowhere true k e = absurd (none-some k (sym e))
nowhere false k e = refl

-- where `position` finds a letter, and where it finds none
pub letter_found : (ws : List ℕ) (at i : ℕ) → position opens ws ≡ Some i → at + i ≡ to_letter ws at
letter_found ws at i e = omega (arith, letter_ahead ws at, found (ltb (position_or_len opens ws) (length ws)) (position_or_len opens ws) i e)

pub letter_none : (ws : List ℕ) (at : ℕ) → position opens ws ≡ None → at + length ws ≡ to_letter ws at
letter_none ws at e =
    let n : position_or_len opens ws ≤ length ws = prefix_len-le-length (λ (w : ℕ). not (opens w)) ws in
    omega (arith, letter_ahead ws at, ltb-false (position_or_len opens ws) (length ws) (nowhere (ltb (position_or_len opens ws) (length ws)) (position_or_len opens ws) e))

module _ (ws : List ℕ) where
  -- what lies between is ignored
  pub record Skipped (p : Pending) (i k : ℕ) : Type 0 where
    pub behind : i ≤ k
    pub letter : k < length ws → is_opening (received (get_or ws k 0)) ≡ true
    pub same : to_close p (drop i ws) i ≡ to_close p (drop k ws) k

  module _ (p : Pending) (z : p.len ≡ 0) where
    passed : (i : ℕ) → i < length ws → is_opening (received (get_or ws i 0)) ≡ false → to_close p (drop i ws) i ≡ to_close p (drop (i + 1) ws) (i + 1)
    unfolding left_by perform
    passed i h e =
        let a : action_of p (get_or ws i 0) ≡ Ignore = quiet_action p (get_or ws i 0) z ∙ opening_ignored (received (get_or ws i 0)) e in
        at_other p ws i h (ap closes a) ∙ ap (λ (x : Action). to_close (left_by p x) (drop (i + 1) ws) (i + 1)) a

    skips : (rest : List ℕ) (i : ℕ) → drop i ws ≡ rest → Skipped p i (to_letter rest i)
    unfolding to_letter
    skips [] i e = record { behind = omega arith; letter = λ h. absurd (nil_cons (sym e ∙ drop-cons ws i 0 h)); same = refl }
    skips (x ∷ rest) i e =
        let f = word_at ws i x rest e in
        choice (Skipped p i) (is_opening (received x))
        (λ t. record { behind = omega arith; letter = λ h. subst (λ (w : ℕ). is_opening (received w) ≡ true) f.1 t; same = refl })
        (λ t. let s = skips rest (i + 1) (sym f.2) in record {
          behind = omega (arith, s.behind);
          letter = s.letter;
          same = passed i f.0 (subst (λ (w : ℕ). is_opening (received w) ≡ false) f.1 t) ∙ s.same;
        })

    pub skipped : (i : ℕ) → Skipped p i (to_letter (drop i ws) i)
    skipped i = skips (drop i ws) i refl

    -- the letter opens a message
    pub opened : (k : ℕ) → k < length ws → is_opening (received (get_or ws k 0)) ≡ true
        → to_close p (drop k ws) k ≡ to_close (added none (get_or ws k 0 % 128)) (drop (k + 1) ws) (k + 1)
    unfolding left_by perform
    opened k h e =
        let a : action_of p (get_or ws k 0) ≡ Open (get_or ws k 0 % 128) = quiet_action p (get_or ws k 0) z ∙ opening_opens (get_or ws k 0) e in
        at_other p ws k h (ap closes a) ∙ ap (λ (x : Action). to_close (left_by p x) (drop (k + 1) ws) (k + 1)) a

-- ---- the words of a message

-- `at` is the place of the words behind the first i
module _ (ws : List ℕ) (p : Pending) (i at : ℕ) where
  pub end_last : length ws ≤ i → to_end p (drop i ws) at ≡ record { pending = p; at = at }
  unfolding to_end
  end_last h = rw (drop_of_length-le ws h)

  module _ (h : i < length ws) (l : 1 ≤ p.len) where
    -- by what the next word does
    by_action : (a : Action) → continuing (received (get_or ws i 0)) ≡ a
        → to_end p (drop i ws) at
        ≡ cond (closes a) (record { pending = p; at = at })
        (cond (eqb (perform p a).pending.len 0) (record { pending = (perform p a).pending; at = at + 1 }) (to_end (perform p a).pending (drop (i + 1) ws) (at + 1)))
    unfolding to_end hear
    by_action a e = rw (drop-cons ws i 0 h) (rw (open_action p (get_or ws i 0) l ∙ e, add-one i) refl)

    pub end_nothing : received (get_or ws i 0) ≡ None → to_end p (drop i ws) at ≡ record { pending = none; at = at + 1 }
    unfolding continuing perform none
    end_nothing e = by_action Drop (ap continuing e)

    module _ (c : ℕ) (e : received (get_or ws i 0) ≡ Some c) where
      pub end_star : eqb c star ≡ true → to_end p (drop i ws) at ≡ record { pending = p; at = at }
      unfolding continuing
      end_star s = by_action Close (ap continuing e ∙ rw s)

      module _ (s : eqb c star ≡ false) where
        pub end_full : ltb p.len most ≡ false → to_end p (drop i ws) at ≡ record { pending = none; at = at + 1 }
        unfolding continuing perform added none
        end_full f = by_action (Add c) (ap continuing e ∙ rw s) ∙ rw f

        pub end_more : (q : Pending) → q ≡ added p c → p.len < most → (1 ≤ q.len) × (to_end p (drop i ws) at ≡ to_end q (drop (i + 1) ws) (at + 1))
        unfolding continuing perform added
        end_more q d f =
            let g : q ≡ record { chars = set p.chars p.len c; len = p.len + 1 } = d ∙ rw (lt-ltb p.len most f) refl in
            let n : q.len ≡ p.len + 1 = ap (λ (x : Pending). x.len) g in
            (omega (arith, n), by_action (Add c) (ap continuing e ∙ rw s) ∙ rw g (rw (lt-ltb p.len most f) (rw (ne_eqb (p.len + 1) 0 (λ z. omega arith)))))

-- the part of the words that a loop goes over from a place on
pub part_whole : (ws : List ℕ) (from : ℕ) → take (length ws - from) (drop from ws) ≡ drop from ws
part_whole ws from = take_all (length ws - from) (drop from ws) (omega (arith, length-drop from ws))

-- what is reached, as the code answers it
pub answered : {x y : Reached} (q : Pending) (k : ℕ) → x ≡ y → x ≡ record { pending = q; at = k } → (k ≡ y.at) × (q ≡ y.pending)
answered {x} {y} q k i e =
    let r : record { pending = q; at = k } ≡ y = sym e ∙ i in
    (ap (λ (z : Reached). z.at) r, ap (λ (z : Reached). z.pending) r)

module _ (ws : List ℕ) where
  -- a message that is still open has reached its `*` or the end, and one that is dropped leaves the words behind it
  pub record Ended (p : Pending) (i : ℕ) (g : Reached) : Type 0 where
    pub still_open : 1 ≤ g.pending.len → to_close p (drop i ws) i ≡ g
    pub dropped : g.pending.len ≡ 0 → (i < g.at) × (to_close p (drop i ws) i ≡ to_close g.pending (drop g.at ws) g.at)

  ends : (rest : List ℕ) (p : Pending) (i : ℕ) → 1 ≤ p.len → drop i ws ≡ rest → Ended p i (to_end p rest i)
  unfolding to_end to_close
  ends [] p i l e = record { still_open = λ h. rw e; dropped = λ z. absurd (omega arith) }
  ends (x ∷ rest) p i l e =
      let f = word_at ws i x rest e in
      choice (Ended p i) (closes (action_of p x))
      (λ t. record { still_open = λ h. rw e (rw t); dropped = λ z. absurd (omega arith) })
      (λ t.
      let on : to_close p (drop i ws) i ≡ to_close (hear p x).pending (drop (i + 1) ws) (i + 1) = rw e (rw (t, ← f.2)) in
      choice (Ended p i) (eqb (hear p x).pending.len 0)
      (λ u. record { still_open = λ h. absurd (omega (arith, eqb-true (hear p x).pending.len 0 u)); dropped = λ z. (omega arith, on) })
      (λ u.
      let n = eqb-false (hear p x).pending.len 0 u in
      let r = ends rest (hear p x).pending (i + 1) (omega (arith, n)) (sym f.2) in
      record {
        still_open = λ h. on ∙ r.still_open h;
        dropped = λ z. let d = r.dropped z in (omega (arith, d.0), on ∙ d.1);
      }))

  pub is_ended : (p : Pending) (i : ℕ) → 1 ≤ p.len → Ended p i (to_end p (drop i ws) i)
  is_ended p i l = ends (drop i ws) p i l refl
