-- The normal form of a recording is the recording itself or is shorter: a word and what is open before it are together what is then
-- open and what is written, or longer. So of all recordings that are heard alike it has the fewest words, and no other has as few.
-- Assumes nothing.
use mathlib.Core.Path.{◌≡◌, refl, ap, ◌∙◌, subst}
use mathlib.Core.Logic.{inl}
use mathlib.Core.List.{List, [], ◌∷◌, ◌++◌, append_assoc, append-nil}
use Prim.Native.Nat.{ℕ, ◌≤◌}
use native.Mathlib.Omega.{arith}
use borrow.Author.Tests.{eqb-true, ltb-true}
use lib.Dec.{ltb, eqb}
use lib.ListN.{length}
use Rattle.refusal.proofs.Logic.{choice, by-test}
use Rattle.refusal.proofs.Longer.{SameOrLonger, not_shorter, as_long_is_same, longer_than_none, longer_by_rest, longer_then, longer_behind, longer_ahead}
use Rattle.wire.specs.Word.{with_parity, received, travelling}
use Rattle.wire.proofs.Words.{only_word, travelling_none, travelling_one, travelling_append, travelling_longer}
use Rattle.message.specs.declared.Message.{Message}
use Rattle.message.specs.Message.{star, is_letter}
use Rattle.message.specs.Prefix.{parse}
use Rattle.message.proofs.Short.{spelled_or_longer}
use Rattle.hearing.specs.declared.Pending.{Pending}
use Rattle.hearing.specs.declared.Action.{Action}
use Rattle.hearing.specs.declared.Action.TheVariants.{Ignore, Open, Add, Close, Drop}
use Rattle.hearing.specs.declared.Hearing.{Hearing}
use Rattle.hearing.specs.Hearing.{most, none, added, opening, continuing, action_of, perform, hear, heard_from, heard}
use Rattle.hearing.specs.Normal.{words_of, normal}
use Rattle.hearing.specs.Inner.{worth}
use Rattle.hearing.proofs.Heard.{OpenChars, none_holds, added_holds}
use Rattle.hearing.proofs.Normal.{normal_words}
use Rattle.hearing.proofs.Loops.{normal_from, words_before, normal_whole}
use Rattle.std.specs.Prelude.{None, Option, Some}

-- ---- one word

-- what a word leaves open; it and what is written are what was open and the word, or shorter
record Shortens (cs : List ℕ) (w : ℕ) (h : Hearing) : Type 0 where
  left : List ℕ
  holds : OpenChars h.pending left
  longer : SameOrLonger (worth h.message ++ travelling left) (travelling cs ++ (w ∷ []))

-- none is open afterwards
shortens_none : (cs : List ℕ) (w : ℕ) (m : Option Message) → SameOrLonger (worth m) (travelling cs ++ (w ∷ [])) → Shortens cs w (record { pending = none; message = m })
shortens_none cs w m h = record { left = []; holds = none_holds; longer = rw (travelling_none, append-nil) h }

-- and nothing is written
shortens_nothing : (cs : List ℕ) (w : ℕ) → Shortens cs w (record { pending = none; message = None })
unfolding worth
shortens_nothing cs w = shortens_none cs w None (longer_than_none (travelling cs ++ (w ∷ [])))

module _ (p : Pending) (cs : List ℕ) (o : OpenChars p cs) (w : ℕ) where
  ignored : Shortens cs w (perform p Ignore)
  unfolding perform worth
  ignored = record { left = cs; holds = o; longer = longer_by_rest (travelling cs) w [] }

  dropped : Shortens cs w (perform p Drop)
  unfolding perform
  dropped = shortens_nothing cs w

  -- a character that the word carries, where nothing is open and behind what is open
  module _ (c : ℕ) (e : w ≡ with_parity c) where
    opened : cs ≡ [] → Shortens cs w (perform p (Open c))
    unfolding perform worth
    opened z = record {
      left = c ∷ [];
      holds = added_holds none [] c none_holds (omega arith);
      longer = inl (rw (z, e, travelling_none, travelling_one));
    }

    add : Shortens cs w (perform p (Add c))
    unfolding perform added worth
    add =
        by-test (ltb p.len most)
        (λ t. record {
          left = cs ++ (c ∷ []);
          holds = added_holds p cs c o (omega (arith, o.len_is, ltb-true p.len most t));
          longer = inl (rw (e, travelling_append cs (c ∷ []), travelling_one));
        })
        (λ t. rw t (shortens_nothing cs w))

  -- what is heard is spelled with no more characters than were open
  closed : w ≡ with_parity star → Shortens cs w (perform p Close)
  unfolding perform worth
  closed e = rw o.open_is (shortens_none cs w (parse cs) (go (parse cs) refl))
    where
      go : (m : Option Message) → parse cs ≡ m → SameOrLonger (worth m) (travelling cs ++ (w ∷ []))
      go (Some m) q = rw (e, ← travelling_one star, ← travelling_append cs (star ∷ [])) (travelling_longer (spelled_or_longer cs m q))
      go None q = longer_than_none (travelling cs ++ (w ∷ []))

  by_opening : cs ≡ [] → (r : Option ℕ) → ((c : ℕ) → r ≡ Some c → w ≡ with_parity c) → Shortens cs w (perform p (opening r))
  unfolding opening
  by_opening z (Some c) f = choice (λ (a : Action). Shortens cs w (perform p a)) (is_letter c) (λ t. opened c (f c refl) z) (λ t. ignored)
  by_opening z None f = ignored

  by_continuing : (r : Option ℕ) → ((c : ℕ) → r ≡ Some c → w ≡ with_parity c) → Shortens cs w (perform p (continuing r))
  unfolding continuing
  by_continuing (Some c) f =
      choice (λ (a : Action). Shortens cs w (perform p a)) (eqb c star)
      (λ t. closed (f c refl ∙ ap with_parity (eqb-true c star t))) (λ t. add c (f c refl))
  by_continuing None f = dropped

  shortens : Shortens cs w (hear p w)
  unfolding hear action_of
  shortens =
      choice (λ (a : Action). Shortens cs w (perform p a)) (eqb p.len 0)
      (λ t. by_opening (as_long_is_same (longer_than_none cs) (omega (arith, o.len_is, eqb-true p.len 0 t))) (received w) (only_word w))
      (λ t. by_continuing (received w) (only_word w))

-- ---- all words

all_shorten : (p : Pending) (cs ws : List ℕ) → OpenChars p cs → SameOrLonger (normal_from p ws) (travelling cs ++ ws)
unfolding normal_from heard_from
all_shorten p cs [] o = unfold words_of in longer_than_none (travelling cs ++ [])
all_shorten p cs (w ∷ ws) o =
    let h = hear p w in
    let l = shortens p cs o w in
    let rest = longer_ahead (worth h.message) (all_shorten h.pending l.left ws l.holds) in
    rw (words_before h.message (heard_from h.pending ws))
    (longer_then rest (rw (← append_assoc (worth h.message) (travelling l.left) ws, ← append_assoc (travelling cs) (w ∷ []) ws) (longer_behind ws l.longer)))

-- document 02, ticket 7: a recording is its normal form, or has more words
pub normal_or_longer : (ws : List ℕ) → SameOrLonger (normal ws) ws
normal_or_longer ws = rw (normal_whole ws) (rw travelling_none at (all_shorten none [] ws none_holds))

pub normal_short : (ws : List ℕ) → length (normal ws) ≤ length ws
normal_short ws = not_shorter (normal_or_longer ws)

-- what is heard as these messages is their words, or longer
pub words_or_longer : (ms : List Message) (ys : List ℕ) → heard ys ≡ ms → SameOrLonger (words_of ms) ys
words_or_longer ms ys e = subst (λ (xs : List ℕ). SameOrLonger xs ys) (normal_words ys ∙ ap words_of e) (normal_or_longer ys)
