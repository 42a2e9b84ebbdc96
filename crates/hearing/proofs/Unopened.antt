-- A word while no message is open: none is heard, and one that is no letter is dropped. So of a letter and ten characters or more behind it
-- nothing is heard, where none of these is a letter: the eleventh drops what is open, and the others open nothing. Assumes nothing.
use mathlib.Core.Path.{◌≡◌, refl, sym, ap, ◌∙◌}
use mathlib.Core.Logic.{inl, inr}
use mathlib.Core.Bool.{true, false}
use mathlib.Core.List.{List, [], ◌∷◌, ◌++◌}
use Prim.Native.Nat.{ℕ, ◌+◌, ◌<◌, ◌≤◌}
use native.Mathlib.Omega.{arith}
use borrow.Author.Tests.{ltb-true}
use lib.Dec.{ltb, lit<}
use lib.ListN.{length, length-append}
use Rattle.refusal.proofs.Logic.{choice, by-test}
use Rattle.wire.specs.Word.{with_parity, received, travelling}
use Rattle.wire.proofs.Words.{travels, travelling_none, travelling_first}
use Rattle.message.specs.declared.Message.{Message}
use Rattle.message.specs.Message.{star, is_letter}
use Rattle.message.proofs.Messages.{Plain, Unopening, no_letter_is}
use Rattle.message.proofs.Places.{HeardAsNothing}
use Rattle.hearing.specs.declared.Pending.{Pending}
use Rattle.hearing.specs.declared.Action.{Action}
use Rattle.hearing.specs.Hearing.{most, none, added, opening, action_of, perform, hear, before, heard_from, open_after, heard}
use Rattle.hearing.proofs.Heard.{OpenChars, none_holds, added_holds, hear_open, hear_add, before_unheard, heard_start, heard_both, leads_unheard, words_apart, heard_as}
use Rattle.std.specs.Prelude.{None, Option, Some}

opening_unheard : (r : Option ℕ) → (perform none (opening r)).message ≡ None
unfolding perform opening
opening_unheard (Some c) = choice (λ (a : Action). (perform none a).message ≡ None) (is_letter c) (λ _. refl) (λ _. refl)
opening_unheard None = refl

pub none_unheard : (w : ℕ) → (hear none w).message ≡ None
unfolding hear action_of none
none_unheard w = opening_unheard (received w)

pub hear_dropped : (c : ℕ) → c < 128 → is_letter c ≡ false → hear none (with_parity c) ≡ record { pending = none; message = None }
unfolding hear perform action_of opening none
hear_dropped c h e = rw (travels c h, e)

-- ---- characters that open no message

word_dropped : (c : ℕ) (ws : List ℕ) → c < 128 → is_letter c ≡ false → heard_from none (with_parity c ∷ ws) ≡ heard_from none ws
word_dropped c ws h e = (leads_unheard none (with_parity c) ws none (hear_dropped c h e)).hears

passed_over : (cs rest : List ℕ) → Unopening cs → heard_from none (travelling cs ++ rest) ≡ heard_from none rest
passed_over [] rest u = rw travelling_none
passed_over (c ∷ cs) rest u = rw travelling_first (word_dropped c (travelling cs ++ rest) u.0.is_plain.small u.0.no_letter ∙ passed_over cs rest u.1)

-- more than ten characters: the eleventh drops the open message
overrun : (p : Pending) (cs ds rest : List ℕ) → OpenChars p cs → 1 ≤ length cs → length cs ≤ most → most < length cs + length ds → Unopening ds → heard_from p (travelling ds ++ rest) ≡ heard_from none rest
overrun p cs [] rest o l k h u = absurd (omega arith)
overrun p cs (d ∷ ds) rest o l k h u =
    let n : p.len ≡ length cs = o.len_is in
    let m = length-append cs (d ∷ []) in
    rw travelling_first
    ((leads_unheard p (with_parity d) (travelling ds ++ rest) (added p d) (hear_add p (omega arith) d u.0.is_plain)).hears
    ∙ by-test (ltb p.len most)
    (λ t.
    let i = ltb-true p.len most t in
    overrun (added p d) (cs ++ (d ∷ [])) ds rest (added_holds p cs d o (omega arith)) (omega arith) (omega arith) (omega arith) u.1)
    (λ t. ap (λ (q : Pending). heard_from q (travelling ds ++ rest)) (full t) ∙ passed_over ds rest u.1))
  where
    full : ltb p.len most ≡ false → added p d ≡ none
    full t = unfold added in rw t

too_long : (c : ℕ) (cs rest : List ℕ) → is_letter c ≡ true → Unopening cs → most ≤ length cs → heard_from none (travelling ((c ∷ cs) ++ (star ∷ [])) ++ rest) ≡ heard_from none rest
too_long c cs rest e u h =
    ap (heard_from none) (words_apart c cs rest)
    ∙ (leads_unheard none (with_parity c) (travelling cs ++ (with_parity star ∷ rest)) (added none c) (hear_open c e)).hears
    ∙ overrun (added none c) (c ∷ []) cs (with_parity star ∷ rest) (added_holds none [] c none_holds (lit< tt)) (omega arith) (omega arith) (omega arith) u
    ∙ word_dropped star rest (lit< tt) (no_letter_is star (λ e. omega arith) (λ e. omega arith))

-- a letter, characters that are no message with it, and `*`: nothing is heard
pub heard_as_nothing : (c : ℕ) (cs rest : List ℕ) → is_letter c ≡ true → Plain cs → HeardAsNothing c cs → heard_from none (travelling ((c ∷ cs) ++ (star ∷ [])) ++ rest) ≡ heard_from none rest
heard_as_nothing c cs rest e p (inl u) =
    (heard_as c cs rest e p u.0).hears ∙ ap (λ (x : Option Message). before x (heard_from none rest)) u.1 ∙ before_unheard (heard_from none rest)
heard_as_nothing c cs rest e p (inr u) = too_long c cs rest e u.1 u.0

-- words of which nothing is heard, between two recordings
pub heard_between : (ws xs vs : List ℕ) → open_after none ws ≡ none → heard_from none (xs ++ vs) ≡ heard_from none vs → heard (ws ++ (xs ++ vs)) ≡ heard (ws ++ vs)
heard_between ws xs vs o e =
    heard_start (ws ++ (xs ++ vs))
    ∙ heard_both none ws (xs ++ vs)
    ∙ ap (λ (ms : List Message). heard_from none ws ++ ms) (ap (λ (p : Pending). heard_from p (xs ++ vs)) o ∙ e ∙ ap (λ (p : Pending). heard_from p vs) (sym o))
    ∙ sym (heard_start (ws ++ vs) ∙ heard_both none ws vs)
