-- The laws of parity, at all bytes at once: each is one test that antt computes at every number below 128 or 256.
-- And words that may be lent. Assumes nothing.
use mathlib.Core.Path.{◌≡◌, refl, sym, ap, ◌∙◌}
use mathlib.Core.Bool.{Bool, true, false, ◌&&◌, false≢true, and_assoc, and-true}
use mathlib.Core.List.{List, [], ◌∷◌, ◌++◌}
use Prim.Native.Nat.{ℕ, ◌%◌, ◌<◌, ◌≤◌}
use Prim.Native.Char.{code}
use native.Mathlib.Omega.{arith}
use borrow.Author.Tests.{eqb-true, ltb-true, leb-true, le-leb}
use lib.Count.{ones, ones_in}
use lib.Dec.{ltb, leb, eqb}
use lib.ListN.{length, length-map}
use Rattle.refusal.proofs.Logic.{ands, and_left, and_right, choice, below, all_below}
use Rattle.refusal.specs.Lists.{every}
use Rattle.refusal.proofs.Lists.{every_none, every_first, every_both, every_append}
use Rattle.refusal.proofs.Longer.{SameOrLonger, longer_map}
use Rattle.std.specs.List.{fold}
use Rattle.wire.specs.Word.{even_parity, with_parity, received, travelling, valid_words}
use Rattle.std.specs.Prelude.{None, Option, Some}

-- ---- a character travels

is : Option ℕ → ℕ → Bool
is (Some d) c = eqb d c
is None c = false

is_character : (o : Option ℕ) (c : ℕ) → is o c ≡ true → o ≡ Some c
unfolding is
is_character (Some d) c e = ap Some (eqb-true d c e)
is_character None c e = absurd (false≢true e)

readable : ℕ → Bool
readable c = is (received (with_parity c)) c

-- a character is read back from the byte written for it
pub travels : (c : ℕ) → c < 128 → received (with_parity c) ≡ Some c
unfolding ones ones_in even_parity received with_parity is readable
travels c h = is_character (received (with_parity c)) c (below 128 readable refl c h)

-- what is written is a byte
pub written_byte : (c : ℕ) → with_parity c < 256
unfolding with_parity
written_byte c = omega arith

-- its seven bits are the character's
pub written_low : (c : ℕ) → c < 128 → with_parity c % 128 ≡ c
unfolding ones ones_in with_parity
written_low c h = eqb-true (with_parity c % 128) c (below 128 (λ (c : ℕ). eqb (with_parity c % 128) c) refl c h)

-- in good parity
pub written_even : (c : ℕ) → c < 256 → even_parity (with_parity c) ≡ true
unfolding ones ones_in even_parity with_parity
written_even c h = below 256 (λ (c : ℕ). even_parity (with_parity c)) refl c h

-- nothing but a character's own byte is read as it
back : Option ℕ → ℕ → Bool
back (Some c) w = eqb (with_parity c) w
back None w = true

written : ℕ → Bool
written w = back (received w) w

all_written : all_below 256 written ≡ true
unfolding ones ones_in even_parity received with_parity back written
all_written = refl

-- a word that carries a character is a byte, and the character has seven bits
carried : (w c : ℕ) → received w ≡ Some c → (w < 256) × (c < 128)
unfolding received
carried w c e =
    choice (λ (o : Option ℕ). o ≡ Some c → (w < 256) × (c < 128)) (ltb w 256 && even_parity w)
    (λ t q. let k : w % 128 ≡ c = cc in (ltb-true w 256 (search ands), omega arith)) (λ t q. absurd (never q)) e
  where
    never : None ≡ Some c → ⊥
    never q = let z : ◌≡◌ {A = ℕ} 0 1 = cc in omega arith

pub received_small : (w c : ℕ) → received w ≡ Some c → c < 128
received_small w c e = (carried w c e).1

pub only_word : (w c : ℕ) → received w ≡ Some c → w ≡ with_parity c
unfolding written back
only_word w c e =
    let t : written w ≡ true = below 256 written all_written w (carried w c e).0 in
    sym (eqb-true (with_parity c) w (rw e at t))

-- document 01: "`L` travels as CC hex, `*` as AA, `?` as 3F"
pub letter_travels : with_parity (code "L") ≡ 0xCC
unfolding ones ones_in with_parity
letter_travels = refl

pub star_travels : with_parity (code "*") ≡ 0xAA
unfolding ones ones_in with_parity
star_travels = refl

pub query_travels : with_parity (code "?") ≡ 0x3F
unfolding ones ones_in with_parity
query_travels = refl

-- ---- a list of characters

pub travelling_none : travelling [] ≡ []
unfolding travelling
travelling_none = refl

pub travelling_first : (c : ℕ) (cs : List ℕ) → travelling (c ∷ cs) ≡ with_parity c ∷ travelling cs
unfolding travelling
travelling_first c cs = refl

pub travelling_one : (c : ℕ) → travelling (c ∷ []) ≡ with_parity c ∷ []
travelling_one c = rw (travelling_first, travelling_none)

pub travelling_append : (xs ys : List ℕ) → travelling (xs ++ ys) ≡ travelling xs ++ travelling ys
unfolding travelling
travelling_append [] ys = refl
travelling_append (x ∷ xs) ys = ap (λ (l : List ℕ). with_parity x ∷ l) (travelling_append xs ys)

pub travelling_length : (cs : List ℕ) → length (travelling cs) ≡ length cs
unfolding travelling
travelling_length cs = length-map cs with_parity

pub travelling_longer : {cs ds : List ℕ} → SameOrLonger cs ds → SameOrLonger (travelling cs) (travelling ds)
unfolding travelling
travelling_longer h = longer_map with_parity h

-- ---- words that may be lent

pub no_words_valid : valid_words [] ≡ true
unfolding valid_words
no_words_valid = every_none (λ (w : ℕ). leb w 256)

-- what a fold over all of them comes to, with no early way out
fold_valid : (so : Bool) (ws : List ℕ) → fold (λ (b : Bool) (w : ℕ). b && leb w 256) so ws ≡ so && valid_words ws
unfolding valid_words every
fold_valid so [] = sym (and-true so)
fold_valid so (w ∷ ws) = fold_valid (so && leb w 256) ws ∙ and_assoc so (leb w 256) (valid_words ws)

pub valid_fold : (ws : List ℕ) (so : Bool) → so ≡ fold (λ (b : Bool) (w : ℕ). b && leb w 256) true ws → so ≡ valid_words ws
valid_fold ws so e = e ∙ fold_valid true ws

pub word_valid : (w : ℕ) → w ≤ 256 → valid_words (w ∷ []) ≡ true
unfolding valid_words
word_valid w h = every_first (λ (w : ℕ). leb w 256) w [] (le-leb w 256 h) (every_none (λ (w : ℕ). leb w 256))

pub valid_first : (w : ℕ) (ws : List ℕ) → valid_words (w ∷ ws) ≡ true → (w ≤ 256) × (valid_words ws ≡ true)
unfolding valid_words every
valid_first w ws e = (leb-true w 256 (and_left (leb w 256) (valid_words ws) e), and_right (leb w 256) (valid_words ws) e)

pub valid_both : (ws vs : List ℕ) → valid_words (ws ++ vs) ≡ valid_words ws && valid_words vs
unfolding valid_words
valid_both ws vs = every_both (λ (w : ℕ). leb w 256) ws vs

pub append_valid : (ws vs : List ℕ) → valid_words ws ≡ true → valid_words vs ≡ true → valid_words (ws ++ vs) ≡ true
unfolding valid_words
append_valid ws vs p q = every_append (λ (w : ℕ). leb w 256) ws vs p q

-- characters as they travel
pub travelling_valid : (cs : List ℕ) → valid_words (travelling cs) ≡ true
unfolding valid_words travelling
travelling_valid [] = every_none (λ (w : ℕ). leb w 256)
travelling_valid (c ∷ cs) =
    every_first (λ (w : ℕ). leb w 256) (with_parity c) (travelling cs) (le-leb (with_parity c) 256 (omega (arith, written_byte c))) (travelling_valid cs)
