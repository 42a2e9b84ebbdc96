-- What stands behind an address, an identifier and one character or `#` and digits, and what stands before it. Assumes nothing.
use mathlib.Core.Path.{◌≡◌, refl, sym, ap, ◌∙◌}
use mathlib.Core.Bool.{Bool, true, false, cond, ◌&&◌}
use mathlib.Core.List.{List, [], ◌∷◌}
use Prim.Native.Nat.{ℕ, ◌+◌, ◌-◌, ◌*◌, ◌<◌, ◌≤◌}
use Prim.Native.Char.{code}
use native.Mathlib.Omega.{arith}
use borrow.Author.Tests.{ne_eqb, eq-eqb}
use lib.Dec.{eqb}
use lib.ListN.{length, get_or, take, drop}
use Rattle.number.specs.Data.{is_digit, digit_of, read_data}
use Rattle.number.specs.declared.Data.{Data}
use Rattle.number.specs.declared.Data.TheVariants.{Partial, Number, Invalid}
use Rattle.number.proofs.Reading.{read_length}
use Rattle.refusal.proofs.Logic.{by-test}
use Rattle.message.specs.declared.Body.{Body}
use Rattle.message.specs.Inner.{signed, set_to, with_body, IsBodyBehind}
use Rattle.message.specs.declared.Prefix.{Prefix}
use Rattle.message.specs.declared.Prefix.TheVariants.{Start, Digit, Address, Identifier, Wrong}
use Rattle.message.specs.Message.{question, is_letter, is_address, is_identifier}
use Rattle.message.specs.Prefix.{extend_identifier, extend, extend_data, extend_body, extend_all, finish, parse}
use Rattle.message.proofs.Places.{part_all, leads, all_more, identifier, no_more, no_body, behind_hash, wrong_stays, past_two, two_digits, one_digit, first_digit, no_letter, no_digit, too-short}
use Rattle.std.specs.Prelude.{None, Option}

and_fails : (b : Bool) {d : Bool} → d ≡ false → (b && d) ≡ false
and_fails true e = e
and_fails false e = refl

-- what is lent from the second on
abbrev pub rest_of : List ℕ → List ℕ
rest_of cs = take (length cs - 1) (drop 1 cs)

-- ---- behind an identifier

signed_ends : (l a i c : ℕ) → finish (extend_body l a i c) ≡ with_body l a i (signed i c)
unfolding signed extend_body finish
signed_ends l a i c =
    by-test (eqb i question)
    (λ t. rw t (by-test (eqb c question) (λ u. rw u) (λ u. rw u)))
    (λ t. rw t
    (by-test (eqb c question) (λ u. rw u)
    (λ u. rw u (by-test (eqb c (code "+")) (λ v. rw v)
    (λ v. rw v (by-test (eqb c (code "-")) (λ w. rw w)
    (λ w. rw w (by-test (eqb c (code "I")) (λ x. rw x)
    (λ x. rw x (by-test (eqb c (code "#")) (λ y. rw y) (λ y. rw y)))))))))))

set_ends : (l a i : ℕ) (x : Data) → finish (extend_data l a i x) ≡ with_body l a i (set_to x)
unfolding set_to extend_data finish
set_ends l a i (Partial k n) = refl
set_ends l a i (Number y) = refl
set_ends l a i Invalid = refl

-- only five characters are data
pub no_data : (cs : List ℕ) → (length cs ≡ 5 → ⊥) → set_to (read_data cs) ≡ None
unfolding set_to
no_data cs f = by (read_data cs) refl
  where
    by : (x : Data) → read_data cs ≡ x → set_to x ≡ None
    by (Partial k n) e = refl
    by (Number y) e = absurd (f (read_length cs y e))
    by Invalid e = refl

module _ (i : ℕ) where
  pub one_sign : (cs : List ℕ) → length cs ≡ 1 → IsBodyBehind i cs (signed i (get_or cs 0 0))
  unfolding extend_all extend
  one_sign [] h l a = absurd (omega arith)
  one_sign (c ∷ []) h l a = signed_ends l a i c
  one_sign (c ∷ d ∷ cs) h l a = absurd (omega arith)

  pub hash_behind : (cs : List ℕ) → 1 ≤ length cs → get_or cs 0 0 ≡ code "#" → (i ≡ question → ⊥) → IsBodyBehind i cs (set_to (read_data (rest_of cs)))
  unfolding extend_all
  hash_behind [] h e f l a = absurd (omega arith)
  hash_behind (c ∷ cs) h e f l a =
      ap (λ (d : ℕ). leads (extend (Identifier l a i) d) cs) e
      ∙ behind_hash l a i cs (ne_eqb i question f)
      ∙ set_ends l a i (read_data cs)
      ∙ ap (λ (ds : List ℕ). with_body l a i (set_to (read_data ds))) (sym (part_all (c ∷ cs) 1))

  pub nothing_behind_identifier : (cs : List ℕ) → length cs < 1 → IsBodyBehind i cs None
  unfolding extend_all finish
  nothing_behind_identifier [] h l a = refl
  nothing_behind_identifier (c ∷ cs) h l a = absurd (omega arith)

  pub more_behind : (cs : List ℕ) → 2 ≤ length cs → (get_or cs 0 0 ≡ code "#" → ⊥) → IsBodyBehind i cs None
  unfolding extend_all
  more_behind [] h f l a = absurd (omega arith)
  more_behind (c ∷ cs) h f l a = no_more l a i c cs (omega arith) (rw (ne_eqb c (code "#") f))

  pub status_hash : (cs : List ℕ) → 1 ≤ length cs → get_or cs 0 0 ≡ code "#" → i ≡ question → IsBodyBehind i cs None
  unfolding extend_all extend extend_body
  status_hash [] h e q l a = absurd (omega arith)
  status_hash (c ∷ cs) h e q l a = rw (e, eq-eqb i question q) (wrong_stays cs)

-- ---- behind an address

module _ (l a : ℕ) (cs : List ℕ) where
  pub no_more_behind : length cs < 1 → leads (Address l a) cs ≡ None
  no_more_behind h = no_body l a cs (omega arith)

  module _ (h : 1 ≤ length cs) where
    first_behind : leads (Address l a) cs ≡ leads (extend (Address l a) (get_or cs 0 0)) (drop 1 cs)
    first_behind = ap finish (all_more (Address l a) cs 0 (omega arith))

    pub no_identifier_behind : is_identifier (get_or cs 0 0) ≡ false → leads (Address l a) cs ≡ None
    unfolding extend extend_identifier
    no_identifier_behind e =
        first_behind
        ∙ ap (λ (b : Bool). leads (cond b (Identifier l a (get_or cs 0 0)) Wrong) (drop 1 cs)) (and_fails (is_address a) e)
        ∙ wrong_stays (drop 1 cs)

    pub identifier_behind : true ≡ is_address a → true ≡ is_identifier (get_or cs 0 0) → leads (Identifier l a (get_or cs 0 0)) (rest_of cs) ≡ leads (Address l a) cs
    identifier_behind p q =
        ap (leads (Identifier l a (get_or cs 0 0))) (part_all cs 1)
        ∙ sym (first_behind ∙ ap (λ (s : Prefix). leads s (drop 1 cs)) (identifier l a (get_or cs 0 0) (rw (sym p, sym q))))

-- ---- behind a letter

module _ (cs : List ℕ) where
  pub too_few : length cs < 3 → parse cs ≡ None
  too_few h = too-short cs (omega arith)

  module _ (h : 3 ≤ length cs) where
    front : parse cs ≡ leads (extend (extend Start (get_or cs 0 0)) (get_or cs 1 0)) (drop 2 cs)
    unfolding parse
    front = past_two Start cs (omega arith)

    pub no_letter_before : is_letter (get_or cs 0 0) ≡ false → parse cs ≡ None
    no_letter_before e = front ∙ no_letter _ _ _ e

    module _ (p : true ≡ is_letter (get_or cs 0 0)) where
      pub no_digit_before : is_digit (get_or cs 1 0) ≡ false → parse cs ≡ None
      no_digit_before e = front ∙ no_digit _ _ _ (sym p) e

      module _ (q : true ≡ is_digit (get_or cs 1 0)) where
        behind_digit : (s : Prefix) → leads s (drop 2 cs) ≡ leads (extend s (get_or cs 2 0)) (drop 3 cs)
        behind_digit s = ap finish (all_more s cs 2 (omega arith))

        letter_digit : parse cs ≡ leads (extend (Digit (get_or cs 0 0) (digit_of (get_or cs 1 0))) (get_or cs 2 0)) (drop 3 cs)
        letter_digit = front ∙ ap (λ (s : Prefix). leads s (drop 2 cs)) (first_digit _ _ (sym p) (sym q)) ∙ behind_digit _

        pub with_two : true ≡ is_digit (get_or cs 2 0)
            → leads (Address (get_or cs 0 0) ((get_or cs 1 0 - 48) * 10 + (get_or cs 2 0 - 48))) (take (length cs - 3) (drop 3 cs)) ≡ parse cs
        unfolding digit_of
        with_two e = sym (letter_digit ∙ two_digits _ _ _ _ (sym e) ∙ ap (leads (Address _ _)) (sym (part_all cs 3)))

        pub with_one : false ≡ is_digit (get_or cs 2 0) → leads (Address (get_or cs 0 0) (get_or cs 1 0 - 48)) (take (length cs - 2) (drop 2 cs)) ≡ parse cs
        unfolding digit_of
        with_one e =
            sym
            (letter_digit
            ∙ ap (λ (s : Prefix). leads s (drop 3 cs)) (one_digit _ _ _ (sym e))
            ∙ sym (behind_digit (Address _ _))
            ∙ ap (leads (Address _ _)) (sym (part_all cs 2)))
