-- Where the parts of a message stand. The recogniser goes on from the next character to the rest; what is wrong stays wrong, a
-- whole message has nothing behind it, no body begins with a digit, and only five characters are data. Assumes nothing.
use mathlib.Core.Path.{◌≡◌, refl, sym, ap, ◌∙◌}
use mathlib.Core.Logic.{◌⊎◌}
use mathlib.Core.Bool.{true, false, not, ◌&&◌, false≢true}
use mathlib.Core.List.{List, [], ◌∷◌, ◌++◌}
use Prim.Native.Nat.{ℕ, ◌+◌, ◌-◌, ◌*◌, ◌<◌, ◌≤◌}
use Prim.Native.Char.{code}
use native.Mathlib.Numerals.{add-one}
use native.Mathlib.Omega.{arith}
use borrow.Author.Tests.{eqb-true, ne_eqb}
use lib.Dec.{eqb}
use lib.ListN.{length, get_or, take, drop, length-drop, drop_of_length-le}
use lib.Seq.{drop-cons, take_all}
use Rattle.refusal.proofs.Logic.{ands, not_is, is_not, by-test, choice}
use Rattle.number.specs.declared.Data.{Data}
use Rattle.number.specs.declared.Data.TheVariants.{Partial, Number, Invalid}
use Rattle.number.specs.Data.{is_digit, digit_of, start, read_data}
use Rattle.number.specs.declared.Numeral.{Numeral}
use Rattle.number.proofs.Digits.{digit_ends}
use Rattle.number.proofs.Reading.{read_length}
use Rattle.message.specs.declared.Message.{Message}
use Rattle.message.specs.declared.Prefix.{Prefix}
use Rattle.message.specs.declared.Prefix.TheVariants.{Start, Digit, Address, Identifier, Complete, Wrong}
use Rattle.message.specs.Message.{question, is_letter, is_address, is_identifier}
use Rattle.message.specs.Prefix.{extend_identifier, extend_address, extend_data, extend_body, extend, extend_all, finish, parse}
use Rattle.message.specs.Spell.{spell_address}
use Rattle.message.proofs.Messages.{Unopening, identifier_no_digit}
use Rattle.message.proofs.Reading.{all_front, all_data, extend_hash}
use Rattle.std.specs.Prelude.{None, Option}

-- ---- the characters from an index on

pub all_more : (s : Prefix) (cs : List ℕ) (i : ℕ) → i < length cs → extend_all s (drop i cs) ≡ extend_all (extend s (get_or cs i 0)) (drop (i + 1) cs)
unfolding extend_all
all_more s cs i h = rw (add-one, drop-cons cs i 0 h)

pub all_done : (s : Prefix) (cs : List ℕ) (i : ℕ) → length cs ≤ i → extend_all s (drop i cs) ≡ s
unfolding extend_all
all_done s cs i h = rw (drop_of_length-le cs h)

-- the part that is lent from an index on
pub part_all : (cs : List ℕ) (i : ℕ) → take (length cs - i) (drop i cs) ≡ drop i cs
part_all cs i = take_all (length cs - i) (drop i cs) (omega (arith, length-drop i cs))

-- what the rest leads to from a state
abbrev pub leads : Prefix → List ℕ → Option Message
leads s cs = finish (extend_all s cs)

-- ---- what is wrong stays wrong

pub wrong_all : (cs : List ℕ) → extend_all Wrong cs ≡ Wrong
unfolding extend_all extend
wrong_all [] = refl
wrong_all (c ∷ cs) = wrong_all cs

pub wrong_stays : (cs : List ℕ) → leads Wrong cs ≡ None
unfolding finish
wrong_stays cs = ap finish (wrong_all cs)

-- nothing stands behind a whole message
pub nothing_behind : (m : Message) (cs : List ℕ) → 0 < length cs → leads (Complete m) cs ≡ None
unfolding extend_all extend
nothing_behind m [] h = absurd (omega arith)
nothing_behind m (c ∷ cs) h = wrong_stays cs

-- past the next two characters
pub past_two : (s : Prefix) (cs : List ℕ) → 2 ≤ length cs → leads s cs ≡ leads (extend (extend s (get_or cs 0 0)) (get_or cs 1 0)) (drop 2 cs)
past_two s cs h = ap finish (all_more s cs 0 (omega arith) ∙ all_more (extend s (get_or cs 0 0)) cs 1 (omega arith))

-- the last two characters
pub last_two : (s : Prefix) (cs : List ℕ) (i : ℕ) → length cs ≡ i + 2 → leads s (drop i cs) ≡ finish (extend (extend s (get_or cs i 0)) (get_or cs (i + 1) 0))
last_two s cs i h =
    ap finish
    (all_more s cs i (omega arith)
    ∙ all_more (extend s (get_or cs i 0)) cs (i + 1) (omega arith)
    ∙ all_done (extend (extend s (get_or cs i 0)) (get_or cs (i + 1) 0)) cs (i + 1 + 1) (omega arith))

-- ---- letter and address

pub no_letter : (l d : ℕ) (cs : List ℕ) → is_letter l ≡ false → leads (extend (extend Start l) d) cs ≡ None
unfolding extend
no_letter l d cs e = rw e (wrong_stays cs)

pub no_digit : (l d : ℕ) (cs : List ℕ) → is_letter l ≡ true → is_digit d ≡ false → leads (extend (extend Start l) d) cs ≡ None
unfolding extend
no_digit l d cs p q = rw (p, q) (wrong_stays cs)

pub first_digit : (l d : ℕ) → is_letter l ≡ true → is_digit d ≡ true → extend (extend Start l) d ≡ Digit l (digit_of d)
unfolding extend
first_digit l d p q = rw (p, q)

pub no_address : (l a : ℕ) (cs : List ℕ) → is_address a ≡ false → leads (Address l a) cs ≡ None
unfolding extend_all extend extend_identifier finish
no_address l a [] e = refl
no_address l a (c ∷ cs) e = rw e (wrong_stays cs)

-- a second digit: its test is made again before the identifier
pub two_digits : (l d c : ℕ) (cs : List ℕ) → is_digit c ≡ true → leads (extend (Digit l d) c) cs ≡ leads (Address l (d * 10 + digit_of c)) cs
unfolding extend extend_address
two_digits l d c cs e =
    rw e (choice (λ (s : Prefix). leads s cs ≡ leads (Address l (d * 10 + digit_of c)) cs) (is_address (d * 10 + digit_of c))
    (λ t. refl) (λ t. wrong_stays cs ∙ sym (no_address l (d * 10 + digit_of c) cs t)))

-- one digit: what is behind it is behind an address
pub one_digit : (l d c : ℕ) → is_digit c ≡ false → extend (Digit l d) c ≡ extend (Address l d) c
unfolding extend
one_digit l d c e = rw e

-- ---- the identifier

pub no_body : (l a : ℕ) (cs : List ℕ) → length cs < 2 → leads (Address l a) cs ≡ None
unfolding extend_all extend extend_identifier finish
no_body l a [] h = refl
no_body l a (c ∷ []) h = choice (λ (s : Prefix). finish s ≡ None) (is_address a && is_identifier c) (λ t. refl) (λ t. refl)
no_body l a (c ∷ d ∷ cs) h = absurd (omega arith)

pub no_identifier : (l a i c : ℕ) (cs : List ℕ) → (is_address a && is_identifier i) ≡ false → leads (extend (extend (Address l a) i) c) cs ≡ None
unfolding extend extend_identifier
no_identifier l a i c cs e = rw e (wrong_stays cs)

digit_behind : (l a c : ℕ) (cs : List ℕ) → is_digit c ≡ true → leads (extend (Address l a) c) cs ≡ None
unfolding extend extend_identifier
digit_behind l a c cs e =
    choice (λ (s : Prefix). leads s cs ≡ None) (is_address a && is_identifier c)
    (λ t. absurd (false≢true (sym (identifier_no_digit c (search ands)) ∙ e))) (λ t. wrong_stays cs)

pub identifier : (l a i : ℕ) → (is_address a && is_identifier i) ≡ true → extend (Address l a) i ≡ Identifier l a i
unfolding extend extend_identifier
identifier l a i e = rw e

-- ---- the body

-- behind an identifier no more than one character stands, but behind `#`
pub no_more : (l a i c : ℕ) (cs : List ℕ) → 0 < length cs → (eqb c (code "#") && not (eqb i question)) ≡ false → leads (extend (Identifier l a i) c) cs ≡ None
unfolding extend extend_body
no_more l a i c cs h e =
    choice P (eqb i question)
    (λ t. choice P (eqb c question) (λ _. behind _) (λ _. wrong_stays cs))
    (λ t.
    choice P (eqb c question) (λ _. behind _)
    (λ _. choice P (eqb c (code "+")) (λ _. behind _)
    (λ _. choice P (eqb c (code "-")) (λ _. behind _)
    (λ _. choice P (eqb c (code "I")) (λ _. behind _)
    (λ _. choice P (eqb c (code "#")) (λ u. absurd (false≢true (sym e ∙ rw (u, t)))) (λ _. wrong_stays cs))))))
  where
    P : Prefix → Type 0
    P s = leads s cs ≡ None

    behind : (m : Message) → leads (Complete m) cs ≡ None
    behind m = nothing_behind m cs h

-- no body begins with a digit
pub digit_wrong : (l a i c : ℕ) → is_digit c ≡ true → extend (Identifier l a i) c ≡ Wrong
unfolding extend extend_body
digit_wrong l a i c e =
    rw (other question (λ p q r. omega arith), other (code "+") (λ p q r. omega arith), other (code "-") (λ p q r. omega arith), other (code "I") (λ p q r. omega arith), other (code "#") (λ p q r. omega arith))
    (by-test (eqb i question) (λ t. rw t) (λ t. rw t))
  where
    other : (d : ℕ) → (48 ≤ c → c ≤ 57 → c ≡ d → ⊥) → eqb c d ≡ false
    other d f = ne_eqb c d (f (digit_ends c e).0 (digit_ends c e).1)

-- nor, behind `?`, with anything but `?`
pub status_wrong : (l a i c : ℕ) → eqb i question ≡ true → eqb c question ≡ false → extend (Identifier l a i) c ≡ Wrong
unfolding extend extend_body
status_wrong l a i c p q = rw (p, q)

-- behind letter, address and identifier stands a character with which no body begins
pub wrong_body : (l a i c : ℕ) (cs : List ℕ) → is_letter l ≡ true → is_address a ≡ true → is_identifier i ≡ true → extend (Identifier l a i) c ≡ Wrong
    → parse (l ∷ (spell_address a ++ (i ∷ c ∷ cs))) ≡ None
unfolding parse extend_all
wrong_body l a i c cs p q r e = ap finish (all_front l a i (c ∷ cs) p q r ∙ ap (λ (s : Prefix). extend_all s cs) e) ∙ wrong_stays cs

-- behind `#` stands data
pub behind_hash : (l a i : ℕ) (cs : List ℕ) → eqb i question ≡ false → leads (extend (Identifier l a i) (code "#")) cs ≡ finish (extend_data l a i (read_data cs))
unfolding read_data
behind_hash l a i cs e = ap (λ (s : Prefix). leads s cs) (extend_hash l a i (is_not e)) ∙ ap finish (all_data l a i start cs)

-- data that is no number is unheard
pub no-number : (l a i : ℕ) (x : Data) → ((y : Numeral) → x ≡ Number y → ⊥) → finish (extend_data l a i x) ≡ None
unfolding extend_data finish
no-number l a i (Partial k n) f = refl
no-number l a i (Number y) f = absurd (f y refl)
no-number l a i Invalid f = refl

pub not_five : (l a i : ℕ) (cs : List ℕ) → (length cs ≡ 5 → ⊥) → finish (extend_data l a i (read_data cs)) ≡ None
not_five l a i cs f = no-number l a i (read_data cs) (λ y e. f (read_length cs y e))

pub five_are : (cs : List ℕ) → length cs ≡ 5 → get_or cs 0 0 ∷ get_or cs 1 0 ∷ get_or cs 2 0 ∷ get_or cs 3 0 ∷ get_or cs 4 0 ∷ [] ≡ cs
five_are [] h = absurd (omega arith)
five_are (a ∷ []) h = absurd (omega arith)
five_are (a ∷ b ∷ []) h = absurd (omega arith)
five_are (a ∷ b ∷ c ∷ []) h = absurd (omega arith)
five_are (a ∷ b ∷ c ∷ d ∷ []) h = absurd (omega arith)
five_are (a ∷ b ∷ c ∷ d ∷ e ∷ []) h = refl
five_are (a ∷ b ∷ c ∷ d ∷ e ∷ f ∷ cs) h = absurd (omega arith)

-- ---- the length

-- behind an address stand two characters or seven
pub wrong_length : (l a : ℕ) (cs : List ℕ) → (length cs ≡ 2 → ⊥) → (length cs ≡ 7 → ⊥) → leads (Address l a) cs ≡ None
unfolding extend_all
wrong_length l a [] f g = no_body l a [] (omega arith)
wrong_length l a (i ∷ []) f g = no_body l a (i ∷ []) (omega arith)
wrong_length l a (i ∷ c ∷ []) f g = absurd (f refl)
wrong_length l a (i ∷ c ∷ x ∷ cs) f g =
    by-test (is_address a && is_identifier i)
    (λ t.
    ap (λ (s : Prefix). leads (extend s c) (x ∷ cs)) (identifier l a i t)
    ∙ by-test (eqb c (code "#") && not (eqb i question))
    (λ u.
    ap (λ (y : ℕ). leads (extend (Identifier l a i) y) (x ∷ cs)) (eqb-true c (code "#") (search ands))
    ∙ behind_hash l a i (x ∷ cs) (not_is {a = eqb i question} (search ands))
    ∙ not_five l a i (x ∷ cs) (λ e. g (omega arith)))
    (λ u. no_more l a i c (x ∷ cs) (omega arith) u))
    (λ t. no_identifier l a i c (x ∷ cs) t)

-- so behind one digit that many, and then it is all of the address; or one more
pub one_is_all : (l d : ℕ) (cs : List ℕ) → (length cs ≡ 3 → ⊥) → (length cs ≡ 8 → ⊥) → leads (Digit l d) cs ≡ leads (Address l d) cs
unfolding extend_all finish
one_is_all l d [] f g = refl
one_is_all l d (c ∷ cs) f g =
    by-test (is_digit c)
    (λ t.
    two_digits l d c cs t
    ∙ wrong_length l (d * 10 + digit_of c) cs (λ e. f (omega arith)) (λ e. g (omega arith))
    ∙ sym (digit_behind l d c cs t))
    (λ t. ap (λ (s : Prefix). leads s cs) (one_digit l d c t))

-- a message has four to ten characters
pub wrong_count : (cs : List ℕ) → (4 ≤ length cs → length cs ≤ 10 → ⊥) → parse cs ≡ None
unfolding parse extend_all extend finish
wrong_count [] f = refl
wrong_count (l ∷ []) f = choice (λ (s : Prefix). finish s ≡ None) (is_letter l) (λ t. refl) (λ t. refl)
wrong_count (l ∷ d ∷ cs) f =
    by-test (is_letter l)
    (λ t.
    by-test (is_digit d)
    (λ u.
    ap (λ (s : Prefix). leads s cs) (first_digit l d t u)
    ∙ one_is_all l (digit_of d) cs (λ e. f (omega arith) (omega arith)) (λ e. f (omega arith) (omega arith))
    ∙ wrong_length l (digit_of d) cs (λ e. f (omega arith) (omega arith)) (λ e. f (omega arith) (omega arith)))
    (λ u. no_digit l d cs t u))
    (λ t. no_letter l d cs t)

pub too-short : (cs : List ℕ) → length cs < 4 → parse cs ≡ None
too-short cs h = wrong_count cs (λ a b. omega arith)

-- a letter and characters behind it that are no message: ten at most, which is all that an open message holds, and read as none; or more,
-- and no letter among those behind the first
abbrev pub HeardAsNothing : ℕ → List ℕ → Type 0
HeardAsNothing c cs = ((length (c ∷ cs) ≤ 10) × (parse (c ∷ cs) ≡ None)) ⊎ ((10 ≤ length cs) × Unopening cs)
