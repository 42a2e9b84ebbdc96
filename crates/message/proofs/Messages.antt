-- What the parts of a message are: laws of the tests, for whoever has a message or makes one. Assumes nothing.
use mathlib.Core.Path.{◌≡◌, refl, sym, ap, ◌∙◌}
use mathlib.Core.Bool.{true, false, false≢true}
use mathlib.Core.List.{List}
use Prim.Native.Nat.{ℕ, ◌<◌, ◌≤◌}
use Prim.Native.Char.{code}
use native.Mathlib.Omega.{arith}
use borrow.Author.Tests.{leb-true, le-leb, lt-leb, eqb-true, ne_eqb}
use lib.Dec.{eqb}
use lib.IntN.{pos}
use Rattle.refusal.proofs.Logic.{ands, and_both, not_is, is_not, or_cases}
use Rattle.refusal.proofs.Lists.{Each}
use Rattle.number.specs.declared.Numeral.{Numeral}
use Rattle.number.specs.Data.{is_digit, with_decimals, as_decimal, numeral, minus_zero_with, fits_numeral}
use Rattle.number.proofs.Digits.{digit_ends}
use Rattle.number.proofs.Reading.{fits_value, numeral_fits}
use Rattle.message.specs.declared.Body.{Body}
use Rattle.message.specs.declared.Body.TheVariants.{Status, Query, Up, Down, Set, Store}
use Rattle.message.specs.declared.Message.{Message}
use Rattle.message.specs.Prefix.{message}
use Rattle.message.specs.Message.{star, question, is_letter, is_address, is_identifier, fits_body, asks_minus_zero, unsigned_body, unsigned_zero, is_message}

-- a message as heard, by its parts
pub record Parts (m : Message) : Type 0 where
  pub is-letter : is_letter m.letter ≡ true
  pub is-address : is_address m.address ≡ true
  pub is-identifier : is_identifier m.identifier ≡ true
  pub fits-body : fits_body m.identifier m.body ≡ true

pub parts : (m : Message) → is_message m ≡ true → Parts m
unfolding is_message
parts m e = record { is-letter = search ands; is-address = search ands; is-identifier = search ands; fits-body = search ands }

pub whole : (m : Message) → Parts m → is_message m ≡ true
unfolding is_message
whole m p = and_both (and_both (and_both p.is-letter p.is-address) p.is-identifier) p.fits-body

-- a body by its type: Type 1 has the identifier `?`, every other type another, and Type 3 a number that can be written
abbrev pub BodyParts : ℕ → Body → Type 0
BodyParts i Status = eqb i question ≡ true
BodyParts i Query = eqb i question ≡ false
BodyParts i Up = eqb i question ≡ false
BodyParts i Down = eqb i question ≡ false
BodyParts i (Set x) = (eqb i question ≡ false) × (fits_numeral x ≡ true)
BodyParts i Store = eqb i question ≡ false

pub body_parts : (i : ℕ) (b : Body) → fits_body i b ≡ true → BodyParts i b
unfolding fits_body
body_parts i Status e = e
body_parts i Query e = not_is e
body_parts i Up e = not_is e
body_parts i Down e = not_is e
body_parts i (Set x) e = (not_is {a = eqb i question} (search ands), search ands)
body_parts i Store e = not_is e

pub parts_body : (i : ℕ) (b : Body) → BodyParts i b → fits_body i b ≡ true
unfolding fits_body
parts_body i Status p = p
parts_body i Query p = is_not p
parts_body i Up p = is_not p
parts_body i Down p = is_not p
parts_body i (Set x) p = and_both (is_not p.0) p.1
parts_body i Store p = is_not p

-- ---- both zeros

-- with zero in place of minus zero, only a Type 3 is another
pub by_unsigned : (P : Body → Body → Type 0) → ((b : Body) → P b b) → ((x : Numeral) → P (Set (numeral (as_decimal x))) (Set x)) → (b : Body) → P (unsigned_body b) b
unfolding unsigned_body
by_unsigned P f g Status = f Status
by_unsigned P f g Query = f Query
by_unsigned P f g Up = f Up
by_unsigned P f g Down = f Down
by_unsigned P f g (Set x) = g x
by_unsigned P f g Store = f Store

-- only a Type 3 can be of minus zero
pub asks_set : (b : Body) → asks_minus_zero b ≡ true → (x : Numeral) × (b ≡ Set x)
unfolding asks_minus_zero
asks_set Status z = absurd (false≢true z)
asks_set Query z = absurd (false≢true z)
asks_set Up z = absurd (false≢true z)
asks_set Down z = absurd (false≢true z)
asks_set (Set x) z = (x, refl)
asks_set Store z = absurd (false≢true z)

-- one of zero is a message too
unsigned_fits : (i : ℕ) (b : Body) → BodyParts i b → BodyParts i (unsigned_body b)
unsigned_fits i =
    by_unsigned (λ b' b. BodyParts i b → BodyParts i b') (λ b p. p) (λ x p. (p.0, numeral_fits (as_decimal x) (fits_value x p.1)))

pub unsigned_message : (m : Message) → is_message m ≡ true → is_message (unsigned_zero m) ≡ true
unsigned_message m e =
    let p = parts m e in
    whole (unsigned_zero m) (record {
      is-letter = p.is-letter;
      is-address = p.is-address;
      is-identifier = p.is-identifier;
      fits-body = parts_body m.identifier (unsigned_body m.body) (unsigned_fits m.identifier m.body (body_parts m.identifier m.body p.fits-body));
    })

-- and one of minus zero exactly where one of zero is
pub zero_message : (l a i d : ℕ) → is_message (message l a i (Set (minus_zero_with d))) ≡ is_message (message l a i (Set (numeral (with_decimals (pos 0) d))))
unfolding is_message fits_body fits_numeral
zero_message l a i d = refl

-- and another one
asks_none : (b : Body) → asks_minus_zero (unsigned_body b) ≡ false
unfolding asks_minus_zero unsigned_body
asks_none Status = refl
asks_none Query = refl
asks_none Up = refl
asks_none Down = refl
asks_none (Set x) = refl
asks_none Store = refl

pub unsigned_other : (m : Message) → asks_minus_zero m.body ≡ true → m ≡ unsigned_zero m → ⊥
unsigned_other m z e = false≢true (sym (asks_none m.body) ∙ sym (ap (λ (x : Message). asks_minus_zero x.body) e) ∙ z)

-- ---- parts by themselves

pub letter_is : is_letter (code "L") ≡ true
unfolding is_letter
letter_is = refl

pub address_is : (a : ℕ) → 1 ≤ a → a ≤ 99 → is_address a ≡ true
unfolding is_address
address_is a h k = and_both (le-leb 1 a h) (le-leb a 99 k)

pub address_least : (a : ℕ) → is_address a ≡ true → 1 ≤ a
unfolding is_address
address_least a e = leb-true 1 a (search ands)

pub address_most : (a : ℕ) → is_address a ≡ true → a ≤ 99
unfolding is_address
address_most a e = leb-true a 99 (search ands)

pub address_above : (a : ℕ) → 99 < a → is_address a ≡ false
unfolding is_address
address_above a h = rw (le-leb 1 a (omega arith), lt-leb a 99 h)

pub identifier_no_digit : (i : ℕ) → is_identifier i ≡ true → is_digit i ≡ false
unfolding is_identifier
identifier_no_digit i e = not_is {a = is_digit i} (search ands)

-- ---- characters that can stand before the `*`: seven bits, and no `*`

pub record PlainChar (c : ℕ) : Type 0 where
  pub small : c < 128
  pub no_star : eqb c star ≡ false

abbrev pub Plain : List ℕ → Type 0
Plain cs = Each PlainChar cs

plain-char : (c : ℕ) → c < 128 → (c ≡ 42 → ⊥) → PlainChar c
plain-char c h f = record { small = h; no_star = ne_eqb c 42 f }

pub plain_letter : (c : ℕ) → is_letter c ≡ true → PlainChar c
unfolding is_letter
plain_letter c e =
    or_cases (eqb c 76) (eqb c 82) e
    (λ t. let q = eqb-true c 76 t in plain-char c (omega arith) (λ s. omega arith))
    (λ t. let q = eqb-true c 82 t in plain-char c (omega arith) (λ s. omega arith))

pub plain_digit : (c : ℕ) → is_digit c ≡ true → PlainChar c
plain_digit c e = let h = digit_ends c e in plain-char c (omega arith) (λ s. omega arith)

pub plain_identifier : (c : ℕ) → is_identifier c ≡ true → PlainChar c
unfolding is_identifier
plain_identifier c e = record { small = omega (arith, leb-true c 126 (search ands)); no_star = not_is {a = eqb c star} (search ands) }

-- ---- of these, characters that open no message: no letter

pub record UnopeningChar (c : ℕ) : Type 0 where
  pub is_plain : PlainChar c
  pub no_letter : is_letter c ≡ false

abbrev pub Unopening : List ℕ → Type 0
Unopening cs = Each UnopeningChar cs

pub no_letter_is : (c : ℕ) → (c ≡ code "L" → ⊥) → (c ≡ code "R" → ⊥) → is_letter c ≡ false
unfolding is_letter
no_letter_is c f g = rw (ne_eqb c (code "L") f, ne_eqb c (code "R") g)

pub unopening_digit : (c : ℕ) → is_digit c ≡ true → UnopeningChar c
unopening_digit c e =
    let h = digit_ends c e in
    record { is_plain = plain_digit c e; no_letter = no_letter_is c (λ s. omega arith) (λ s. omega arith) }
