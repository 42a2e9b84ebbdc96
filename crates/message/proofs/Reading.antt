-- Reading: one character more, each under its test; what is spelled is read, and what is read is a message.
-- Assumes nothing.
use mathlib.Core.Path.{◌≡◌, refl, sym, ap, ◌∙◌}
use mathlib.Core.Bool.{true, false, not, ◌&&◌}
use mathlib.Core.List.{List, [], ◌∷◌, ◌++◌}
use Prim.Native.Nat.{ℕ, ◌+◌, ◌*◌, ◌/◌, ◌%◌, ◌≤◌}
use Prim.Native.Char.{code}
use native.Mathlib.Nat.{div-add-mod'}
use native.Mathlib.Omega.{arith}
use borrow.Author.Tests.{leb-true}
use lib.Dec.{leb, eqb}
use Rattle.refusal.proofs.Logic.{ands, and_both, not_is, is_not, choice}
use Rattle.number.specs.declared.Data.{Data}
use Rattle.number.specs.declared.Data.TheVariants.{Partial, Number, Invalid}
use Rattle.number.specs.Data.{digit, is_digit, digit_of, spell_numeral, start, read_next, read_from, read_data}
use Rattle.number.proofs.Digits.{digit_is, digit_back, digit_below}
use Rattle.number.proofs.Reading.{read_written, read_none, read-next, read_fits, next_number, next_invalid}
use Rattle.message.specs.declared.Body.{Body}
use Rattle.message.specs.declared.Body.TheVariants.{Status, Query, Up, Down, Set, Store}
use Rattle.message.specs.declared.Message.{Message}
use Rattle.message.specs.declared.Prefix.{Prefix}
use Rattle.message.specs.declared.Prefix.TheVariants.{Start, Letter, Digit, Address, Identifier, Digits, Complete, Wrong}
use Rattle.message.specs.Message.{question, is_letter, is_address, is_identifier, fits_body, is_message}
use Rattle.message.specs.Prefix.{message, extend_identifier, extend_address, extend_data, extend_body, extend, extend_all, finish, parse}
use Rattle.message.specs.Spell.{spell_address, kind_of, spell_kind, spell_body, spell_open}
use Rattle.message.proofs.Messages.{Parts, parts, whole, address_most, identifier_no_digit}
use Rattle.std.specs.Prelude.{None, Option, Some}

-- ---- one character more, each under its test

pub extend_letter : (l : ℕ) → is_letter l ≡ true → extend Start l ≡ Letter l
unfolding extend
extend_letter l e = rw e

pub extend_first : (l d : ℕ) → d ≤ 9 → extend (Letter l) (digit d) ≡ Digit l d
unfolding extend
extend_first l d h = rw (digit_is d h, digit_back)

pub extend_second : (l d e : ℕ) → e ≤ 9 → is_address (d * 10 + e) ≡ true → extend (Digit l d) (digit e) ≡ Address l (d * 10 + e)
unfolding extend extend_address
extend_second l d e h t = rw (digit_is e h, digit_back, t)

pub extend_identifier_1 : (l a i : ℕ) → is_address a ≡ true → is_identifier i ≡ true → extend (Digit l a) i ≡ Identifier l a i
unfolding extend extend_identifier
extend_identifier_1 l a i p q = rw (identifier_no_digit i q, p, q)

pub extend_identifier_2 : (l a i : ℕ) → is_address a ≡ true → is_identifier i ≡ true → extend (Address l a) i ≡ Identifier l a i
unfolding extend extend_identifier
extend_identifier_2 l a i p q = rw (p, q)

-- ---- what is spelled is read

all_one : (l a i : ℕ) (cs : List ℕ) → is_address a ≡ true → is_identifier i ≡ true → a ≤ 9 → extend_all (Letter l) (digit a ∷ i ∷ cs) ≡ extend_all (Identifier l a i) cs
unfolding extend_all
all_one l a i cs p q h = rw (extend_first l a h, extend_identifier_1 l a i p q)

all_two : (l a i : ℕ) (cs : List ℕ) → is_address a ≡ true → is_identifier i ≡ true → extend_all (Letter l) (digit (a / 10) ∷ digit (a % 10) ∷ i ∷ cs) ≡ extend_all (Identifier l a i) cs
unfolding extend_all
all_two l a i cs p q =
    let h = address_most a p in
    let e : a / 10 * 10 + a % 10 ≡ a = div-add-mod' a 10 in
    rw (extend_first l (a / 10) (omega arith), extend_second l (a / 10) (a % 10) (omega arith) (rw e p), e, extend_identifier_2 l a i p q)

all_address : (l a i : ℕ) (cs : List ℕ) → is_address a ≡ true → is_identifier i ≡ true → extend_all (Letter l) (spell_address a ++ (i ∷ cs)) ≡ extend_all (Identifier l a i) cs
unfolding spell_address
all_address l a i cs p q =
    choice (λ (x : List ℕ). extend_all (Letter l) (x ++ (i ∷ cs)) ≡ extend_all (Identifier l a i) cs) (leb a 9)
    (λ t. all_one l a i cs p q (leb-true a 9 t)) (λ t. all_two l a i cs p q)

-- behind `#` the recogniser goes as the reading of data goes
extend_read : (l a i : ℕ) (x : Data) (c : ℕ) → extend (extend_data l a i x) c ≡ extend_data l a i (read_next x c)
unfolding extend extend_data
extend_read l a i (Partial k n) c = refl
extend_read l a i (Number x) c = ap (extend_data l a i) (sym (next_number x c))
extend_read l a i Invalid c = ap (extend_data l a i) (sym (next_invalid c))

pub all_data : (l a i : ℕ) (x : Data) (cs : List ℕ) → extend_all (extend_data l a i x) cs ≡ extend_data l a i (read_from x cs)
unfolding extend_all read_from
all_data l a i x [] = refl
all_data l a i x (c ∷ cs) = ap (λ (s : Prefix). extend_all s cs) (extend_read l a i x c) ∙ all_data l a i (read_next x c) cs

is_other : (i : ℕ) → not (eqb i question) ≡ true → eqb i question ≡ false
is_other i e = not_is e

pub extend_hash : (l a i : ℕ) → not (eqb i question) ≡ true → extend (Identifier l a i) (code "#") ≡ extend_data l a i start
unfolding extend extend_body extend_data
extend_hash l a i e = rw (is_other i e)

all_body : (l a i : ℕ) (b : Body) → fits_body i b ≡ true → extend_all (Identifier l a i) (spell_body b) ≡ Complete (message l a i b)
unfolding extend_all kind_of spell_kind fits_body extend extend_body extend_data read_data
all_body l a i Status e = rw e
all_body l a i Query e = rw (is_other i e)
all_body l a i Up e = rw (is_other i e)
all_body l a i Down e = rw (is_other i e)
all_body l a i (Set x) e =
    ap (λ (s : Prefix). extend_all s (spell_numeral x)) (extend_hash l a i (search ands))
    ∙ all_data l a i start (spell_numeral x)
    ∙ ap (extend_data l a i) (read_written x (search ands))
all_body l a i Store e = rw (is_other i e)

-- letter, address and identifier
pub all_front : (l a i : ℕ) (cs : List ℕ) → is_letter l ≡ true → is_address a ≡ true → is_identifier i ≡ true → extend_all Start (l ∷ (spell_address a ++ (i ∷ cs))) ≡ extend_all (Identifier l a i) cs
unfolding extend_all
all_front l a i cs p q r = ap (λ (s : Prefix). extend_all s (spell_address a ++ (i ∷ cs))) (extend_letter l p) ∙ all_address l a i cs q r

all_spell : (m : Message) → Parts m → extend_all Start (spell_open m) ≡ Complete m
unfolding spell_open
all_spell m p =
    all_front m.letter m.address m.identifier (spell_body m.body) p.is-letter p.is-address p.is-identifier
    ∙ all_body m.letter m.address m.identifier m.body p.fits-body

-- what is spelled is read
pub parse_spell : (m : Message) → is_message m ≡ true → parse (spell_open m) ≡ Some m
unfolding parse finish
parse_spell m e = ap finish (all_spell m (parts m e))

-- ---- what is read is a message

-- data that some characters are read as
pub record ReadAs (x : Data) : Type 0 where
  pub chars : List ℕ
  pub reads : read_data chars ≡ x

read_as_start : ReadAs start
read_as_start = record { chars = []; reads = read_none }

read_as_next : (x : Data) (c : ℕ) → ReadAs x → ReadAs (read_next x c)
read_as_next x c r = record { chars = r.chars ++ (c ∷ []); reads = read-next r.chars c ∙ ap (λ (y : Data). read_next y c) r.reads }

-- fewer than five digits
abbrev pub Unfinished : Data → Type 0
Unfinished (Partial k n) = Unit {0}
Unfinished (Number x) = ⊥
Unfinished Invalid = ⊥

-- what is known of a state by the characters read so far
abbrev pub Known : Prefix → Type 0
Known Start = Unit {0}
Known (Letter l) = is_letter l ≡ true
Known (Digit l d) = (is_letter l ≡ true) × (d ≤ 9)
Known (Address l a) = (is_letter l ≡ true) × (is_address a ≡ true)
Known (Identifier l a i) = (is_letter l ≡ true) × (is_address a ≡ true) × (is_identifier i ≡ true)
Known (Digits l a i x) = (is_letter l ≡ true) × (is_address a ≡ true) × (is_identifier i ≡ true) × (not (eqb i question) ≡ true) × ReadAs x × Unfinished x
Known (Complete m) = Parts m
Known Wrong = Unit {0}

known_identifier : (l a c : ℕ) → is_letter l ≡ true → Known (extend_identifier l a c)
unfolding extend_identifier
known_identifier l a c p = choice Known (is_address a && is_identifier c) (λ t. (p, search ands, search ands)) (λ t. tt)

known_address : (l d c : ℕ) → is_letter l ≡ true → Known (extend_address l d c)
unfolding extend_address
known_address l d c p = choice Known (is_address (d * 10 + digit_of c)) (λ t. (p, t)) (λ t. tt)

known_data : (l a i : ℕ) (x : Data) → is_letter l ≡ true → is_address a ≡ true → is_identifier i ≡ true → not (eqb i question) ≡ true → ReadAs x → Known (extend_data l a i x)
unfolding extend_data fits_body
known_data l a i (Partial k n) p q r o h = (p, q, r, o, h, tt)
known_data l a i (Number x) p q r o h = record { is-letter = p; is-address = q; is-identifier = r; fits-body = and_both o (read_fits h.chars x h.reads) }
known_data l a i Invalid p q r o h = tt

known_body : (l a i c : ℕ) → is_letter l ≡ true → is_address a ≡ true → is_identifier i ≡ true → Known (extend_body l a i c)
unfolding extend_body fits_body
known_body l a i c p q r =
    choice Known (eqb i question)
    (λ t. choice Known (eqb c question) (λ _. made Status t) (λ _. tt))
    (λ t.
    let o : not (eqb i question) ≡ true = is_not t in
    choice Known (eqb c question) (λ _. made Query o)
    (λ _. choice Known (eqb c (code "+")) (λ _. made Up o)
    (λ _. choice Known (eqb c (code "-")) (λ _. made Down o)
    (λ _. choice Known (eqb c (code "I")) (λ _. made Store o)
    (λ _. choice Known (eqb c (code "#")) (λ _. (p, q, r, o, read_as_start, tt)) (λ _. tt))))))
  where
    made : (b : Body) → fits_body i b ≡ true → Parts (message l a i b)
    made b e = record { is-letter = p; is-address = q; is-identifier = r; fits-body = e }

pub known_step : (s : Prefix) (c : ℕ) → Known s → Known (extend s c)
unfolding extend
known_step Start c h = choice Known (is_letter c) (λ t. t) (λ t. tt)
known_step (Letter l) c h = choice Known (is_digit c) (λ t. (h, digit_below c t)) (λ t. tt)
known_step (Digit l d) c h = choice Known (is_digit c) (λ t. known_address l d c h.0) (λ t. known_identifier l d c h.0)
known_step (Address l a) c h = known_identifier l a c h.0
known_step (Identifier l a i) c h = known_body l a i c h.0 h.1 h.2
known_step (Digits l a i x) c h = known_data l a i (read_next x c) h.0 h.1 h.2 h.3 (read_as_next x c h.4)
known_step (Complete m) c h = tt
known_step Wrong c h = tt

pub known_scan : (s : Prefix) (cs : List ℕ) → Known s → Known (extend_all s cs)
unfolding extend_all
known_scan s [] h = h
known_scan s (c ∷ cs) h = known_scan (extend s c) cs (known_step s c h)

-- what is heard is a message
abbrev pub Heard-is : Option Message → Type 0
Heard-is (Some m) = is_message m ≡ true
Heard-is None = Unit {0}

known_finish : (s : Prefix) → Known s → Heard-is (finish s)
unfolding finish
known_finish Start h = tt
known_finish (Letter l) h = tt
known_finish (Digit l d) h = tt
known_finish (Address l a) h = tt
known_finish (Identifier l a i) h = tt
known_finish (Digits l a i x) h = tt
known_finish (Complete m) h = whole m h
known_finish Wrong h = tt

pub parse_message : (cs : List ℕ) → Heard-is (parse cs)
unfolding parse
parse_message cs = known_finish (extend_all Start cs) (known_scan Start cs tt)
