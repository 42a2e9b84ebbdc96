-- What a message is spelled with: characters of seven bits other than `*`, at most ten of them, and then the `*`.
-- Assumes nothing.
use mathlib.Core.Path.{◌≡◌, refl, sym, ap, ◌∙◌}
use mathlib.Core.Bool.{true, false, not}
use mathlib.Core.List.{List, [], ◌∷◌, ◌++◌}
use Prim.Native.Nat.{ℕ, ◌+◌, ◌-◌, ◌/◌, ◌%◌, ◌<◌, ◌≤◌}
use Prim.Native.Char.{code}
use native.Mathlib.Omega.{arith}
use borrow.Author.Tests.{leb-true, le-leb, lt-leb, lt-ltb}
use borrow.Rule.Slice.PartMut.{put_mid}
use lib.Dec.{leb, lit<, lit≤}
use lib.ListN.{length, get_or, set, length-append}
use Rattle.refusal.proofs.Logic.{choice, is_not}
use Rattle.refusal.proofs.Lists.{Each, each_append, each_as}
use Rattle.refusal.specs.Refusal.{gave}
use Rattle.refusal.specs.Check.{refuse_if, first}
use Rattle.refusal.specs.Call.{writes, refuses}
use Rattle.refusal.proofs.Checks.{first_holds, first_passes, first_none}
use Rattle.refusal.proofs.Calls.{writes_refused, writes_passed}
use Rattle.refusal.specs.declared.Refusal.TheVariants.{NotMessage}
use Rattle.wire.specs.declared.Line.{Line}
use Rattle.wire.specs.Word.{with_parity, travelling}
use Rattle.wire.specs.Inner.{longest_message, empty, put, puts, line_of, bytes_of}
use Rattle.refusal.proofs.Buffers.{copied_placed}
use Rattle.wire.proofs.Words.{travelling_length}
use Rattle.wire.proofs.Lines.{puts_append, puts_empty, puts_placed, line_bytes}
use Rattle.number.specs.declared.Numeral.{Numeral}
use Rattle.number.specs.Data.{digit, spell_numeral}
use Rattle.number.proofs.Digits.{digit_is, AllDigits, numeral_length, numeral_digits}
use Rattle.message.specs.declared.Body.{Body}
use Rattle.message.specs.declared.Body.TheVariants.{Status, Query, Up, Down, Set, Store}
use Rattle.message.specs.declared.Kind.{Kind}
use Rattle.message.specs.declared.Kind.TheVariants.{Sign, Data}
use Rattle.message.specs.declared.Message.{Message}
use Rattle.message.specs.Message.{star, is_address, is_message}
use Rattle.message.specs.Spell.{spell_address, kind_of, spell_kind, spell_body, spell_open, spell, write_call}
use Rattle.message.proofs.Places.{five_are}
use Rattle.message.proofs.Messages.{Parts, PlainChar, Plain, plain_letter, plain_digit, plain_identifier, address_most}

-- ---- its characters

pub plain_digits : (cs : List ℕ) → AllDigits cs → Plain cs
plain_digits cs h = each_as plain_digit cs h

pub address_digits : (a : ℕ) → is_address a ≡ true → AllDigits (spell_address a)
unfolding spell_address
address_digits a e =
    let h = address_most a e in
    choice AllDigits (leb a 9)
    (λ t. (digit_is a (leb-true a 9 t), tt))
    (λ t. (digit_is (a / 10) (omega arith), (digit_is (a % 10) (omega arith), tt)))

pub plain_address : (a : ℕ) → is_address a ≡ true → Plain (spell_address a)
plain_address a e = plain_digits (spell_address a) (address_digits a e)

plain_body : (b : Body) → Plain (spell_body b)
unfolding kind_of spell_kind
plain_body Status = (record { small = lit< tt; no_star = refl }, tt)
plain_body Query = (record { small = lit< tt; no_star = refl }, tt)
plain_body Up = (record { small = lit< tt; no_star = refl }, tt)
plain_body Down = (record { small = lit< tt; no_star = refl }, tt)
plain_body (Set x) = (record { small = lit< tt; no_star = refl }, plain_digits (spell_numeral x) (numeral_digits x))
plain_body Store = (record { small = lit< tt; no_star = refl }, tt)

-- behind the letter
pub plain_rest : (m : Message) → Parts m → Plain (spell_address m.address ++ (m.identifier ∷ spell_body m.body))
plain_rest m p =
    each_append PlainChar (spell_address m.address) (m.identifier ∷ spell_body m.body) (plain_address m.address p.is-address)
    (plain_identifier m.identifier p.is-identifier, plain_body m.body)

-- all of them, with the letter and the `*`, are of seven bits
abbrev pub Small : List ℕ → Type 0
Small cs = Each (λ (c : ℕ). c < 128) cs

pub plain_small : (cs : List ℕ) → Plain cs → Small cs
plain_small cs h = each_as (λ c p. p.small) cs h

pub spell_small : (m : Message) → Parts m → Small (spell m)
unfolding spell spell_open
spell_small m p =
    each_append _ (m.letter ∷ (spell_address m.address ++ (m.identifier ∷ spell_body m.body))) (star ∷ [])
    ((plain_letter m.letter p.is-letter).small, plain_small (spell_address m.address ++ (m.identifier ∷ spell_body m.body)) (plain_rest m p)) (lit< tt, tt)

-- the letter stands first
pub open_first : (m : Message) → spell_open m ≡ m.letter ∷ (spell_address m.address ++ (m.identifier ∷ spell_body m.body))
unfolding spell_open
open_first m = refl

-- and the `*` last
pub star_last : (m : Message) → spell m ≡ spell_open m ++ (star ∷ [])
unfolding spell
star_last m = refl

-- ---- its length, whatever it is

pub address_length : (a : ℕ) → length (spell_address a) ≤ 2
unfolding spell_address
address_length a = choice (λ (x : List ℕ). length x ≤ 2) (leb a 9) (λ t. lit≤ tt) (λ t. lit≤ tt)

-- one character, or `#` and five digits
pub sign_spelled : (c : ℕ) → spell_kind (Sign c) ≡ c ∷ []
unfolding spell_kind
sign_spelled c = refl

pub data_spelled : (x : Numeral) → spell_kind (Data x) ≡ code "#" ∷ spell_numeral x
unfolding spell_kind
data_spelled x = refl

pub data_kind_length : (x : Numeral) → length (spell_kind (Data x)) ≡ 6
unfolding spell_kind
data_kind_length x = omega (arith, numeral_length x)

kind_length : (k : Kind) → length (spell_kind k) ≤ 6
unfolding spell_kind
kind_length (Sign c) = lit≤ tt
kind_length (Data x) = omega (arith, numeral_length x)

pub body_length : (b : Body) → length (spell_body b) ≤ 6
body_length b = kind_length (kind_of b)

-- letter, identifier and `*` stand beside the address and the body
pub spell_parts : (m : Message) → length (spell m) ≡ length (spell_address m.address) + length (spell_body m.body) + 3
unfolding spell spell_open
spell_parts m =
    omega (arith, length-append (spell_open m) (star ∷ []), length-append (spell_address m.address) (m.identifier ∷ spell_body m.body))

pub open_length : (m : Message) → length (spell_open m) ≤ 10
unfolding spell_open
open_length m = omega (arith, length-append (spell_address m.address) (m.identifier ∷ spell_body m.body), address_length m.address, body_length m.body)

pub spell_length : (m : Message) → length (spell m) ≤ 11
unfolding spell
spell_length m = omega (arith, length-append (spell_open m) (star ∷ []), open_length m)

-- ---- a message with one character behind its identifier

-- with one digit of address
pub sign_one : (m : Message) (c : ℕ) → kind_of m.body ≡ Sign c → m.address ≤ 9
    → spell m ≡ m.letter ∷ (48 + m.address) ∷ m.identifier ∷ c ∷ star ∷ []
unfolding spell spell_open spell_address spell_kind digit
sign_one m c e h = rw (e, le-leb m.address 9 h)

-- and with two
pub sign_two : (m : Message) (c : ℕ) → kind_of m.body ≡ Sign c → 9 < m.address
    → spell m ≡ m.letter ∷ (48 + m.address / 10) ∷ (48 + m.address % 10) ∷ m.identifier ∷ c ∷ star ∷ []
unfolding spell spell_open spell_address spell_kind digit
sign_two m c e h = rw (e, lt-leb m.address 9 h)

-- ---- the line of a message, put part by part: l₀ is empty, and each of the others has one part more

pub spelled_line : (m : Message) (l₀ l₁ l₂ l₃ l₄ l₅ : Line) → l₀ ≡ empty → l₁ ≡ put l₀ m.letter → l₂ ≡ puts l₁ (spell_address m.address) → l₃ ≡ put l₂ m.identifier
    → l₄ ≡ puts l₃ (spell_body m.body) → l₅ ≡ put l₄ star → l₅ ≡ line_of (spell m)
unfolding spell spell_open puts
spelled_line m l₀ l₁ l₂ l₃ l₄ l₅ e₀ e₁ e₂ e₃ e₄ e₅ =
    let a = spell_address m.address in
    let b = spell_body m.body in
    let behind : puts l₁ (a ++ (m.identifier ∷ b)) ≡ l₄
    = puts_append l₁ a (m.identifier ∷ b) ∙ ap (λ (l : Line). puts (put l m.identifier) b) (sym e₂) ∙ ap (λ (l : Line). puts l b) (sym e₃) ∙ sym e₄ in
    e₅
    ∙ ap (λ (l : Line). put l star) (sym behind)
    ∙ sym (puts_append l₁ (a ++ (m.identifier ∷ b)) (star ∷ []))
    ∙ ap (λ (l : Line). puts l ((a ++ (m.identifier ∷ b)) ++ (star ∷ []))) (e₁ ∙ ap (λ (l : Line). put l m.letter) e₀)
    ∙ puts_empty (spell m) (spell_length m)

-- five characters more, where there is room for them, as the bytes v to z
pub puts_five : (l : Line) (a b c d e : ℕ) {v w x y z : ℕ} → v ≡ with_parity a → w ≡ with_parity b → x ≡ with_parity c → y ≡ with_parity d → z ≡ with_parity e → l.len ≤ 6
    → record { bytes = set (set (set (set (set l.bytes l.len v) (l.len + 1) w) (l.len + 1 + 1) x) (l.len + 1 + 1 + 1) y) (l.len + 1 + 1 + 1 + 1) z; len = l.len + 1 + 1 + 1 + 1 + 1 }
    ≡ puts l (a ∷ b ∷ c ∷ d ∷ e ∷ [])
unfolding puts put
puts_five l a b c d e pv pw px py pz h =
    let n = l.len in
    (λ j. record { bytes = set (set (set (set (set l.bytes n (pv j)) (n + 1) (pw j)) (n + 1 + 1) (px j)) (n + 1 + 1 + 1) (py j)) (n + 1 + 1 + 1 + 1) (pz j); len = n + 1 + 1 + 1 + 1 + 1 })
    ∙ sym (rw (
      lt-ltb n longest_message (omega arith),
      lt-ltb (n + 1) longest_message (omega arith),
      lt-ltb (n + 1 + 1) longest_message (omega arith),
      lt-ltb (n + 1 + 1 + 1) longest_message (omega arith),
      lt-ltb (n + 1 + 1 + 1 + 1) longest_message (omega arith),
    ))

-- five characters as they travel, each by itself
pub five_sent : (ds : List ℕ) {v w x y z : ℕ} → length ds ≡ 5 → v ≡ with_parity (get_or ds 0 0) → w ≡ with_parity (get_or ds 1 0) → x ≡ with_parity (get_or ds 2 0)
    → y ≡ with_parity (get_or ds 3 0) → z ≡ with_parity (get_or ds 4 0) → v ∷ w ∷ x ∷ y ∷ z ∷ [] ≡ travelling ds
unfolding travelling
five_sent ds n pv pw px py pz = (λ j. pv j ∷ pw j ∷ px j ∷ py j ∷ pz j ∷ []) ∙ ap travelling (five_are ds n)

-- five characters more, where there is room for them, in a part of the array at once
pub put_at_once : (l : Line) (ds bs : List ℕ) → length ds ≡ 5 → bs ≡ travelling ds → l.len ≤ 6 → length l.bytes ≡ longest_message
    → record { bytes = put_mid l.len (l.len + 5 - l.len) l.bytes bs; len = l.len + 5 } ≡ puts l ds
put_at_once l ds bs n e h b =
    let p = copied_placed (travelling ds) l.len (l.len + 5 - l.len) l.bytes bs e (omega (arith, travelling_length ds, n)) in
    let k : l.len + 5 ≡ l.len + length ds = omega (arith, n) in
    (λ j. record { bytes = p j; len = k j }) ∙ puts_placed ds l b (omega (arith, n))

-- ---- the call

pub write_is : (m : Message) (out : List ℕ) → write_call m out ≡ writes (refuse_if (not (is_message m)) NotMessage ∷ []) (travelling (spell m)) out
unfolding write_call
write_is m out = refl

pub write_refused : (m : Message) (out : List ℕ) → is_message m ≡ false → write_call m out ≡ refuses out 7
unfolding write_call
write_refused m out e = writes_refused (travelling (spell m)) out (refuse_if (not (is_message m)) NotMessage ∷ []) 7 (first_holds (refuse_if (not (is_message m)) NotMessage) [] (is_not e))

pub message_passes : (m : Message) → is_message m ≡ true → first (refuse_if (not (is_message m)) NotMessage ∷ []) ≡ gave tt
message_passes m e = first_passes (refuse_if (not (is_message m)) NotMessage) [] (rw e) ∙ first_none

pub write_served : (m : Message) (out : List ℕ) → is_message m ≡ true → write_call m out ≡ writes [] (travelling (spell m)) out
unfolding write_call
write_served m out e = writes_passed (travelling (spell m)) out (refuse_if (not (is_message m)) NotMessage ∷ []) (message_passes m e)

-- the same of the line that the message is spelled into
pub write_line : (m : Message) (out : List ℕ) → is_message m ≡ true → write_call m out ≡ writes [] (bytes_of (line_of (spell m))) out
write_line m out e = write_served m out e ∙ ap (λ (l : List ℕ). writes [] l out) (sym (line_bytes (spell m)))
