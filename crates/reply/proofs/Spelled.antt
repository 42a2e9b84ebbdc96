-- A reply's spelling: at most 33 bytes, the last a `*` and no other, and the parts of which it is put together. Assumes nothing.
use mathlib.Core.Path.{◌≡◌, refl, sym, ap, ap₂, ◌∙◌, subst}
use mathlib.Core.Bool.{true}
use mathlib.Core.List.{List, [], ◌∷◌, ◌++◌, append_assoc}
use Prim.Native.Nat.{ℕ, ◌+◌, ◌/◌, ◌%◌, ◌<◌, ◌≤◌}
use Prim.Native.Char.{code}
use native.Mathlib.Omega.{arith}
use borrow.Author.Tests.{le-leb, lt-leb}
use lib.Dec.{lit<, lit≤}
use lib.ListN.{length, take, length-append}
use Rattle.refusal.specs.Buffer.{placed}
use Rattle.refusal.specs.Refusal.{gave, outcome_of}
use Rattle.refusal.specs.Call.{Call, call_of, place_call}
use Rattle.refusal.specs.declared.Refusal.{Refusal}
use Rattle.refusal.proofs.Buffers.{placed_nothing, placed_both, placed_length, placed-front, laid_front, placed_ahead}
use Rattle.refusal.proofs.Lists.{each_append}
use Rattle.refusal.proofs.Checks.{refused_gave}
use Rattle.refusal.proofs.Calls.{placed_call, fits-at}
use Rattle.wire.specs.Word.{travelling}
use Rattle.wire.proofs.Words.{travelling_append, travelling_length}
use Rattle.number.specs.declared.Decimal.{Decimal}
use Rattle.number.specs.Data.{digit, spell_data, spell_all}
use Rattle.number.proofs.Digits.{digit_is, AllDigits, data_length, data_digits}
use Rattle.number.proofs.Several.{all_length, all_digits}
use Rattle.message.specs.Message.{star, is_letter, is_address, is_identifier}
use Rattle.message.specs.Spell.{spell_address}
use Rattle.message.proofs.Messages.{PlainChar, Plain, plain_letter, plain_identifier}
use Rattle.message.proofs.Spelling.{plain_digits, plain_address, address_length}
use Rattle.reply.specs.declared.Mark.{Mark}
use Rattle.reply.specs.declared.Mark.TheVariants as mark
use Rattle.reply.specs.declared.Content.{Content}
use Rattle.reply.specs.declared.Content.TheVariants.{Empty, Number, Four, Five}
use Rattle.reply.specs.declared.Answer.{Answer}
use Rattle.reply.specs.Reply.{longest_reply, mark_of, spell_scan, spell_content, spell_answer}
use Rattle.reply.specs.Inner.{spell_front}
use Rattle.std.specs.Prelude.{Err, Ok, Result}

-- ---- lengths

pub no_data : spell_content Empty ≡ []
unfolding spell_content
no_data = refl

pub number_data : (x : Decimal) → spell_content (Number x) ≡ spell_data x
unfolding spell_content
number_data x = refl

-- four numbers and five: how many digits there are, and the digits
pub four_data : (a b c d : Decimal) → spell_content (Four a b c d) ≡ code "2" ∷ code "0" ∷ spell_all (a ∷ b ∷ c ∷ d ∷ [])
unfolding spell_content spell_scan digit
four_data a b c d = refl

pub five_data : (a b c d e : Decimal) → spell_content (Five a b c d e) ≡ code "2" ∷ code "5" ∷ spell_all (a ∷ b ∷ c ∷ d ∷ e ∷ [])
unfolding spell_content spell_scan digit
five_data a b c d e = refl

pub four_length : (a b c d : Decimal) → length (spell_content (Four a b c d)) ≡ 22
unfolding spell_content spell_scan
four_length a b c d = omega (arith, all_length (a ∷ b ∷ c ∷ d ∷ []))

pub five_length : (a b c d e : Decimal) → length (spell_content (Five a b c d e)) ≡ 27
unfolding spell_content spell_scan
five_length a b c d e = omega (arith, all_length (a ∷ b ∷ c ∷ d ∷ e ∷ []))

pub content_length : (x : Content) → length (spell_content x) ≤ 27
unfolding spell_content
content_length Empty = lit≤ tt
content_length (Number x) = omega (arith, data_length x)
content_length (Four a b c d) = omega (arith, four_length a b c d)
content_length (Five a b c d e) = omega (arith, five_length a b c d e)

-- with one digit of address, and with two
pub front_one : (l a i : ℕ) → a ≤ 9 → spell_front l a i ≡ l ∷ (48 + a) ∷ i ∷ []
unfolding spell_front spell_address digit
front_one l a i h = rw (le-leb a 9 h)

pub front_two : (l a i : ℕ) → 9 < a → spell_front l a i ≡ l ∷ (48 + a / 10) ∷ (48 + a % 10) ∷ i ∷ []
unfolding spell_front spell_address digit
front_two l a i h = rw (lt-leb a 9 h)

front_length : (l a i : ℕ) → length (spell_front l a i) ≤ 4
unfolding spell_front
front_length l a i = omega (arith, length-append (spell_address a) (i ∷ []), address_length a)

-- the parts of an answer's spelling
pub answer_parted : (a : Answer) → spell_front a.letter a.address a.identifier ++ (spell_content a.content ++ (mark_of a.mark ∷ star ∷ [])) ≡ spell_answer a
unfolding spell_answer spell_front
answer_parted a =
    ap (λ (l : List ℕ). a.letter ∷ l) (append_assoc (spell_address a.address) (a.identifier ∷ []) (spell_content a.content ++ (mark_of a.mark ∷ star ∷ [])))

pub answer_sum : (a : Answer) → length (spell_answer a) ≡ length (spell_front a.letter a.address a.identifier) + length (spell_content a.content) + 2
answer_sum a =
    let f = spell_front a.letter a.address a.identifier in
    let c = spell_content a.content in
    let e = (mark_of a.mark ∷ star ∷ []) in
    omega (arith, ap length (answer_parted a), length-append f (c ++ e), length-append c e)

-- document 02, ticket 1: "Longest reply becomes 33 bytes"
pub answer-length : (a : Answer) → length (spell_answer a) ≤ longest_reply
answer-length a = omega (arith, answer_sum a, front_length a.letter a.address a.identifier, content_length a.content)

-- and it has at least one
pub answer_some : (a : Answer) → 0 < length (spell_answer a)
unfolding spell_answer
answer_some a = omega arith

-- the bytes are as many as the characters
pub travelling_count : (a : Answer) → length (travelling (spell_answer a)) ≡ length (spell_answer a)
travelling_count a = travelling_length (spell_answer a)

-- ---- its characters

-- how many digits there are, and the digits
scan_digits : (c d : ℕ) (xs : List Decimal) → c ≤ 9 → d ≤ 9 → AllDigits (digit c ∷ digit d ∷ spell_all xs)
scan_digits c d xs p q = (digit_is c p, (digit_is d q, all_digits xs))

pub content_digits : (x : Content) → AllDigits (spell_content x)
unfolding spell_content spell_scan
content_digits Empty = tt
content_digits (Number x) = data_digits x
content_digits (Four a b c d) = scan_digits 2 0 (a ∷ b ∷ c ∷ d ∷ []) (lit≤ tt) (lit≤ tt)
content_digits (Five a b c d e) = scan_digits 2 5 (a ∷ b ∷ c ∷ d ∷ e ∷ []) (lit≤ tt) (lit≤ tt)

pub mark_plain : (k : Mark) → PlainChar (mark_of k)
mark_plain mark.Accepted = record { small = lit< tt; no_star = refl }
mark_plain mark.Offered = record { small = lit< tt; no_star = refl }
mark_plain mark.Declined = record { small = lit< tt; no_star = refl }

-- those behind the letter, and all of them before the `*`
abbrev pub behind_letter : Answer → List ℕ
behind_letter a = spell_address a.address ++ (a.identifier ∷ (spell_content a.content ++ (mark_of a.mark ∷ [])))

unfoldable pub before_star : Answer → List ℕ
before_star a = a.letter ∷ behind_letter a

pub spelled_behind : (a : Answer) → spell_answer a ≡ (a.letter ∷ behind_letter a) ++ (star ∷ [])
unfolding spell_answer
spelled_behind a = simp append_assoc

pub star_ends : (a : Answer) → spell_answer a ≡ before_star a ++ (star ∷ [])
unfolding before_star
star_ends a = spelled_behind a

pub before_plain : (a : Answer) → is_letter a.letter ≡ true → is_address a.address ≡ true → is_identifier a.identifier ≡ true → Plain (before_star a)
unfolding before_star
before_plain a l d i = (
  plain_letter a.letter l,
  each_append PlainChar (spell_address a.address) (a.identifier ∷ (spell_content a.content ++ (mark_of a.mark ∷ []))) (plain_address a.address d)
      (plain_identifier a.identifier i, each_append PlainChar (spell_content a.content) (mark_of a.mark ∷ []) (plain_digits (spell_content a.content) (content_digits a.content)) (mark_plain a.mark, tt)),
)

-- ---- part by part into a buffer

-- these characters stand in the buffer from a place on, as they travel; the next place is behind them
pub record Stands (xs : List ℕ) (at : ℕ) (out : List ℕ) (next : ℕ) (out' : List ℕ) : Type 0 where
  pub ends : next ≡ at + length xs
  pub leaves : out' ≡ placed (travelling xs) at out

-- as a call that places them says it
pub stands_from : (xs : List ℕ) {n at next : ℕ} (out : List ℕ) {out' : List ℕ} → length xs ≡ n → (next ≡ at + n) × (out' ≡ placed (travelling xs) at out) → Stands xs at out next out'
stands_from xs out l e = record { ends = omega (arith, e.0); leaves = e.1 }

pub stands_nothing : (at : ℕ) (out : List ℕ) → Stands [] at out at out
unfolding travelling
stands_nothing at out = record { ends = omega arith; leaves = sym (placed_nothing at out) }

-- one part behind the other
pub stands_both : {xs ys : List ℕ} {at p q : ℕ} {out o₁ o₂ : List ℕ} → at ≤ length out → Stands xs at out p o₁ → Stands ys p o₁ q o₂ → Stands (xs ++ ys) at out q o₂
stands_both {xs} {ys} {at} {p} {q} {out} h f g =
    let e : p ≡ at + length (travelling xs) = f.ends ∙ ap (λ (n : ℕ). at + n) (sym (travelling_length xs)) in
    record {
      ends = omega (arith, f.ends, g.ends, length-append xs ys);
      leaves =
          g.leaves
          ∙ ap₂ (λ (k : ℕ) (l : List ℕ). placed (travelling ys) k l) e f.leaves
          ∙ placed_both (travelling xs) at out h (travelling ys)
          ∙ ap (λ (l : List ℕ). placed l at out) (sym (travelling_append xs ys));
    }

-- one part before another that stands there
pub stands_ahead : {xs ys : List ℕ} {at p q : ℕ} {out o₁ o₂ : List ℕ} → at + length xs ≤ length out → Stands ys p out q o₁ → Stands xs at o₁ p o₂ → Stands (xs ++ ys) at out q o₂
stands_ahead {xs} {ys} {at} {p} {q} {out} h g f =
    let n = travelling_length xs in
    let e : p ≡ at + length (travelling xs) = f.ends ∙ ap (λ (n : ℕ). at + n) (sym n) in
    record {
      ends = omega (arith, f.ends, g.ends, length-append xs ys);
      leaves =
          f.leaves
          ∙ ap (placed (travelling xs) at) (g.leaves ∙ ap (λ (k : ℕ). placed (travelling ys) k out) e)
          ∙ placed_ahead (travelling xs) at (travelling ys) out (omega arith)
          ∙ ap (λ (l : List ℕ). placed l at out) (sym (travelling_append xs ys));
    }

-- the same characters said otherwise
pub stands-as : {xs ys : List ℕ} {at next : ℕ} {out out' : List ℕ} → xs ≡ ys → Stands xs at out next out' → Stands ys at out next out'
stands-as {at = at} {next = next} {out = out} {out' = out'} e s = subst (λ (l : List ℕ). Stands l at out next out') e s

-- the same place said otherwise
pub stands-at : {xs : List ℕ} {p q next : ℕ} {out out' : List ℕ} → p ≡ q → Stands xs p out next out' → Stands xs q out next out'
stands-at {xs} {next = next} {out = out} {out' = out'} e s = subst (λ (k : ℕ). Stands xs k out next out') e s

-- ---- into an array that has room for every reply

pub record Spelt (a : Answer) (r : Result ℕ Refusal) (array : List ℕ) : Type 0 where
  pub answers : outcome_of r ≡ gave (length (travelling (spell_answer a)))
  pub long : length array ≡ longest_reply
  pub front : take (length (travelling (spell_answer a))) array ≡ travelling (spell_answer a)

pub spelt : (a : Answer) (zeros : List ℕ) (r : Result ℕ Refusal) (array : List ℕ) → length zeros ≡ longest_reply → call_of r array ≡ place_call (travelling (spell_answer a)) 0 zeros → Spelt a r array
spelt a zeros r array h e =
    let xs = travelling (spell_answer a) in
    let n = travelling_length (spell_answer a) in
    let m = answer-length a in
    let room : 0 + length xs ≤ length zeros = omega arith in
    let w = e ∙ placed_call xs 0 zeros (fits-at xs 0 zeros room) in
    let b : array ≡ placed xs 0 zeros = ap (λ (c : Call). c.buffer) w in
    record {
      answers = ap (λ (c : Call). c.outcome) w;
      long = ap length b ∙ placed_length xs 0 zeros room ∙ h;
      front = ap (take (length xs)) (b ∙ placed-front xs zeros) ∙ laid_front xs zeros;
    }

-- so many bytes were written
pub spelt_count : (a : Answer) (r : Result ℕ Refusal) (array : List ℕ) (n : ℕ) → Spelt a r array → r ≡ Ok n → n ≡ length (travelling (spell_answer a))
spelt_count a r array n s e = let g : gave n ≡ gave (length (travelling (spell_answer a))) = sym (ap outcome_of e) ∙ s.answers in cc

pub spelt_always : (a : Answer) (r : Result ℕ Refusal) (array : List ℕ) (f : Refusal) → Spelt a r array → r ≡ Err f → ⊥
spelt_always a r array f s e = refused_gave (sym (ap outcome_of e) ∙ s.answers)
