-- Nothing is heard of a reply. With one number or none it is read as no message, since what stands behind its identifier begins no body; with
-- four or five it has more than ten characters, and none of them but the first is a letter. Assumes nothing.
use mathlib.Core.Path.{◌≡◌, ap, ◌∙◌}
use mathlib.Core.Logic.{inl, inr}
use mathlib.Core.Bool.{true}
use mathlib.Core.List.{List, [], ◌∷◌, ◌++◌}
use Prim.Native.Nat.{ℕ, ◌+◌, ◌≤◌}
use Prim.Native.Char.{code}
use native.Mathlib.Omega.{arith}
use borrow.Author.Tests.{eqb-true}
use lib.Dec.{eqb}
use lib.ListN.{length, length-append}
use Rattle.refusal.proofs.Lists.{each_append, each_as}
use Rattle.number.proofs.Digits.{AllDigits, data_length}
use Rattle.message.specs.Message.{question, is_letter, is_address, is_identifier}
use Rattle.message.specs.Spell.{spell_address}
use Rattle.message.proofs.Messages.{Plain, plain_identifier, UnopeningChar, no_letter_is, unopening_digit}
use Rattle.message.proofs.Spelling.{address_length, address_digits}
use Rattle.message.proofs.Places.{digit_wrong, status_wrong, wrong_body, HeardAsNothing}
use Rattle.reply.specs.declared.Mark.{Mark}
use Rattle.reply.specs.declared.Mark.TheVariants as mark
use Rattle.reply.specs.declared.Content.{Content}
use Rattle.reply.specs.declared.Content.TheVariants.{Empty, Number, Four, Five}
use Rattle.reply.specs.declared.Answer.{Answer}
use Rattle.reply.specs.Reply.{scan_identifier, mark_of, spell_content, fits_content}
use Rattle.reply.proofs.Spelled.{no_data, number_data, four_length, five_length, content_digits, mark_plain, behind_letter, before_star, before_plain}
use Rattle.reply.proofs.Reader.{AnswerParts, status_content, four_content, five_content}

pub behind_plain : (a : Answer) → AnswerParts a → Plain (behind_letter a)
unfolding before_star
behind_plain a p = (before_plain a p.is-letter p.is-address p.is-identifier).1

mark_unopening : (k : Mark) → UnopeningChar (mark_of k)
mark_unopening mark.Accepted = record { is_plain = mark_plain mark.Accepted; no_letter = no_letter_is (code "A") (λ e. omega arith) (λ e. omega arith) }
mark_unopening mark.Offered = record { is_plain = mark_plain mark.Offered; no_letter = no_letter_is (code "I") (λ e. omega arith) (λ e. omega arith) }
mark_unopening mark.Declined = record { is_plain = mark_plain mark.Declined; no_letter = no_letter_is (code "N") (λ e. omega arith) (λ e. omega arith) }

module _ (l a i : ℕ) (k : Mark) (p : is_letter l ≡ true) (q : is_address a ≡ true) (r : is_identifier i ≡ true) where
  -- behind the letter, with these data
  abbrev with : List ℕ → List ℕ
  with cs = spell_address a ++ (i ∷ (cs ++ (mark_of k ∷ [])))

  long : (cs : List ℕ) → length (with cs) ≡ length (spell_address a) + length cs + 2
  long cs = omega (arith, length-append (spell_address a) (i ∷ (cs ++ (mark_of k ∷ []))), length-append cs (mark_of k ∷ []))

  -- no data
  status : fits_content i k Empty ≡ true → HeardAsNothing l (with [])
  status e =
      let s = status_content i k e in
      inl (omega (arith, long [], address_length a), wrong_body l a i (mark_of k) [] p q r (status_wrong l a i (mark_of k) s.1 (ap (λ (x : Mark). eqb (mark_of x) question) s.0)))

  -- one number
  number : (cs : List ℕ) → AllDigits cs → length cs ≡ 5 → HeardAsNothing l (with cs)
  number [] d n = absurd (omega arith)
  number (c ∷ cs) d n = inl (omega (arith, long (c ∷ cs), address_length a), wrong_body l a i c (cs ++ (mark_of k ∷ [])) p q r (digit_wrong l a i c d.0))

  -- several
  scan : (cs : List ℕ) → AllDigits cs → 22 ≤ length cs → eqb i scan_identifier ≡ true → HeardAsNothing l (with cs)
  scan cs d n e =
      let s = eqb-true i scan_identifier e in
      let bracket : UnopeningChar i = record { is_plain = plain_identifier i r; no_letter = no_letter_is i (λ z. omega arith) (λ z. omega arith) } in
      inr (
        omega (arith, long cs),
        each_append UnopeningChar (spell_address a) (i ∷ (cs ++ (mark_of k ∷ []))) (each_as unopening_digit (spell_address a) (address_digits a q))
            (bracket, each_append UnopeningChar cs (mark_of k ∷ []) (each_as unopening_digit cs d) (mark_unopening k, tt)),
      )

  by_content : (x : Content) → fits_content i k x ≡ true → HeardAsNothing l (with (spell_content x))
  by_content Empty e = rw no_data (status e)
  by_content (Number x) e = number (spell_content (Number x)) (content_digits (Number x)) (ap length (number_data x) ∙ data_length x)
  by_content (Four x y z v) e = scan (spell_content (Four x y z v)) (content_digits (Four x y z v)) (omega (arith, four_length x y z v)) (four_content i k x y z v e).is-scan
  by_content (Five x y z v w) e = scan (spell_content (Five x y z v w)) (content_digits (Five x y z v w)) (omega (arith, five_length x y z v w)) (five_content i k x y z v w e).is-scan

pub reply_as_nothing : (a : Answer) → AnswerParts a → HeardAsNothing a.letter (behind_letter a)
reply_as_nothing a p = by_content a.letter a.address a.identifier a.mark p.is-letter p.is-address p.is-identifier a.content p.fits-content
