-- Bytes that are a reply but for minus zero are none: were they one, its number would be spelled as minus zero, which no number is.
-- Assumes nothing.
use mathlib.Core.Path.{◌≡◌, sym, ap, ◌∙◌}
use mathlib.Core.Bool.{true, false, false≢true}
use mathlib.Core.List.{List, [], ◌∷◌, ◌++◌, head-eq_of_cons-eq, tail-eq_of_cons-eq}
use Prim.Native.Nat.{ℕ, ◌%◌, ◌≤◌}
use native.Mathlib.Omega.{arith}
use lib.Dec.{leb, lit<}
use lib.ListN.{length, take, length-append}
use lib.Seq.{take-append_seam}
use Rattle.refusal.specs.Refusal.{refused, gave}
use Rattle.refusal.proofs.Logic.{by-test}
use Rattle.refusal.proofs.Lists.{each_append}
use Rattle.wire.specs.Word.{travelling}
use Rattle.number.specs.declared.Decimal.{Decimal}
use Rattle.number.specs.declared.Numeral.{Numeral}
use Rattle.number.specs.declared.Data.TheVariants as read
use Rattle.number.specs.Data.{digit, is_digit, fits, is_minus_zero, numeral, fits_numeral, spell_data, spell_numeral, read_data}
use Rattle.number.proofs.Digits.{digit_is, numeral_length, numeral_digits}
use Rattle.number.proofs.Reading.{read_number, read_written}
use Rattle.number.proofs.Several.{all_length, first_data}
use Rattle.message.specs.Message.{star, is_letter, is_address, is_identifier}
use Rattle.message.specs.Spell.{spell_address}
use Rattle.message.proofs.Messages.{plain_letter, plain_identifier, address_most, identifier_no_digit}
use Rattle.message.proofs.Spelling.{Small, plain_small, plain_digits, plain_address}
use Rattle.reply.specs.declared.Mark.{Mark}
use Rattle.reply.specs.declared.Content.{Content}
use Rattle.reply.specs.declared.Content.TheVariants.{Empty, Number, Four, Five}
use Rattle.reply.specs.declared.Answer.{Answer}
use Rattle.reply.specs.Reply.{mark_of, spell_scan, spell_content, spell_answer, fits_content}
use Rattle.reply.specs.Read.{characters_of, guess, is_reply, read_call}
use Rattle.reply.proofs.Spelled.{mark_plain}
use Rattle.reply.proofs.Reader.{answer_parts, number_content, answer_small, characters_back, read_reply, read_no_reply, read_exact}

-- an address and an identifier, which is no digit and so ends it
module _ (i j : ℕ) (xs ys : List ℕ) (p : is_digit i ≡ false) (q : is_digit j ≡ false) where
  no_digit : (k : ℕ) → is_digit k ≡ false → (d : ℕ) → d ≤ 9 → k ≡ digit d → ⊥
  no_digit k f d h e = false≢true (sym f ∙ ap is_digit e ∙ digit_is d h)

  behind_address : (a b : ℕ) → is_address a ≡ true → is_address b ≡ true → spell_address a ++ (i ∷ xs) ≡ spell_address b ++ (j ∷ ys) → xs ≡ ys
  unfolding spell_address
  behind_address a b f g =
      let h = address_most a f in
      let k = address_most b g in
      by-test (leb a 9)
      (λ t.
      by-test (leb b 9)
      (λ u. rw (t, u) (λ e. tail-eq_of_cons-eq (tail-eq_of_cons-eq e)))
      (λ u. rw (t, u) (λ e. absurd (no_digit i p (b % 10) (omega arith) (head-eq_of_cons-eq (tail-eq_of_cons-eq e))))))
      (λ t.
      by-test (leb b 9)
      (λ u. rw (t, u) (λ e. absurd (no_digit j q (a % 10) (omega arith) (sym (head-eq_of_cons-eq (tail-eq_of_cons-eq e))))))
      (λ u. rw (t, u) (λ e. tail-eq_of_cons-eq (tail-eq_of_cons-eq (tail-eq_of_cons-eq e)))))

-- a number as a message has it, in the place of a content
module _ (x : Numeral) (f : fits_numeral x ≡ true) (z : is_minus_zero x ≡ true) (r r' : ℕ) where
  abbrev Alike : Content → Type 0
  Alike c = spell_numeral x ++ (r ∷ star ∷ []) ≡ spell_content c ++ (r' ∷ star ∷ [])

  as_long : (c : Content) → Alike c → length (spell_content c) ≡ 5
  as_long c e =
      omega (arith, ap length e, length-append (spell_numeral x) (r ∷ star ∷ []), length-append (spell_content c) (r' ∷ star ∷ []), numeral_length x)

  no-number : (y : Decimal) → fits y ≡ true → spell_numeral x ≡ spell_data y → ⊥
  no-number y g e =
      let same : read.Number x ≡ read.Number (numeral y) = sym (read_written x f) ∙ ap read_data e ∙ read_number y g in
      let is : x ≡ numeral y = cc in
      false≢true (sym (ap is_minus_zero is) ∙ z)

  no_content : (i : ℕ) (k : Mark) (c : Content) → fits_content i k c ≡ true → Alike c → ⊥
  unfolding spell_content spell_scan
  no_content i k Empty g e = omega (arith, as_long Empty e)
  no_content i k (Number y) g e =
      no-number y (number_content i k y g).fit
      (sym (ap (λ (n : ℕ). take n (spell_numeral x ++ (r ∷ star ∷ []))) (sym (numeral_length x)) ∙ take-append_seam (spell_numeral x) (r ∷ star ∷ []))
      ∙ ap (take 5) e
      ∙ (first_data y (r' ∷ star ∷ [])).0)
  no_content i k (Four a b c d) g e = omega (arith, as_long (Four a b c d) e, all_length (a ∷ b ∷ c ∷ d ∷ []))
  no_content i k (Five a b c d h) g e = omega (arith, as_long (Five a b c d h) e, all_length (a ∷ b ∷ c ∷ d ∷ h ∷ []))

-- what would be a reply but for minus zero
abbrev pub with_minus_zero : ℕ → ℕ → ℕ → Numeral → Mark → List ℕ
with_minus_zero l a i x k = l ∷ (spell_address a ++ (i ∷ (spell_numeral x ++ (mark_of k ∷ star ∷ []))))

module _ (l a i : ℕ) (x : Numeral) (k : Mark) (p : is_letter l ≡ true) (q : is_address a ≡ true) (r : is_identifier i ≡ true) (f : fits_numeral x ≡ true) (z : is_minus_zero x ≡ true) where
  small : Small (with_minus_zero l a i x k)
  small = (
    (plain_letter l p).small,
    each_append _ (spell_address a) (i ∷ (spell_numeral x ++ (mark_of k ∷ star ∷ []))) (plain_small (spell_address a) (plain_address a q))
        ((plain_identifier i r).small, each_append _ (spell_numeral x) (mark_of k ∷ star ∷ []) (plain_small (spell_numeral x) (plain_digits (spell_numeral x) (numeral_digits x))) ((mark_plain k).small, (lit< tt, tt))),
  )

  no_answer : (b : Answer) → read_call (travelling (with_minus_zero l a i x k)) ≡ gave b → ⊥
  unfolding spell_answer
  no_answer b e =
      let d = read_exact (travelling (with_minus_zero l a i x k)) b e in
      let t = answer_parts b d.0 in
      let same : with_minus_zero l a i x k ≡ spell_answer b
      = sym (characters_back (with_minus_zero l a i x k) small) ∙ ap characters_of d.1 ∙ characters_back (spell_answer b) (answer_small b t) in
      no_content x f z (mark_of k) (mark_of b.mark) b.identifier b.mark b.content t.fits-content
      (behind_address i b.identifier _ _ (identifier_no_digit i r) (identifier_no_digit b.identifier t.is-identifier) a b.address q t.is-address (tail-eq_of_cons-eq same))

  pub minus_zero_refused : read_call (travelling (with_minus_zero l a i x k)) ≡ refused 6
  minus_zero_refused =
      let bs = travelling (with_minus_zero l a i x k) in
      by-test (is_reply bs) (λ t. absurd (no_answer (guess (characters_of bs)) (read_reply bs t))) (λ t. read_no_reply bs t)
