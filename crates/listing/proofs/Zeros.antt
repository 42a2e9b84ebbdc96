-- The lines of a Type 3 of minus zero and of the same of zero differ, in their data. Assumes nothing.
use Rattle.std.proofs.Common.{◌≡◌, ℕ, true, List, ◌++◌, take, sym, ap, ◌∙◌}
use mathlib.Core.Bool.{false≢true}
use mathlib.Core.List.{tail-eq_of_cons-eq}
use lib.Seq.{take-append_seam}
use Rattle.refusal.proofs.Lists.{append_cancel}
use Rattle.wire.specs.Text.{chars}
use Rattle.number.specs.declared.Numeral.{Numeral}
use Rattle.number.specs.Data.{is_minus_zero, numeral, as_decimal, fits_numeral, spell_numeral}
use Rattle.number.proofs.Digits.{numeral_length}
use Rattle.number.proofs.Reading.{fits_value, numeral_fits, numeral_injective}
use Rattle.message.specs.declared.Body.{Body}
use Rattle.message.specs.declared.Body.TheVariants.{Set}
use Rattle.message.specs.declared.Message.{Message}
use Rattle.message.specs.Message.{fits_body, asks_minus_zero, unsigned_body, unsigned_zero, is_message}
use Rattle.message.specs.Spell.{spell_address, kind_of}
use Rattle.message.proofs.Messages.{parts, body_parts, asks_set}
use Rattle.listing.specs.Line.{decimal, kind_and_data, line}

abbrev data_part : Body → List ℕ
data_part b = kind_and_data (kind_of b) ++ chars "\n"

data_apart : (x : Numeral) → fits_numeral x ≡ true → is_minus_zero x ≡ true → data_part (Set x) ≡ data_part (Set (numeral (as_decimal x))) → ⊥
unfolding kind_and_data kind_of
data_apart x f z e =
    let y = numeral (as_decimal x) in
    let five : (w : Numeral) → take 5 (spell_numeral w ++ chars "\n") ≡ spell_numeral w
    = λ w. ap (λ (n : ℕ). take n (spell_numeral w ++ chars "\n")) (sym (numeral_length w)) ∙ take-append_seam (spell_numeral w) (chars "\n") in
    let same = sym (five x) ∙ ap (take 5) (tail-eq_of_cons-eq (tail-eq_of_cons-eq e)) ∙ five y in
    let is = numeral_injective x y f (numeral_fits (as_decimal x) (fits_value x f)) same in
    false≢true (sym (ap is_minus_zero is) ∙ z)

pub lines_apart : (at : ℕ) (m : Message) → is_message m ≡ true → asks_minus_zero m.body ≡ true → line at m ≡ line at (unsigned_zero m) → ⊥
unfolding line asks_minus_zero unsigned_body
lines_apart at m e z h =
    let s = asks_set m.body z in
    let behind = append_cancel (spell_address m.address) (tail-eq_of_cons-eq (tail-eq_of_cons-eq (append_cancel (decimal at) h))) in
    let rest : data_part m.body ≡ data_part (unsigned_body m.body) = tail-eq_of_cons-eq (tail-eq_of_cons-eq (tail-eq_of_cons-eq behind)) in
    data_apart s.0
    (body_parts m.identifier (Set s.0) (sym (ap (fits_body m.identifier) s.1) ∙ (parts m e).fits-body)).1
    (sym (ap asks_minus_zero s.1) ∙ z) (ap data_part (sym s.1) ∙ rest ∙ ap (λ (b : Body). data_part (unsigned_body b)) s.1)
