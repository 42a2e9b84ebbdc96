-- The cards of a pair with their values: each with its part of them, and what is sound of every card is sound of all. Assumes nothing.
use mathlib.Core.Path.{◌≡◌, refl, sym, ap, ap₂, ◌∙◌}
use mathlib.Core.Bool.{Bool, true, false}
use mathlib.Core.List.{List, [], ◌∷◌, ◌++◌, map}
use Prim.Native.Nat.{ℕ, zero, suc, ◌*◌, ◌/◌, ◌%◌, ◌<◌}
use native.Mathlib.Omega.{arith}
use borrow.Author.Tests.{eq-eqb, ne_eqb}
use lib.IntN.{ℤ}
use lib.ListN.{length, get_or, drop, length-append, length-map, get_or-map}
use lib.Seq.{take_at, drop_at}
use Rattle.std.specs.Simd.{first_chunks}
use Rattle.std.specs.List.{list_all}
use Rattle.refusal.specs.Lists.{every}
use Rattle.refusal.proofs.Logic.{ands, and_both}
use Rattle.refusal.proofs.Lists.{every_at}
use Rattle.sheet.specs.Values.{sound_values}
use Rattle.sheet.proofs.Values.{good_values}
use Rattle.card.specs.declared.Card.{Card}
use Rattle.card.specs.Turn.{Instrument}
use Rattle.card.specs.Refusals.{sound_offer, sound_scan}
use Rattle.bus.specs.Bus.{parts, joined, instruments, cards_in, values_in}
use Rattle.bus.specs.Refusals.{fits_sheets, sound_parts}
use Rattle.bus.proofs.Parts.{part_at, lent-part, lent_next, parts_length, part-at, every_chunk}

-- ---- lists one behind the other

module _ {A : Type 0} where
  pub joined_none : joined {A = A} [] ≡ []
  unfolding joined
  joined_none = refl

  pub joined_first : (xs : List A) (xss : List (List A)) → joined (xs ∷ xss) ≡ xs ++ joined xss
  unfolding joined
  joined_first xs xss = refl

-- ---- each card with its values

pub instrument_cards : (cs : List Card) (values : List ℤ) → cards_in (instruments cs values) ≡ cs
unfolding instruments
instrument_cards [] values = refl
instrument_cards (c ∷ cs) values = ap (λ (l : List Card). c ∷ l) (instrument_cards cs (drop 128 values))

pub instrument_count : (cs : List Card) (values : List ℤ) → length (instruments cs values) ≡ length cs
instrument_count cs values = sym (length-map (instruments cs values) (λ (i : Instrument). i.card)) ∙ ap length (instrument_cards cs values)

pub instrument_at : (cs : List Card) (values : List ℤ) (k : ℕ) (c : Card) (d : Instrument) → k < length cs → get_or (instruments cs values) k d ≡ record { card = get_or cs k c; values = part_at 128 k values }
unfolding instruments
instrument_at [] values k c d h = absurd (omega arith)
instrument_at (x ∷ cs) values zero c d h = refl
instrument_at (x ∷ cs) values (suc k) c d h =
    let next : part_at 128 k (drop 128 values) ≡ part_at 128 (suc k) values = sym (lent-part 128 k (drop 128 values)) ∙ sym (lent_next 128 k values) ∙ lent-part 128 (suc k) values in
    instrument_at cs (drop 128 values) k c d (omega arith) ∙ ap (λ (l : List ℤ). record { card = get_or cs k c; values = l }) next

-- "128 values for each"
abbrev pub Whole : List Instrument → Type 0
Whole is = (k : ℕ) (d : Instrument) → k < length is → length (get_or is k d).values ≡ 128

-- but for the first
abbrev behind : (i : Instrument) (is : List Instrument) → Whole (i ∷ is) → Whole is
behind i is h = λ k d l. h (suc k) d (omega arith)

whole_count : (is : List Instrument) → Whole is → length (values_in is) ≡ length is * 128
unfolding joined
whole_count [] h = refl
whole_count (i ∷ is) h = omega (arith, length-append i.values (values_in is), h 0 i (omega arith), whole_count is (behind i is h))

whole_parts : (is : List Instrument) → Whole is → parts 128 (length is) (values_in is) ≡ map (λ (i : Instrument). i.values) is
unfolding joined parts
whole_parts [] h = refl
whole_parts (i ∷ is) h =
    let n = h 0 i (omega arith) in
    ap₂ ◌∷◌ (take_at i.values (values_in is) 128 n) (ap (parts 128 (length is)) (drop_at i.values (values_in is) 128 n) ∙ whole_parts is (behind i is h))

-- the k-th of them
pub values_at : (is : List Instrument) (k : ℕ) (d : Instrument) → Whole is → k < length is → part_at 128 k (values_in is) ≡ (get_or is k d).values
values_at is k d h l =
    sym (part-at 128 (length is) k (values_in is) d.values l)
    ∙ ap (λ (xs : List (List ℤ)). get_or xs k d.values) (whole_parts is h)
    ∙ get_or-map (λ (i : Instrument). i.values) is k d

-- a test of each, from every index
pub each_every : {A B : Type 0} (f : B → Bool) (g : A → B) (xs : List A) → ((k : ℕ) (d : A) → k < length xs → f (g (get_or xs k d)) ≡ true) → every f (map g xs) ≡ true
unfolding every
each_every f g [] h = refl
each_every f g (x ∷ xs) h = and_both (h 0 x (omega arith)) (each_every f g xs (λ k d l. h (suc k) d (omega arith)))

module _ (bench maker : List ℤ) where
  -- by the library's chunks
  pub same_parts : (n : ℕ) (values : List ℤ) → length values % 128 ≡ 0 → length values / 128 ≡ n → list_all (sound_values bench maker) (first_chunks 128 (length values / 128) values) ≡ sound_parts bench maker n values
  unfolding sound_parts
  same_parts n values e h =
      let m : length values ≡ n * 128 = omega arith in
      every_chunk (sound_values bench maker) 128 (length values / 128) values
      ∙ rw (eq-eqb (length values) (n * 128) m) (ap (λ (k : ℕ). every (sound_values bench maker) (parts 128 k values)) h)

  pub other_parts : (n : ℕ) (values : List ℤ) → (length values ≡ n * 128 → ⊥) → false ≡ sound_parts bench maker n values
  unfolding sound_parts
  other_parts n values h = sym (rw (ne_eqb (length values) (n * 128) h))

  pub parts_sound : (n : ℕ) (values : List ℤ) (k : ℕ) → sound_parts bench maker n values ≡ true → k < n → sound_values bench maker (part_at 128 k values) ≡ true
  unfolding sound_parts
  parts_sound n values k e l = rw (part-at 128 n k values [] l) at (every_at (sound_values bench maker) [] (parts 128 n values) k (search ands) (omega (arith, parts_length 128 n values)))

  pub sound-parts : (is : List Instrument) → ((k : ℕ) (d : Instrument) → k < length is → sound_values bench maker (get_or is k d).values ≡ true) → sound_parts bench maker (length is) (values_in is) ≡ true
  unfolding sound_parts
  sound-parts is h =
      let whole : Whole is = λ k d l. (good_values bench maker (get_or is k d).values (h k d l)).count in
      let each : every (sound_values bench maker) (parts 128 (length is) (values_in is)) ≡ true = rw (whole_parts is whole) (each_every (sound_values bench maker) (λ (i : Instrument). i.values) is h) in
      and_both (eq-eqb (length (values_in is)) (length is * 128) (whole_count is whole)) each

  pub fits_parted : (c : Card) → fits_sheets bench maker c ≡ true → (sound_offer bench maker c.offer ≡ true) × (sound_scan bench maker c.setup ≡ true)
  unfolding fits_sheets
  fits_parted c e = (search ands, search ands)

  pub parts_fit : (c : Card) → sound_offer bench maker c.offer ≡ true → sound_scan bench maker c.setup ≡ true → fits_sheets bench maker c ≡ true
  unfolding fits_sheets
  parts_fit c p q = and_both p q
