-- The refusals of a run over rows: each number by the tests that lead to it, and what holds where all are passed. Assumes nothing.
use mathlib.Core.Path.{◌≡◌, refl, sym, ap, ap₂, ◌∙◌}
use mathlib.Core.Bool.{Bool, true, false, ◌&&◌, and_assoc}
use mathlib.Core.List.{List, [], ◌∷◌, map}
use Prim.Native.Nat.{ℕ, ◌-◌, ◌*◌, ◌/◌, ◌%◌, ◌<◌, ◌≤◌}
use native.Mathlib.Omega.{arith}
use borrow.Author.Tests.{eqb-true, leb-true, le-leb, lt-leb}
use lib.Dec.{leb, eqb}
use lib.IntN.{ℤ}
use lib.ListN.{length, get_or, take, drop, length-map}
use Rattle.refusal.specs.Lists.{every}
use Rattle.refusal.specs.Refusal.{Outcome, refused, gave}
use Rattle.refusal.specs.Check.{first}
use Rattle.refusal.proofs.Logic.{ands, and_both, by-test}
use Rattle.refusal.proofs.Lists.{every_at}
use Rattle.refusal.proofs.Checks.{refused_gave}
use Rattle.wire.specs.Word.{valid_words}
use Rattle.hearing.specs.declared.Pending.{Pending}
use Rattle.sheet.specs.Sheet.{sound_sheet}
use Rattle.row.specs.Row.{is_row, card_of}
use Rattle.card.specs.declared.Card.{Card}
use Rattle.card.specs.Refusals.{sound_setup, sound_card}
use Rattle.card.proofs.Sounds.{card_parts}
use Rattle.bus.specs.Bus.{parts}
use Rattle.bus.specs.Refusals.{apart, same_open, together, sound_bus, fits_sheets, sound_parts, bus_checks}
use Rattle.bus.specs.Rows.{rows_in, cards_of, is_rows, rows_checks}
use Rattle.bus.specs.Inner.{setup_in, pending_in, sound_card_row, card_row_fits}
use Rattle.bus.proofs.Parts.{parts_length, parts_some, every_made}
use Rattle.bus.proofs.Sharing.{same-open, open_same, bus_apart, no_cards}

-- ---- rows and cards

pub rows_count : (numbers : List ℤ) → length (rows_in numbers) ≡ length numbers / 23
rows_count numbers = parts_length 23 (length numbers / 23) numbers

pub cards_number : (numbers : List ℤ) → length (cards_of numbers) ≡ length numbers / 23
cards_number numbers = length-map (rows_in numbers) card_of ∙ rows_count numbers

-- of the cards of rows
pub made_twice : {A : Type 0} (g : Card → A) (rows : List (List ℤ)) → map g (map card_of rows) ≡ map (λ (r : List ℤ). g (card_of r)) rows
made_twice g [] = refl
made_twice g (r ∷ rows) = ap (λ (l : List _). g (card_of r) ∷ l) (made_twice g rows)

every_sound : (rows : List (List ℤ)) → every sound_card_row rows ≡ (every is_row rows && every sound_card (map card_of rows))
unfolding every sound_card_row
every_sound [] = refl
every_sound (r ∷ rows) =
    ap (λ (b : Bool). (is_row r && sound_card (card_of r)) && b) (every_sound rows) ∙ turn (is_row r) (sound_card (card_of r)) (every is_row rows) (every sound_card (map card_of rows))
  where
    turn : (a b c d : Bool) → ((a && b) && (c && d)) ≡ ((a && c) && (b && d))
    turn true true c d = refl
    turn true false true d = refl
    turn true false false d = refl
    turn false b c d = refl

-- the code's first test is number 1's in its first place
pub rows_sound : (numbers : List ℤ) → (eqb (length numbers % 23) 0 && every sound_card_row (rows_in numbers)) ≡ (is_rows numbers && every sound_card (cards_of numbers))
unfolding is_rows
rows_sound numbers =
    ap (λ (b : Bool). eqb (length numbers % 23) 0 && b) (every_sound (rows_in numbers)) ∙ sym (and_assoc (eqb (length numbers % 23) 0) (every is_row (rows_in numbers)) (every sound_card (cards_of numbers)))

pub all_fit : (bench maker numbers : List ℤ) → every (card_row_fits bench maker) (rows_in numbers) ≡ every (fits_sheets bench maker) (cards_of numbers)
unfolding card_row_fits
all_fit bench maker numbers = sym (every_made (fits_sheets bench maker) card_of (rows_in numbers))

-- ---- number 8

pub no_rows : (numbers : List ℤ) → length numbers / 23 ≡ 0 → sound_bus (cards_of numbers) ≡ true
unfolding parts
no_rows numbers e = ap (λ (n : ℕ). sound_bus (map card_of (parts 23 n numbers))) e ∙ no_cards

pub too_many : (numbers : List ℤ) → 32 < length numbers / 23 → sound_bus (cards_of numbers) ≡ false
unfolding sound_bus
too_many numbers h = rw (lt-leb (length (cards_of numbers)) 32 (omega (arith, cards_number numbers))) refl

-- so where it doesn't hold there are few
pub few : (numbers : List ℤ) → sound_bus (cards_of numbers) ≡ true → length numbers / 23 ≤ 32
unfolding sound_bus
few numbers e = let h : leb (length (cards_of numbers)) 32 ≡ true = search ands in omega (arith, leb-true (length (cards_of numbers)) 32 h, cards_number numbers)

-- the first card's open message held against all, its own too
all_together : (p : Pending) (ps : List Pending) → every (same_open p) (p ∷ ps) ≡ together (p ∷ ps)
unfolding every together
all_together p ps = ap (λ (b : Bool). b && every (same_open p) ps) (open_same p)

by_first : (r : List ℤ) (rows : List (List ℤ)) → length (r ∷ rows) ≤ 32
    → (apart (map setup_in (r ∷ rows)) && every (λ (x : List ℤ). same_open (pending_in r) (pending_in x)) (r ∷ rows)) ≡ sound_bus (map card_of (r ∷ rows))
unfolding sound_bus
by_first r rows h =
    let all = r ∷ rows in
    rw (le-leb (length (map card_of all)) 32 (omega (arith, length-map all card_of)))
    (ap₂ ◌&&◌ (sym (ap apart (made_twice (λ (c : Card). c.setup) all)))
    (sym (every_made (same_open (pending_in r)) pending_in all) ∙ all_together (pending_in r) (map pending_in rows) ∙ sym (ap together (made_twice (λ (c : Card). c.pending) all))))

pub by_rows : (numbers : List ℤ) → 1 ≤ length numbers / 23 → length numbers / 23 ≤ 32
    → (apart (map setup_in (rows_in numbers)) && every (λ (x : List ℤ). same_open (pending_in (take 23 numbers)) (pending_in x)) (rows_in numbers)) ≡ sound_bus (cards_of numbers)
by_rows numbers h k =
    let rest = parts 23 (length numbers / 23 - 1) (drop 23 numbers) in
    let e = parts_some 23 (length numbers / 23) numbers h in
    let n : length (take 23 numbers ∷ rest) ≤ 32 = omega (arith, parts_length 23 (length numbers / 23 - 1) (drop 23 numbers)) in
    ap (λ (rows : List (List ℤ)). apart (map setup_in rows) && every (λ (x : List ℤ). same_open (pending_in (take 23 numbers)) (pending_in x)) rows) e
    ∙ by_first (take 23 numbers) rest n ∙ sym (ap (λ (rows : List (List ℤ)). sound_bus (map card_of rows)) e)

-- so every card holds the first one's open message
pub rows_hold : (numbers : List ℤ) → 1 ≤ length numbers / 23 → sound_bus (cards_of numbers) ≡ true → (k : ℕ) → k < length (rows_in numbers) → pending_in (get_or (rows_in numbers) k []) ≡ pending_in (take 23 numbers)
rows_hold numbers h e k l =
    let p = pending_in (take 23 numbers) in
    let t = by_rows numbers h (few numbers e) ∙ e in
    sym (same-open p (pending_in (get_or (rows_in numbers) k [])) (every_at (λ (x : List ℤ). same_open p (pending_in x)) [] (rows_in numbers) k (search ands) l))

-- the setups of sound cards that share a pair
pub setups_apart : (numbers : List ℤ) → sound_bus (cards_of numbers) ≡ true → apart (map setup_in (rows_in numbers)) ≡ true
setups_apart numbers e = sym (ap apart (made_twice (λ (c : Card). c.setup) (rows_in numbers))) ∙ bus_apart (cards_of numbers) e

each_setup : (cs : List Card) → every sound_card cs ≡ true → every sound_setup (map (λ (c : Card). c.setup) cs) ≡ true
unfolding every
each_setup [] e = refl
each_setup (c ∷ cs) e = and_both (card_parts c (search ands)).is_set (each_setup cs (search ands))

pub setups_sound : (numbers : List ℤ) → (is_rows numbers && every sound_card (cards_of numbers)) ≡ true → every sound_setup (map setup_in (rows_in numbers)) ≡ true
setups_sound numbers e = sym (ap (every sound_setup) (made_twice (λ (c : Card). c.setup) (rows_in numbers))) ∙ each_setup (cards_of numbers) (search ands)

pub values_count : (bench maker values : List ℤ) (n : ℕ) → sound_parts bench maker n values ≡ true → length values ≡ n * 128
unfolding sound_parts
values_count bench maker values n e = eqb-true (length values) (n * 128) (search ands)

-- ---- the tests in their order

module _ (numbers bench maker values : List ℤ) (ws : List ℕ) where
  abbrev cards : List Card
  cards = cards_of numbers

  abbrev pub checked : Outcome (Unit {0})
  checked = first (rows_checks numbers bench maker values ws)

  -- what has passed
  pub record Passes : Type 0 where
    pub rows : (is_rows numbers && every sound_card cards) ≡ true
    pub bus : sound_bus cards ≡ true
    pub sheets : (sound_sheet bench && sound_sheet maker) ≡ true
    pub fit : every (fits_sheets bench maker) cards ≡ true
    pub values_sound : sound_parts bench maker (length numbers / 23) values ≡ true
    pub words : valid_words ws ≡ true

  pub rows_unsound : (is_rows numbers && every sound_card cards) ≡ false → checked ≡ refused 1
  unfolding rows_checks bus_checks first
  rows_unsound e = by-test (is_rows numbers) (λ t. let u : every sound_card cards ≡ false = rw t at e in rw (t, u) refl) (λ t. rw t refl)

  module _ (p : (is_rows numbers && every sound_card cards) ≡ true) where
    whole : is_rows numbers ≡ true
    whole = search ands

    each : every sound_card cards ≡ true
    each = search ands

    pub bus_unsound : sound_bus cards ≡ false → checked ≡ refused 8
    unfolding rows_checks bus_checks first
    bus_unsound e = rw (whole, each, e) refl

    module _ (q : sound_bus cards ≡ true) where
      pub sheets_unsound : (sound_sheet bench && sound_sheet maker) ≡ false → checked ≡ refused 2
      unfolding rows_checks bus_checks first
      sheets_unsound e = rw (whole, each, q, e) refl

      module _ (r : (sound_sheet bench && sound_sheet maker) ≡ true) where
        pub card_unfit : every (fits_sheets bench maker) cards ≡ false → checked ≡ refused 1
        unfolding rows_checks bus_checks first
        card_unfit e = rw (whole, each, q, r, e) refl

        module _ (f : every (fits_sheets bench maker) cards ≡ true) where
          pub values_unsound : sound_parts bench maker (length numbers / 23) values ≡ false → checked ≡ refused 3
          unfolding rows_checks bus_checks first
          values_unsound e = rw (whole, each, q, r, f, cards_number numbers, e) refl

          module _ (v : sound_parts bench maker (length numbers / 23) values ≡ true) where
            pub word_above : valid_words ws ≡ false → checked ≡ refused 4
            unfolding rows_checks bus_checks first
            word_above e = rw (whole, each, q, r, f, cards_number numbers, v, e) refl

            pub all_pass : valid_words ws ≡ true → checked ≡ gave tt
            unfolding rows_checks bus_checks first
            all_pass e = rw (whole, each, q, r, f, cards_number numbers, v, e) refl

  pub passed_sound : checked ≡ gave tt → Passes
  passed_sound e =
      by-test (is_rows numbers && every sound_card cards)
      (λ p.
      by-test (sound_bus cards)
      (λ q.
      by-test (sound_sheet bench && sound_sheet maker)
      (λ r.
      by-test (every (fits_sheets bench maker) cards)
      (λ f.
      by-test (sound_parts bench maker (length numbers / 23) values)
      (λ v.
      by-test (valid_words ws)
      (λ w. record { rows = p; bus = q; sheets = r; fit = f; values_sound = v; words = w })
      (λ w. absurd (refused_gave (sym (word_above p q r f v w) ∙ e))))
      (λ v. absurd (refused_gave (sym (values_unsound p q r f v) ∙ e))))
      (λ f. absurd (refused_gave (sym (card_unfit p q r f) ∙ e))))
      (λ r. absurd (refused_gave (sym (sheets_unsound p q r) ∙ e))))
      (λ q. absurd (refused_gave (sym (bus_unsound p q) ∙ e))))
      (λ p. absurd (refused_gave (sym (rows_unsound p) ∙ e)))

-- ---- the tests as the code has them

module _ (numbers bench maker values : List ℤ) (ws : List ℕ) where
  abbrev tested : Bool
  tested = eqb (length numbers % 23) 0 && every sound_card_row (rows_in numbers)

  abbrev judged : Bool
  judged = every (card_row_fits bench maker) (rows_in numbers)

  abbrev parted : Bool
  parted = sound_parts bench maker (length (rows_in numbers)) values

  abbrev answer : Outcome (Unit {0})
  answer = first (rows_checks numbers bench maker values ws)

  pub rows_fail : tested ≡ false → refused 1 ≡ answer
  rows_fail e = sym (rows_unsound numbers bench maker values ws (sym (rows_sound numbers) ∙ e))

  module _ (p : tested ≡ true) where
    rows_pass : (is_rows numbers && every sound_card (cards_of numbers)) ≡ true
    rows_pass = sym (rows_sound numbers) ∙ p

    pub bus_fails : sound_bus (cards_of numbers) ≡ false → refused 8 ≡ answer
    bus_fails e = sym (bus_unsound numbers bench maker values ws rows_pass e)

    module _ (q : sound_bus (cards_of numbers) ≡ true) where
      pub sheets_fail : (sound_sheet bench && sound_sheet maker) ≡ false → refused 2 ≡ answer
      sheets_fail e = sym (sheets_unsound numbers bench maker values ws rows_pass q e)

      module _ (r : (sound_sheet bench && sound_sheet maker) ≡ true) where
        pub card_fails : judged ≡ false → refused 1 ≡ answer
        card_fails e = sym (card_unfit numbers bench maker values ws rows_pass q r (sym (all_fit bench maker numbers) ∙ e))

        module _ (f : judged ≡ true) where
          fit : every (fits_sheets bench maker) (cards_of numbers) ≡ true
          fit = sym (all_fit bench maker numbers) ∙ f

          pub values_fail : parted ≡ false → refused 3 ≡ answer
          values_fail e = sym (values_unsound numbers bench maker values ws rows_pass q r fit (ap (λ (n : ℕ). sound_parts bench maker n values) (sym (rows_count numbers)) ∙ e))

          module _ (v : parted ≡ true) where
            whole_parts : sound_parts bench maker (length numbers / 23) values ≡ true
            whole_parts = ap (λ (n : ℕ). sound_parts bench maker n values) (sym (rows_count numbers)) ∙ v

            pub word_fails : valid_words ws ≡ false → refused 4 ≡ answer
            word_fails e = sym (word_above numbers bench maker values ws rows_pass q r fit whole_parts e)

            pub none_fails : valid_words ws ≡ true → gave tt ≡ answer
            none_fails e = sym (all_pass numbers bench maker values ws rows_pass q r fit whole_parts e)

-- the rows of a pair as the code judges them
module _ (numbers : List ℤ) (rows : List (List ℤ)) (is : rows ≡ rows_in numbers) where
  number : length rows ≡ length numbers / 23
  number = ap length is ∙ rows_count numbers

  pub none_shares : length rows ≡ 0 → sound_bus (cards_of numbers) ≡ true
  none_shares e = no_rows numbers (sym number ∙ e)

  pub many_fail : 32 < length rows → sound_bus (cards_of numbers) ≡ false
  many_fail h = too_many numbers (omega (arith, number))

  pub first_row : 1 ≤ length rows → (d : List ℤ) → get_or rows 0 d ≡ take 23 numbers
  first_row h d =
      let e = parts_some 23 (length numbers / 23) numbers (omega (arith, number)) in
      ap (λ (l : List (List ℤ)). get_or l 0 d) (is ∙ e)

  pub rows_share : 1 ≤ length rows → length rows ≤ 32 → (p : Pending) → p ≡ pending_in (take 23 numbers)
      → (apart (map setup_in rows) && every (λ (row : List ℤ). same_open p (pending_in row)) rows) ≡ sound_bus (cards_of numbers)
  rows_share h k p e =
      ap₂ (λ (l : List (List ℤ)) (q : Pending). apart (map setup_in l) && every (λ (row : List ℤ). same_open q (pending_in row)) l) is e
      ∙ by_rows numbers (omega (arith, number)) (omega (arith, number))

  pub apart_hold : 1 ≤ length rows → length rows ≤ 32 → (p : Pending) → p ≡ pending_in (take 23 numbers) → apart (map setup_in rows) ≡ true
      → every (λ (row : List ℤ). same_open p (pending_in row)) rows ≡ sound_bus (cards_of numbers)
  apart_hold h k p e t = rw t at (rows_share h k p e)

  pub alike_fail : 1 ≤ length rows → length rows ≤ 32 → apart (map setup_in rows) ≡ false → false ≡ sound_bus (cards_of numbers)
  alike_fail h k t = rw t at (rows_share h k (pending_in (take 23 numbers)) refl)
