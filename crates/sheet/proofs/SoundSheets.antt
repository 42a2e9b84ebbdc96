-- What a sound row and a sound sheet give, and what the lookup finds. Whoever uses a sheet cites these, and never the definitions.
-- Assumes nothing.
use mathlib.Core.Path.{◌≡◌, refl, sym, ap, ap₂, ◌∙◌}
use mathlib.Core.Bool.{Bool, true, false, not, ◌&&◌, false≢true}
use mathlib.Core.List.{List, [], ◌∷◌}
use Prim.Native.Nat.{ℕ, zero, suc, ◌+◌, ◌≤◌}
use native.Mathlib.Omega.{arith}
use borrow.Author.Tests.{eqb-true, eq-eqb, ltb-true, ltb-false, lt-ltb, leb-true}
use lib.Dec.{T, leb, ltb, eqb}
use lib.IntN.{ℤ, pos, negsuc, nat_abs}
use lib.Signed.{le_z, lt_z, non_neg}
use lib.ListN.{length, take, drop, length-drop, drop_of_length-le}
use lib.Seq.{length-take-le, drop-length, take_all}
use mir.Syntax.{w32}
use mir.Val.{SFits}
use Rattle.refusal.proofs.Logic.{ands, and_both, not_is, choice, by-test}
use Rattle.number.specs.Number.{in_range, is_multiple}
use Rattle.number.specs.Data.{is_digit}
use Rattle.number.proofs.Signed.{rd, rd-is}
use Rattle.number.proofs.Cuts.{in_range_ends, le_z_trans}
use Rattle.message.specs.Message.{is_identifier, question}
use Rattle.sheet.specs.Sheet.{at, rows, sound_identifier, sound_numbers, sound_row, sound_rows, sound_sheet}
use Rattle.sheet.specs.Lookup.{code_is, is_for, row_among, row_in, place_in, has_row, row_of, shown, from, row_lies}
use Rattle.std.specs.Prelude.{None, Option, Some}
use Rattle.std.specs.Option.{unwrap_or}
use Rattle.sheet.specs.Inner.{start_in}
use Rattle.sheet.proofs.Rows.{rows_cut, stands}

-- two tests that pass together
pub same_test : (a b : Bool) → (a ≡ true → b ≡ true) → (b ≡ true → a ≡ true) → a ≡ b
same_test true b f g = sym (f refl)
same_test false true f g = g refl
same_test false false f g = refl

-- ---- a number in a range that starts at zero or above, as the code casts it

pub range_natural : (least x greatest : ℤ) → le_z (pos 0) least ≡ true → in_range least x greatest ≡ true → T (non_neg x) × (nat_abs x ≤ nat_abs greatest)
range_natural least x greatest p e = let ends = in_range_ends least x greatest e in natural x greatest (le_z_trans (pos 0) least x p ends.0) ends.1
  where
    natural : (x g : ℤ) → le_z (pos 0) x ≡ true → le_z x g ≡ true → T (non_neg x) × (nat_abs x ≤ nat_abs g)
    natural (pos n) (pos g) p q = (tt, leb-true n g q)
    natural (pos n) (negsuc g) p q = absurd (false≢true q)
    natural (negsuc n) g p q = absurd (false≢true p)

pub range-cast : (least x greatest : ℤ) → le_z (pos 0) least ≡ true → in_range least x greatest ≡ true → SFits w32 x → T (non_neg (rd x)) × (nat_abs (rd x) ≤ nat_abs greatest)
range-cast least x greatest p e f = rw (rd-is f) (range_natural least x greatest p e)

-- ---- a sound row, by its rules

pub record RowParts (r : List ℤ) : Type 0 where
  pub six : length r ≡ 6
  pub identifier : sound_identifier (at r 0) ≡ true
  pub access : in_range (pos 1) (at r 1) (pos 3) ≡ true
  pub decimals : in_range (pos 0) (at r 2) (pos 3) ≡ true
  pub step : in_range (pos 1) (at r 3) (pos 9999) ≡ true
  pub least : in_range (negsuc 9998) (at r 4) (pos 9999) ≡ true
  pub greatest : in_range (negsuc 9998) (at r 5) (pos 9999) ≡ true
  pub ordered : le_z (at r 4) (at r 5) ≡ true
  pub least_multiple : is_multiple (at r 4) (at r 3) ≡ true
  pub greatest_multiple : is_multiple (at r 5) (at r 3) ≡ true

pub row_parts : (r : List ℤ) → sound_row r ≡ true → RowParts r
unfolding sound_row sound_numbers
row_parts r e = record {
  six = eqb-true (length r) 6 (search ands depth 12);
  identifier = search ands depth 12;
  access = search ands depth 12;
  decimals = search ands depth 12;
  step = search ands depth 12;
  least = search ands depth 12;
  greatest = search ands depth 12;
  ordered = search ands depth 12;
  least_multiple = search ands depth 12;
  greatest_multiple = search ands depth 12;
}

pub parts_row : (r : List ℤ) → RowParts r → sound_row r ≡ true
unfolding sound_row sound_numbers
parts_row r p = simp (eq-eqb (length r) 6 p.six, p.identifier, p.access, p.decimals, p.step, p.least, p.greatest, p.ordered, p.least_multiple, p.greatest_multiple)

-- ---- identifiers

-- a code that a row may have: an identifier, and not `?`
pub sound_code : (i : ℕ) → sound_identifier (pos i) ≡ true → (is_identifier i ≡ true) × (eqb i question ≡ false)
unfolding sound_identifier
sound_code i e = (search ands, not_is {a = eqb i question} (search ands))

pub code_sound : (i : ℕ) → is_identifier i ≡ true → eqb i question ≡ false → sound_identifier (pos i) ≡ true
unfolding sound_identifier
code_sound i p q = simp (p, q)

-- the same written out, so that it computes where nothing of other crates is opened
abbrev pub code_test : ℤ → Bool
code_test (pos n) = (leb 33 n && leb n 126 && not (leb 48 n && leb n 57) && not (eqb n 42)) && not (eqb n question)
code_test (negsuc n) = false

pub code-test : (z : ℤ) → sound_identifier z ≡ code_test z
unfolding sound_identifier is_identifier is_digit
code-test (pos n) = refl
code-test (negsuc n) = refl

code-is : (z : ℤ) (i : ℕ) → code_is z i ≡ true → z ≡ pos i
unfolding code_is
code-is (pos n) i e = ap pos (eqb-true n i e)
code-is (negsuc n) i e = absurd (false≢true e)

-- ---- the row of an identifier in one sheet

-- six numbers, the first of them the identifier asked for
pub record RowFor (i : ℕ) (r : List ℤ) : Type 0 where
  pub six : length r ≡ 6
  pub its : at r 0 ≡ pos i

pub row_for : (r : List ℤ) (i : ℕ) → is_for r i ≡ true → RowFor i r
unfolding is_for
row_for r i e = record { six = eqb-true (length r) 6 (search ands); its = code-is (at r 0) i (search ands) }

-- what holds of no row and of each row for the identifier holds of what is found
among : (P : List ℤ → Type 0) (rs : List (List ℤ)) (i : ℕ) → P [] → ((r : List ℤ) → RowFor i r → P r) → P (row_among rs i)
unfolding row_among
among P [] i n f = n
among P (r ∷ rs) i n f = choice P (is_for r i) (λ t. f r (row_for r i t)) (λ t. among P rs i n f)

among_sound : (rs : List (List ℤ)) (last : ℤ) (i : ℕ) → sound_rows last rs ≡ true → (length (row_among rs i) ≡ 0 → ⊥) → sound_row (row_among rs i) ≡ true
unfolding sound_rows row_among
among_sound [] last i e h = absurd (h refl)
among_sound (r ∷ rs) last i e h =
    choice (λ (l : List ℤ). (length l ≡ 0 → ⊥) → sound_row l ≡ true) (is_for r i)
    (λ t k. search ands)
    (λ t k. among_sound rs (at r 0) i (search ands) k)
    h

module _ (s : List ℤ) (i : ℕ) where
  pub row_cases : (P : List ℤ → Type 0) → P [] → ((r : List ℤ) → RowFor i r → P r) → P (row_in s i)
  unfolding row_in
  row_cases P n f = among P (rows s) i n f

  row_six : has_row s i ≡ true → length (row_in s i) ≡ 6
  unfolding has_row
  row_six e =
      let t = stands s i in
      let h : place_in s i + 6 ≤ length s = t.whole (ltb-true (place_in s i) (length s) e) in
      ap length t.row ∙ length-take-le 6 (drop (place_in s i) s) (simp length-drop (omega arith))

  pub row_is : has_row s i ≡ true → RowFor i (row_in s i)
  row_is e =
      row_cases (λ (l : List ℤ). length l ≡ 6 → RowFor i l) (λ h. absurd (omega arith)) (λ r q h. q) (row_six e)

  pub row_none : has_row s i ≡ false → row_in s i ≡ []
  unfolding has_row
  row_none e =
      let t = stands s i in
      let h : place_in s i ≡ length s = omega (arith, t.within, ltb-false (place_in s i) (length s) e) in
      t.row ∙ ap (λ (n : ℕ). take 6 (drop n s)) h ∙ ap (take 6) (drop-length s)

  -- where the code finds it to start
  pub start_some : (k : ℕ) → start_in s i ≡ Some k → (has_row s i ≡ true) × (k ≡ place_in s i)
  unfolding start_in
  start_some k e =
      choice (λ (x : Option ℕ). x ≡ Some k → (has_row s i ≡ true) × (k ≡ place_in s i)) (has_row s i)
      (λ t q. (t, cc))
      (λ t q. absurd (let z : ◌≡◌ {A = ℕ} 0 1 = cc in omega arith))
      e

  pub start_none : start_in s i ≡ None → has_row s i ≡ false
  unfolding start_in
  start_none e = by-test (has_row s i) (λ t. absurd (let q : Some (place_in s i) ≡ None = rw t at e in let z : ◌≡◌ {A = ℕ} 0 1 = cc in omega arith)) (λ t. t)

  -- or else the end of the sheet
  pub start_or : unwrap_or (start_in s i) (length s) ≡ place_in s i
  unfolding start_in has_row
  start_or =
      let t = stands s i in
      by-test (ltb (place_in s i) (length s))
      (λ h. rw h refl)
      (λ h. rw h (omega (arith, t.within, ltb-false (place_in s i) (length s) h)))

  pub row_has : length (row_in s i) ≡ 6 → has_row s i ≡ true
  row_has h = by-test (has_row s i) (λ t. t) (λ t. absurd (let z : 0 ≡ 6 = sym (ap length (row_none t)) ∙ h in omega arith))

  pub none_row : row_in s i ≡ [] → has_row s i ≡ false
  none_row e = by-test (has_row s i) (λ t. absurd (let z : 6 ≡ 0 = sym (row_six t) ∙ ap length e in omega arith)) (λ t. t)

  -- in a sound sheet it is a sound row, and its identifier an identifier and not `?`
  module _ (q : sound_sheet s ≡ true) where
    pub row_sound : has_row s i ≡ true → sound_row (row_in s i) ≡ true
    unfolding sound_sheet row_in
    row_sound e =
        among_sound (rows s) (pos 0) i (search ands)
        (λ (z : length (row_among (rows s) i) ≡ 0). let k : length (row_among (rows s) i) ≡ 6 = row_six e in omega arith)

    pub row_identifier : has_row s i ≡ true → (is_identifier i ≡ true) × (eqb i question ≡ false)
    row_identifier e =
        sound_code i (rw (row_is e).its at (row_parts (row_in s i) (row_sound e)).identifier)

    -- no row for a code that is no identifier, or `?`
    pub no_row : sound_identifier (pos i) ≡ false → row_in s i ≡ []
    no_row e =
        by-test (has_row s i)
        (λ t. absurd (false≢true (sym e ∙ code_sound i (row_identifier t).0 (row_identifier t).1)))
        row_none

-- ---- in two sheets

module _ (bench maker : List ℤ) (i : ℕ) where
  -- which row wins
  pub bench_wins : has_row bench i ≡ true → row_of bench maker i ≡ row_in bench i
  unfolding row_of
  bench_wins e = rw e

  pub maker_else : has_row bench i ≡ false → row_of bench maker i ≡ row_in maker i
  unfolding row_of
  maker_else e = rw e

  -- and where it lies, with pointers b and m to the sheets
  pub bench_lies : (b m : ℕ × ℕ) → has_row bench i ≡ true → row_lies b m bench maker i ≡ from b (place_in bench i)
  unfolding row_lies
  bench_lies b m e = rw e

  pub maker_lies : (b m : ℕ × ℕ) → has_row bench i ≡ false → row_lies b m bench maker i ≡ from m (place_in maker i)
  unfolding row_lies
  maker_lies b m e = rw e

  pub row_of_cases : (P : List ℤ → Type 0) → P [] → ((r : List ℤ) → RowFor i r → P r) → P (row_of bench maker i)
  unfolding row_of
  row_of_cases P n f = choice P (has_row bench i) (λ t. row_cases bench i P n f) (λ t. row_cases maker i P n f)

  -- a row of two sound sheets is a sound row
  pub row_of_sound : sound_sheet bench ≡ true → sound_sheet maker ≡ true → length (row_of bench maker i) ≡ 6 → sound_row (row_of bench maker i) ≡ true
  unfolding row_of
  row_of_sound p q h =
      choice (λ (l : List ℤ). length l ≡ 6 → sound_row l ≡ true) (has_row bench i)
      (λ t k. row_sound bench i p t)
      (λ t k. row_sound maker i q (row_has maker i k))
      h

  -- what the lookup shows
  pub shown_sound : sound_sheet bench ≡ true → sound_sheet maker ≡ true → shown bench maker i ≡ row_of bench maker i
  unfolding shown
  shown_sound p q = simp (p, q)

  pub shown_unsound : (sound_sheet bench && sound_sheet maker) ≡ false → shown bench maker i ≡ []
  unfolding shown
  shown_unsound e = rw e

-- ---- a sheet of one row

-- a sound identifier is above 0
above : (z : ℤ) → sound_identifier z ≡ true → lt_z (pos 0) z ≡ true
above (pos zero) e = absurd (false≢true (sym (code-test (pos 0)) ∙ e))
above (pos (suc n)) e = lt-ltb 0 (suc n) (omega arith)
above (negsuc n) e = absurd (false≢true (sym (code-test (negsuc n)) ∙ e))

alone : (r : List ℤ) → length r ≡ 6 → rows r ≡ r ∷ []
unfolding rows
alone r h =
    rows_cut r 0 (omega arith)
    ∙ ap₂ (λ (x y : List ℤ). x ∷ rows y) (take_all 6 r (omega arith)) (let k : length r ≤ 6 = omega arith in drop_of_length-le r k)

pub alone_sound : (r : List ℤ) → sound_row r ≡ true → sound_sheet r ≡ true
unfolding sound_sheet sound_rows
alone_sound r e =
    let p = row_parts r e in
    rw (alone r p.six) (and_both refl (and_both (and_both e (above (at r 0) p.identifier)) refl))

pub alone_row : (r : List ℤ) (i : ℕ) → RowFor i r → row_in r i ≡ r
unfolding row_in row_among is_for code_is
alone_row r i q = rw (alone r q.six) (rw q.its (rw (eq-eqb (length r) 6 q.six, eq-eqb i i refl)))
