-- What a row allows and what sound values are, place by place; storing a value that a row allows keeps them sound.
-- Whoever uses rows and values cites these, and never the definitions. Assumes nothing.
use mathlib.Core.Path.{◌≡◌, refl, sym, ap, ◌∙◌, subst}
use mathlib.Core.Bool.{Bool, true, false, false≢true}
use mathlib.Core.List.{List, [], ◌∷◌}
use Prim.Native.Nat.{ℕ, zero, suc, ◌+◌, ◌≤◌, ◌<◌}
use native.Mathlib.Nat.{add-zero, add-suc, zero-add, suc-add, not-suc-le-zero, le_of_suc-le-suc}
use native.Mathlib.Omega.{arith}
use borrow.Author.Tests.{eqb-true, eqb-false, eq-eqb}
use lib.Dec.{eqb}
use lib.IntN.{ℤ, pos, negsuc, nat_abs, ◌+ℤ◌, ◌-ℤ◌}
use lib.Signed.{le_z}
use lib.ListN.{length, set, length-set}
use lib.Seq.{get_or-set_same, get_or-set_other}
use Rattle.refusal.proofs.Logic.{and_left, and_right, ands, and_both, by-test, choice}
use Rattle.number.specs.Number.{in_range, is_multiple, cut}
use Rattle.number.proofs.Signed.{step_pos}
use Rattle.number.proofs.Cuts.{in_range_ends, in-range-within, cut_is, cut_multiple, cut_range, up_multiple, down_multiple}
use Rattle.message.specs.Message.{is_identifier, question}
use Rattle.message.proofs.Messages.{plain_identifier}
use Rattle.sheet.specs.Sheet.{at, sound_identifier, sound_row, sound_sheet}
use Rattle.sheet.specs.Lookup.{row_in, has_row, row_of}
use Rattle.sheet.specs.Values.{numbers_of, entry_of, entry_in, is_readable, is_writable, is_read_write, fits_row, fits_place, sound_from, sound_values}
use Rattle.sheet.specs.declared.Row.{Row}
use Rattle.sheet.proofs.SoundSheets.{row_parts, row_has, row_none, bench_wins, maker_else, row_of_cases, row_of_sound, sound_code, alone_row}
use Rattle.std.specs.Prelude.{None, Option, Some}

-- ---- a row by value

pub record SoundRow (r : Row) : Type 0 where
  pub access_least : 1 ≤ r.access
  pub access_most : r.access ≤ 3
  pub decimals_most : r.decimals ≤ 3
  pub step_least : le_z (pos 1) r.step ≡ true
  pub step_most : nat_abs r.step ≤ 9999
  pub least_small : nat_abs r.least ≤ 9999
  pub greatest_small : nat_abs r.greatest ≤ 9999
  pub ordered : le_z r.least r.greatest ≡ true
  pub least_multiple : is_multiple r.least r.step ≡ true
  pub greatest_multiple : is_multiple r.greatest r.step ≡ true

pub numbers_sound : (r : List ℤ) → sound_row r ≡ true → SoundRow (numbers_of r)
unfolding numbers_of
numbers_sound r e =
    let p = row_parts r e in
    record {
      access_least = step_pos (at r 1) (in_range_ends (pos 1) (at r 1) (pos 3) p.access).0;
      access_most = in-range-within (pos 1) (at r 1) (pos 3) p.access (omega arith) (omega arith);
      decimals_most = in-range-within (pos 0) (at r 2) (pos 3) p.decimals (omega arith) (omega arith);
      step_least = (in_range_ends (pos 1) (at r 3) (pos 9999) p.step).0;
      step_most = in-range-within (pos 1) (at r 3) (pos 9999) p.step (omega arith) (omega arith);
      least_small = in-range-within (negsuc 9998) (at r 4) (pos 9999) p.least (omega arith) (omega arith);
      greatest_small = in-range-within (negsuc 9998) (at r 5) (pos 9999) p.greatest (omega arith) (omega arith);
      ordered = p.ordered;
      least_multiple = p.least_multiple;
      greatest_multiple = p.greatest_multiple;
    }

-- an entry found is a sound row, and its six numbers are those of the row
found : (l : List ℤ) (r : Row) → entry_of l ≡ Some r → (sound_row l ≡ true) × (numbers_of l ≡ r)
unfolding entry_of
found l r e =
    choice (λ (x : Option Row). x ≡ Some r → (sound_row l ≡ true) × (numbers_of l ≡ r)) (sound_row l)
    (λ t q. (t, cc))
    (λ t q. absurd (let z : ◌≡◌ {A = ℕ} 0 1 = cc in omega arith))
    e

module _ (bench maker : List ℤ) (i : ℕ) where
  module _ (r : Row) (e : entry_in bench maker i ≡ Some r) where
    pub entry_numbers : (sound_row (row_of bench maker i) ≡ true) × (numbers_of (row_of bench maker i) ≡ r)
    unfolding entry_in
    entry_numbers = found (row_of bench maker i) r e

    pub entry_sound : SoundRow r
    entry_sound = subst SoundRow entry_numbers.1 (numbers_sound (row_of bench maker i) entry_numbers.0)

    entry_code : sound_identifier (pos i) ≡ true
    entry_code =
        row_of_cases bench maker i (λ (l : List ℤ). sound_row l ≡ true → sound_identifier (pos i) ≡ true)
        (λ h. absurd (let z : 0 ≡ 6 = (row_parts [] h).six in omega arith))
        (λ l q h. rw q.its at (row_parts l h).identifier)
        entry_numbers.0

    -- its identifier is an identifier, and not `?`
    pub entry_identifier : (is_identifier i ≡ true) × (eqb i question ≡ false)
    entry_identifier = sound_code i entry_code

    pub entry_below : i < 128
    entry_below = (plain_identifier i entry_identifier.0).small

  -- in two sound sheets an entry is found exactly where there is a row
  pub entry_row : sound_sheet bench ≡ true → sound_sheet maker ≡ true → length (row_of bench maker i) ≡ 6
      → entry_in bench maker i ≡ Some (numbers_of (row_of bench maker i))
  unfolding entry_in entry_of
  entry_row p q h = rw (row_of_sound bench maker i p q h)

  pub entry_none : row_of bench maker i ≡ [] → entry_in bench maker i ≡ None
  unfolding entry_in entry_of sound_row
  entry_none e = ap entry_of e

  -- nor where neither sheet has a row
  pub entry_absent : has_row bench i ≡ false → has_row maker i ≡ false → entry_in bench maker i ≡ None
  entry_absent p q = entry_none (maker_else bench maker i p ∙ row_none maker i q)

  -- no entry for a code that is no identifier, or `?`
  pub entry_missing : sound_identifier (pos i) ≡ false → entry_in bench maker i ≡ None
  entry_missing h = go (entry_in bench maker i) refl
    where
      go : (x : Option Row) → entry_in bench maker i ≡ x → x ≡ None
      go (Some r) e = absurd (false≢true (sym h ∙ entry_code r e))
      go None e = refl

-- a sheet of one sound row shows it, whatever the other sheet has
pub alone_entry : (r maker : List ℤ) (i : ℕ) → sound_row r ≡ true → at r 0 ≡ pos i → entry_in r maker i ≡ Some (numbers_of r)
unfolding entry_in entry_of
alone_entry r maker i e q =
    let p = row_parts r e in
    let here : row_in r i ≡ r = alone_row r i (record { six = p.six; its = q }) in
    rw (bench_wins r maker i (row_has r i (ap length here ∙ p.six)), here, e)

-- ---- access

pub read_write_is : (r : Row) → r.access ≡ 2 → is_read_write r ≡ true
unfolding is_read_write
read_write_is r e = eq-eqb r.access 2 e

pub read_only_readable : (r : Row) → r.access ≡ 1 → is_readable r ≡ true
unfolding is_readable
read_only_readable r e = rw e

pub read_only_not_read_write : (r : Row) → r.access ≡ 1 → is_read_write r ≡ false
unfolding is_read_write
read_only_not_read_write r e = rw e

pub read_write_readable : (r : Row) → is_read_write r ≡ true → is_readable r ≡ true
unfolding is_read_write is_readable
read_write_readable r e = rw (eqb-true r.access 2 e)

pub read_write_writable : (r : Row) → is_read_write r ≡ true → is_writable r ≡ true
unfolding is_read_write is_writable
read_write_writable r e = rw (eqb-true r.access 2 e)

-- ---- what a row allows

pub fits_parts : (r : Row) (v : ℤ) → fits_row r v ≡ true → (in_range r.least v r.greatest ≡ true) × (is_multiple v r.step ≡ true)
unfolding fits_row
fits_parts r v e = (search ands, search ands)

pub parts_fit : (r : Row) (v : ℤ) → in_range r.least v r.greatest ≡ true → is_multiple v r.step ≡ true → fits_row r v ≡ true
unfolding fits_row
parts_fit r v p q = and_both p q

module _ (r : Row) (s : SoundRow r) (v : ℤ) where
  pub range_small : in_range r.least v r.greatest ≡ true → nat_abs v ≤ 9999
  range_small e = in-range-within r.least v r.greatest e s.least_small s.greatest_small

  -- a number in range, cut down, is allowed
  pub cut_fits : in_range r.least v r.greatest ≡ true → fits_row r (cut v r.step) ≡ true
  cut_fits e =
      rw (cut_is r.step s.step_least v (range_small e) s.step_most)
      (parts_fit r _ (cut_range r.step s.step_least r.least v r.greatest s.least_multiple e) (cut_multiple r.step s.step_least v))

  pub value-small : fits_row r v ≡ true → nat_abs v ≤ 9999
  value-small e = range_small (fits_parts r v e).0

-- one step up or down from an allowed value, where that is in range, is allowed
pub up_fits : (r : Row) (v : ℤ) → fits_row r v ≡ true → in_range r.least (v +ℤ r.step) r.greatest ≡ true → fits_row r (v +ℤ r.step) ≡ true
up_fits r v e h = parts_fit r (v +ℤ r.step) h (up_multiple v r.step (fits_parts r v e).1)

pub down_fits : (r : Row) (v : ℤ) → fits_row r v ≡ true → in_range r.least (v -ℤ r.step) r.greatest ≡ true → fits_row r (v -ℤ r.step) ≡ true
down_fits r v e h = parts_fit r (v -ℤ r.step) h (down_multiple v r.step (fits_parts r v e).1)

-- ---- sound values, place by place

at_place : (b m : List ℤ) (i : ℕ) (vs : List ℤ) → sound_from b m i vs ≡ true → (k : ℕ) → k < length vs → fits_place (row_of b m (i + k)) (at vs k) ≡ true
unfolding sound_from
at_place b m i [] h k l = absurd (not-suc-le-zero l)
at_place b m i (v ∷ vs) h zero l = rw (add-zero i) (and_left _ _ h)
at_place b m i (v ∷ vs) h (suc k) l =
    rw (add-suc i k, ← suc-add i k) (at_place b m (suc i) vs (and_right (fits_place (row_of b m i) v) (sound_from b m (suc i) vs) h) k (le_of_suc-le-suc l))

all_places : (b m : List ℤ) (i : ℕ) (vs : List ℤ) → ((k : ℕ) → k < length vs → fits_place (row_of b m (i + k)) (at vs k) ≡ true) → sound_from b m i vs ≡ true
unfolding sound_from
all_places b m i [] f = refl
all_places b m i (v ∷ vs) f =
    and_both (rw (add-zero i) at (f 0 (omega arith)))
    (all_places b m (suc i) vs (λ k l. rw (add-suc i k, ← suc-add i k) at (f (suc k) (omega arith))))

-- six numbers that are a sound row allow what their entry allows; no numbers allow anything
fits_found : (l : List ℤ) (r : Row) (v : ℤ) → entry_of l ≡ Some r → fits_place l v ≡ fits_row r v
unfolding fits_place
fits_found l r v e =
    let f = found l r e in
    rw (eq-eqb (length l) 6 (row_parts l f.0).six) (ap (λ (x : Row). fits_row x v) f.1)

module _ (bench maker : List ℤ) where
  pub places : (vs : List ℤ) → sound_values bench maker vs ≡ true → (i : ℕ) → i < 128 → fits_place (row_of bench maker i) (at vs i) ≡ true
  unfolding sound_values
  places vs e i h =
      let n : length vs ≡ 128 = eqb-true (length vs) 128 (search ands) in
      rw zero-add at (at_place bench maker 0 vs (search ands) i (omega arith))

  pub from_places : (vs : List ℤ) → length vs ≡ 128 → ((i : ℕ) → i < 128 → fits_place (row_of bench maker i) (at vs i) ≡ true) → sound_values bench maker vs ≡ true
  unfolding sound_values
  from_places vs n f =
      and_both (eq-eqb (length vs) 128 n) (all_places bench maker 0 vs (λ k l. rw zero-add (f k (omega (arith, n)))))

  -- 128 values, and each that has a row is one that the row allows
  pub record GoodValues (vs : List ℤ) : Type 0 where
    pub count : length vs ≡ 128
    pub each : (i : ℕ) (r : Row) → entry_in bench maker i ≡ Some r → fits_row r (at vs i) ≡ true

  pub good_values : (vs : List ℤ) → sound_values bench maker vs ≡ true → GoodValues vs
  unfolding entry_in
  good_values vs e = record {
    count = eqb-true (length vs) 128 (unfold sound_values in search ands);
    each = λ i r f. sym (fits_found (row_of bench maker i) r (at vs i) f) ∙ places vs e i (entry_below bench maker i r f);
  }

  pub values_good : (vs : List ℤ) → sound_sheet bench ≡ true → sound_sheet maker ≡ true → GoodValues vs → sound_values bench maker vs ≡ true
  unfolding fits_place
  values_good vs p q g =
      from_places vs g.count (λ i h.
      choice (λ (b : Bool). b ≡ true) (eqb (length (row_of bench maker i)) 6)
      (λ t. g.each i (numbers_of (row_of bench maker i)) (entry_row bench maker i p q (eqb-true (length (row_of bench maker i)) 6 t)))
      (λ t. refl))

  -- a value that the row allows may be stored
  pub set_sound : (vs : List ℤ) (i : ℕ) (r : Row) (v : ℤ) → sound_values bench maker vs ≡ true → entry_in bench maker i ≡ Some r → fits_row r v ≡ true
      → sound_values bench maker (set vs i v) ≡ true
  unfolding entry_in
  set_sound vs i r v e f h =
      let n : length vs ≡ 128 = (good_values vs e).count in
      from_places (set vs i v) (length-set vs i v ∙ n) (λ k l.
      by-test (eqb k i)
      (λ t. let q : k ≡ i = eqb-true k i t in
      rw (q, get_or-set_same vs i v (pos 0) (omega arith)) (fits_found (row_of bench maker i) r v f ∙ h))
      (λ t. rw (get_or-set_other vs i k v (pos 0) (eqb-false k i t)) (places vs e k l)))

-- what is stored stands there, and every other place is as it was
pub set_here : (vs : List ℤ) (i : ℕ) (v : ℤ) → i < length vs → at (set vs i v) i ≡ v
set_here vs i v h = get_or-set_same vs i v (pos 0) h

pub set_elsewhere : (vs : List ℤ) (i k : ℕ) (v : ℤ) → (k ≡ i → ⊥) → at (set vs i v) k ≡ at vs k
set_elsewhere vs i k v h = get_or-set_other vs i k v (pos 0) h
