-- The tests of a scan as the code makes them: a row for `]`, the count, and the identifiers that are named. Assumes nothing.
use mathlib.Core.Path.{◌≡◌, refl, sym, ◌∙◌}
use mathlib.Core.Bool.{true, false, ◌||◌, false≢true}
use mathlib.Core.List.{List}
use Prim.Native.Nat.{ℕ, zero, suc, ◌+◌, ◌≤◌}
use native.Mathlib.Omega.{arith}
use borrow.Author.Tests.{eqb-true, ne_eqb}
use lib.Dec.{eqb}
use lib.IntN.{ℤ}
use lib.ListN.{length, take, drop}
use lib.Seq.{drop-cons}
use Rattle.std.specs.List.{list_all}
use Rattle.refusal.proofs.Logic.{by-test}
use Rattle.refusal.proofs.Lists.{every_all}
use Rattle.sheet.specs.Lookup.{has_row}
use Rattle.sheet.specs.Values.{entry_in, is_readable_entry}
use Rattle.reply.specs.Reply.{scan_identifier}
use Rattle.act.specs.declared.Setup.{Setup}
use Rattle.act.specs.Act.{most_named, names_from}
use Rattle.card.specs.Refusals.{no_scan_row, sound_scan}

-- the names from the j-th on are those of the array
named_in : (s : Setup) (j n : ℕ) → j + n ≤ length s.scan → names_from s j n ≡ take n (drop j s.scan)
unfolding names_from
named_in s j zero h = refl
named_in s j (suc n) h = rw (drop-cons s.scan j 0 (omega arith)) (rw (named_in s (suc j) n (omega arith)) refl)

at_most : (n : ℕ) → (eqb n 0 || eqb n 4 || eqb n 5) ≡ true → n ≤ most_named
at_most n h =
    by-test (eqb n 0)
    (λ t. omega (arith, eqb-true n 0 t))
    (λ z. by-test (eqb n 4)
    (λ t. omega (arith, eqb-true n 4 t))
    (λ f. by-test (eqb n 5)
    (λ t. omega (arith, eqb-true n 5 t))
    (λ v. absurd (false≢true (sym (rw (z, f, v)) ∙ h)))))

-- a scan of another count than 0, 4 or 5 is unsound
pub other_count : (bench maker : List ℤ) (s : Setup) → (s.count ≡ 0 → ⊥) → (s.count ≡ 4 → ⊥) → (s.count ≡ 5 → ⊥) → sound_scan bench maker s ≡ false
unfolding sound_scan
other_count bench maker s a b c =
    by-test (no_scan_row bench maker)
    (λ t. rw (t, ne_eqb _ 0 a, ne_eqb _ 4 b, ne_eqb _ 5 c))
    (λ t. rw t)

module _ (bench maker : List ℤ) (s : Setup) where
  pub with_row : (has_row bench scan_identifier || has_row maker scan_identifier) ≡ true → sound_scan bench maker s ≡ false
  unfolding sound_scan
  with_row h = rw h

  -- the same by the tests of the code
  pub uncounted : (has_row bench scan_identifier || has_row maker scan_identifier) ≡ false → (eqb s.count 0 || eqb s.count 4 || eqb s.count 5) ≡ false → sound_scan bench maker s ≡ false
  unfolding sound_scan
  uncounted h n = rw (h, n)

  pub by_names : (has_row bench scan_identifier || has_row maker scan_identifier) ≡ false → (eqb s.count 0 || eqb s.count 4 || eqb s.count 5) ≡ true → length s.scan ≡ most_named
      → sound_scan bench maker s ≡ list_all (λ (i : ℕ). is_readable_entry (entry_in bench maker i)) (take s.count s.scan)
  unfolding sound_scan
  by_names h n l = rw (h, n, named_in s 0 s.count (omega (arith, at_most s.count n)), every_all)
