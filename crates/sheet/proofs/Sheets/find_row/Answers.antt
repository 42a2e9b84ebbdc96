-- `sheet::Sheets::find_row` meets its contract: the six numbers from the row's place on, in the sheet that wins, are the row; where
-- neither sheet has one, the place is the end of the maker's. Assumes nothing.
use mathlib.Core.Path.{◌≡◌, sym, ap, ◌∙◌}
use mathlib.Core.List.{List}
use Prim.Native.Nat.{ℕ, ◌≤◌}
use native.Mathlib.Omega.{arith}
use lib.IntN.{ℤ}
use lib.ListN.{length, take, drop}
use Rattle.std.specs.Option.{unwrap_or}
use Rattle.sheet.specs.Lookup.{row_in, place_in, from}
use Rattle.sheet.proofs.Rows.{stands}
use Rattle.sheet.proofs.SoundSheets.{start_some, start_none, start_or, bench_wins, maker_else, bench_lies, maker_lies}
use Rattle.sheet.proofs.Sheets.find_row.Goals as goal

-- six numbers from the row's place on, and where they lie
module _ (s : List ℤ) (i p : ℕ) (e : p ≡ place_in s i) where
  its_row : take 6 (drop p s) ≡ row_in s i
  its_row = ap (λ (k : ℕ). take 6 (drop k s)) e ∙ sym (stands s i).row

  its_place : (at : ℕ × ℕ) {q : ℕ × ℕ} → (p ≤ length s → q ≡ from at p) → q ≡ from at (place_in s i)
  its_place at f = f (omega (arith, (stands s i).within)) ∙ ap (from at) e

pub returns-in-Some : goal.returns-in-Some
returns-in-Some c =
    let a = c.args in
    let i = a.identifier in
    let b = a.self.now.bench.now in
    let m = a.self.now.maker in
    let t = start_some b i _ (sym c.place_in.ensures ∙ c.in-Some.is) in record {
      numbers = c.six.ensures.numbers ∙ its_row b i _ t.1 ∙ sym (bench_wins b m.now i t.0);
      lies = its_place b i _ t.1 _ c.six.ensures.lies ∙ sym (bench_lies b m.now i a.self.now.bench.ref_ptr m.ref_ptr t.0);
    }

pub returns-in-None : goal.returns-in-None
returns-in-None c =
    let a = c.args in
    let i = a.identifier in
    let b = a.self.now.bench in
    let m = a.self.now.maker.now in
    let t = start_none b.now i (sym c.place_in.ensures ∙ c.in-None.is) in
    let e = c.unwrap_or.ensures ∙ ap (λ o. unwrap_or o (length m)) c.place_in-in-None.ensures ∙ start_or m i in record {
      numbers = c.six-in-None.ensures.numbers ∙ its_row m i _ e ∙ sym (maker_else b.now m i t);
      lies = its_place m i _ e _ c.six-in-None.ensures.lies ∙ sym (maker_lies b.now m i b.ref_ptr a.self.now.maker.ref_ptr t);
    }
