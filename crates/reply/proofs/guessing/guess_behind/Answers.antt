-- `reply::guess_behind` meets its contract: the characters are those of the definition. Assumes nothing.
use mathlib.Core.Path.{◌≡◌, sym, ap, ◌∙◌}
use mathlib.Core.List.{List}
use Prim.Native.Nat.{ℕ}
use native.Mathlib.Nat.{add-zero}
use lib.ListN.{get_or, drop}
use Rattle.reply.specs.Read.{characters_of, guess_mark, guess_behind}
use Rattle.reply.proofs.Reader.{character_behind, behind_status, behind_number}
use Rattle.reply.proofs.guessing.guess_behind.Goals.{then-identifier-eq63, else-identifier-eq63}
use Rattle.reply.proofs.guessing.guess_behind.Goals as goal

identifier : (k : ℕ) (cs : List ℕ) {i : ℕ} → i ≡ get_or cs k 0 → i ≡ get_or (drop k cs) 0 0
identifier k cs e = e ∙ ap (λ (j : ℕ). get_or cs j 0) (sym (add-zero k)) ∙ character_behind cs k 0

pub returns : goal.returns
returns c =
    let a = c.args in
    let cs = characters_of a.bytes.now in
    let i = identifier a.k cs c.character_at-identifier.ensures in
    let m = c.guess_mark.ensures ∙ ap guess_mark c.mark_at.ensures in
    elim c.if-identifier-eq63.branch [
      | then-identifier-eq63 w ↦ rw w.content-is (behind_status _ a.address _ _ (drop a.k cs) i m w.if-identifier-eq63.true)
      | else-identifier-eq63 w ↦ rw w.content-is (behind_number _ a.address _ _ (drop a.k cs) i m _ w.if-identifier-eq63.false w.guess_content-content.ensures)
    ]
    ∙ ap (λ (x : ℕ). guess_behind x a.address (drop a.k cs)) c.character_at.ensures
