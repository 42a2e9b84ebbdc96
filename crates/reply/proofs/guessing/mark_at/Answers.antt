-- `reply::mark_at` meets its contract: from k on, the character before the last is the one before the last of all. Assumes nothing.
use mathlib.Core.Path.{◌≡◌, ap, ◌∙◌}
use Prim.Native.Nat.{ℕ, ◌+◌, ◌-◌}
use native.Mathlib.Omega.{arith}
use lib.ListN.{length, get_or, drop, length-drop}
use Rattle.reply.specs.Read.{characters_of}
use Rattle.reply.proofs.Reader.{characters_long, character_behind}
use Rattle.reply.proofs.guessing.mark_at.Goals as goal

pub returns : goal.returns
returns c =
    let a = c.args in
    let cs = characters_of a.bytes.now in
    let n : c.max.result ≡ a.k + (length (drop a.k cs) - 2) = omega (arith, length-drop a.k cs, characters_long a.bytes.now, c.max.ensures, c.saturating_sub.ensures) in
    c.character_at.ensures ∙ ap (λ (j : ℕ). get_or cs j 0) n ∙ character_behind cs a.k (length (drop a.k cs) - 2)
