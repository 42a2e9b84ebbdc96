-- The array of a message with a sign, of five words or six, travels as the message's words. Assumes nothing.
use mathlib.Core.Path.{◌≡◌, sym, ap}
use mathlib.Core.List.{[], ◌∷◌}
use Prim.Native.Nat.{ℕ, ◌+◌, ◌≤◌, ◌<◌, ◌/◌, ◌%◌}
use Rattle.wire.specs.Word.{travelling}
use Rattle.message.specs.declared.Message.{Message}
use Rattle.message.specs.declared.Kind.TheVariants.{Sign}
use Rattle.message.specs.Message.{star}
use Rattle.message.specs.Spell.{kind_of, spell}
use Rattle.message.proofs.Spelling.{sign_one, sign_two}

pub one_written : (m : Message) (c : ℕ) → kind_of m.body ≡ Sign c → m.address ≤ 9
    → travelling (m.letter ∷ (48 + m.address) ∷ m.identifier ∷ c ∷ star ∷ []) ≡ travelling (spell m)
one_written m c e h = ap travelling (sym (sign_one m c e h))

pub two_written : (m : Message) (c : ℕ) → kind_of m.body ≡ Sign c → 9 < m.address
    → travelling (m.letter ∷ (48 + m.address / 10) ∷ (48 + m.address % 10) ∷ m.identifier ∷ c ∷ star ∷ []) ≡ travelling (spell m)
two_written m c e h = ap travelling (sym (sign_two m c e h))
