-- The parts of a reply as they are written one behind the other. No public contract cites this file.
use Rattle.std.specs.Prelude.{List, [], ◌∷◌, ◌++◌, ℕ}
use Rattle.message.specs.Spell.{spell_address}

-- the letter, the address and the identifier
unfoldable pub spell_front : ℕ → ℕ → ℕ → List ℕ
spell_front l a i = l ∷ (spell_address a ++ (i ∷ []))
