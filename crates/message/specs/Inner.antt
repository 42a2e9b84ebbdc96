-- The body that stands behind an identifier, which `parse` reads before it has a message. No public contract cites this file.
use Rattle.std.specs.Prelude.{◌≡◌, cond, List, ℕ, eqb, None, Option, Some}
use Prim.Native.Char.{code}
use Rattle.number.specs.declared.Data.{Data}
use Rattle.number.specs.declared.Data.TheVariants.{Partial, Number, Invalid}
use Rattle.message.specs.declared.Body.{Body}
use Rattle.message.specs.declared.Body.TheVariants.{Status, Query, Up, Down, Set, Store}
use Rattle.message.specs.declared.Message.{Message}
use Rattle.message.specs.declared.Prefix.TheVariants.{Identifier}
use Rattle.message.specs.Message.{question}
use Rattle.message.specs.Prefix.{message, extend_all, finish}

-- by one character
unfoldable pub signed : ℕ → ℕ → Option Body
signed i c =
    cond (eqb i question)
    (cond (eqb c question) (Some Status) None)
    (cond (eqb c question) (Some Query)
    (cond (eqb c (code "+")) (Some Up)
    (cond (eqb c (code "-")) (Some Down)
    (cond (eqb c (code "I")) (Some Store) None))))

-- by data
unfoldable pub set_to : Data → Option Body
set_to (Partial k n) = None
set_to (Number x) = Some (Set x)
set_to Invalid = None

-- the message with this body, if there is one
abbrev pub with_body : ℕ → ℕ → ℕ → Option Body → Option Message
with_body l a i (Some b) = Some (message l a i b)
with_body l a i None = None

-- behind any letter and address the characters cs make this body, or none
abbrev pub IsBodyBehind : ℕ → List ℕ → Option Body → Type 0
IsBodyBehind i cs b = (l a : ℕ) → finish (extend_all (Identifier l a i) cs) ≡ with_body l a i b
