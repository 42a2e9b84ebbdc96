-- Where a closed message that is not well formed fails: by reading it, and by the well-formed messages alone.
use Rattle.std.specs.Prelude.{◌≡◌, Bool, true, false, cond, List, [], ◌∷◌, ◌++◌, ℕ, suc, ◌<◌, length, take}
use Rattle.message.specs.declared.Message.{Message}
use Rattle.message.specs.declared.Prefix.{Prefix}
use Rattle.message.specs.declared.Prefix.TheVariants.{Start, Letter, Digit, Address, Identifier, Digits, Complete, Wrong}
use Rattle.message.specs.Message.{star}
use Rattle.message.specs.Prefix.{extend, parse}
use Rattle.std.specs.Prelude.{Some}

-- whether no well-formed message begins so
unfoldable pub is_wrong : Prefix → Bool
is_wrong Start = false
is_wrong (Letter l) = false
is_wrong (Digit l d) = false
is_wrong (Address l a) = false
is_wrong (Identifier l a i) = false
is_wrong (Digits l a i x) = false
is_wrong (Complete m) = false
is_wrong Wrong = true

-- how many of these characters can stand behind this state, one after the other
unfoldable pub matched : Prefix → List ℕ → ℕ
matched s [] = 0
matched s (c ∷ cs) = cond (is_wrong (extend s c)) 0 (suc (matched (extend s c) cs))

-- document 02, ticket 4: "the position in it, from 0, of the first character that no well-formed message could have there after those
-- before it, the `*` counting as a character". cs are the characters before the `*` of a message that
-- isn't heard; where all of them can stand, it is the `*`, whose place is `length cs`
unfoldable pub position : List ℕ → ℕ
position cs = matched Start cs

-- ---- the position by well-formed messages alone

-- a message that is heard, and its `*`
pub record WellFormed (xs : List ℕ) : Type 0 where
  pub characters : List ℕ
  pub message : Message
  pub closed : xs ≡ characters ++ (star ∷ [])
  pub heard : parse characters ≡ Some message

-- some well-formed message begins so
abbrev pub Possible : List ℕ → Type 0
Possible xs = (rest : List ℕ) × WellFormed (xs ++ rest)

-- at p stands the first character that no well-formed message could have there after those before it
pub record Impossible (xs : List ℕ) (p : ℕ) : Type 0 where
  pub inside : p < length xs
  pub before : Possible (take p xs)
  pub behind : Possible (take (suc p) xs) → ⊥
