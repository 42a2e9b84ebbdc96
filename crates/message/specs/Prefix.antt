-- Reading the characters before a `*`, from left to right. Each state but `Wrong` that characters lead to is the start of a
-- well-formed message, so the first step to `Wrong` is at the first character that no well-formed message could have there.
use Rattle.std.specs.Prelude.{cond, ◌&&◌, List, [], ◌∷◌, ℕ, ◌+◌, ◌*◌, eqb}
use Prim.Native.Char.{code}
use Rattle.number.specs.declared.Data.{Data}
use Rattle.number.specs.declared.Data.TheVariants.{Partial, Number, Invalid}
use Rattle.number.specs.Data.{is_digit, digit_of, start, read_next}
use Rattle.message.specs.declared.Body.{Body}
use Rattle.message.specs.declared.Body.TheVariants.{Status, Query, Up, Down, Set, Store}
use Rattle.message.specs.declared.Message.{Message}
use Rattle.message.specs.declared.Prefix.{Prefix}
use Rattle.message.specs.declared.Prefix.TheVariants.{Start, Letter, Digit, Address, Identifier, Digits, Complete, Wrong}
use Rattle.message.specs.Message.{question, is_letter, is_address, is_identifier}
use Rattle.std.specs.Prelude.{None, Option, Some}

abbrev pub message : ℕ → ℕ → ℕ → Body → Message
message l a i b = record { letter = l; address = a; identifier = i; body = b }

-- the address is a, and c stands behind it
unfoldable pub extend_identifier : ℕ → ℕ → ℕ → Prefix
extend_identifier l a c = cond (is_address a && is_identifier c) (Identifier l a c) Wrong

-- a digit c behind the first digit of an address: `7` and `07` are 7
unfoldable pub extend_address : ℕ → ℕ → ℕ → Prefix
extend_address l d c = cond (is_address (d * 10 + digit_of c)) (Address l (d * 10 + digit_of c)) Wrong

-- data that has been read so far behind `#`
unfoldable pub extend_data : ℕ → ℕ → ℕ → Data → Prefix
extend_data l a i (Partial k n) = Digits l a i (Partial k n)
extend_data l a i (Number x) = Complete (message l a i (Set x))
extend_data l a i Invalid = Wrong

-- the table of types: behind `?` stands `?`, behind any other identifier `?`, `+`, `-`, `#` or `I`
unfoldable pub extend_body : ℕ → ℕ → ℕ → ℕ → Prefix
extend_body l a i c =
    cond (eqb i question)
    (cond (eqb c question) (Complete (message l a i Status)) Wrong)
    (cond (eqb c question) (Complete (message l a i Query))
    (cond (eqb c (code "+")) (Complete (message l a i Up))
    (cond (eqb c (code "-")) (Complete (message l a i Down))
    (cond (eqb c (code "I")) (Complete (message l a i Store))
    (cond (eqb c (code "#")) (Digits l a i start) Wrong)))))

-- one character more
unfoldable pub extend : Prefix → ℕ → Prefix
extend Start c = cond (is_letter c) (Letter c) Wrong
extend (Letter l) c = cond (is_digit c) (Digit l (digit_of c)) Wrong
extend (Digit l d) c = cond (is_digit c) (extend_address l d c) (extend_identifier l d c)
extend (Address l a) c = extend_identifier l a c
extend (Identifier l a i) c = extend_body l a i c
extend (Digits l a i x) c = extend_data l a i (read_next x c)
extend (Complete m) c = Wrong
extend Wrong c = Wrong

-- these characters more
unfoldable pub extend_all : Prefix → List ℕ → Prefix
extend_all s [] = s
extend_all s (c ∷ cs) = extend_all (extend s c) cs

-- only a whole message is heard
unfoldable pub finish : Prefix → Option Message
finish Start = None
finish (Letter l) = None
finish (Digit l d) = None
finish (Address l a) = None
finish (Identifier l a i) = None
finish (Digits l a i x) = None
finish (Complete m) = Some m
finish Wrong = None

-- what the characters before a `*` are
unfoldable pub parse : List ℕ → Option Message
parse cs = finish (extend_all Start cs)
