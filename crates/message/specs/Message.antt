-- What is a message as heard: its letter, address, identifier and body.
use Rattle.std.specs.Prelude.{Bool, false, not, ◌&&◌, ◌||◌, ℕ, List, leb, eqb}
use Prim.Native.Char.{code}
use Rattle.refusal.specs.Lists.{every}
use Rattle.number.specs.Data.{is_digit, is_minus_zero, numeral, as_decimal, fits_numeral}
use Rattle.message.specs.declared.Body.{Body}
use Rattle.message.specs.declared.Body.TheVariants.{Status, Query, Up, Down, Set, Store}
use Rattle.message.specs.declared.Message.{Message}

abbrev pub star : ℕ
star = code "*"

abbrev pub question : ℕ
question = code "?"

unfoldable pub is_letter : ℕ → Bool
is_letter c = eqb c (code "L") || eqb c (code "R")

-- document 01: "an address (1 to 99 ..; not 0)"
unfoldable pub is_address : ℕ → Bool
is_address a = leb 1 a && leb a 99

-- document 01: "Identifiers are codes 33 to 126, no digit, no `*`."
unfoldable pub is_identifier : ℕ → Bool
is_identifier c = leb 33 c && leb c 126 && not (is_digit c) && not (eqb c star)

-- the table of types: Type 1 has the identifier `?`, every other type has another
unfoldable pub fits_body : ℕ → Body → Bool
fits_body i Status = eqb i question
fits_body i Query = not (eqb i question)
fits_body i Up = not (eqb i question)
fits_body i Down = not (eqb i question)
fits_body i (Set x) = not (eqb i question) && fits_numeral x
fits_body i Store = not (eqb i question)

-- a Type 3 of minus zero
unfoldable pub asks_minus_zero : Body → Bool
asks_minus_zero Status = false
asks_minus_zero Query = false
asks_minus_zero Up = false
asks_minus_zero Down = false
asks_minus_zero (Set x) = is_minus_zero x
asks_minus_zero Store = false

-- the same message, with zero where it has minus zero; claims cite this and the next two, and no call
unfoldable pub unsigned_body : Body → Body
unsigned_body Status = Status
unsigned_body Query = Query
unsigned_body Up = Up
unsigned_body Down = Down
unsigned_body (Set x) = Set (numeral (as_decimal x))
unsigned_body Store = Store

abbrev pub unsigned_zero : Message → Message
unsigned_zero m = record { letter = m.letter; address = m.address; identifier = m.identifier; body = unsigned_body m.body }

-- none of them is a Type 3 of minus zero
unfoldable pub no_minus_zero : List Message → Bool
no_minus_zero ms = every (λ (m : Message). not (asks_minus_zero m.body)) ms

-- a message as heard; number 7 is given for anything else
unfoldable pub is_message : Message → Bool
is_message m = is_letter m.letter && is_address m.address && is_identifier m.identifier && fits_body m.identifier m.body
