-- Refusals by their numbers, and what a call comes to: refused with a number, or something given.
use Rattle.std.specs.Prelude.{ℕ, Result, Ok, Err}
use Rattle.refusal.specs.declared.Refusal.{Refusal}
use Rattle.refusal.specs.declared.Refusal.TheVariants.{UnsoundCard, UnsoundSheet, UnsoundValues, WordAbove256, RoomTooShort, NotReply, NotMessage, UnsoundBus}

-- document 01: the numbers 1 to 7 of the table "Given exactly when"; document 02, ticket 6: number 8
abbrev pub number_of : Refusal → ℕ
number_of UnsoundCard = 1
number_of UnsoundSheet = 2
number_of UnsoundValues = 3
number_of WordAbove256 = 4
number_of RoomTooShort = 5
number_of NotReply = 6
number_of NotMessage = 7
number_of UnsoundBus = 8

-- what every call's answer is mapped to
pub data Outcome (A : Type 0) : Type 0 where
  refused : ℕ → Outcome A
  gave : A → Outcome A

-- a call's answer: its number, or what it gave
abbrev pub outcome_of : {A : Type 0} → Result A Refusal → Outcome A
outcome_of (Err r) = refused (number_of r)
outcome_of (Ok x) = gave x
