-- The bench cases of document 01, the scan, the neighbours and both zeros of document 02 as tables: each case its exchanges, message by message, and the value of m
-- before and after.
use Rattle.card.specs.declared.Took.{Took}
use Rattle.std.specs.Prelude.{Bool, false, ◌&&◌, List, [], ◌∷◌, ◌++◌, ℕ, eqb, ℤ, pos, negsuc, length, take, set, replicate}
use Prim.Native.Char.{code}
use Prim.Native.String.{String}
use Rattle.std.specs.Int.Signed.{le_z}
use Rattle.refusal.specs.Lists.{same}
use Rattle.refusal.specs.Refusal.{Outcome, refused, gave}
use Rattle.wire.specs.Text.{chars}
use Rattle.wire.specs.Word.{travelling}
use Rattle.hearing.specs.Hearing.{none}
use Rattle.reply.specs.Reply.{longest_reply}
use Rattle.reply.specs.declared.Answer.{Answer}
use Rattle.reply.specs.Read.{read_call}
use Rattle.card.specs.declared.Card.{Card}
use Rattle.act.specs.Act.{most_named}
use Rattle.card.specs.Calls.{After, run_call}
use Rattle.std.specs.Prelude.{None}

-- "Rows: `J` (2, 1 decimal, step 5, -100 to 100), `M` (1, 1, 1, -1999 to 9999), `Z` (3, 0, 1, 15 to 18), `m` (2, 1, 5, 0 to 1000)."
unfoldable pub bench_rows : List ℤ
bench_rows =
    pos (code "J") ∷ pos 2 ∷ pos 1 ∷ pos 5 ∷ negsuc 99 ∷ pos 100
    ∷ pos (code "M") ∷ pos 1 ∷ pos 1 ∷ pos 1 ∷ negsuc 1998 ∷ pos 9999
    ∷ pos (code "Z") ∷ pos 3 ∷ pos 0 ∷ pos 1 ∷ pos 15 ∷ pos 18
    ∷ pos (code "m") ∷ pos 2 ∷ pos 1 ∷ pos 5 ∷ pos 0 ∷ pos 1000
    ∷ []

-- "Values J 0, M 231, Z 15, m 20", m as given
unfoldable pub bench_values : ℤ → List ℤ
bench_values m = set (set (set (set (replicate 128 (pos 0)) (code "J") (pos 0)) (code "M") (pos 231)) (code "Z") (pos 15)) (code "m") m

-- "Card `L`, address 7"; "no message open and no offer"; of this revision, with names for its scan
unfoldable pub card_with : ℕ → String → Card
card_with n names =
    record { setup = record { letter = code "L"; address = 7; count = length (chars names); scan = take most_named (chars names ++ replicate most_named 0); revision = n }; pending = none; offer = None }

-- a message as sent, and what is answered to it
pub record Exchange : Type 0 where
  pub sent : String
  pub answered : String

infix 68 ◌⇒◌
unfoldable pub ◌⇒◌ : String → String → Exchange
s ⇒ a = record { sent = s; answered = a }

pub record Case : Type 0 where
  pub first : ℤ
  pub exchanges : List Exchange
  pub last : ℤ

unfoldable pub case : ℤ → List Exchange → ℤ → Case
case m xs n = record { first = m; exchanges = xs; last = n }

-- cases a to l; k ends as document 02, ticket 2 has it
unfoldable pub bench_cases : List Case
unfolding case ◌⇒◌
bench_cases =
    case (pos 20) ("L7??*" ⇒ "L7?A*" ∷ []) (pos 20)
    ∷ case (pos 20) ("L07M?*" ⇒ "L7M02311A*" ∷ []) (pos 20)
    ∷ case (pos 20) ("L7m+*" ⇒ "L7m00251A*" ∷ []) (pos 25)
    ∷ case (pos 20) ("L7M+*" ⇒ "L7M02311N*" ∷ []) (pos 20)
    ∷ case (pos 20) ("L7m#00231*" ⇒ "L7m00201I*" ∷ "L7mI*" ⇒ "L7m00201A*" ∷ []) (pos 20)
    ∷ case (pos 20) ("L7J#00126*" ⇒ "L7J00156I*" ∷ []) (pos 20)
    ∷ case (pos 20) ("L7m#00230*" ⇒ "L7m00201N*" ∷ []) (pos 20)
    ∷ case (pos 20) ("L7m#10031*" ⇒ "L7m00201N*" ∷ []) (pos 20)
    ∷ case (pos 20) ("L7J#00006*" ⇒ "L7J00001I*" ∷ []) (pos 20)
    ∷ case (pos 20) ("L7mI*" ⇒ "" ∷ []) (pos 20)
    ∷ case (pos 20) ("L7m#00301*" ⇒ "L7m00301I*" ∷ "L8??*" ⇒ "" ∷ "L7mI*" ⇒ "L7m00301A*" ∷ []) (pos 30)
    ∷ case (pos 20) ("L7Z?*" ⇒ "L7Z00000N*" ∷ []) (pos 20)
    ∷ []

-- twenty messages for other cards
unfoldable pub twenty_neighbours : String
twenty_neighbours =
    "L8??*R7??*L8m?*L8m+*L8m-*L8m#00401*L8mI*R7m?*R7m+*R7m-*R7m#00401*R7mI*L70m?*L17mI*L27m#00401*L8]?*L8]I*R7]?*R8??*R32mI*"

-- cases m to o, and what a to l leave open: an offer used twice, `L` inside a message, codes 4 and 9, ten and eleven characters, a
-- write-only row stored and refused. Document 02, ticket 2: between offer and store a neighbour's Type 4, its Type 3 for the same
-- identifier, the other letter with the same address, and twenty neighbours' messages; and then a message for this card, which cancels
unfoldable pub more_cases : List Case
unfolding case ◌⇒◌
more_cases =
    case (pos 20) ("L7m#00304*" ⇒ "" ∷ "L0??*" ⇒ "" ∷ "L007M?*" ⇒ "" ∷ []) (pos 20)
    ∷ case (pos 1000) ("L7m+*" ⇒ "L7m10001N*" ∷ []) (pos 1000)
    ∷ case (pos 20) ("L7Z#00150*" ⇒ "L7Z00150I*" ∷ []) (pos 20)
    ∷ case (pos 20) ("L7m#00301*" ⇒ "L7m00301I*" ∷ "L7mI*" ⇒ "L7m00301A*" ∷ "L7mI*" ⇒ "" ∷ []) (pos 30)
    ∷ case (pos 20) ("L7L?*" ⇒ "L7L00000N*" ∷ []) (pos 20)
    ∷ case (pos 20) ("L7m#00009*" ⇒ "" ∷ "L7m#00000*" ⇒ "L7m00201N*" ∷ []) (pos 20)
    ∷ case (pos 20) ("L07m#00301*" ⇒ "L7m00301I*" ∷ "L07m#003011*" ⇒ "" ∷ "L7mI*" ⇒ "L7m00301A*" ∷ []) (pos 30)
    ∷ case (pos 20) ("L7Z#00150*" ⇒ "L7Z00150I*" ∷ "L7ZI*" ⇒ "L7Z00150A*" ∷ "L7Z+*" ⇒ "L7Z00000N*" ∷ []) (pos 20)
    ∷ case (pos 20) ("L7m#00301*" ⇒ "L7m00301I*" ∷ "L8mI*" ⇒ "" ∷ "L7mI*" ⇒ "L7m00301A*" ∷ []) (pos 30)
    ∷ case (pos 20) ("L7m#00301*" ⇒ "L7m00301I*" ∷ "L8m#00401*" ⇒ "" ∷ "L7mI*" ⇒ "L7m00301A*" ∷ []) (pos 30)
    ∷ case (pos 20) ("L7m#00301*" ⇒ "L7m00301I*" ∷ "R7m#00401*" ⇒ "" ∷ "R7mI*" ⇒ "" ∷ "L7mI*" ⇒ "L7m00301A*" ∷ []) (pos 30)
    ∷ case (pos 20) ("L7m#00301*" ⇒ "L7m00301I*" ∷ twenty_neighbours ⇒ "" ∷ "L7mI*" ⇒ "L7m00301A*" ∷ []) (pos 30)
    ∷ case (pos 20) ("L7m#00301*" ⇒ "L7m00301I*" ∷ "L8mI*" ⇒ "" ∷ "L7??*" ⇒ "L7?A*" ∷ "L7mI*" ⇒ "" ∷ []) (pos 20)
    ∷ []

-- ---- both zeros

-- document 02, ticket 5: "the first treats both alike": minus zero is offered as zero, and stored
unfoldable pub first_cases : List Case
unfolding case ◌⇒◌
first_cases =
    case (pos 20) ("L7J#00006*" ⇒ "L7J00001I*" ∷ "L7J#00001*" ⇒ "L7J00001I*" ∷ []) (pos 20)
    ∷ case (pos 20) ("L7m#00006*" ⇒ "L7m00001I*" ∷ "L7mI*" ⇒ "L7m00001A*" ∷ []) (pos 0)
    ∷ case (pos 20) ("L7m#00001*" ⇒ "L7m00001I*" ∷ "L7mI*" ⇒ "L7m00001A*" ∷ []) (pos 0)
    ∷ []

-- "the second answers a Type 3 of minus zero with `N`": `N` has what it always has, and an offer is gone; zero is offered
unfoldable pub second_cases : List Case
unfolding case ◌⇒◌
second_cases =
    case (pos 20) ("L7J#00006*" ⇒ "L7J00001N*" ∷ []) (pos 20)
    ∷ case (pos 20) ("L7m#00301*" ⇒ "L7m00301I*" ∷ "L7m#00006*" ⇒ "L7m00201N*" ∷ "L7mI*" ⇒ "" ∷ []) (pos 20)
    ∷ case (pos 20) ("L7m#00001*" ⇒ "L7m00001I*" ∷ "L7mI*" ⇒ "L7m00001A*" ∷ []) (pos 0)
    ∷ case (pos 20) ("L7Z#00005*" ⇒ "L7Z00000N*" ∷ "L7]#00005*" ⇒ "L7]00000N*" ∷ []) (pos 20)
    ∷ []

-- ---- the scan

-- a row with two decimals, in the bench sheet: `T` (1, 2 decimals, step 1, 0 to 9959)
unfoldable pub time_row : List ℤ
time_row = pos (code "T") ∷ pos 1 ∷ pos 2 ∷ pos 1 ∷ pos 0 ∷ pos 9959 ∷ []

-- J is -15 and T 1234, m as given
unfoldable pub scan_values : ℤ → List ℤ
scan_values m = set (set (bench_values m) (code "J") (negsuc 14)) (code "T") (pos 1234)

pub record ScanCase : Type 0 where
  pub names : String
  pub played : Case

unfoldable pub naming : String → ℤ → List Exchange → ℤ → ScanCase
naming names m xs n = record { names = names; played = record { first = m; exchanges = xs; last = n } }

-- document 02, ticket 1: five values, four, none named; each has its row's decimals, and J is below zero; what isn't a query is `N` with
-- `00000`, a Type 4 is silence, and each of them cancels an offer; a value is the one at that moment
unfoldable pub scan_cases : List ScanCase
unfolding ◌⇒◌ naming
scan_cases =
    naming "MJmTM" (pos 20) ("L7]?*" ⇒ "L7]250231100156002011234202311A*" ∷ []) (pos 20)
    ∷ naming "TJmM" (pos 20) ("L7]?*" ⇒ "L7]2012342001560020102311A*" ∷ []) (pos 20)
    ∷ naming "" (pos 20) ("L7]?*" ⇒ "L7]00000N*" ∷ []) (pos 20)
    ∷ naming "MJmTM" (pos 20) ("L7]+*" ⇒ "L7]00000N*" ∷ "L7]-*" ⇒ "L7]00000N*" ∷ "L7]#00000*" ⇒ "L7]00000N*" ∷ []) (pos 20)
    ∷ naming "MJmTM" (pos 20) ("L7]I*" ⇒ "" ∷ []) (pos 20)
    ∷ naming "MJmTM" (pos 20) ("L7m#00301*" ⇒ "L7m00301I*" ∷ "L7]I*" ⇒ "" ∷ "L7mI*" ⇒ "" ∷ []) (pos 20)
    ∷ naming "MJmTM" (pos 20) ("L7m#00301*" ⇒ "L7m00301I*" ∷ "L7]+*" ⇒ "L7]00000N*" ∷ "L7mI*" ⇒ "" ∷ []) (pos 20)
    ∷ naming "MJmTM" (pos 20) ("L7m#00301*" ⇒ "L7m00301I*" ∷ "L7]-*" ⇒ "L7]00000N*" ∷ "L7mI*" ⇒ "" ∷ []) (pos 20)
    ∷ naming "MJmTM" (pos 20) ("L7m#00301*" ⇒ "L7m00301I*" ∷ "L7]#00000*" ⇒ "L7]00000N*" ∷ "L7mI*" ⇒ "" ∷ []) (pos 20)
    ∷ naming "MJmT" (pos 20) ("L7m#00301*" ⇒ "L7m00301I*" ∷ "L7]?*" ⇒ "L7]2002311001560020112342A*" ∷ "L7mI*" ⇒ "" ∷ []) (pos 20)
    ∷ naming "" (pos 20) ("L7m#00301*" ⇒ "L7m00301I*" ∷ "L7]?*" ⇒ "L7]00000N*" ∷ "L7mI*" ⇒ "" ∷ []) (pos 20)
    ∷ naming "mmmm" (pos 20) ("L7m+*" ⇒ "L7m00251A*" ∷ "L7]?*" ⇒ "L7]2000251002510025100251A*" ∷ []) (pos 25)
    ∷ []

-- replies that no sound card gives: five digits on `]` but `00000N`, another count, mark or identifier, minus zero among the values or alone
unfoldable pub no_replies : List String
no_replies =
    "L7]02311A*"
    ∷ "L7]00001N*"
    ∷ "L7]00000I*"
    ∷ "L7]2402311001560020112342A*"
    ∷ "L7]250231100156002011234202311N*"
    ∷ "L7M2002311001560020112342A*"
    ∷ "L7]2002311000060020112342A*"
    ∷ "L7Z00005A*"
    ∷ "L7J00006A*"
    ∷ "L7J00006I*"
    ∷ "L7J00006N*"
    ∷ "L7T00007A*"
    ∷ "L7J00008A*"
    ∷ []

-- ---- what the tables say

-- the same number
unfoldable pub equal_z : ℤ → ℤ → Bool
equal_z x y = le_z x y && le_z y x

-- the run gave this many words and bytes
unfoldable pub took : Outcome Took → ℕ → ℕ → Bool
took (refused n) words bytes = false
took (gave t) words bytes = eqb t.words words && eqb t.bytes bytes

-- each exchange is a run with room for any reply: it is served, takes every word, and writes the answer; and the last leaves these values
unfoldable pub answers_all : List ℤ → Card → List ℤ → List Exchange → List ℤ → Bool
answers_all bench c values [] last = same equal_z values last
answers_all bench c values (x ∷ xs) last =
    let sent : List ℕ = travelling (chars x.sent) in
    let answer : List ℕ = travelling (chars x.answered) in
    let r : After Took = run_call c bench bench_rows values sent (replicate longest_reply 0) in
    took r.outcome (length sent) (length answer) && same eqb (take (length answer) r.buffer) answer && answers_all bench r.card r.values xs last

-- a case from its start, at a card of this revision
unfoldable pub passes_on : ℕ → Case → Bool
passes_on n x = answers_all [] (card_with n "") (bench_values x.first) x.exchanges (bench_values x.last)

-- document 02, ticket 5: "Bench case i holds for the first revision"
abbrev pub passes : Case → Bool
passes x = passes_on 1 x

-- with names for the scan
unfoldable pub passes_scan : ScanCase → Bool
passes_scan x = answers_all time_row (card_with 1 x.names) (scan_values x.played.first) x.played.exchanges (scan_values x.played.last)

-- the reader gives number 6
unfoldable pub is_no_reply : String → Bool
is_no_reply x = six (read_call (travelling (chars x)))
  where
    six : Outcome Answer → Bool
    six (refused n) = eqb n 6
    six (gave a) = false
