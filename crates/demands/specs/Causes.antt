-- Document 02, tickets 4 and 5: "the answer for a single word gives the first beside the reply". The claims are about the call `step`, for every
-- input with which it is served: the cause, the bytes that it writes, and what the reader reads in them.
use Rattle.card.specs.declared.Took.{Took}
use Rattle.std.specs.Prelude.{◌≡◌, ◌↔◌, Bool, true, false, ◌&&◌, ◌||◌, List, [], ◌∷◌, ◌++◌, map, ℕ, ◌-◌, ◌≤◌, ◌<◌, eqb, ℤ, pos, length, get_or, take, replicate, Option, None, Some}
use Prim.Native.String.{String}
use Rattle.refusal.specs.Lists.{every}
use Rattle.refusal.specs.Refusal.{Outcome, refused, gave}
use Rattle.refusal.specs.Check.{Given, Passed}
use Rattle.wire.specs.Text.{chars}
use Rattle.wire.specs.Word.{travelling}
use Rattle.message.specs.declared.Message.{Message}
use Rattle.message.specs.Message.{star}
use Rattle.message.specs.Position.{WellFormed, Impossible}
use Rattle.hearing.specs.declared.Action.TheVariants.{Close}
use Rattle.hearing.specs.Hearing.{open_of, action_of, hear}
use Rattle.reply.specs.declared.Answer.{Answer}
use Rattle.reply.specs.declared.Mark.TheVariants.{Declined}
use Rattle.reply.specs.Read.{read_call}
use Rattle.reply.specs.Reply.{longest_reply}
use Rattle.act.specs.declared.causes.Cause.{Cause}
use Rattle.act.specs.declared.causes.Cause.TheVariants.{NoSuchIdentifier, Access, WrongDecimals, OutOfRange, AtLimit, NotForThisCard, NoOffer, NoMessageClosed, NotWellFormed, MinusZero}
use Rattle.act.specs.Cause.{Why, why, why_of, causes_of_n, silences, is_one_of}
use Rattle.act.specs.Act.{causes_in}
use Rattle.card.specs.declared.Card.{Card}
use Rattle.card.specs.Calls.{After, WordAnswer, step_call, run_call}
use Rattle.demands.specs.Bench.{bench_rows, bench_values, card_with}
use Rattle.std.specs.Prelude.{Some}

-- ---- the causes there are

unfoldable pub every_cause : List (Option Cause)
every_cause =
    None ∷ map Some (
    NoSuchIdentifier ∷ Access ∷ WrongDecimals ∷ MinusZero ∷ OutOfRange ∷ AtLimit ∷ NotForThisCard ∷ NoOffer ∷ NoMessageClosed
    ∷ NotWellFormed 1 ∷ NotWellFormed 2 ∷ NotWellFormed 3 ∷ NotWellFormed 4 ∷ NotWellFormed 5 ∷ NotWellFormed 6 ∷ NotWellFormed 7 ∷ NotWellFormed 8 ∷ NotWellFormed 9
    ∷ [])

unfoldable pub same_why : Why → Why → Bool
same_why x y = eqb x.code y.code && eqb x.position y.position

-- one of these, its position too
unfoldable pub is_among : Why → List (Option Cause) → Bool
is_among y [] = false
is_among y (x ∷ xs) = same_why y (why_of x) || is_among y xs

-- ---- the cause that a word gives

-- the word closes the open message; document 01: "`*` closes it"
abbrev pub Closes : Card → ℕ → Type 0
Closes c w = action_of c.pending w ≡ Close

-- that message as it was sent, with its `*`
abbrev pub as_sent : Card → List ℕ
as_sent c = open_of c.pending ++ (star ∷ [])

-- the call is served, and gives s
module _ (bench maker : List ℤ) (c : Card) (values : List ℤ) (w : ℕ) (out : List ℕ) (s : WordAnswer) where
  abbrev pub Gives : Type 0
  Gives = (step_call c bench maker values w out).outcome ≡ gave s

  pub record CauseExact : Type 0 where
    -- no other is given
    pub known : is_among s.cause every_cause ≡ true
    -- a message is heard exactly when the word closes one that is well formed
    pub heard : ((m : Message) × ((hear c.pending w).message ≡ Some m)) ↔ (Closes c w × WellFormed (as_sent c))
    -- then a cause is given exactly when its test holds and none before it does, and none exactly when no test holds
    pub given : (m : Message) (n : ℕ) → (hear c.pending w).message ≡ Some m → 0 < n → (s.cause ≡ why n 0) ↔ Given n (causes_in bench maker c.setup c.offer values m)
    pub none : (m : Message) → (hear c.pending w).message ≡ Some m → (s.cause ≡ why_of None) ↔ Passed (causes_in bench maker c.setup c.offer values m)
    -- "no message closed by this word"
    pub no_message : (s.cause ≡ why_of (Some NoMessageClosed)) ↔ (Closes c w → ⊥)
    -- "the position in it, from 0, of the first character that no well-formed message could have there after those before it": those before
    -- it are the beginning of a well-formed message, and with it they aren't
    pub position : (p : ℕ) → (s.cause ≡ why_of (Some (NotWellFormed p))) ↔ (Closes c w × Impossible (as_sent c) p)
    pub position_ends : (p : ℕ) → s.cause ≡ why_of (Some (NotWellFormed p)) → (1 ≤ p) × (p ≤ 9)
    -- the closed message is well formed exactly when there is no such position
    pub well_formed : WellFormed (as_sent c) ↔ ((p : ℕ) → Impossible (as_sent c) p → ⊥)
    -- the reply is `A` or `I` exactly when there is no cause, `N` exactly when it is one of the six, and silence exactly when it is one of the others
    pub accepted : ((a : Answer) × (read_call (take s.bytes (step_call c bench maker values w out).buffer) ≡ gave a) × (a.mark ≡ Declined → ⊥)) ↔ (s.cause ≡ why_of None)
    pub declined : ((a : Answer) × (read_call (take s.bytes (step_call c bench maker values w out).buffer) ≡ gave a) × (a.mark ≡ Declined)) ↔ (is_one_of s.cause.code causes_of_n ≡ true)
    pub silent : (s.bytes ≡ 0) ↔ (is_one_of s.cause.code silences ≡ true)

-- ---- each cause is given by some sound card: those of the bench

-- words sent to a card of this revision that names these identifiers for its scan, and the cause of the last
pub record CauseCase : Type 0 where
  pub revision : ℕ
  pub names : String
  pub sent : String
  pub cause : Option Cause

unfoldable pub draws_on : ℕ → String → String → Option Cause → CauseCase
draws_on n names sent x = record { revision = n; names = names; sent = sent; cause = x }

-- from the first revision
abbrev pub draws : String → String → Option Cause → CauseCase
draws names sent x = draws_on 1 names sent x

-- every cause, and every position; then messages with several causes, which give the first; then both zeros
unfoldable pub cause_cases : List CauseCase
unfolding draws_on
cause_cases =
    draws "" "L7M?*" None
    ∷ draws "" "L7x?*" (Some NoSuchIdentifier)
    ∷ draws "MJmM" "L7]?*" None
    ∷ draws "" "L7]?*" (Some NoSuchIdentifier)
    ∷ draws "" "L7M+*" (Some Access)
    ∷ draws "MJmM" "L7]+*" (Some Access)
    ∷ draws "" "L7m#00302*" (Some WrongDecimals)
    ∷ draws "" "L7m#10051*" (Some OutOfRange)
    ∷ draws "" "L7m#10001*L7mI*L7m+*" (Some AtLimit)
    ∷ draws "" "L8mI*" (Some NotForThisCard)
    ∷ draws "" "L7mI*" (Some NoOffer)
    ∷ draws "MJmM" "L7]I*" (Some NoOffer)
    ∷ draws "" "L7]I*" (Some NoOffer)
    ∷ draws "" "L7m#00301" (Some NoMessageClosed)
    ∷ draws "" "L*" (Some (NotWellFormed 1))
    ∷ draws "" "L0??*" (Some (NotWellFormed 2))
    ∷ draws "" "L8M!*" (Some (NotWellFormed 3))
    ∷ draws "" "L7??x*" (Some (NotWellFormed 4))
    ∷ draws "" "L7m#0*" (Some (NotWellFormed 5))
    ∷ draws "" "L7m#00x01*" (Some (NotWellFormed 6))
    ∷ draws "" "L7m#003*" (Some (NotWellFormed 7))
    ∷ draws "" "L7m#00304*" (Some (NotWellFormed 8))
    ∷ draws "" "L7m#003011*" (Some (NotWellFormed 9))
    ∷ draws "" "L8M+*" (Some NotForThisCard)
    ∷ draws "" "L7M#20005*" (Some Access)
    ∷ draws "" "L7Z-*" (Some Access)
    ∷ draws "" "L7m#10030*" (Some WrongDecimals)
    ∷ draws "" "L7J#00006*" None
    ∷ draws "" "L7Z#00005*" (Some OutOfRange)
    ∷ draws_on 2 "" "L7J#00006*" (Some MinusZero)
    ∷ draws_on 2 "" "L7J#00001*" None
    ∷ draws_on 2 "" "L7Z#00005*" (Some MinusZero)
    ∷ draws_on 2 "" "L7Z#00000*" (Some OutOfRange)
    ∷ draws_on 2 "" "L7J#00005*" (Some WrongDecimals)
    ∷ draws_on 2 "" "L7M#00006*" (Some Access)
    ∷ draws_on 2 "" "L7x#00006*" (Some NoSuchIdentifier)
    ∷ draws_on 2 "" "L8J#00006*" (Some NotForThisCard)
    ∷ draws_on 2 "MJmM" "L7]#00005*" (Some Access)
    ∷ draws_on 2 "" "L7]#00005*" (Some NoSuchIdentifier)
    ∷ []

-- one of the cases has it
unfoldable pub has_case : Option Cause → Bool
has_case x = is_among (why_of x) (map (λ (y : CauseCase). y.cause) cause_cases)

unfoldable pub gave_cause : Outcome WordAnswer → Why → Bool
gave_cause (refused n) y = false
gave_cause (gave s) y = same_why s.cause y

-- the words before the last are a run, and the last is the single word's call
unfoldable pub draws_it : CauseCase → Bool
draws_it x =
    let ws : List ℕ = travelling (chars x.sent) in
    let n : ℕ = length ws - 1 in
    let r : After Took = run_call (card_with x.revision x.names) [] bench_rows (bench_values (pos 20)) (take n ws) (replicate 99 0) in
    gave_cause (step_call r.card [] bench_rows r.values (get_or ws n 0) (replicate longest_reply 0)).outcome (why_of x.cause)

-- ---- all of them

pub record Causes : Type 0 where
  pub exact : (bench maker : List ℤ) (c : Card) (values : List ℤ) (w : ℕ) (out : List ℕ) (s : WordAnswer) → Gives bench maker c values w out s → CauseExact bench maker c values w out s
  -- whatever the room
  pub same : (bench maker : List ℤ) (c : Card) (values : List ℤ) (w : ℕ) (out out' : List ℕ) (s s' : WordAnswer) → Gives bench maker c values w out s → Gives bench maker c values w out' s' → s ≡ s'
  -- each of the causes is drawn from a sound card
  pub each : every draws_it cause_cases ≡ true
  pub all : every has_case every_cause ≡ true
