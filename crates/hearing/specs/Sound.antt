-- Which open messages are sound: the part of number 1 that concerns the open message.
use Rattle.std.specs.Prelude.{Bool, not, ◌&&◌, ◌||◌, List, ℕ, ltb, leb, eqb, get_or, take, drop}
use Rattle.refusal.specs.Lists.{every}
use Rattle.message.specs.Message.{star, is_letter}
use Rattle.hearing.specs.declared.Pending.{Pending}
use Rattle.hearing.specs.Hearing.{most}

-- seven-bit characters without `*`
unfoldable pub plain_char : ℕ → Bool
plain_char c = ltb c 128 && not (eqb c star)

unfoldable pub plain : List ℕ → Bool
plain cs = every plain_char cs

unfoldable pub zeros : List ℕ → Bool
zeros cs = every (λ (c : ℕ). eqb c 0) cs

-- document 01, number 1: "open message not 0 to 10 seven-bit characters starting `L` or `R` without `*` and with 0 behind"
unfoldable pub sound_pending : Pending → Bool
sound_pending p =
    leb p.len most && (plain (take p.len p.chars) && zeros (drop p.len p.chars)) && (eqb p.len 0 || is_letter (get_or p.chars 0 0))
