-- The line's call, by whether it is a message. Assumes nothing.
use Rattle.std.proofs.Common.{◌≡◌, ℕ, true, false, not, List, [], ◌∷◌, refl, sym, ◌∙◌}
use Rattle.refusal.specs.Check.{refuse_if}
use Rattle.refusal.specs.Call.{refuses, writes, place_call}
use Rattle.refusal.specs.declared.Refusal.TheVariants.{NotMessage}
use Rattle.refusal.proofs.Logic.{is_not}
use Rattle.refusal.proofs.Checks.{first_holds}
use Rattle.refusal.proofs.Calls.{writes_refused, writes_passed, placed_writes}
use Rattle.message.specs.declared.Message.{Message}
use Rattle.message.specs.Message.{is_message}
use Rattle.message.proofs.Spelling.{message_passes}
use Rattle.listing.specs.Line.{line, line_call}

pub line_is : (at : ℕ) (m : Message) (out : List ℕ) → line_call at m out ≡ writes (refuse_if (not (is_message m)) NotMessage ∷ []) (line at m) out
unfolding line_call
line_is at m out = refl

pub line_refused : (at : ℕ) (m : Message) (out : List ℕ) → is_message m ≡ false → line_call at m out ≡ refuses out 7
unfolding line_call
line_refused at m out e =
    writes_refused (line at m) out (refuse_if (not (is_message m)) NotMessage ∷ []) 7 (first_holds (refuse_if (not (is_message m)) NotMessage) [] (is_not e))

pub line_served : (at : ℕ) (m : Message) (out : List ℕ) → is_message m ≡ true → line_call at m out ≡ writes [] (line at m) out
unfolding line_call
line_served at m out e = writes_passed (line at m) out (refuse_if (not (is_message m)) NotMessage ∷ []) (message_passes m e)

-- the same of the line placed at the front
pub line_placed : (at : ℕ) (m : Message) (out : List ℕ) → is_message m ≡ true → line_call at m out ≡ place_call (line at m) 0 out
line_placed at m out e = line_served at m out e ∙ sym (placed_writes (line at m) out)
