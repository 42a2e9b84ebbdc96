-- With no message open it does not matter what stands where an open message would: the same messages are heard. A silence drops what is
-- open, so behind it the same is heard as with none open. And a word with which a message is heard leaves none open. Assumes nothing.
use mathlib.Core.Path.{◌≡◌, refl, sym, ap, ◌∙◌}
use mathlib.Core.List.{List, [], ◌∷◌}
use Prim.Native.Nat.{ℕ}
use borrow.Author.Tests.{eq-eqb, eqb-true}
use lib.Dec.{eqb}
use Rattle.refusal.proofs.Logic.{choice, by-test}
use Rattle.wire.specs.Word.{received}
use Rattle.message.specs.declared.Message.{Message}
use Rattle.message.specs.Message.{is_letter}
use Rattle.message.specs.Prefix.{parse}
use Rattle.message.proofs.Short.{unheard}
use Rattle.hearing.specs.declared.Pending.{Pending}
use Rattle.hearing.specs.declared.Action.{Action}
use Rattle.hearing.specs.declared.Action.TheVariants.{Ignore, Open, Add, Close, Drop}
use Rattle.hearing.specs.Hearing.{none, open_of, opening, continuing, action_of, perform, hear, before, heard_from}
use Rattle.std.specs.Prelude.{None, Option, Some}

-- what is heard by an action, and then
heard_by : Pending → List ℕ → Action → List Message
heard_by p ws a = before (perform p a).message (heard_from (perform p a).pending ws)

module _ (p : Pending) (e : p.len ≡ 0) where
  -- what a word does
  opens : (w : ℕ) → action_of p w ≡ opening (received w)
  unfolding action_of
  opens w = rw (eq-eqb p.len 0 e)

  alike : (ws : List ℕ) → heard_from p ws ≡ heard_from none ws → (r : Option ℕ) → heard_by p ws (opening r) ≡ heard_by none ws (opening r)
  unfolding heard_by opening perform
  alike ws h (Some c) = choice (λ (a : Action). heard_by p ws a ≡ heard_by none ws a) (is_letter c) (λ t. refl) (λ t. ap (λ (ms : List Message). before None ms) h)
  alike ws h None = ap (λ (ms : List Message). before None ms) h

none_opens : (w : ℕ) → action_of none w ≡ opening (received w)
unfolding none
none_opens w = opens none refl w

pub heard_closed : (p : Pending) → p.len ≡ 0 → (ws : List ℕ) → heard_from p ws ≡ heard_from none ws
unfolding heard_from hear heard_by
heard_closed p e [] = refl
heard_closed p e (w ∷ ws) =
    ap (heard_by p ws) (opens p e w)
    ∙ alike p e ws (heard_closed p e ws) (received w)
    ∙ ap (heard_by none ws) (sym (none_opens w))

-- a silence drops what is open
pub heard_silence : (p : Pending) (ws : List ℕ) → heard_from p (256 ∷ ws) ≡ heard_from none ws
unfolding heard_from hear action_of opening continuing received perform before
heard_silence p ws =
    by-test (eqb p.len 0)
    (λ t. rw t (heard_closed p (eqb-true p.len 0 t) ws))
    (λ t. rw t)

-- what was open is heard with the word that closes it, and nothing with any other
pub close_hears : (p : Pending) (w : ℕ) → action_of p w ≡ Close → (hear p w).message ≡ parse (open_of p)
unfolding hear perform
close_hears p w e = ap (λ (a : Action). (perform p a).message) e

performed : (p : Pending) (a : Action) (m : Message) → (perform p a).message ≡ Some m → a ≡ Close
unfolding perform
performed p Ignore m e = absurd (unheard e)
performed p (Open c) m e = absurd (unheard e)
performed p (Add c) m e = absurd (unheard e)
performed p Close m e = refl
performed p Drop m e = absurd (unheard e)

pub heard_close : (p : Pending) (w : ℕ) (m : Message) → (hear p w).message ≡ Some m → action_of p w ≡ Close
unfolding hear
heard_close p w m e = performed p (action_of p w) m e

pub heard_closes : (p : Pending) (w : ℕ) (m : Message) → (hear p w).message ≡ Some m → (hear p w).pending ≡ none
unfolding hear perform
heard_closes p w m e = ap (λ (a : Action). (perform p a).pending) (heard_close p w m e)
