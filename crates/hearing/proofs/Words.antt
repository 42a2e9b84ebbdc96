-- One word taken, and the characters read: facts over plain variables, which the checks of the functions cite. Assumes nothing.
use mathlib.Core.Path.{◌≡◌, sym, ap, ◌∙◌}
use mathlib.Core.Bool.{Bool, true, false}
use Prim.Native.Nat.{ℕ, ◌≤◌}
use native.Mathlib.Nat.{min-le_right}
use native.Mathlib.Omega.{arith}
use lib.ListN.{length, take, length-take}
use Rattle.message.specs.declared.Prefix.TheVariants.{Start}
use Rattle.message.specs.declared.Message.{Message}
use Rattle.message.specs.Prefix.{parse}
use Rattle.message.specs.Position.{position}
use Rattle.message.proofs.Matched.{matched_most}
use Rattle.hearing.specs.declared.Pending.{Pending}
use Rattle.hearing.specs.declared.Action.{Action}
use Rattle.hearing.specs.Hearing.{most, none, open_of, action_of, hear, closes}
use Rattle.hearing.specs.Inner.{left_by}
use Rattle.hearing.proofs.Close.{left_closed, left_other, other_unheard, closing_hears}
use Rattle.std.specs.Prelude.{None, Option}

-- the place at which the open characters fail is at most ten
pub position_short : (p : Pending) → length p.chars ≡ most → position (open_of p) ≤ most
unfolding position open_of
position_short p e = omega (arith, matched_most Start (take p.len p.chars), length-take p.len p.chars, min-le_right p.len (length p.chars))

-- a word that does a
pub done : (p q : Pending) (w : ℕ) (a r : Action) (b : Bool) → r ≡ action_of p w → r ≡ a → closes a ≡ b → left_by p a ≡ q
    → (b ≡ closes (action_of p w)) × (q ≡ left_by p (action_of p w))
done p q w a r b h e c l =
    let i : a ≡ action_of p w = sym e ∙ h in
    (sym c ∙ ap closes i, sym l ∙ ap (left_by p) i)

-- a word that closes the open message, and any other
pub hears_closed : (p q n : Pending) (w : ℕ) (m : Option Message) (b : Bool) → b ≡ closes (action_of p w) → q ≡ left_by p (action_of p w) → b ≡ true
    → n ≡ none → m ≡ parse (open_of q) → record { pending = n; message = m } ≡ hear p w
hears_closed p q n w m b h e t i j =
    let c : closes (action_of p w) ≡ true = sym h ∙ t in
    (λ k. record { pending = i k; message = (j ∙ ap (λ (x : Pending). parse (open_of x)) (e ∙ left_closed p (action_of p w) c)) k }) ∙ sym (closing_hears p w c)

pub hears_other : (p q : Pending) (w : ℕ) (b : Bool) → b ≡ closes (action_of p w) → q ≡ left_by p (action_of p w) → b ≡ false → record { pending = q; message = None } ≡ hear p w
hears_other p q w b h e f =
    let c : closes (action_of p w) ≡ false = sym h ∙ f in
    λ k. record { pending = (e ∙ left_other p w c) k; message = sym (other_unheard p w c) k }
