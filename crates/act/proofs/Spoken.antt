-- Whose an answer is: what a card says to a message has the message's letter and address, which are the card's own.
-- Assumes nothing.
use mathlib.Core.Path.{◌≡◌, sym, ap, ◌∙◌}
use mathlib.Core.List.{List}
use Prim.Native.Nat.{ℕ}
use lib.Dec.{eqb}
use lib.IntN.{ℤ}
use Rattle.refusal.specs.Refusal.{Outcome, refused, gave}
use Rattle.refusal.specs.Check.{first, decided}
use Rattle.refusal.proofs.Logic.{choice, by-test}
use Rattle.message.specs.declared.Body.{Body}
use Rattle.message.specs.declared.Body.TheVariants as body
use Rattle.message.specs.declared.Message.{Message}
use Rattle.sheet.specs.declared.Row.{Row}
use Rattle.reply.specs.declared.Mark.{Mark}
use Rattle.reply.specs.declared.Mark.TheVariants.{Declined}
use Rattle.reply.specs.declared.Content.{Content}
use Rattle.reply.specs.declared.Answer.{Answer}
use Rattle.reply.specs.Reply.{scan_identifier}
use Rattle.act.specs.declared.Setup.{Setup}
use Rattle.act.specs.declared.Effect.{Effect}
use Rattle.act.specs.declared.causes.Cause.TheVariants.{NotForThisCard, NoOffer}
use Rattle.act.specs.Cause.{cause_code, is_for}
use Rattle.act.specs.Act.{no_effect, says, accepts, offers, granted, turned_down, respond, act}
use Rattle.act.proofs.OnOffer.{for_parts, act_neighbour}
use Rattle.std.proofs.lemmas.Option.{none-some}
use Rattle.std.specs.Prelude.{None, Option, Some}
use Rattle.act.specs.declared.Offer.{Offer}

pub silence : {a : Answer} → None ≡ Some a → ⊥
silence e = none-some _ e

module _ (m : Message) where
  -- an answer that is said has the message's letter and address
  abbrev Speaks : Effect → Type 0
  Speaks x = (a : Answer) → x.said ≡ Some a → (a.letter ≡ m.letter) × (a.address ≡ m.address)

  quiet : (o : Option Offer) → Speaks (no_effect o)
  quiet o a e = absurd (silence e)

  speaks_says : (k : Mark) (x : Content) → Speaks (says m k x)
  unfolding says
  speaks_says k x a e = (cc, cc)

  speaks_accepts : (z : ℤ) (d : ℕ) → Speaks (accepts m z d)
  unfolding accepts
  speaks_accepts z d a e = (cc, cc)

  speaks_offers : (r : Row) (n : ℤ) → Speaks (offers m r n)
  unfolding offers
  speaks_offers r n a e = (cc, cc)

  speaks_granted : (r : Row) (o : Option Offer) (v : ℤ) (b : Body) → Speaks (granted m r o v b)
  unfolding granted
  speaks_granted r o v body.Status = speaks_says _ _
  speaks_granted r o v body.Query = speaks_says _ _
  speaks_granted r o v body.Up = speaks_accepts _ _
  speaks_granted r o v body.Down = speaks_accepts _ _
  speaks_granted r o v (body.Set x) = speaks_offers r x.number
  speaks_granted r o v body.Store = speaks_accepts _ _

  speaks_down : (o : Option Offer) (x : Content) (n : ℕ) → Speaks (turned_down o m x n)
  unfolding turned_down
  speaks_down o x n = choice Speaks (eqb n (cause_code NotForThisCard)) (λ t. quiet o) (λ t. choice Speaks (eqb n (cause_code NoOffer)) (λ u. quiet None) (λ u. speaks_says Declined x))

  speaks_decided : (o : Option Offer) (x : Content) (y : Effect) (r : Outcome (Unit {0})) → Speaks y → Speaks (decided r (turned_down o m x) y)
  speaks_decided o x y (refused n) p = speaks_down o x n
  speaks_decided o x y (gave u) p = p

  module _ (bench maker : List ℤ) (c : Setup) (o : Option Offer) (values : List ℤ) where
    speaks_act : Speaks (act bench maker c o values m)
    unfolding act respond
    speaks_act = speaks_decided o _ _ (first _) (choice Speaks (eqb m.identifier scan_identifier) (λ t. speaks_says _ _) (λ t. speaks_granted _ o _ m.body))

    -- and the card's own: to any other message it says nothing
    pub act_speaks : (a : Answer) → (act bench maker c o values m).said ≡ Some a → (a.letter ≡ c.letter) × (a.address ≡ c.address)
    act_speaks a e =
        let p = speaks_act a e in
        by-test (is_for c m)
        (λ t. let q = for_parts m c t in (p.0 ∙ q.0, p.1 ∙ q.1))
        (λ t. absurd (silence (sym (ap (λ (x : Effect). x.said) (act_neighbour bench maker m c o values t)) ∙ e)))
