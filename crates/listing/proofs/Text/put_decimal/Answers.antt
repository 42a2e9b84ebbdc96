-- `listing::Text::put_decimal` meets its contract: there is room for the digits that are still to be put. Assumes nothing.
use Rattle.std.proofs.Common.{◌≡◌, ◌+◌, ◌≤◌, ℕ, List, length, drop, ◌++◌, ap, ◌∙◌, arith, length-drop}
use Rattle.listing.specs.Line.{decimal}
use Rattle.listing.specs.Inner.{longest_line}
use Rattle.listing.proofs.Decimals.{putting_starts, putting_room, putting_more, putting_ends}
use Rattle.listing.proofs.Text.put_decimal.Goals as goal

-- the text has twenty places before it
enough : (array text : List ℕ) (from : ℕ) → length array ≡ 35 → from ≤ longest_line → drop from array ≡ text → 20 + length text ≤ longest_line → 20 ≤ from
enough array text from l f e r = omega (arith, ap length e, length-drop from array, l)

pub loop-rest-init : goal.loop-rest-init
loop-rest-init c = putting_starts _ _ _

pub overflow_sub-from : goal.overflow_sub-from
overflow_sub-from c =
    (putting_room _ _ _ _ _ _ c.loop-rest.invariant (omega arith) (enough _ _ _ c.self.told c.self.invariant c.self.view_is c.requires) (omega (arith, c.self.told, c.self.invariant))).1

pub bounds-self-inside-from : goal.bounds-self-inside-from
bounds-self-inside-from c =
    let r = putting_room _ _ _ _ _ _ c.loop-rest.invariant (omega arith) (enough _ _ _ c.self.told c.self.invariant c.self.view_is c.requires) (omega (arith, c.self.told, c.self.invariant)) in
    omega (arith, r.1, r.2, c.loop-rest.invariant.long, c.self.told)

pub loop-rest-preserved : goal.loop-rest-preserved
loop-rest-preserved c =
    putting_more _ _ _ _ _ _ c.loop-rest.invariant (omega arith) (enough _ _ _ c.self.told c.self.invariant c.self.view_is c.requires) (omega (arith, c.self.told, c.self.invariant)) c.loop-rest-test.true

pub overflow_sub-from-2 : goal.overflow_sub-from-2
overflow_sub-from-2 c =
    (putting_room _ _ _ _ _ _ c.loop-rest.invariant (omega arith) (enough _ _ _ c.self.told c.self.invariant c.self.view_is c.requires) (omega (arith, c.self.told, c.self.invariant))).1

pub bounds-self-inside-from-2 : goal.bounds-self-inside-from-2
bounds-self-inside-from-2 c =
    let r = putting_room _ _ _ _ _ _ c.loop-rest.invariant (omega arith) (enough _ _ _ c.self.told c.self.invariant c.self.view_is c.requires) (omega (arith, c.self.told, c.self.invariant)) in
    omega (arith, r.1, r.2, c.loop-rest.invariant.long, c.self.told)

pub invariant_of-self : goal.invariant_of-self
invariant_of-self c =
    let r = putting_room _ _ _ _ _ _ c.loop-rest.invariant (omega arith) (enough _ _ _ c.self.told c.self.invariant c.self.view_is c.requires) (omega (arith, c.self.told, c.self.invariant)) in
    omega (arith, r.2, c.loop-rest.invariant.long, c.self.told)

pub returns : goal.returns
returns c =
    putting_ends _ _ _ _ _ _ c.loop-rest.invariant (omega arith) (enough _ _ _ c.self.told c.self.invariant c.self.view_is c.requires) (omega (arith, c.self.told, c.self.invariant)) (omega (arith, c.loop-rest-test.false))
    ∙ ap (λ (l : List ℕ). decimal c.args.n ++ l) c.self.view_is
