-- `reply::place_four` meets its contract: the digits of each stand behind those before. Assumes nothing.
use Prim.Native.Nat.{◌≤◌}
use native.Mathlib.Omega.{arith}
use lib.ListN.{length}
use Rattle.number.specs.Data.{spell_data, spell_all}
use Rattle.number.proofs.Digits.{data_length}
use Rattle.reply.proofs.Spelled.{stands_from, stands_nothing, stands_both}
use Rattle.reply.proofs.place_four.Goals as goal

pub returns : goal.returns
unfolding spell_all
returns c =
    let a = c.args in
    let p = c.place_number-second.ensures in
    let q = c.place_number-third.ensures in
    let r = c.place_number-fourth.ensures in
    let z = c.place_number.ensures in
    let o₁ = c.place_number-second.new.out in
    let o₂ = c.place_number-third.new.out in
    let o₃ = c.place_number-fourth.new.out in
    let h₁ : a.at ≤ length a.out.now = omega (arith, c.requires) in
    let h₂ : c.place_number-second.result ≤ length o₁ = omega (arith, c.requires, p.0, c.place_number-second.auto.out) in
    let h₃ : c.place_number-third.result ≤ length o₂ = omega (arith, c.requires, p.0, c.place_number-second.auto.out, q.0, c.place_number-third.auto.out) in
    let h₄ : c.place_number-fourth.result ≤ length o₃ = omega (arith, c.requires, p.0, c.place_number-second.auto.out, q.0, c.place_number-third.auto.out, r.0, c.place_number-fourth.auto.out) in
    let e₄ = stands_both h₄ (stands_from (spell_data a.d) o₃ (data_length a.d) z) (stands_nothing c.place_number.result c.place_number.new.out) in
    let e₃ = stands_both h₃ (stands_from (spell_data a.c) o₂ (data_length a.c) r) e₄ in
    let e₂ = stands_both h₂ (stands_from (spell_data a.b) o₁ (data_length a.b) q) e₃ in
    (omega (arith, p.0, q.0, r.0, z.0), (stands_both h₁ (stands_from (spell_data a.a) a.out.now (data_length a.a) p) e₂).leaves)
