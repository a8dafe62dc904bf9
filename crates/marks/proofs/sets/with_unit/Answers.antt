use Rattle.std.proofs.Common.{◌≡◌, ℕ, suc, ◌+◌, ◌-◌, ◌*◌, ◌/◌, ◌%◌, ◌^◌, ◌<◌, false, eqb, sym, ap, ◌∙◌, subst, arith}
use Rattle.std.proofs.lemmas.Nat.{one_shl}
use Rattle.rules.specs.Units.{has}
use Rattle.rules.proofs.Sets.{label_from, with_below}
use Rattle.marks.proofs.sets.with_unit.Goals as goal

-- the unit's bit is clear, so the set with it still fits
pub overflow_add-result : goal.overflow_add-result
overflow_add-result c =
    let A = c.args.set in
    let place : ℕ = c.args.unit - 1 in
    let back : suc place - 1 ≡ place = omega arith in
    let out : has A (suc place) ≡ false = ap (λ (k : ℕ). eqb ((A / 2 ^ k) % 2) 1) back ∙ sym c.if-has.ensures in
    let below : A + 2 ^ place < 2 ^ 32 =
    subst (λ (k : ℕ). A + 2 ^ k < 2 ^ 32) back (with_below 32 A (suc place) (label_from 32 (suc place) (omega arith) (omega arith)) (omega arith) out) in
    let bit : (1 * 2 ^ c.saturating_sub.result) % 2 ^ 32 ≡ 2 ^ place =
    one_shl c.saturating_sub.result 32 (omega arith) ∙ ap (λ (k : ℕ). 2 ^ k) c.saturating_sub.ensures in
    omega arith
