use Rattle.std.proofs.Common.{◌≡◌, ◌+◌, ◌<◌, ◌≤◌, eqb, ◌+ℤ◌, nat_abs, sym, ◌∙◌, arith, rules}
use Rattle.std.proofs.lemmas.Int.{ints}
use Rattle.rules.specs.Units.{has, displacement}
use Rattle.marks.specs.Cells.{added}
use Rattle.marks.specs.Numbers.{numbers_of}
use Rattle.marks.proofs.Displaced.{next, not_far, unmarked, row_added}
use Rattle.marks.proofs.Cells.{no_label}
use Rattle.marks.proofs.marks.Marks.displacement.Goals as goal

-- the displacement after one more label, and how far it can be
grown : (c : goal.After-term-sum) →
    (displacement (numbers_of c.args.self.now) (c.loop-i.i + 1) c.args.placed c.args.unit
    ≡ c.loop-i.sum +ℤ c.term-sum.result)
    × (nat_abs (c.loop-i.sum +ℤ c.term-sum.result) ≤ 200000)
grown c =
    let s = c.args.self.now in
    let p = numbers_of s in
    let A = c.args.placed in
    let j = c.args.unit in
    let i = c.loop-i.i in
    let l : c.loop-i.i < c.args.self.now.units.count = search rules in
    let t : c.term-sum.result ≡ added (p (i + 1) j) (eqb (i + 1) j) (has A (i + 1)) =
    c.term-sum.ensures ∙ row_added s.units.count s.cells s.symmetric A j (sym c.if-not-has_label.ensures) i l c.has.result c.has.ensures in
    let so_far = sym c.loop-i.sum-is ∙ c.loop-i.invariant in
    let e = next p A j i ∙ (λ k. sym so_far k +ℤ sym t k) in
    let f = not_far p A j s.low (i + 1) in
    (e, omega (arith, ints))

pub loop-i-preserved : goal.loop-i-preserved
loop-i-preserved c = let g = grown c in omega (arith, ints)

pub overflow_add-sum : goal.overflow_add-sum
overflow_add-sum c = let g = grown c in omega (arith, ints)

pub returns-then-not-has_label : goal.returns-then-not-has_label
returns-then-not-has_label c =
    let s = c.args.self.now in
    let none = no_label s.units.count s.cells c.args.unit (sym c.if-not-has_label.ensures) in
    sym (unmarked (numbers_of s) c.args.placed c.args.unit none s.units.count)
