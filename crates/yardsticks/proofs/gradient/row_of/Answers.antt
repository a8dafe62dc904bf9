use Rattle.std.proofs.Common.{◌<◌, ℕ, ◌≢◌, ◌∙◌, length, arith, get_or-set_other, get_or-set_same, below_more}
use Rattle.std.proofs.Math.ListN.{get_or-append}
use Rattle.std.proofs.lemmas.List.{length-take}
use Rattle.marks.proofs.Laws.{most}
use Rattle.yardsticks.proofs.gradient.row_of.Goals as goal

pub loop-k-preserved : goal.loop-k-preserved
loop-k-preserved c =
    below_more _ _ (λ k h. let ne : k ≢ c.loop-k.k = omega arith in rw get_or-set_other (c.loop-k.invariant k h))
    (let lt : c.loop-k.k < length c.loop-k.mark-items = omega arith in rw get_or-set_same c.mark.ensures)

pub returns : goal.returns
returns c = λ k h.
    let seen : k < c.loop-k.k = omega (arith, length-take {A = ℕ}, most c.args.marks.now) in
    get_or-append c.loop-k.mark-items _ 0 k (omega arith) ∙ c.loop-k.invariant k seen
