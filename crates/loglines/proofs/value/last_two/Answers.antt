use Rattle.loglines.proofs.Fronts.{telling, after_first}
use Rattle.loglines.proofs.value.last_two.Goals as goal

pub returns-in_err-last_value : goal.returns-in_err-last_value
returns-in_err-last_value g c =
    rw c.from_residual-in_err-last_value.ensures
    (λ p v e. c.in_err-last_value.ensures p.1 v.1
    (after_first (telling g.met.V.WordValue.word g.met.V.WordValue.same) _ _ _ c.in_ok-x.ensures p.0 _ v.0 e))
