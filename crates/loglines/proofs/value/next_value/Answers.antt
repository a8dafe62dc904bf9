use Rattle.loglines.proofs.Fronts.{telling, front_other}
use Rattle.loglines.proofs.value.next_value.Goals as goal

pub returns-in_err-from_token : goal.returns-in_err-from_token
returns-in_err-from_token g c =
    rw c.from_residual-in_err-from_token.ensures
    (front_other (telling g.met.V.WordValue.word g.met.V.WordValue.same) _ _ _ c.in_ok-token.ensures c.in_err-from_token.ensures)
