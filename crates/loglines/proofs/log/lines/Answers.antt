use Rattle.std.proofs.Common.{is_ok, sym, ap, ◌∙◌, subst}
use Rattle.std.proofs.ResultArms.{chosen}
use Rattle.std.proofs.lemmas.List.{map-append}
use Rattle.loglines.specs.Lines.{texts}
use Rattle.loglines.proofs.Feeds.{Sofar, one_more}
use Rattle.loglines.proofs.log.lines.Goals as goal

pub loop-line-preserved : goal.loop-line-preserved
loop-line-preserved c =
    let pushed = chosen _ _ _ _ c.push.ensures.items (ap is_ok c.in_ok-push.was) in
    subst (λ l. Sofar c.args.input.now l c.in-Some.tail.now) (sym (ap texts pushed ∙ map-append _ _ _))
    (one_more _ _ _ _ _ c.loop-line.invariant c.in-Some.ensures)
