use Rattle.std.proofs.Common.{◌++◌, string_bytes, ap, ◌∙◌, take_all, append_assoc}
use Rattle.logreport.specs.Counts.{kinds}
use Rattle.logreport.specs.Reports.{totals}
use Rattle.logreport.proofs.Listing.{totals_more}
use Rattle.logreport.proofs.report.sum_up.Goals as goal

pub loop-kind-preserved : goal.loop-kind-preserved
loop-kind-preserved c =
    totals_more _ _ _ kinds _ _ _ _ c.loop-kind-test.true c.loop-kind.invariant c.count-n.ensures c.in_ok-writeln-2.ensures.bytes

pub returns : goal.returns
returns c =
    c.loop-kind.invariant
    ∙ ap (λ ks. string_bytes c.writeln.new.self ++ totals ks c.args.readings.now) (take_all _ kinds c.loop-kind-test.false)
    ∙ ap (λ t. t ++ totals kinds c.args.readings.now) c.in_ok-writeln.ensures.bytes ∙ simp append_assoc
