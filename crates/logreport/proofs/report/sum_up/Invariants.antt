use Rattle.std.proofs.Common.{◌≡◌, ◌++◌, take, string_bytes}
use Rattle.logreport.specs.Counts.{kinds}
use Rattle.logreport.specs.Reports.{totals}
use Rattle.logreport.proofs.report.sum_up.Given as goal

abbrev pub invariant-loop-kind : goal.invariant-loop-kind
invariant-loop-kind l = string_bytes l.out ≡ string_bytes l.initial.out ++ totals (take l.kind-index kinds) l.readings
