use Rattle.std.proofs.Common.{length}
use Rattle.marks.proofs.rows.+all_keep.Given as goal

abbrev pub decreases-all_keep : goal.decreases-all_keep
decreases-all_keep l = length l.row.now
