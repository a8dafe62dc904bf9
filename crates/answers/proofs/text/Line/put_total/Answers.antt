use Rattle.std.proofs.Common.{append-nil, w64, rules}
use Rattle.std.proofs.lemmas.Int.{to_z-of_z}
use Rattle.answers.proofs.Placing.{appended_more}
use Rattle.answers.proofs.text.Line.put_total.Goals as goal

pub returns-in-Two-clause-placed : goal.returns-in-Two-clause-placed
returns-in-Two-clause-placed c =
    let y = rw (to_z-of_z w64 c.in-Two.y (search rules)) at c.put-in-Two.ensures.placed in
    let z = rw (to_z-of_z w64 c.in-Two.z (search rules)) at c.put-in-Two-2.ensures.placed in
    rw (c.in-Two.is, append-nil) (appended_more y (appended_more c.put_byte.ensures z))
