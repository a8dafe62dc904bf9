use Rattle.std.proofs.Common.{◌^◌, ◌<◌, sym, ◌∙◌, arith}
use Rattle.std.proofs.lemmas.Bool.{le-ltb}
use Rattle.marks.proofs.Bits.{past_bit}
use Rattle.marks.proofs.sets.has.Goals as goal

pub returns-else-place-lt32 : goal.returns-else-place-lt32
returns-else-place-lt32 c =
    let small : c.args.set < 2 ^ 32 = omega arith in
    le-ltb c.saturating_sub-place.result 32 c.if-place-lt32.false
    ∙ sym (past_bit c.args.set 32 c.args.unit small (omega arith))
