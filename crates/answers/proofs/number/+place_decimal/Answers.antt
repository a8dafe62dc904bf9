use Rattle.std.proofs.Common.{◌≤◌, length, arith, rules}
use Rattle.std.proofs.lemmas.Fmt.{decimal_digit, decimal_step, decimal_nonempty}
use Rattle.answers.proofs.Placing.{placed_byte, placed_more}
use Rattle.answers.proofs.Lengths.{decimal_longer}
use Rattle.answers.proofs.number.+place_decimal.Goals as goal

pub bounds-buffer-at : goal.bounds-buffer-at
bounds-buffer-at t c = omega (arith, decimal_nonempty c.args.n c.ranges.n.fits)

pub place_decimal-end-requires : goal.place_decimal-end-requires
place_decimal-end-requires t c = let more = decimal_longer c.args.n c.if-n-lt10.false c.ranges.n.fits in (search rules, omega arith)

pub bounds-buffer-end : goal.bounds-buffer-end
bounds-buffer-end t c = omega (arith, decimal_longer c.args.n c.if-n-lt10.false c.ranges.n.fits, c.place_decimal-end.ensures.ends)

pub returns-then-n-lt10 : goal.returns-then-n-lt10
returns-then-n-lt10 t c =
    rw (decimal_digit c.args.n c.if-n-lt10.true) (placed_byte _ _ _ (omega (arith, decimal_nonempty c.args.n c.ranges.n.fits)))

pub returns-else-n-lt10 : goal.returns-else-n-lt10
returns-else-n-lt10 t c =
    let le : c.args.at ≤ length c.args.buffer.now = omega arith in
    let more = decimal_longer c.args.n c.if-n-lt10.false c.ranges.n.fits in
    rw (decimal_step c.args.n c.if-n-lt10.false c.ranges.n.fits)
    (placed_more le c.place_decimal-end.ensures (placed_byte _ _ _ (omega (arith, more, c.place_decimal-end.ensures.ends))))
