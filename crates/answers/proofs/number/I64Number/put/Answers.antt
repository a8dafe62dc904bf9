use Rattle.std.proofs.Common.{◌≡◌, length, nat_abs, ap, arith, rules}
use Rattle.answers.proofs.Placing.{appended_more}
use Rattle.answers.proofs.Lengths.{signed_below, signed_above, signed_short}
use Rattle.answers.proofs.number.I64Number.put.Goals as goal
use Rattle.answers.proofs.number.I64Number.put.Goals.{then-self-lt0, else-self-lt0}

pub put_decimal-requires : goal.put_decimal-requires
put_decimal-requires c =
    let abs : c.unsigned_abs.result ≡ nat_abs c.args.self = search rules in
    let short = signed_short c.args.self c.ranges.self.sfits in
    elim c.if-self-lt0.branch [
      | then-self-lt0 w ↦ omega (arith, ap length (signed_below c.args.self _ (search rules) abs), short, w.put_byte.ensures.placed.ends, ap (λ l. l.len) w.line-is)
      | else-self-lt0 w ↦ omega (arith, ap length (signed_above c.args.self _ (search rules) abs), short, ap (λ l. l.len) w.line-is)
    ]

pub returns : goal.returns
returns c =
    let abs : c.unsigned_abs.result ≡ nat_abs c.args.self = search rules in
    let short = signed_short c.args.self c.ranges.self.sfits in
    elim c.if-self-lt0.branch [
      | then-self-lt0 w ↦ let text = signed_below c.args.self _ (search rules) abs in
          let placed = appended_more w.put_byte.ensures (rw w.line-is at c.put_decimal.ensures) in
          record { placed = rw text placed; room = omega (arith, ap length text, short, placed.placed.ends) }
      | else-self-lt0 w ↦ let text = signed_above c.args.self _ (search rules) abs in
          let placed = rw w.line-is at c.put_decimal.ensures in
          record { placed = rw text placed; room = omega (arith, ap length text, short, placed.placed.ends) }
    ]
