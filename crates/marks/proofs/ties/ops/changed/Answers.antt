use Rattle.std.proofs.Common.{◌≡◌, ◌-◌, ◌^◌, Bool, false, not, sym, ap, ◌∙◌, inl, inr, arith}
use mathlib.Core.Bool.{beq}
use lib.Bits.{xor_lt}
use Rattle.std.proofs.lemmas.Nat.{pow_below}
use Rattle.std.proofs.lemmas.Bool.{cases_eq, eq-eqb, ne_eqb}
use Rattle.rules.proofs.Sets.{label_low}
use Rattle.marks.proofs.Bits.{turned_own, turned_other}
use Rattle.marks.proofs.ties.ops.changed.Goals as goal

-- what is not the same is the other
other : (a b : Bool) → beq a b ≡ false → not a ≡ b
other a b e = grind arith

pub returns-else-has-stands : goal.returns-else-has-stands
returns-else-has-stands c =
    let A = c.args.set in
    let j = c.args.unit in
    let low = label_low 20 j c.requires in
    record {
      units = λ x k. rw c.bit.ensures (elim (cases_eq j x) [
        | inl e ↦ rw (eq-eqb j x e, ← e) (turned_own A j ∙ ap not (sym c.has.ensures) ∙ other _ _ c.if-has-stands.false)
        | inr ne ↦ rw (ne_eqb j x ne) (turned_other A j x low k ne)
      ]);
      within = λ n k l. rw c.bit.ensures (xor_lt n A (2 ^ (j - 1)) l (pow_below (j - 1) n (omega arith)));
    }
