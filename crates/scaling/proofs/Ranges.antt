-- A chain over a range from 1 on gives labels.
use Rattle.std.proofs.Common.{◌≡◌, ℕ, zero, suc, ◌+◌, ◌-◌, Bool, true, false, [], ◌∷◌, ◌++◌, map, sym, refl, ap, ◌∙◌, subst, subst₂, add-one, arith}
use mathlib.Core.List.{map-id}
use Rattle.std.specs.declared.ops.Range.{Range}
use Rattle.std.specs.declared.ops.RangeInclusive.{RangeInclusive}
use Rattle.std.specs.List.{range_with_len}
use Rattle.std.specs.Range.{range_inclusive_start, range_inclusive_end, range_inclusive_exhausted, range_inclusive_len}
use Rattle.std.specs.Iterator.{AlwaysYields}
use Rattle.std.proofs.iter.Yields.{nat_range_steps}
use Rattle.std.proofs.iter.runs.Sources.{nat_range_inclusive_steps}
use Rattle.std.proofs.lemmas.Iterator.{YieldsList, YieldsList-from_range}
use Rattle.std.proofs.lemmas.List.FromFn.{map-range_with_len_more}
use Rattle.rules.specs.Units.{labels}

-- the labels 1 to n
labels_are : (n : ℕ) → range_with_len 1 n ≡ labels n
labels_are zero = refl
labels_are (suc n) =
    sym (map-id (range_with_len 1 (suc n))) ∙ ap (λ k. map (λ x. x) (range_with_len 1 k)) (sym (add-one n))
    ∙ map-range_with_len_more (λ x. x) 1 n (suc n) (omega arith)
    ∙ ap (λ xs. xs ++ (suc n ∷ [])) (map-id (range_with_len 1 n) ∙ labels_are n)

-- of `1..b`
pub from_range : {s : Range ℕ} (b : ℕ) → s ≡ record { start = 1; end = b } → YieldsList nat_range_steps (λ x. x) s (labels (b - 1))
from_range {s} b e = subst (λ ys. YieldsList nat_range_steps (λ x. x) s ys) (labels_are (b - 1)) (YieldsList-from_range 1 b (b - 1) e refl)

abbrev span : RangeInclusive ℕ → ℕ
span s = range_inclusive_len (λ x y. y - x) (range_inclusive_start s) (range_inclusive_end s) (range_inclusive_exhausted s)

inclusive : (n a : ℕ) (s : RangeInclusive ℕ) → (range_inclusive_exhausted s ≡ false → range_inclusive_start s ≡ a) → span s ≡ n
    → AlwaysYields nat_range_inclusive_steps (λ x. x) s (range_with_len a n)
inclusive zero a s at long = λ x t step. omega (arith, step.1.1, long)
inclusive (suc n) a s at long = (
  (λ t step. omega (arith, step.1.0, long)),
  λ x t step. (
    step.1.0 ∙ at (left (range_inclusive_exhausted s) refl),
    inclusive n (a + 1) t (λ e. step.1.2 e ∙ ap (λ k. k + 1) (at (left (range_inclusive_exhausted s) refl))) (omega (arith, step.1.1, long)),
  ),
)
  where
    left : (b : Bool) → range_inclusive_exhausted s ≡ b → range_inclusive_exhausted s ≡ false
    left false e = e
    left true e =
        let z : span s ≡ 0 = ap (range_inclusive_len (λ x y. y - x) (range_inclusive_start s) (range_inclusive_end s)) e in
        absurd (omega (arith, z, long))

-- of `1..=n`
pub from_inclusive : {s r : RangeInclusive ℕ} (n : ℕ) → s ≡ r → range_inclusive_exhausted r ≡ false → range_inclusive_start r ≡ 1 → range_inclusive_end r ≡ n
    → YieldsList nat_range_inclusive_steps (λ x. x) s (labels n)
from_inclusive {s} {r} n is w a e =
    let long : span r ≡ n = ap (range_inclusive_len (λ x y. y - x) (range_inclusive_start r) (range_inclusive_end r)) w ∙ omega (arith, a, e) in
    subst₂ (λ q ys. YieldsList nat_range_inclusive_steps (λ x. x) q ys) (sym is) (labels_are n) (record { runs = inclusive n 1 r (λ _. a) long })
