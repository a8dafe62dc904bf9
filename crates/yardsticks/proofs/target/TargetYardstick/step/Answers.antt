use Rattle.std.proofs.Common.{◌≡◌, ℕ, ◌≤◌, [], ◌∷◌, get_or, ℤ, pos, ◌*ℤ◌, nat_abs, ap, ◌∙◌, arith, w64, SFits, to_z, of_z}
use Rattle.std.proofs.lemmas.Int.{ints, to_z-of_z}
use Rattle.rules.specs.Units.{displacement, size}
use Rattle.rules.specs.Yardsticks.{places}
use Rattle.marks.specs.Numbers.{units_of, numbers_of}
use Rattle.yardsticks.proofs.Steps.{size_low, ones_size, product_low}
use Rattle.yardsticks.proofs.target.TargetYardstick.step.Goals as goal

pub place-requires : goal.place-requires
place-requires c =
    let m = c.args.marks.now in
    omega (arith, ones_size (units_of m) c.args.placed c.requires.0, size_low m c.args.placed c.args.unit c.requires.0 c.requires.1.0 c.requires.1.1)

-- the two factors
factors : (c : goal.After-from) → to_z w64 (of_z w64 c.displacement.result) *ℤ to_z w64 (of_z w64 c.from.result)
    ≡ displacement (numbers_of c.args.marks.now) (units_of c.args.marks.now) c.args.placed c.args.unit
    *ℤ pos (get_or places (size (units_of c.args.marks.now) c.args.placed) 0)
factors c =
    let m = c.args.marks.now in
    let d : to_z w64 (of_z w64 c.displacement.result) ≡ displacement (numbers_of m) (units_of m) c.args.placed c.args.unit = omega (arith, ints) in
    let q : c.place.result ≡ get_or places (size (units_of m) c.args.placed) 0 =
    c.place.ensures.table ∙ ap (λ (k : ℕ). get_or places k 0) (ones_size (units_of m) c.args.placed c.requires.0) in
    let f : to_z w64 (of_z w64 c.from.result) ≡ pos (get_or places (size (units_of m) c.args.placed) 0) = omega (arith, ints) in
    λ i. d i *ℤ f i

fits_low : (z : ℤ) → nat_abs z ≤ 3610000 → SFits w64 z
fits_low z h = omega (arith, ints)

fits : (c : goal.After-from) → SFits w64 (to_z w64 (of_z w64 c.displacement.result) *ℤ to_z w64 (of_z w64 c.from.result))
fits c =
    let e = factors c in
    fits_low _ (rw e (product_low c.args.marks.now c.args.placed c.args.unit c.requires.0 c.requires.1.0 c.requires.1.1))

pub overflow_mul-result : goal.overflow_mul-result
overflow_mul-result c = fits c

pub returns : goal.returns
returns c = ap (λ (x : ℤ). x ∷ []) (to_z-of_z w64 _ (fits c) ∙ factors c)
