use Rattle.std.proofs.Common.{◌≡◌, true, false, cond, get_or, replicate, refl}
use Rattle.rules.specs.declared.Mark.TheVariants.{Gap}
use Rattle.marks.specs.Cells.{pair}
use Rattle.cells.specs.Places.{place}
use Rattle.cells.proofs.Places.{all_same}
use Rattle.cells.proofs.triangle.Triangle.new.Goals as goal

pub returns : goal.returns
returns c = λ a b. elim (pair 20 a b) as (λ t. cond t (get_or (replicate 190 Gap) (place a b) Gap) Gap ≡ Gap) [
  | true ↦ all_same 190 (place a b) Gap
  | false ↦ refl
]
