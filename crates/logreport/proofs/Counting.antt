-- Every line is counted once.
use Rattle.std.proofs.Common.{◌≡◌, ◌+◌, cond, eqb, List, [], ◌∷◌, refl, arith}
use Rattle.std.proofs.lemmas.List.Sums.{sum_by-cons}
use Rattle.loglines.specs.Readings.{Reading}
use Rattle.logreport.specs.declared.count.Kind.{Kind}
use Rattle.logreport.specs.declared.count.Kind.TheVariants.{Opening, Number, Gap, Tie, Untie, Ranking, Refusal}
use Rattle.logreport.specs.Counts.{kind_of, tag, count_of, EachOnce}

-- one line more
count_more : (k : Kind) (r : Reading) (rs : List Reading) → count_of k (r ∷ rs) ≡ cond (eqb (tag (kind_of r)) (tag k)) 1 0 + count_of k rs
count_more k r rs = sum_by-cons _ r rs

-- the seven kinds take a line once
taken_once : (k : Kind) → cond (eqb (tag k) 0) 1 0 + cond (eqb (tag k) 1) 1 0 + cond (eqb (tag k) 2) 1 0 + cond (eqb (tag k) 3) 1 0 + cond (eqb (tag k) 4) 1 0 + cond (eqb (tag k) 5) 1 0 + cond (eqb (tag k) 6) 1 0 ≡ 1
taken_once k = grind arith

pub each_once : EachOnce
each_once [] = refl
each_once (r ∷ rs) =
    let a = count_more Opening r rs in
    let b = count_more Number r rs in
    let c = count_more Gap r rs in
    let d = count_more Tie r rs in
    let e = count_more Untie r rs in
    let f = count_more Ranking r rs in
    let g = count_more Refusal r rs in
    omega (arith, each_once rs, taken_once (kind_of r))
