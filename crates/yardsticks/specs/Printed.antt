-- What a gradient total prints.
use Rattle.std.specs.Prelude.{ℕ, List, ◌++◌, codes}
use Rattle.std.specs.Fmt.{signed_decimal}
use Rattle.yardsticks.specs.declared.gradient.Grades.{Grades}

-- the signs, a comma and the rises
abbrev pub written : Grades → List ℕ
written t = signed_decimal t.signs ++ (codes "," ++ signed_decimal t.rises)
