-- What a fault is printed as.
use Rattle.std.specs.Prelude.{ℕ, List, codes}
use Rattle.search.specs.declared.best.SearchFault.{SearchFault}
use Rattle.search.specs.declared.best.SearchFault.TheVariants.{Units, Short, Circle, Number}

-- its name
abbrev pub fault_name : SearchFault → List ℕ
fault_name Units = codes "Units"
fault_name Short = codes "Short"
fault_name Circle = codes "Circle"
fault_name Number = codes "Number"
