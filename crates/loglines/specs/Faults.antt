-- The numbers by which this layer's refusals are answered, and what the faults say in words.
use Rattle.std.specs.Prelude.{ℕ, List, ◌++◌, codes}
use Rattle.loglines.specs.declared.fault.LogFault.{LogFault}
use Rattle.loglines.specs.declared.fault.LogFault.TheVariants.{Size, Form, Long}
use Rattle.loglines.specs.declared.fault.LogError.{LogError}
use Rattle.loglines.specs.declared.fault.LogError.TheVariants.{Refused, NoMemory}

-- two faults have one number
abbrev pub number_of : LogFault → ℕ
number_of Size = 1
number_of Form = 11
number_of Long = 11

-- the texts that faults and errors are shown by
abbrev pub fault_words : LogFault → List ℕ
fault_words Size = codes "a log opens a sheet of 2 to 11 units"
fault_words Form = codes "the line has no form in this state"
fault_words Long = codes "the log has more than 32,768 bytes"

abbrev pub error_words : LogError → List ℕ
error_words (Refused f) = codes "refused: " ++ fault_words f
error_words NoMemory = codes "no memory for the log"
