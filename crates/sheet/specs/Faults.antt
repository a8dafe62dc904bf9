-- What the cases of the faults are among the rulebook's refusals, and what a call's result is among its outcomes.
use Rattle.std.specs.Prelude.{ℕ, List, ◌++◌, codes, Ok, Err, Result}
use Rattle.std.specs.Fmt.{decimal}
use Rattle.rules.specs.Calls.{Refusal, size, stranger, itself, mark, short, no_row, gap, circle, against, number, number_of, Outcome, accepted, refused}
use Rattle.sheet.specs.declared.faults.Label.{Label}
use Rattle.sheet.specs.declared.faults.Label.TheVariants.{First, Second}
use Rattle.sheet.specs.declared.faults.SheetFault.{SheetFault}
use Rattle.sheet.specs.declared.faults.SheetFault.TheVariants.{Size, Stranger, Itself, High}
use Rattle.sheet.specs.declared.faults.AnswerFault.{AnswerFault}
use Rattle.sheet.specs.declared.faults.AnswerFault.TheVariants.{Short, NoRow, Gap, Circle, Against, Number}

-- the number of an argument among the labels
abbrev pub label_number : Label → ℕ
label_number First = 1
label_number Second = 2

-- the refusal of opening or changing a sheet
abbrev pub sheet_refusal : SheetFault → Refusal
sheet_refusal Size = size
sheet_refusal (Stranger i) = stranger (label_number i)
sheet_refusal (Itself a b) = itself a b
sheet_refusal High = mark

-- the refusal of an answer
abbrev pub answer_refusal : AnswerFault → Refusal
answer_refusal Short = short
answer_refusal NoRow = no_row
answer_refusal (Gap a b) = gap a b
answer_refusal Circle = circle
answer_refusal Against = against
answer_refusal Number = number

-- what a refused change prints: the number
abbrev pub sheet_words : SheetFault → List ℕ
sheet_words f = codes "refused " ++ decimal (number_of (sheet_refusal f))

-- what a refused answer prints: the number, and the pair if it is a gap
abbrev pub answer_words : AnswerFault → List ℕ
answer_words (Gap a b) =
    codes "refused "
    ++ (decimal (number_of (gap a b)) ++ (codes ": the pair " ++ (decimal a ++ (codes ", " ++ (decimal b ++ codes " is a gap")))))
answer_words f = codes "refused " ++ decimal (number_of (answer_refusal f))

-- the outcome that a result stands for: `refusal` says which refusal a fault is, and `read` what an answer says
abbrev pub outcome_of : {X Y F : Type 0} → (F → Refusal) → (X → Y) → Result X F → Outcome Y
outcome_of refusal read (Ok x) = accepted (read x)
outcome_of refusal read (Err f) = refused (refusal f)

-- a change that says no more than that it is made
abbrev pub change_outcome : Result (Unit {0}) SheetFault → Outcome (Unit {0})
change_outcome r = outcome_of sheet_refusal (λ x. x) r
