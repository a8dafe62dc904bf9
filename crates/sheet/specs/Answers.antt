-- What Rank, Score, Scale, Check and Improve answer on a sheet, and what they leave in the rows, tables and lists handed to
-- them. They leave the sheet as it is.
use Rattle.std.specs.Prelude.{◌≡◌, ℕ, ◌+◌, ◌-◌, ◌*◌, ◌/◌, List, map, take, ℤ, Result}
use Rattle.rules.specs.Sheets.{Contents}
use Rattle.rules.specs.Yardsticks.{Merit}
use Rattle.rules.specs.Moves.{Moves}
use Rattle.rules.specs.Calls.{Outcome, accepted, RankAnswer, rank_outcome, rank_totals_after, rank_counts_after, rank_row_after, score_outcome, ScaleAnswer, scale_outcome, scale_list_after, check_outcome, ImproveAnswer, improve_outcome, improve_row_after}
use Rattle.moves.specs.declared.improve.Improvement.{Improvement}
use Rattle.search.specs.Best.{Lent}
use Rattle.sheet.specs.declared.faults.AnswerFault.{AnswerFault}
use Rattle.sheet.specs.Faults.{answer_refusal, outcome_of}

module _ (s : Contents) where
  -- Rank, from what is lent to it to what that is after it
  pub record Ranks (y : Merit) (k : ℕ) (before : Lent (List ℤ)) (o : Outcome RankAnswer) (after : Lent (List ℤ)) : Type 0 where
    pub answer : o ≡ rank_outcome s y k before.totals before.counts before.row
    pub totals : after.totals ≡ rank_totals_after s y k before.totals before.counts before.row
    pub counts : after.counts ≡ rank_counts_after s y k before.totals before.counts before.row
    pub row : after.row ≡ rank_row_after s y k before.totals before.counts before.row

  -- Score
  pub record Scores (y : Merit) (row : List ℕ) (o : Outcome (List ℤ)) : Type 0 where
    pub answer : o ≡ score_outcome s y row

  -- Scale
  pub record Scales (row : List ℕ) (before : List ℤ) (o : Outcome ScaleAnswer) (after : List ℤ) : Type 0 where
    pub answer : o ≡ scale_outcome s row before
    pub list : after ≡ scale_list_after s row before

  -- Check: the two counts sum to n(n-1)(n-2)/3
  pub record Checks (row : List ℕ) (o : Outcome (ℕ × ℕ)) : Type 0 where
    pub answer : o ≡ check_outcome s row
    pub sum : (v : ℕ × ℕ) → o ≡ accepted v → v.0 + v.1 ≡ s.units * (s.units - 1) * (s.units - 2) / 3

  -- Improve
  pub record Improves (k : Moves) (y : Merit) (limit : ℕ) (before : List ℕ) (o : Outcome ImproveAnswer) (after : List ℕ) : Type 0 where
    pub answer : o ≡ improve_outcome s k y limit before
    pub row : after ≡ improve_row_after s k y limit before

-- what is lent to Rank, its totals as whole numbers
abbrev pub in_numbers : {T : Type 0} → (T → List ℤ) → Lent T → Lent (List ℤ)
in_numbers numbers l = record { totals = map numbers l.totals; counts = l.counts; row = l.row }

-- what Rank answers: the total and the count, and the order that it leaves in the row's first n places
abbrev pub rank_reply : {T : Type 0} → (T → List ℤ) → ℕ → List ℕ → Result (T × ℕ) AnswerFault → Outcome RankAnswer
rank_reply numbers n row r =
    outcome_of answer_refusal (λ v. record { total = numbers v.0; count = v.1; order = take n row }) r

-- what Score answers
abbrev pub score_reply : {T : Type 0} → (T → List ℤ) → Result T AnswerFault → Outcome (List ℤ)
score_reply numbers r = outcome_of answer_refusal numbers r

-- what Scale answers: the loss, and the displacements that it leaves in the list's first n places
abbrev pub scale_reply : ℕ → List ℤ → Result ℤ AnswerFault → Outcome ScaleAnswer
scale_reply n list r = outcome_of answer_refusal (λ l. record { displaced = take n list; loss = l }) r

-- what Check answers
abbrev pub check_reply : Result (ℕ × ℕ) AnswerFault → Outcome (ℕ × ℕ)
check_reply r = outcome_of answer_refusal (λ v. v) r

-- what Improve answers: the moves made, the total and settled, and the order that it leaves in the row's first n places
abbrev pub improve_reply : {T : Type 0} → (T → List ℤ) → ℕ → List ℕ → Result (Improvement T) AnswerFault → Outcome ImproveAnswer
improve_reply numbers n row r =
    outcome_of answer_refusal
    (λ v. record { made = v.made; total = numbers v.total; settled = v.settled; order = take n row }) r
