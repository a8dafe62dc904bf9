-- What each call answers and leaves, and which refusal it gives.
use Rattle.std.specs.Prelude.{ℕ, ◌-◌, ◌^◌, Bool, true, false, cond, not, ◌&&◌, ◌||◌, List, [], ◌∷◌, ◌++◌, map, length, take, drop, ℤ, ◌==◌, nat_le, nat_lt, slice_index_or}
use Rattle.rules.specs.Units.{label, labels}
use Rattle.rules.specs.Sheets.{Contents, new_contents, is_gap, numbers, pairs_in}
use Rattle.rules.specs.Yardsticks.{Merit}
use Rattle.rules.specs.Orders.{is_order, keeps, circular}
use Rattle.rules.specs.Ranking.{total, best, listed, total_cell, count_cell, filled}
use Rattle.rules.specs.Scaling.{displacements, loss}
use Rattle.rules.specs.Pattern.{kept, broken}
use Rattle.rules.specs.Moves.{Moves, improved, settled}

-- Why a call is refused. `stranger` says which of the two labels is at fault, `itself` and `gap` name the pair.
pub data Refusal : Type 0 where
  size : Refusal
  stranger : ℕ → Refusal
  itself : ℕ → ℕ → Refusal
  mark : Refusal
  short : Refusal
  no_row : Refusal
  gap : ℕ → ℕ → Refusal
  circle : Refusal
  against : Refusal
  number : Refusal
  line : Refusal

-- the number that a refusal goes by
abbrev pub number_of : Refusal → ℕ
number_of size = 1
number_of (stranger i) = 2
number_of (itself a b) = 3
number_of mark = 4
number_of short = 5
number_of no_row = 6
number_of (gap a b) = 7
number_of circle = 8
number_of against = 9
number_of number = 10
number_of line = 11

-- a call answers, or is refused
pub data Outcome (X : Type 0) : Type 0 where
  accepted : X → Outcome X
  refused : Refusal → Outcome X

-- a call is accepted
abbrev pub is_accepted : {X : Type 0} → Outcome X → Bool
is_accepted (accepted x) = true
is_accepted (refused r) = false

-- the first test that holds gives its refusal; where none holds, the call is accepted
abbrev pub decide : {X : Type 0} → List (Bool × Refusal) → X → Outcome X
decide [] x = accepted x
decide (t ∷ ts) x = cond t.0 (refused t.1) (decide ts x)

-- what a call leaves of a list handed to it: its first n places are those of the answer; a refusal leaves it as it was
abbrev pub written : {X Y : Type 0} → Outcome X → (X → List Y) → ℕ → List Y → List Y
written (accepted x) f n old = f x ++ drop n old
written (refused r) f n old = old

-- Open: a new sheet of 2 to 20 units
abbrev pub open_outcome : ℕ → Outcome Contents
open_outcome n = decide ((not (nat_le 2 n && nat_le n 20), size) ∷ []) (new_contents n)

-- the labels handed to Write, Blank, Tie or Untie are labels of a sheet of n units, and differ
abbrev pub pair_tests : ℕ → ℕ → ℕ → List (Bool × Refusal)
pair_tests n a b =
    (not (label n a), stranger 1) ∷ (not (label n b), stranger 2) ∷ ((a == b), itself a b) ∷ []

-- Write of the number d
abbrev pub write_outcome : ℕ → ℕ → ℕ → ℕ → Outcome (Unit {0})
write_outcome n a b d = decide (pair_tests n a b ++ ((nat_lt 10000 d, mark) ∷ [])) tt

-- Blank, Tie and Untie
abbrev pub pair_outcome : ℕ → ℕ → ℕ → Outcome (Unit {0})
pair_outcome n a b = decide (pair_tests n a b) tt

-- a pair is a gap
abbrev pub gap_test : Contents → ℕ × ℕ → Bool × Refusal
gap_test s q = (is_gap (s.mark q.0 q.1), gap q.0 q.1)

-- one test for each pair, by its lower and then its higher label
abbrev pub gap_tests : Contents → List (Bool × Refusal)
gap_tests s = map (gap_test s) (pairs_in (labels s.units))

-- Rank: the greatest total, how many orders reach it, and the k-th of those
pub record RankAnswer : Type 0 where
  pub total : List ℤ
  pub count : ℕ
  pub order : List ℕ

-- a table has fewer than 2^n cells, or the row fewer than n places
abbrev pub rank_short : Contents → List (List ℤ) → List ℕ → List ℕ → Bool
rank_short s totals counts row =
    nat_lt (length totals) (2 ^ s.units) || (nat_lt (length counts) (2 ^ s.units) || nat_lt (length row) s.units)

-- what is tested before the tables are filled
abbrev pub rank_tests : Contents → List (List ℤ) → List ℕ → List ℕ → List (Bool × Refusal)
rank_tests s totals counts row =
    (rank_short s totals counts row, short) ∷ (gap_tests s ++ ((circular s.tied s.units, circle) ∷ []))

-- the tie-keeping orders of greatest total, in label order
abbrev pub rank_listed : Contents → Merit → List (List ℕ)
rank_listed s y = listed y (numbers s) s.tied s.units 0

-- the greatest total, the count, and the k-th order
abbrev pub rank_answer : Contents → Merit → ℕ → RankAnswer
rank_answer s y k = record {
  total = best y (numbers s) s.tied s.units 0;
  count = length (rank_listed s y);
  order = slice_index_or (rank_listed s y) (k - 1) [];
}

-- k is 0 or above the count
abbrev pub number_test : Contents → Merit → ℕ → Bool × Refusal
number_test s y k = (k == 0 || nat_lt (length (rank_listed s y)) k, number)

module _ (s : Contents) (y : Merit) (k : ℕ) (totals : List (List ℤ)) (counts row : List ℕ) where
  -- what Rank answers
  abbrev pub rank_outcome : Outcome RankAnswer
  rank_outcome = decide (rank_tests s totals counts row ++ (number_test s y k ∷ [])) (rank_answer s y k)

  -- the tables are filled by an accepted call, and by one whose number alone is refused
  abbrev pub rank_fills : Bool
  rank_fills = is_accepted (decide (rank_tests s totals counts row) (tt {0}))

  -- the table of totals after it, cells past 2^n as they were
  abbrev pub rank_totals_after : List (List ℤ)
  rank_totals_after =
      cond rank_fills (filled (total_cell y (numbers s) s.tied s.units) (2 ^ s.units) totals) totals

  -- the table of counts after it, likewise
  abbrev pub rank_counts_after : List ℕ
  rank_counts_after =
      cond rank_fills (filled (count_cell y (numbers s) s.tied s.units) (2 ^ s.units) counts) counts

  -- the row after it
  abbrev pub rank_row_after : List ℕ
  rank_row_after = written rank_outcome (λ r. r.order) s.units row

-- the row is long enough, its first n places are an order, and no pair is a gap
abbrev pub row_tests : Contents → List ℕ → List (Bool × Refusal)
row_tests s row =
    (nat_lt (length row) s.units, short)
    ∷ (not (is_order s.units (take s.units row)), no_row)
    ∷ gap_tests s

-- the order breaks a tie
abbrev pub against_test : Contents → List ℕ → Bool × Refusal
against_test s row = (not (keeps s.tied (take s.units row)), against)

-- Score: the total of an order
abbrev pub score_outcome : Contents → Merit → List ℕ → Outcome (List ℤ)
score_outcome s y row =
    decide (row_tests s row ++ (against_test s row ∷ [])) (total y (numbers s) s.units 0 (take s.units row))

-- Scale: the displacements in row order, which it puts into its list, and the loss in n-ths
pub record ScaleAnswer : Type 0 where
  pub displaced : List ℤ
  pub loss : ℤ

-- of the order in the row's first n places
abbrev pub scale_answer : Contents → List ℕ → ScaleAnswer
scale_answer s row = record {
  displaced = displacements (numbers s) s.units 0 (take s.units row);
  loss = loss (numbers s) s.units (take s.units row);
}

-- what Scale answers
abbrev pub scale_outcome : Contents → List ℕ → List ℤ → Outcome ScaleAnswer
scale_outcome s row list = decide ((nat_lt (length list) s.units, short) ∷ row_tests s row) (scale_answer s row)

-- the list after it
abbrev pub scale_list_after : Contents → List ℕ → List ℤ → List ℤ
scale_list_after s row list = written (scale_outcome s row list) (λ r. r.displaced) s.units list

-- Check: the comparisons kept and broken
abbrev pub check_outcome : Contents → List ℕ → Outcome (ℕ × ℕ)
check_outcome s row =
    decide (row_tests s row) (kept (numbers s) (take s.units row), broken (numbers s) (take s.units row))

-- Improve: the moves made, the total reached and whether it is settled; and the order that it leaves in its row
pub record ImproveAnswer : Type 0 where
  pub made : ℕ
  pub total : List ℤ
  pub settled : Bool
  pub order : List ℕ

-- from the order in the row's first n places
abbrev pub improve_answer : Contents → Moves → Merit → ℕ → List ℕ → ImproveAnswer
improve_answer s k y limit row =
    let done = improved k y (numbers s) s.tied s.units limit (take s.units row) in
    record {
      made = done.made;
      total = total y (numbers s) s.units 0 done.row;
      settled = settled k y (numbers s) s.tied s.units done.row;
      order = done.row;
    }

-- what Improve answers
abbrev pub improve_outcome : Contents → Moves → Merit → ℕ → List ℕ → Outcome ImproveAnswer
improve_outcome s k y limit row =
    decide (row_tests s row ++ (against_test s row ∷ [])) (improve_answer s k y limit row)

-- the row after it
abbrev pub improve_row_after : Contents → Moves → Merit → ℕ → List ℕ → List ℕ
improve_row_after s k y limit row = written (improve_outcome s k y limit row) (λ r. r.order) s.units row
