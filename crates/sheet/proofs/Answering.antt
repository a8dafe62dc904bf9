-- What Score, Scale, Check and Improve answer and leave, from what is found on the marks as numbers.
use Rattle.std.proofs.Common.{◌≡◌, ℕ, suc, ◌+◌, ◌-◌, ◌*◌, ◌/◌, Bool, true, false, cond, not, eqb, ltb, List, [], ◌∷◌, ◌++◌, length, take, drop, ℤ, Some, None, sym, refl, ap, ◌∙◌, subst, arith}
use lib.Seq.{take-append_seam}
use Rattle.std.proofs.lemmas.Bool.{eqb-true, eq-eqb, and_parts, not-false}
use Rattle.rules.specs.Units.{with_unit}
use Rattle.rules.specs.Sheets.{Contents, numbers}
use Rattle.rules.specs.Yardsticks.{Merit}
use Rattle.rules.specs.Orders.{is_order, keeps}
use Rattle.rules.specs.Ranking.{total}
use Rattle.rules.specs.Scaling.{displacements, loss}
use Rattle.rules.specs.Pattern.{kept, broken}
use Rattle.rules.specs.Moves.{Moves, Improved, improved, settled}
use Rattle.rules.specs.Calls.{Refusal, accepted, refused, is_accepted, short, against, decide, written, row_tests, against_test, ScaleAnswer, scale_answer, scale_outcome, ImproveAnswer, improve_answer, improve_outcome}
use Rattle.rules.proofs.Deciding.{decide_past, decide_stop, refused_any, accepted_any, none_holds}
use Rattle.marks.specs.declared.marks.Marks.{Marks}
use Rattle.marks.specs.Numbers.{units_of, numbers_of}
use Rattle.marks.specs.Tied.{tied_of, first_of}
use Rattle.yardsticks.specs.Totals.{order_of, total_of}
use Rattle.scaling.specs.Scaled.{Scaled}
use Rattle.scaling.specs.Compared.{Compared}
use Rattle.moves.specs.declared.improve.MoveFault.{MoveFault}
use Rattle.moves.specs.declared.improve.MoveFault.TheVariants.{Against}
use Rattle.moves.specs.declared.improve.Improvement.{Improvement}
use Rattle.moves.specs.Improving.{first_fault, fault, Answered}
use Rattle.sheet.specs.declared.sheet.Sheet.{Sheet}
use Rattle.sheet.specs.Faults.{answer_refusal}
use Rattle.sheet.specs.Raised.{improving}
use Rattle.sheet.specs.Contents.{contents}
use Rattle.sheet.specs.Measured.{MarksOf}
use Rattle.sheet.specs.Answers.{Scales, Checks, Improves}
use Rattle.sheet.proofs.Measuring.{same_numbers}

-- the tests of a row, then that of the ties
module _ {X : Type 0} (s : Contents) (row : List ℕ) (x : X) where
  pub row_stop : (r : Refusal) → decide (row_tests s row) (tt {0}) ≡ refused r → refused r ≡ decide (row_tests s row ++ (against_test s row ∷ [])) x
  row_stop r e = sym (decide_stop (row_tests s row) (against_test s row ∷ []) x r e)

  module _ (e : decide (row_tests s row) (tt {0}) ≡ accepted tt) where
    ties_next : decide (row_tests s row ++ (against_test s row ∷ [])) x ≡ cond (not (keeps s.tied (take s.units row))) (refused against) (accepted x)
    ties_next = decide_past (row_tests s row) (against_test s row ∷ []) x e

    pub ties_broken : keeps s.tied (take s.units row) ≡ false → refused against ≡ decide (row_tests s row ++ (against_test s row ∷ [])) x
    ties_broken h = sym (ties_next ∙ ap (λ b. cond (not b) (refused against) (accepted x)) h)

    pub ties_kept : keeps s.tied (take s.units row) ≡ true → accepted x ≡ decide (row_tests s row ++ (against_test s row ∷ [])) x
    ties_kept h = sym (ties_next ∙ ap (λ b. cond (not b) (refused against) (accepted x)) h)

-- the test of the ties of a sheet, as the code makes it
pub keeps_same : (s : Sheet) (row : List ℕ) → keeps (tied_of s.ties) (first_of s.ties row) ≡ keeps (contents s).tied (take s.units.count row)
keeps_same s row = ap (λ (n : ℕ). keeps (tied_of s.ties) (take n row)) s.same

-- the total on the marks as numbers
pub total_same : (y : Merit) (s : Sheet) (m : Marks) → MarksOf s m → (row : List ℕ)
    → total_of y m (order_of m row) ≡ total y (numbers (contents s)) s.units.count 0 (take s.units.count row)
total_same y s m of row = λ i. total y (same_numbers s m of i) (of.size i) 0 (take (of.size i) row)

-- what is written at the start of a list is read there again
pub front : {X : Type 0} (n : ℕ) (xs ys : List X) → length xs ≡ n → take n (xs ++ ys) ≡ xs
front n xs ys e = ap (λ (k : ℕ). take k (xs ++ ys)) (sym e) ∙ take-append_seam xs ys

displaced_length : (p : ℕ → ℕ → ℕ) (n A : ℕ) (o : List ℕ) → length (displacements p n A o) ≡ length o
displaced_length p n A [] = refl
displaced_length p n A (j ∷ o) = ap suc (displaced_length p n (with_unit A j) o)

-- Scale
module _ (s : Contents) (row : List ℕ) (list : List ℤ) where
  abbrev tests : List (Bool × Refusal)
  tests = (ltb (length list) s.units, short) ∷ row_tests s row

  pub scale_refused : (r : Refusal) → decide tests (tt {0}) ≡ refused r → Scales s row list (refused r) list
  scale_refused r e = record { answer = answer; list = ap (λ o. written o (λ (v : ScaleAnswer). v.displaced) s.units list) answer }
    where
      answer : refused r ≡ scale_outcome s row list
      answer = sym (refused_any tests (scale_answer s row) r e)

  pub list_next : ltb (length list) s.units ≡ false → decide tests (tt {0}) ≡ decide (row_tests s row) (tt {0})
  list_next e = ap (λ b. cond b (refused short) (decide (row_tests s row) (tt {0}))) e

  pub scale_done : (l : ℤ) (end : List ℤ) → decide tests (tt {0}) ≡ accepted tt → length (take s.units row) ≡ s.units
      → l ≡ loss (numbers s) s.units (take s.units row)
      → end ≡ displacements (numbers s) s.units 0 (take s.units row) ++ drop s.units list
      → Scales s row list (accepted (record { displaced = take s.units end; loss = l })) end
  scale_done l end e whole losses ds = record {
    answer = (λ i. accepted (record { displaced = first i; loss = losses i })) ∙ answer;
    list = ds ∙ ap (λ o. written o (λ (v : ScaleAnswer). v.displaced) s.units list) answer;
  }
    where
      answer : accepted (scale_answer s row) ≡ scale_outcome s row list
      answer = sym (accepted_any tests (scale_answer s row) e)

      first : take s.units end ≡ displacements (numbers s) s.units 0 (take s.units row)
      first = ap (take s.units) ds ∙ front s.units (displacements (numbers s) s.units 0 (take s.units row)) (drop s.units list)
          (displaced_length (numbers s) s.units 0 (take s.units row) ∙ whole)

-- Check
module _ (s : Contents) (row : List ℕ) where
  pub check_refused : (r : Refusal) → decide (row_tests s row) (tt {0}) ≡ refused r → Checks s row (refused r)
  check_refused r e = record {
    answer = sym (refused_any (row_tests s row) (kept (numbers s) (take s.units row), broken (numbers s) (take s.units row)) r e);
    sum = λ v q. absurd (let z : ◌≡◌ {A = ℕ} 0 1 = cc in omega arith);
  }

  pub check_done : (v : ℕ × ℕ) → decide (row_tests s row) (tt {0}) ≡ accepted tt → v ≡ (kept (numbers s) (take s.units row), broken (numbers s) (take s.units row))
      → v.0 + v.1 ≡ s.units * (s.units - 1) * (s.units - 2) / 3 → Checks s row (accepted v)
  check_done v e counts all = record {
    answer = ap accepted counts ∙ sym (accepted_any (row_tests s row) (kept (numbers s) (take s.units row), broken (numbers s) (take s.units row)) e);
    sum = λ w q. let z : v ≡ w = cc in subst (λ (u : ℕ × ℕ). u.0 + u.1 ≡ s.units * (s.units - 1) * (s.units - 2) / 3) z all;
  }

-- Improve
module _ (s : Contents) (k : Moves) (y : Merit) (limit : ℕ) (row : List ℕ) where
  pub improve_refused : (r : Refusal) → refused r ≡ improve_outcome s k y limit row → Improves s k y limit row (refused r) row
  improve_refused r e = record { answer = e; row = ap (λ o. written o (λ (v : ImproveAnswer). v.order) s.units row) e }

  pub improve_done : (v : ImproveAnswer) (end : List ℕ) → accepted (improve_answer s k y limit row) ≡ improve_outcome s k y limit row
      → v ≡ improve_answer s k y limit row → end ≡ (improve_answer s k y limit row).order ++ drop s.units row
      → Improves s k y limit row (accepted v) end
  improve_done v end e same order = record {
    answer = ap accepted same ∙ e;
    row = order ∙ ap (λ o. written o (λ (w : ImproveAnswer). w.order) s.units row) e;
  }

-- an order has a place for each unit
order_whole : (n : ℕ) (o : List ℕ) → is_order n o ≡ true → length o ≡ n
order_whole n o e = eqb-true (length o) n (and_parts _ _ e).0

-- what is found on the marks of a sheet as numbers
module _ (s : Sheet) (m : Marks) (of : MarksOf s m) (row : List ℕ) (passed : decide (row_tests (contents s) row) (tt {0}) ≡ accepted tt) where
  numbers_same : numbers_of m ≡ numbers (contents s)
  numbers_same = same_numbers s m of

  -- the tests that were passed
  room : ltb (length row) s.units.count ≡ false
  room = (none_holds (row_tests (contents s) row) (tt {0}) (ap is_accepted passed)).0

  ordered : is_order s.units.count (take s.units.count row) ≡ true
  ordered = not-false (is_order s.units.count (take s.units.count row)) (none_holds (row_tests (contents s) row) (tt {0}) (ap is_accepted passed)).1.0

  pub scaled_here : (before end : List ℤ) (l : ℤ) → ltb (length before) s.units.count ≡ false → Scaled m row before end l
      → Scales (contents s) row before (accepted (record { displaced = take s.units.count end; loss = l })) end
  scaled_here before end l enough h = scale_done (contents s) row before l end (list_next (contents s) row before enough ∙ passed)
      (order_whole s.units.count (take s.units.count row) ordered)
      (h.losses ∙ (λ i. loss (numbers_same i) (of.size i) (take (of.size i) row)))
      (h.list ∙ (λ i. displacements (numbers_same i) (of.size i) 0 (take (of.size i) row) ++ drop (of.size i) before))

  pub compared_here : (v : ℕ × ℕ) → Compared m (take (units_of m) row) v → Checks (contents s) row (accepted v)
  compared_here v h = check_done (contents s) row v passed
      (h.counts ∙ (λ i. (kept (numbers_same i) (take (of.size i) row), broken (numbers_same i) (take (of.size i) row))))
      (h.all ∙ (λ i. of.size i * (of.size i - 1) * (of.size i - 2) / 3))

  -- the fault of improving, where the first tests are passed
  fault_here : fault m s.ties row ≡ cond (keeps (tied_of s.ties) (take s.units.count row)) None (Some Against)
  fault_here =
      (λ i. first_fault (eqb (s.same i) (of.size i)) (ltb (length row) (of.size i)) (is_order (of.size i) (take (of.size i) row)) (keeps (tied_of s.ties) (take (of.size i) row)))
      ∙ (λ i. first_fault (eq-eqb s.units.count s.units.count refl i) (room i) (ordered i) (keeps (tied_of s.ties) (take s.units.count row)))

  against_only : (f : MoveFault) → fault m s.ties row ≡ Some f → (keeps (tied_of s.ties) (take s.units.count row) ≡ false) × (f ≡ Against)
  against_only f e = go (keeps (tied_of s.ties) (take s.units.count row)) (sym fault_here ∙ e)
    where
      go : (b : Bool) → cond b None (Some Against) ≡ Some f → (b ≡ false) × (f ≡ Against)
      go true h = absurd (let z : ◌≡◌ {A = ℕ} 0 1 = cc in omega arith)
      go false h = (refl, cc)

  keeps_all : fault m s.ties row ≡ None → keeps (tied_of s.ties) (take s.units.count row) ≡ true
  keeps_all e = go (keeps (tied_of s.ties) (take s.units.count row)) (sym fault_here ∙ e)
    where
      go : (b : Bool) → cond b None (Some Against) ≡ None → b ≡ true
      go true h = refl
      go false h = absurd (let z : ◌≡◌ {A = ℕ} 0 1 = cc in omega arith)

  module _ (k : Moves) (y : Merit) (limit : ℕ) (end : List ℕ) where
    pub improve_against : (f : MoveFault) → fault m s.ties row ≡ Some f → end ≡ row
        → Improves (contents s) k y limit row (refused (answer_refusal (improving f))) end
    improve_against f e same =
        let w = against_only f e in
        let o : refused (answer_refusal (improving f)) ≡ improve_outcome (contents s) k y limit row =
        ap (λ (g : MoveFault). refused (answer_refusal (improving g))) w.1
        ∙ ties_broken (contents s) row (improve_answer (contents s) k y limit row) passed w.0 in
        subst (λ (q : List ℕ). Improves (contents s) k y limit row (refused (answer_refusal (improving f))) q) (sym same)
        (improve_refused (contents s) k y limit row (answer_refusal (improving f)) o)

    pub improved_here : {T : Type 0} (numbers_in : T → List ℤ) (a : Improvement T) → Answered k y m s.ties numbers_in limit row end a
        → Improves (contents s) k y limit row (accepted (record { made = a.made; total = numbers_in a.total; settled = a.settled; order = take s.units.count end })) end
    improved_here numbers_in a h =
        let reached = h.reached in
        let moved_row : Improved = improved k y (numbers (contents s)) (tied_of s.ties) s.units.count limit (take s.units.count row) in
        let order : end ≡ (improve_answer (contents s) k y limit row).order ++ drop s.units.count row =
        reached.order ∙ (λ i. (done i).row ++ drop (of.size i) row) in
        let whole : length (improve_answer (contents s) k y limit row).order ≡ s.units.count =
        ap (λ (q : Improved). length q.row) (sym (λ i. done i)) ∙ h.improves.order.as_many ∙ of.size in
        let made : a.made ≡ moved_row.made = reached.made ∙ (λ i. (done i).made) in
        let total_is : numbers_in a.total ≡ total y (numbers (contents s)) s.units.count 0 moved_row.row =
        reached.total ∙ (λ i. total y (numbers_same i) (of.size i) 0 (done i).row) in
        let settled_is : a.settled ≡ settled k y (numbers (contents s)) (tied_of s.ties) s.units.count moved_row.row =
        reached.settled ∙ (λ i. settled k y (numbers_same i) (tied_of s.ties) (of.size i) (done i).row) in
        let front_is : take s.units.count end ≡ moved_row.row =
        ap (take s.units.count) order ∙ front s.units.count (improve_answer (contents s) k y limit row).order (drop s.units.count row) whole in
        improve_done (contents s) k y limit row (record { made = a.made; total = numbers_in a.total; settled = a.settled; order = take s.units.count end }) end
        (ties_kept (contents s) row (improve_answer (contents s) k y limit row) passed (keeps_all h.no_fault))
        (λ i. record { made = made i; total = total_is i; settled = settled_is i; order = front_is i }) order
      where
        done : improved k y (numbers_of m) (tied_of s.ties) (units_of m) limit (take (units_of m) row)
            ≡ improved k y (numbers (contents s)) (tied_of s.ties) s.units.count limit (take s.units.count row)
        done = λ i. improved k y (numbers_same i) (tied_of s.ties) (of.size i) limit (take (of.size i) row)
