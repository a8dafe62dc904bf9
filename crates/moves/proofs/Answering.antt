-- From the tests of a call to its answer.
use Rattle.std.proofs.Common.{◌≡◌, ℕ, ◌≤◌, true, List, [], ◌++◌, length, take, drop, ℤ, sym, ap, ◌∙◌, subst, arith, append-nil}
use Rattle.std.proofs.lemmas.Bool.{eq-eqb, le-ltb}
use Rattle.std.proofs.lemmas.List.{take_all, drop_all, length-take, length-take-le}
use Rattle.rules.specs.Orders.{Order, is_order, keeps}
use Rattle.rules.specs.Yardsticks.{Merit}
use Rattle.rules.specs.Moves.{Moves, LawfulMoves}
use Rattle.rules.proofs.Rows.{is_order_means}
use Rattle.rules.proofs.Improving.{improving_stands}
use Rattle.marks.specs.declared.marks.Marks.{Marks}
use Rattle.marks.specs.declared.ties.Ties.{Ties}
use Rattle.marks.specs.Numbers.{units_of, numbers_of}
use Rattle.marks.specs.Tied.{tied_units, tied_of, first_of}
use Rattle.yardsticks.specs.Totals.{order_of, total_of}
use Rattle.moves.specs.declared.improve.Improvement.{Improvement}
use Rattle.moves.specs.Improving.{first_fault, Startable, Reached, Answered, improved_by, settled_at}

-- the first of a row are as many of themselves
first_again : (m : Marks) (row : List ℕ) → order_of m (order_of m row) ≡ order_of m row
first_again m row = take_all (units_of m) (order_of m row) (omega (arith, length-take (units_of m) row))

module _ (k : Moves) (y : Merit) (m : Marks) (t : Ties) {T : Type 0} (numbers : T → List ℤ) {row : List ℕ} where
  -- all tests are passed
  pub startable : {start : T} → tied_units t ≡ units_of m → units_of m ≤ length row
      → (is_order (units_of m) (order_of m row) ≡ true) × (numbers start ≡ total_of y m (order_of m row))
      → true ≡ keeps (tied_of t) (first_of t row) → Startable k y m t numbers start row
  startable e l o h = record {
    same_units = e;
    room = l;
    order = is_order_means (units_of m) (order_of m row) o.0;
    ties = ap (λ (n : ℕ). keeps (tied_of t) (take n row)) (sym e) ∙ sym h;
    total = o.1;
  }

  -- the first of the row alone
  pub cut : {start : T} → Startable k y m t numbers start row → Startable k y m t numbers start (order_of m row)
  cut s =
      let e = sym (first_again m row) in
      record {
        same_units = s.same_units;
        room = omega (arith, length-take-le (units_of m) row s.room);
        order = subst (Order (units_of m)) e s.order;
        ties = subst (λ (o : List ℕ). keeps (tied_of t) o ≡ true) e s.ties;
        total = s.total ∙ ap (total_of y m) e;
      }

  -- and with the rest of the row after them
  uncut : {limit : ℕ} {after : List ℕ} {a : Improvement T} → Reached k y m t numbers limit (order_of m row) after a
      → Reached k y m t numbers limit row (after ++ drop (units_of m) row) a
  uncut {limit = limit} {after = after} r =
      let e = first_again m row in
      let none : drop (units_of m) (order_of m row) ≡ [] = drop_all (units_of m) (order_of m row) (omega (arith, length-take (units_of m) row)) in
      record {
        made = r.made ∙ ap (λ (o : List ℕ). (improved_by k y m t limit o).made) e;
        total = r.total ∙ ap (λ (o : List ℕ). total_of y m (improved_by k y m t limit o).row) e;
        settled = r.settled ∙ ap (λ (o : List ℕ). settled_at k y m t (improved_by k y m t limit o).row) e;
        order =
            let all = r.order ∙ (λ x. (improved_by k y m t limit (e x)).row ++ none x) ∙ append-nil _ in
            ap (λ (o : List ℕ). o ++ drop (units_of m) row) all;
      }

  -- from what was made of the first of a row to the answer
  pub answered : LawfulMoves k → {start : T} {limit : ℕ} {after : List ℕ} {a : Improvement T} → Startable k y m t numbers start row
      → is_order (units_of m) (order_of m row) ≡ true → Reached k y m t numbers limit (order_of m row) after a
      → Answered k y m t numbers limit row (after ++ drop (units_of m) row) a
  answered law {limit = limit} s o r =
      let p = eq-eqb (tied_units t) (units_of m) s.same_units in
      let q = le-ltb (length row) (units_of m) s.room in
      let w = improving_stands k law y (numbers_of m) (tied_of t) (units_of m) limit (order_of m row) s.order s.ties in
      let still = (improving_stands k law y (numbers_of m) (tied_of t) (units_of m) 0 (improved_by k y m t limit (order_of m row)).row w.order w.ties).settles in
      let d = uncut r in
      record {
        no_fault = λ x. first_fault (p x) (q x) (o x) (s.ties x);
        reached = d;
        improves = w;
        settles = ((λ e. still.0 (sym d.settled ∙ e)), (λ f. d.settled ∙ still.1 f));
      }
