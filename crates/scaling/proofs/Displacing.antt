-- The displacements of an order, written unit by unit, with the sum of their squares.
use Rattle.std.proofs.Common.{◌≡◌, ℕ, suc, ◌+◌, ◌*◌, ◌<◌, ◌≤◌, Bool, true, false, cond, ◌||◌, ltb, List, [], ◌∷◌, ◌++◌, length, get_or, take, drop, set, ℤ, pos, ◌+ℤ◌, nat_abs, sym, refl, ap, ◌∙◌, subst, subst₂, append_assoc, append-nil, add-one, arith, take-append-drop, drop-cons, take-suc-set, drop-set-lt}
use lib.Seq.{drop-length}
use Rattle.rules.specs.Units.{label, has, with_unit, sum_ℤ, displacement}
use Rattle.rules.specs.Orders.{Order, is_order}
use Rattle.rules.specs.Scaling.{square, displacements}
use Rattle.rules.proofs.Integers.{lin}
use Rattle.rules.proofs.Rows.{is_order_means}
use Rattle.rules.proofs.Ways.{Way, ready_out}
use Rattle.rules.proofs.Displacements.{all_placed}
use Rattle.marks.specs.declared.marks.Marks.{Marks}
use Rattle.marks.specs.Numbers.{units_of, numbers_of}
use Rattle.marks.proofs.Bits.{put_to}
use Rattle.marks.proofs.Laws.{most, low}
use Rattle.marks.proofs.Displaced.{not_far}
use Rattle.scaling.proofs.Squares.{square_size, square_low}

abbrev untied : ℕ → ℕ → Bool
untied a b = false

-- the displacements of a row placed after A
abbrev after : Marks → ℕ → List ℕ → List ℤ
after m A o = displacements (numbers_of m) (units_of m) A o

-- i units of the order are placed, which make the set A; their displacements are written, and their squares sum to s
pub record Sofar (m : Marks) (o : List ℕ) (old : List ℤ) (i A s : ℕ) (list : List ℤ) : Type 0 where
  pub way : Way untied (units_of m) A (drop i o)
  pub written : take i list ++ after m A (drop i o) ≡ after m 0 o
  pub rest : drop (units_of m) list ≡ drop (units_of m) old
  pub squares : pos s +ℤ sum_ℤ square (after m A (drop i o)) ≡ sum_ℤ square (after m 0 o)
  pub few : s ≤ 40000000000 * i

-- no displacement is further than 200,000 from 0
pub near : (m : Marks) (A j : ℕ) → nat_abs (displacement (numbers_of m) (units_of m) A j) ≤ 200000
near m A j = omega (arith, not_far (numbers_of m) A j (low m) (units_of m), most m)

module _ (m : Marks) (o : List ℕ) (is : is_order (units_of m) o ≡ true) (old : List ℤ) where
  order : Order (units_of m) o
  order = is_order_means (units_of m) o is

  -- no unit is placed yet
  pub none_yet : Sofar m o old 0 0 0 old
  none_yet = record {
    way = (all_placed (units_of m) o order).way;
    written = refl;
    rest = refl;
    squares = omega (arith, lin);
    few = omega arith;
  }

  module _ (i A s : ℕ) (list : List ℤ) (w : Sofar m o old i A s list) (lt : i < length o) where
    abbrev next : ℕ
    next = get_or o i 0

    abbrev far : ℤ
    far = displacement (numbers_of m) (units_of m) A next

    parts : drop i o ≡ next ∷ drop (suc i) o
    parts = drop-cons o i 0 lt

    way : Way untied (units_of m) A (next ∷ drop (suc i) o)
    way = subst (λ (q : List ℕ). Way untied (units_of m) A q) parts w.way

    next_label : label (units_of m) next ≡ true
    next_label = way.0

    next_out : has A next ≡ false
    next_out = ready_out untied (units_of m) A next way.1.0

    one_more : i < length list → Sofar m o old (i + 1) (with_unit A next) (s + nat_abs far * nat_abs far) (set list i far)
    one_more l = subst (λ (q : ℕ). Sofar m o old q (with_unit A next) (s + nat_abs far * nat_abs far) (set list i far)) (sym (add-one i)) (record {
      way = way.1.1;
      written =
          ap (λ (r : List ℤ). r ++ later) (take-suc-set list i far l)
          ∙ (append_assoc (take i list) (far ∷ []) later
          ∙ (ap (λ (q : List ℕ). take i list ++ after m A q) (sym parts) ∙ w.written));
      rest = drop-set-lt (units_of m) list i far (omega (arith, order.as_many)) ∙ w.rest;
      squares =
          let e : sum_ℤ square (after m A (drop i o)) ≡ square far +ℤ sum_ℤ square later = ap (λ (q : List ℕ). sum_ℤ square (after m A q)) parts in
          let f : pos (s + nat_abs far * nat_abs far) ≡ pos s +ℤ square far = ap (λ (z : ℤ). pos s +ℤ z) (square_size far) in
          omega (arith, lin, e, f, w.squares);
      few = omega (arith, w.few, square_low (nat_abs far) 200000 (near m A next));
    })
      where
        later : List ℤ
        later = after m (with_unit A next) (drop (suc i) o)

    -- what the code has for the label, the displacement, its square and the set
    module _ (j : ℕ) (is_next : j ≡ next) (z : ℤ) (r : ℕ) (e : z ≡ displacement (numbers_of m) (units_of m) A j) (f : r ≡ nat_abs z * nat_abs z) where
      far_is : z ≡ far
      far_is = e ∙ ap (displacement (numbers_of m) (units_of m) A) is_next

      size_is : r ≡ nat_abs far * nat_abs far
      size_is = f ∙ ap (λ (x : ℤ). nat_abs x * nat_abs x) far_is

      pub next_few : s + r ≤ 800000000000
      next_few = omega (arith, w.few, size_is, square_low (nat_abs far) 200000 (near m A next), order.as_many, most m)

      pub next_unit : (B : ℕ) → B ≡ cond (ltb 32 j || has A j) A (with_unit A j) → i < length list → Sofar m o old (i + 1) B (s + r) (set list i z)
      next_unit B b l =
          subst₂ (λ (B : ℕ) (v : ℤ × ℕ). Sofar m o old (i + 1) B (s + v.1) (set list i v.0))
          (sym (put_to (units_of m) A next B (most m) next_label next_out (b ∙ ap (λ j. cond (ltb 32 j || has A j) A (with_unit A j)) is_next)))
          (λ k. (sym far_is k, sym size_is k)) (one_more l)

  -- no unit is left
  module _ (i A s : ℕ) (list : List ℤ) (w : Sofar m o old i A s list) (e : i ≡ length o) where
    none : drop i o ≡ []
    none = ap (λ (q : ℕ). drop q o) e ∙ drop-length o

    pub all_written : list ≡ after m 0 o ++ drop (units_of m) old
    all_written =
        sym (take-append-drop (units_of m) list) ∙ (λ k. whole k ++ w.rest k)
      where
        whole : take (units_of m) list ≡ after m 0 o
        whole =
            let n : units_of m ≡ i = omega (arith, order.as_many) in
            sym (append-nil (take (units_of m) list))
            ∙ ((λ k. take (n k) list ++ after m A (sym none k)) ∙ w.written)

    pub all_squares : pos s ≡ sum_ℤ square (after m 0 o)
    all_squares =
        let z : sum_ℤ square (after m A (drop i o)) ≡ pos 0 = ap (λ (q : List ℕ). sum_ℤ square (after m A q)) none in
        omega (arith, lin, z, w.squares)

    pub all_few : s ≤ 800000000000
    all_few = omega (arith, w.few, order.as_many, most m)
