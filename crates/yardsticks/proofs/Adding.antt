-- The total of an order, unit by unit: what is summed so far, with the total of the rest, is the total of all.
use Rattle.std.proofs.Common.{◌≡◌, ℕ, suc, ◌+◌, ◌-◌, ◌^◌, ◌<◌, ◌≤◌, Bool, true, false, cond, ◌||◌, ltb, List, ◌∷◌, length, get_or, drop, ℤ, sym, ap, ◌∙◌, subst, subst₂, add-zero, add-one, arith, length-drop, drop-cons}
use lib.Seq.{drop-length}
use Rattle.std.proofs.lemmas.Nat.{pow_pos}
use Rattle.rules.specs.Units.{label, has, with_unit}
use Rattle.rules.specs.Orders.{Order, is_order}
use Rattle.rules.specs.Yardsticks.{Merit, Lawful, Within, zeros}
use Rattle.rules.specs.Ranking.{total}
use Rattle.rules.proofs.Sets.{with_below}
use Rattle.rules.proofs.Rows.{is_order_means}
use Rattle.rules.proofs.Ways.{Way, ready_out}
use Rattle.rules.proofs.Displacements.{all_placed}
use Rattle.rules.proofs.Totals.{within_more, within_zeros, total_within}
use Rattle.marks.specs.declared.marks.Marks.{Marks}
use Rattle.marks.specs.Numbers.{units_of, numbers_of}
use Rattle.marks.proofs.Bits.{put_to}
use Rattle.marks.proofs.Laws.{least, most, low, symmetric}

abbrev untied : ℕ → ℕ → Bool
untied a b = false

-- the total of a row placed after A
abbrev after : Merit → Marks → ℕ → List ℕ → List ℤ
after y m A o = total y (numbers_of m) (units_of m) A o

-- i units of the row are placed, which make the set A and add up to u
pub record Sofar (y : Merit) (m : Marks) (o : List ℕ) (i A : ℕ) (u : List ℤ) : Type 0 where
  pub below : A < 2 ^ units_of m
  pub way : Way untied (units_of m) A (drop i o)
  pub near : Within i y.caps u
  pub sums : y.plus u (after y m A (drop i o)) ≡ after y m 0 o

plus_near : {y : Merit} (law : Lawful y) (a b : ℕ) (u v : List ℤ) → a + b ≤ 21 → Within a y.caps u → Within b y.caps v → Within 21 y.caps (y.plus u v)
plus_near {y} law a b u v l h k = within_more (a + b) 21 y.caps (y.plus u v) l (law.adds_caps a b u v l h k)

module _ (y : Merit) (law : Lawful y) (m : Marks) (o : List ℕ) (is : is_order (units_of m) o ≡ true) where
  order : Order (units_of m) o
  order = is_order_means (units_of m) o is

  few : length o ≤ 20
  few = omega (arith, order.as_many, most m)

  rest_near : (A i k : ℕ) → A < 2 ^ units_of m → Way untied (units_of m) A (drop i o) → k + i ≡ length o → Within k y.caps (after y m A (drop i o))
  rest_near A i k b w e =
      within_more (length (drop i o)) k y.caps (after y m A (drop i o)) (omega (arith, length-drop i o))
      (total_within y law (numbers_of m) untied (units_of m) (least m) (most m) (low m) (symmetric m) A (drop i o) w b (omega (arith, length-drop i o, few)))

module _ {y : Merit} {m : Marks} {o : List ℕ} (law : Lawful y) (is : is_order (units_of m) o ≡ true) where
  -- no unit is placed yet
  pub none_yet : (u : List ℤ) → u ≡ zeros y.caps → Sofar y m o 0 0 u
  none_yet u e = subst (λ (v : List ℤ). Sofar y m o 0 0 v) (sym e) (record {
    below = pow_pos (units_of m);
    way = w;
    near = z;
    sums =
        law.plus_comm (zeros y.caps) t (within_zeros 21 y.caps) (within_more (length o) 21 y.caps t (omega (arith, few y law m o is)) k)
        (plus_near law 0 (length o) (zeros y.caps) t (omega (arith, few y law m o is)) z k)
        (plus_near law (length o) 0 t (zeros y.caps) (omega (arith, few y law m o is)) k z)
        ∙ law.plus_zero t (within_more (length o) 21 y.caps t (omega (arith, few y law m o is)) k);
  })
    where
      t : List ℤ
      t = after y m 0 o

      w : Way untied (units_of m) 0 o
      w = (all_placed (units_of m) o (order y law m o is)).way

      z : Within 0 y.caps (zeros y.caps)
      z = within_zeros 0 y.caps

      k : Within (length o) y.caps t
      k = rest_near y law m o is 0 0 (length o) (pow_pos (units_of m)) w (add-zero (length o))

  -- the next unit
  module _ {i A : ℕ} {u : List ℤ} (s : Sofar y m o i A u) (lt : i < length o) where
    abbrev next : ℕ
    next = get_or o i 0

    abbrev step : List ℤ
    step = y.step (numbers_of m) (units_of m) A next

    parts : drop i o ≡ next ∷ drop (suc i) o
    parts = drop-cons o i 0 lt

    way : Way untied (units_of m) A (next ∷ drop (suc i) o)
    way = subst (λ (q : List ℕ). Way untied (units_of m) A q) parts s.way

    next_label : label (units_of m) next ≡ true
    next_label = way.0

    next_out : has A next ≡ false
    next_out = ready_out untied (units_of m) A next way.1.0

    -- what its step asks
    pub step_asks : (A < 2 ^ units_of m) × ((label (units_of m) next ≡ true) × (has A next ≡ false))
    step_asks = (s.below, (next_label, next_out))

    next_below : with_unit A next < 2 ^ units_of m
    next_below = with_below (units_of m) A next next_label s.below next_out

    one_near : Within 1 y.caps step
    one_near = law.step_within (numbers_of m) (units_of m) A next (least m) (most m) (low m) (symmetric m) s.below next_label next_out

    more_near : Within (i + 1) y.caps (y.plus u step)
    more_near = law.adds_caps i 1 u step (omega (arith, few y law m o is)) s.near one_near

    sum_near : Within 21 y.caps u
    sum_near = within_more i 21 y.caps u (omega (arith, few y law m o is)) s.near

    step_near : Within 21 y.caps step
    step_near = within_more 1 21 y.caps step (omega arith) one_near

    both_near : Within 21 y.caps (y.plus u step)
    both_near = within_more (i + 1) 21 y.caps (y.plus u step) (omega (arith, few y law m o is)) more_near

    -- what adding its step asks: the sum, the step, and both stay within twenty-one caps
    pub adding_asks : (t : List ℤ) → t ≡ step → Within 21 y.caps u × (Within 21 y.caps t × Within 21 y.caps (y.plus u t))
    adding_asks t e =
        subst (λ (v : List ℤ). Within 21 y.caps u × (Within 21 y.caps v × Within 21 y.caps (y.plus u v))) (sym e) (sum_near, (step_near, both_near))

    with_next : Sofar y m o (i + 1) (with_unit A next) (y.plus u step)
    with_next = subst (λ (q : ℕ). Sofar y m o q (with_unit A next) (y.plus u step)) (sym (add-one i)) (record {
      below = next_below;
      way = way.1.1;
      near = subst (λ (q : ℕ). Within q y.caps (y.plus u step)) (add-one i) more_near;
      sums =
          law.plus_assoc u step t sum_near step_near (within_more k 21 y.caps t (omega (arith, few y law m o is)) near_t) both_near
          (plus_near law 1 k step t (omega (arith, few y law m o is)) one_near near_t)
          (plus_near law (i + 1) k (y.plus u step) t (omega (arith, few y law m o is)) more_near near_t)
          (plus_near law i (1 + k) u (y.plus step t) (omega (arith, few y law m o is)) s.near (law.adds_caps 1 k step t (omega (arith, few y law m o is)) one_near near_t))
          ∙ (ap (λ (q : List ℕ). y.plus u (after y m A q)) (sym parts) ∙ s.sums);
    })
      where
        k : ℕ
        k = length o - suc i

        t : List ℤ
        t = after y m (with_unit A next) (drop (suc i) o)

        near_t : Within k y.caps t
        near_t = rest_near y law m o is (with_unit A next) (suc i) k next_below way.1.1 (omega arith)

    -- it is put to the set, and its step is added
    pub one_more : (B : ℕ) (t v : List ℤ) → B ≡ cond (ltb 32 next || has A next) A (with_unit A next) → t ≡ step → v ≡ y.plus u t
        → Sofar y m o (i + 1) B v
    one_more B t v b e f =
        subst₂ (λ (q : ℕ) (w : List ℤ). Sofar y m o (i + 1) q w) (sym (put_to (units_of m) A next B (most m) next_label next_out b))
        (sym (f ∙ ap (λ (w : List ℤ). y.plus u w) e)) with_next

  -- no unit is left
  pub none_left : {i A : ℕ} {u : List ℤ} → Sofar y m o i A u → i ≡ length o → u ≡ after y m 0 o
  none_left {i} {A} {u} s e =
      sym (law.plus_zero u (within_more i 21 y.caps u (omega (arith, few y law m o is)) s.near))
      ∙ (ap (λ (q : List ℕ). y.plus u (after y m A q)) (sym (drop-length o) ∙ ap (λ (q : ℕ). drop q o) (sym e)) ∙ s.sums)
