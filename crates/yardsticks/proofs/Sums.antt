-- The parts of a gradient step: how far they lie from zero, and their sums, one label after another.
use Rattle.std.proofs.Common.{◌≡◌, ℕ, zero, suc, ◌+◌, ◌*◌, ◌<◌, ◌≤◌, Bool, true, false, cond, not, ◌||◌, eqb, List, length, take, get_or, ℤ, pos, negsuc, ◌+ℤ◌, ◌-ℤ◌, nat_abs, sym, refl, ◌∙◌, add-one, w32, SFits, add-mul, arith}
use Rattle.std.proofs.lemmas.Int.{ints}
use Rattle.std.proofs.lemmas.List.{length-take, get_or-take}
use Rattle.std.specs.Int.{int_signum}
use Rattle.rules.specs.Units.{labels, has, sum_ℤ}
use Rattle.rules.specs.Yardsticks.{sign_ℤ}
use Rattle.rules.proofs.Sets.{sum_last}
use Rattle.marks.specs.declared.marks.Marks.{Marks}
use Rattle.marks.specs.Numbers.{units_of, numbers_of}
use Rattle.marks.proofs.Laws.{most, low, symmetric}
use Rattle.yardsticks.specs.declared.gradient.Grades.{Grades}
use Rattle.yardsticks.specs.Gradients.{RowOf, Graded, signs_of, rises_of, at, later, beyond, past, behind}

-- std's sign of a number is the rulebook's
pub sign_is : (z : ℤ) → int_signum z ≡ sign_ℤ z
sign_is (pos zero) = refl
sign_is (pos (suc n)) = grind (arith, ints)
sign_is (negsuc n) = refl

-- of marks, it lies within 20,000 of zero
abbrev pub Bounded : (ℕ → ℕ → ℕ → ℤ) → Type 0
Bounded f = (a b c : ℕ) → a ≤ 10000 → b ≤ 10000 → c ≤ 10000 → nat_abs (f a b c) ≤ 20000

sign_low : (z : ℤ) → nat_abs (sign_ℤ z) ≤ 1
sign_low z = grind (arith, ints)

pub signs_low : (a b c : ℕ) → nat_abs (signs_of a b c) ≤ 2
signs_low a b c = omega (arith, ints, sign_low (pos a -ℤ pos b), sign_low (pos a -ℤ pos c))

signs_bounded : Bounded signs_of
signs_bounded a b c h k l = omega (arith, signs_low a b c)

pub rises_low : Bounded rises_of
rises_low a b c h k l = omega (arith, ints)

low_if : (b : Bool) (x : ℤ) (c : ℕ) → nat_abs x ≤ c → nat_abs (cond b x (pos 0)) ≤ c
low_if b x c h = grind (arith, ints)

low_unless : (b : Bool) (x : ℤ) (c : ℕ) → nat_abs x ≤ c → nat_abs (cond b (pos 0) x) ≤ c
low_unless b x c h = grind (arith, ints)

low_sum : (f : ℕ → ℤ) (c : ℕ) → ((i : ℕ) → nat_abs (f i) ≤ c) → (m : ℕ) → nat_abs (sum_ℤ f (labels m)) ≤ m * c
low_sum f c h zero = omega arith
low_sum f c h (suc m) = omega (arith, ints, sum_last f (labels m) (suc m), low_sum f c h m, h (suc m), add-mul m 1 c)

-- a sum with the next label
with_next : (f : ℕ → ℤ) (k : ℕ) → sum_ℤ f (labels (k + 1)) ≡ sum_ℤ f (labels k) +ℤ f (k + 1)
with_next f k = rw (add-one k) (sum_last f (labels k) (suc k))

-- a sum with the next label
pub sum_next : (f : ℕ → ℤ) (k : ℕ) (x z : ℤ) → x ≡ sum_ℤ f (labels k) → z ≡ f (k + 1) → x +ℤ z ≡ sum_ℤ f (labels (k + 1))
sum_next f k x z h e = (λ i. h i +ℤ e i) ∙ sym (with_next f k)

-- the marks of the unit j, at the places of its row
pub row_mark : (m : Marks) (j : ℕ) (row : List ℕ) → RowOf m j row → (n k : ℕ) → n ≡ units_of m → k < length (take n row)
    → (k < 20) × (get_or (take n row) k 0 ≡ numbers_of m j (k + 1))
row_mark m j row is n k e h =
    let low : k < n = omega (arith, length-take n row) in
    (omega (arith, most m), get_or-take n row k 0 low ∙ is k (omega arith))

-- the unit j is placed after A
module _ (m : Marks) (A j : ℕ) where
  -- what k adds to the sum of i, and what i adds to the step
  abbrev pub inner : ℕ → (ℕ → ℕ → ℕ → ℤ) → ℕ → ℤ
  inner i f k = beyond (at f (numbers_of m) j i) A j k

  abbrev pub outer : (ℕ → ℕ → ℕ → ℤ) → ℕ → ℤ
  outer f i = behind (at f (numbers_of m) j) (units_of m) A j i

  -- what a later unit adds
  pub later_adds : (i k : ℕ) (g : Grades) (a b c : ℕ) → later A j k ≡ true → a ≡ numbers_of m i k → b ≡ numbers_of m j i → c ≡ numbers_of m j k
      → Graded (λ f. f a b c) g → Graded (λ f. inner i f k) g
  later_adds i k g a b c w d e h s = (s.0 ∙ same signs_of, s.1 ∙ same rises_of)
    where
      counts : (b : Bool) (x : ℤ) → not b ≡ true → x ≡ cond b (pos 0) x
      counts b x h = grind arith

      same : (f : ℕ → ℕ → ℕ → ℤ) → f a b c ≡ inner i f k
      same f = (λ t. f (d t) (e t) (h t)) ∙ (λ t. f (numbers_of m i k) (symmetric m j i t) (numbers_of m j k)) ∙ counts (has A k || eqb k j) _ w

  pub other_adds : (i k : ℕ) → later A j k ≡ false → (inner i signs_of k ≡ pos 0) × (inner i rises_of k ≡ pos 0)
  other_adds i k w = (none (has A k || eqb k j) (at signs_of (numbers_of m) j i k) w, none (has A k || eqb k j) (at rises_of (numbers_of m) j i k) w)
    where
      none : (b : Bool) (x : ℤ) → not b ≡ false → cond b (pos 0) x ≡ pos 0
      none b x h = grind arith

  -- what an earlier unit adds, and another
  pub earlier_adds : (i : ℕ) (g : Grades) → has A i ≡ true → Graded (λ f. past (at f (numbers_of m) j i) (units_of m) A j) g → Graded (λ f. outer f i) g
  earlier_adds i g w s = (s.0 ∙ counts (has A i) _ w, s.1 ∙ counts (has A i) _ w)
    where
      counts : (b : Bool) (x : ℤ) → b ≡ true → x ≡ cond b x (pos 0)
      counts b x h = grind arith

  pub none_adds : (i : ℕ) → has A i ≡ false → (outer signs_of i ≡ pos 0) × (outer rises_of i ≡ pos 0)
  none_adds i w = (none (has A i) _ w, none (has A i) _ w)
    where
      none : (b : Bool) (x : ℤ) → b ≡ false → cond b x (pos 0) ≡ pos 0
      none b x h = grind arith

  inner_within : (i : ℕ) (f : ℕ → ℕ → ℕ → ℤ) → Bounded f → (k : ℕ) → nat_abs (inner i f k) ≤ 20000
  inner_within i f l k =
      low_unless (has A k || eqb k j) (at f (numbers_of m) j i k) 20000
      (l (numbers_of m i k) (numbers_of m i j) (numbers_of m j k) (low m i k) (low m i j) (low m j k))

  pub inner_low : (i : ℕ) (f : ℕ → ℕ → ℕ → ℤ) → Bounded f → (k : ℕ) → nat_abs (inner i f k) ≤ 400000
  inner_low i f l k = omega (arith, inner_within i f l k)

  pub outer_low : (f : ℕ → ℕ → ℕ → ℤ) → Bounded f → (i : ℕ) → nat_abs (outer f i) ≤ 400000
  outer_low f l i =
      low_if (has A i) (past (at f (numbers_of m) j i) (units_of m) A j) 400000
      (omega (arith, low_sum (inner i f) 20000 (inner_within i f l) (units_of m), most m))

-- the sum of what the labels up to k add, and what the next one adds
module _ (adds : (ℕ → ℕ → ℕ → ℤ) → ℕ → ℤ) (few : (f : ℕ → ℕ → ℕ → ℤ) → Bounded f → (i : ℕ) → nat_abs (adds f i) ≤ 400000)
    (k : ℕ) (g : Grades) (sofar : Graded (λ f. sum_ℤ (adds f) (labels k)) g) where
  pub sum_fits : k < 20 → (h : Grades) → Graded (λ f. adds f (k + 1)) h → SFits w32 (g.signs +ℤ h.signs) × SFits w32 (g.rises +ℤ h.rises)
  sum_fits last h next = (
    omega (arith, ints, sofar.0, next.0, low_sum (adds signs_of) 400000 (few signs_of signs_bounded) k, few signs_of signs_bounded (k + 1)),
    omega (arith, ints, sofar.1, next.1, low_sum (adds rises_of) 400000 (few rises_of rises_low) k, few rises_of rises_low (k + 1)),
  )

  pub graded_next : (h r : Grades) → Graded (λ f. adds f (k + 1)) h → (r.signs ≡ g.signs +ℤ h.signs) × (r.rises ≡ g.rises +ℤ h.rises)
      → Graded (λ f. sum_ℤ (adds f) (labels (k + 1))) r
  graded_next h r next e = (
    e.0 ∙ sum_next (adds signs_of) k _ _ sofar.0 next.0,
    e.1 ∙ sum_next (adds rises_of) k _ _ sofar.1 next.1,
  )

  pub sum_same : (adds signs_of (k + 1) ≡ pos 0) × (adds rises_of (k + 1) ≡ pos 0) → Graded (λ f. sum_ℤ (adds f) (labels (k + 1))) g
  sum_same none = graded_next (record { signs = pos 0; rises = pos 0 }) g (sym none.0, sym none.1) (omega (arith, ints), omega (arith, ints))
