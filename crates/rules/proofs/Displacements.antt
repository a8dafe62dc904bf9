-- Displacements along a row: those by sets are those by places, they sum to 0, and times numbers of the units they sum to the marks times the differences.
use Rattle.std.proofs.Common.{◌≡◌, ℕ, zero, suc, Bool, true, false, cond, not, ◌||◌, eqb, List, [], ◌∷◌, map, get_or, ℤ, pos, ◌+ℤ◌, ◌-ℤ◌, ◌*ℤ◌, neg_ℤ, sym, refl, ap, ◌∙◌, inl, inr, arith}
use lib.IntN.{+ℤ_idl}
use Rattle.std.proofs.lemmas.Int.{ints}
use Rattle.std.proofs.lemmas.Bool.Decides.{nat_tests}
use Rattle.std.proofs.lemmas.Bool.{both_ways, cases_eq, eq-eqb, ne_eqb}
use Rattle.rules.specs.Units.{label, labels, has, with_unit, sum_ℤ, displacement}
use Rattle.rules.specs.Sheets.{pairs_in}
use Rattle.rules.specs.Yardsticks.{across}
use Rattle.rules.specs.Orders.{Order}
use Rattle.rules.specs.Scaling.{displacements, found_at}
use Rattle.rules.specs.Yardsticks.{Symmetric}
use Rattle.rules.proofs.Sets.{label_low, with_same, with_other, has_none, sum_last}
use Rattle.rules.proofs.Members.{In, labels_in}
use Rattle.rules.proofs.Lists.{map_same}
use Rattle.rules.proofs.Ways.{Way, ready_out, order_way}
use Rattle.rules.proofs.Integers.{lin, mul_ℤ_distr}
use Rattle.rules.proofs.Ring.{var, lit, neg, ◌⊕◌, ◌⊗◌, ◌⊖◌, solve}
use Rattle.rules.proofs.Sums.{sumℤ_none, sumℤ_split, sumℤ_linear, pairs_step}
use Rattle.rules.proofs.Permutations.{sum_perm, order_perm, Distinct, order_distinct}

-- a number where a test holds, and 0 where it does not
abbrev only : Bool → ℤ → ℤ
only b x = cond b x (pos 0)

-- a sum over the labels that are j
one_label : (f : ℕ → ℤ) (j n : ℕ) → sum_ℤ (λ i. only (eqb i j) (f i)) (labels n) ≡ only (label n j) (f j)
one_label f j zero = grind (arith, nat_tests)
one_label f j (suc n) =
    let e = sum_last (λ i. only (eqb i j) (f i)) (labels n) (suc n) in
    let r = one_label f j n in
    grind (arith, ints, nat_tests)

module _ (n : ℕ) where
  -- the sum over the units of a set
  abbrev pub set_sum : ℕ → (ℕ → ℤ) → ℤ
  set_sum A f = sum_ℤ (λ i. only (has A i) (f i)) (labels n)

  pub set_sum_none : (f : ℕ → ℤ) → set_sum 0 f ≡ pos 0
  set_sum_none f = (λ i. sum_ℤ (λ j. only (has_none j i) (f j)) (labels n)) ∙ sumℤ_none (labels n)

  pub set_sum_add : (A : ℕ) (f g : ℕ → ℤ) → set_sum A (λ i. f i +ℤ g i) ≡ set_sum A f +ℤ set_sum A g
  set_sum_add A f g = sumℤ_split _ (λ i. only (has A i) (f i)) (λ i. only (has A i) (g i)) (labels n) (λ i k. each (has A i) (f i) (g i))
    where
      each : (b : Bool) (x y : ℤ) → only b (x +ℤ y) ≡ only b x +ℤ only b y
      each true x y = refl
      each false x y = refl

  -- a row that is placed after a set, unit by unit: with the set it holds each label once
  pub record Placed (A : ℕ) (o : List ℕ) : Type 0 where
    pub way : Way (λ a b. false) n A o
    pub sums : (f : ℕ → ℤ) → sum_ℤ f (labels n) ≡ set_sum A f +ℤ sum_ℤ f o

  pub all_placed : (o : List ℕ) → Order n o → Placed 0 o
  all_placed o h = record {
    way = order_way (λ a b. false) n (λ a b t. absurd (both_ways false refl t)) o h (λ a b t. absurd (both_ways false refl t));
    sums = λ f. omega (arith, lin, sum_perm f (order_perm n o h), set_sum_none f);
  }

  -- j is placed next
  module _ (A j : ℕ) (o : List ℕ) (w : Placed A (j ∷ o)) where
    out : has A j ≡ false
    out = ready_out (λ a b. false) n A j w.way.1.0

    -- each label is j, or is in the set with j exactly if it is in the set
    with_each : (P : Bool → Bool → Bool → Type 0) → P true false true → P false true true → P false false false
        → (i : ℕ) → In i (labels n) → P (eqb i j) (has A i) (has (with_unit A j) i)
    with_each P here inside outside i h = elim (cases_eq i j) [
      | inl e ↦ rw (eq-eqb i j e, e, out, with_same A j out) here
      | inr ne ↦ rw (ne_eqb i j ne, with_other A j i (label_low n j w.way.0) out (labels_in n i h).0 ne) (either (has A i))
    ]
      where
        either : (b : Bool) → P false b b
        either true = inside
        either false = outside

    pub next_sum : (f : ℕ → ℤ) → set_sum (with_unit A j) f ≡ set_sum A f +ℤ f j
    next_sum f =
        sumℤ_split _ (λ i. only (has A i) (f i)) (λ i. only (eqb i j) (f i)) (labels n)
        (λ i. with_each (λ e a w. only w (f i) ≡ only a (f i) +ℤ only e (f i)) (omega (arith, lin)) (omega (arith, lin)) (omega (arith, lin)) i)
        ∙ ap (λ (z : ℤ). set_sum A f +ℤ z) (one_label f j n ∙ ap (λ (b : Bool). only b (f j)) w.way.0)

    pub next_placed : Placed (with_unit A j) o
    next_placed = record { way = w.way.1.1; sums = λ f. omega (arith, lin, w.sums f, next_sum f) }

    -- the marks to those placed, less the marks to those that follow
    next_displaced : (p : ℕ → ℕ → ℕ) → displacement p n A j ≡ set_sum A (λ i. pos (p i j)) -ℤ sum_ℤ (λ i. pos (p i j)) o
    next_displaced p = omega (arith, lin, placed, all, next_placed.sums f)
      where
        f : ℕ → ℤ
        f i = pos (p i j)

        later : ℕ → ℤ
        later i = only (not (has (with_unit A j) i)) (f i)

        placed : set_sum A f ≡ displacement p n A j +ℤ sum_ℤ later (labels n)
        placed =
            sumℤ_split _ _ later (labels n) (λ i. with_each (λ e a w. only a (f i) ≡ cond e (pos 0) (cond a (f i) (neg_ℤ (f i))) +ℤ only (not w) (f i))
            refl (omega (arith, lin)) (omega (arith, lin)) i)

        all : sum_ℤ f (labels n) ≡ set_sum (with_unit A j) f +ℤ sum_ℤ later (labels n)
        all =
            sumℤ_split f _ later (labels n) (λ i. with_each (λ e a w. f i ≡ only w (f i) +ℤ only (not w) (f i))
            (omega (arith, lin)) (omega (arith, lin)) (omega (arith, lin)) i)

    -- a sum across is over those placed and those that follow
    pub next_crossed : (g : ℕ → ℕ → ℤ) → across g n A j ≡ set_sum A (λ i. sum_ℤ (g i) o)
    next_crossed g = λ z. set_sum A (λ i. row (g i) z)
      where
        row : (f : ℕ → ℤ) → sum_ℤ (λ k. cond (has A k || eqb k j) (pos 0) (f k)) (labels n) ≡ sum_ℤ f o
        row f = omega (arith, lin, all, next_placed.sums f)
          where
            all : sum_ℤ f (labels n) ≡ sum_ℤ (λ k. cond (has A k || eqb k j) (pos 0) (f k)) (labels n) +ℤ set_sum (with_unit A j) f
            all =
                sumℤ_split f _ _ (labels n) (λ k. with_each (λ e a w. f k ≡ cond (a || e) (pos 0) (f k) +ℤ only w (f k))
                (omega (arith, lin)) (omega (arith, lin)) (omega (arith, lin)) k)

module _ (p : ℕ → ℕ → ℕ) (s : Symmetric p) where
  -- the displacement of j in a row
  abbrev pub shift : List ℕ → ℕ → ℤ
  shift [] j = pos 0
  shift (x ∷ o) j = cond (eqb x j) (neg_ℤ (sum_ℤ (λ k. pos (p x k)) o)) (pos (p x j) +ℤ shift o j)

  here : (x : ℕ) (o : List ℕ) → shift (x ∷ o) x ≡ neg_ℤ (sum_ℤ (λ k. pos (p x k)) o)
  here x o = rw (eq-eqb x x refl)

  there : (x : ℕ) (o : List ℕ) (j : ℕ) → (x ≡ j → ⊥) → shift (x ∷ o) j ≡ pos (p x j) +ℤ shift o j
  there x o j ne = rw (ne_eqb x j ne)

  along : (n A : ℕ) (o : List ℕ) → Placed n A o → Distinct o → displacements p n A o ≡ map (λ j. set_sum n A (λ i. pos (p i j)) +ℤ shift o j) o
  along n A [] w d = refl
  along n A (x ∷ o) w d =
      let e : displacement p n A x ≡ set_sum n A (λ i. pos (p i x)) +ℤ shift (x ∷ o) x =
      next_displaced n A x o w p ∙ ap (λ (z : ℤ). set_sum n A (λ i. pos (p i x)) +ℤ z) ((λ i. neg_ℤ (sum_ℤ (λ k. pos (s k x i)) o)) ∙ sym (here x o)) in
      λ i. e i ∷ (along n (with_unit A x) o (next_placed n A x o w) d.1
      ∙ map_same _ (λ j. set_sum n A (λ i. pos (p i j)) +ℤ shift (x ∷ o) j) o (λ j k. omega (arith, lin, next_sum n A x o w (λ i. pos (p i j)), there x o j (d.0 j k)))) i

  -- the displacements by sets are those by places
  pub displacements_are : (n : ℕ) (o : List ℕ) → Order n o → displacements p n 0 o ≡ map (shift o) o
  displacements_are n o h =
      along n 0 o (all_placed n o h) (order_distinct n o h)
      ∙ (λ i. map (λ j. (ap (λ (z : ℤ). z +ℤ shift o j) (set_sum_none n (λ i. pos (p i j))) ∙ +ℤ_idl (shift o j)) i) o)

  -- the marks of the pairs, each times a difference, are the displacements times the numbers
  pub weigh : (f : ℕ → ℤ) (o : List ℕ) → Distinct o → sum_ℤ (λ q. pos (p q.0 q.1) *ℤ (f q.1 -ℤ f q.0)) (pairs_in o) ≡ sum_ℤ (λ j. shift o j *ℤ f j) o
  weigh f [] d = refl
  weigh f (x ∷ o) d =
      pairs_step (λ q. pos (p q.0 q.1) *ℤ (f q.1 -ℤ f q.0)) x o
      ∙ (λ i. sumℤ_linear (λ k. pos (p x k) *ℤ (f k -ℤ f x)) ((pos 1, λ k. pos (p x k) *ℤ f k) ∷ (neg_ℤ (f x), λ k. pos (p x k)) ∷ []) o
      (λ k. solve (pos (p x k) ∷ f k ∷ f x ∷ []) (var 0 ⊗ (var 1 ⊖ var 2)) (lit (pos 1) ⊗ (var 0 ⊗ var 1) ⊕ (neg (var 2) ⊗ var 0 ⊕ lit (pos 0))) tt) i +ℤ weigh f o d.1 i)
      ∙ solve (f x ∷ sum_ℤ (λ k. pos (p x k) *ℤ f k) o ∷ sum_ℤ (λ k. pos (p x k)) o ∷ sum_ℤ (λ j. shift o j *ℤ f j) o ∷ [])
      (lit (pos 1) ⊗ var 1 ⊕ (neg (var 0) ⊗ var 2 ⊕ lit (pos 0)) ⊕ var 3) (neg (var 2) ⊗ var 0 ⊕ (var 1 ⊕ var 3)) tt
      ∙ sym (λ i. here x o i *ℤ f x +ℤ right i)
    where
      right : sum_ℤ (λ j. shift (x ∷ o) j *ℤ f j) o ≡ sum_ℤ (λ j. pos (p x j) *ℤ f j) o +ℤ sum_ℤ (λ j. shift o j *ℤ f j) o
      right = sumℤ_split _ _ _ o (λ j k. ap (λ (z : ℤ). z *ℤ f j) (there x o j (d.0 j k)) ∙ mul_ℤ_distr (pos (p x j)) (shift o j) (f j))

  pub shifts_cancel : (o : List ℕ) → Distinct o → sum_ℤ (shift o) o ≡ pos 0
  shifts_cancel [] d = refl
  shifts_cancel (x ∷ o) d =
      omega (arith, lin, here x o, shifts_cancel o d.1, sumℤ_split (shift (x ∷ o)) (λ j. pos (p x j)) (shift o) o (λ j k. there x o j (d.0 j k)))

-- what a list of numbers has at the place where a unit is found
pub found : (f : ℕ → ℤ) (o : List ℕ) (j : ℕ) → In j o → get_or (map f o) (found_at o j) (pos 0) ≡ f j
found f [] j i = absurd i
found f (x ∷ o) j (inl e) = grind (arith, nat_tests)
found f (x ∷ o) j (inr i) = let r = found f o j i in grind (arith, nat_tests)
