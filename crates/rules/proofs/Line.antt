-- The least-squares line: no placing at fractions misfits less than an order of greatest spread at its coordinates, and its loss over n is what it misfits by.
use Rattle.std.proofs.Common.{◌≡◌, ℕ, suc, ◌*◌, ◌<◌, false, List, [], ◌∷◌, ℤ, pos, negsuc, ◌+ℤ◌, ◌-ℤ◌, ◌*ℤ◌, nat_abs, ◌≤ℤ◌, sym, refl, ap, ◌∙◌, subst, subst₂, arith}
use lib.IntN.{*ℤ_comm}
use lib.Signed.{≤ℤ_refl}
use Rattle.std.proofs.lemmas.Int.{ints}
use Rattle.rules.specs.Units.{labels, sum_ℤ, with_unit, displacement}
use Rattle.rules.specs.Sheets.{pairs_in}
use Rattle.rules.specs.Yardsticks.{Symmetric, add_each, above, spread}
use Rattle.rules.specs.Orders.{Order}
use Rattle.rules.specs.Ranking.{total}
use Rattle.rules.specs.Scaling.{square, displacements, loss, Fraction, Placing, AtMost, misfits, placed_at}
use Rattle.rules.specs.Theorems.{Line, Loss}
use Rattle.rules.proofs.Members.{In}
use Rattle.rules.proofs.Ways.{in_label}
use Rattle.rules.proofs.Integers.{lin, mul_le, prod_nonneg}
use Rattle.rules.proofs.Ring.{var, lit, ◌⊕◌, ◌⊗◌, ◌⊖◌, solve}
use Rattle.rules.proofs.Sums.{sumℤ_same, sumℤ_ones, sumℤ_linear, sumℤ_map, sumℤ_le, squares_nonneg, pairs_step, pairs_related}
use Rattle.rules.proofs.Permutations.{Perm, in_perm, pairs_perm, order_perm, perm_order, order_distinct, sorted}
use Rattle.rules.proofs.Displacements.{shift, displacements_are, weigh, shifts_cancel, found}
use Rattle.rules.proofs.Fractions.{product_0, at_most_trans, Is, is_at_most, fit, misfits_are, common, common_0, over_common, common_is}

-- the squared differences of the pairs: how many units there are times the squares, less the square of the sum
differences : (f : ℕ → ℤ) (o : List ℕ) → sum_ℤ (λ q. square (f q.1 -ℤ f q.0)) (pairs_in o) ≡ sum_ℤ (λ j. pos 1) o *ℤ sum_ℤ (λ j. square (f j)) o -ℤ square (sum_ℤ f o)
differences f [] = refl
differences f (x ∷ o) =
    pairs_step (λ q. square (f q.1 -ℤ f q.0)) x o
    ∙ (λ i. first i +ℤ differences f o i)
    ∙ (let a = var 0 in let s2 = var 1 in let s = var 2 in let n = var 3 in
    solve (f x ∷ sum_ℤ (λ k. square (f k)) o ∷ sum_ℤ f o ∷ sum_ℤ (λ k. pos 1) o ∷ [])
    (lit (pos 1) ⊗ s2 ⊕ (lit (negsuc 1) ⊗ a ⊗ s ⊕ (a ⊗ a ⊗ n ⊕ lit (pos 0))) ⊕ (n ⊗ s2 ⊖ s ⊗ s))
    ((lit (pos 1) ⊕ n) ⊗ (a ⊗ a ⊕ s2) ⊖ (a ⊕ s) ⊗ (a ⊕ s)) tt)
  where
    first : sum_ℤ (λ k. square (f k -ℤ f x)) o ≡ pos 1 *ℤ sum_ℤ (λ k. square (f k)) o +ℤ (negsuc 1 *ℤ f x *ℤ sum_ℤ f o +ℤ (square (f x) *ℤ sum_ℤ (λ k. pos 1) o +ℤ pos 0))
    first =
        sumℤ_linear (λ k. square (f k -ℤ f x)) ((pos 1, λ k. square (f k)) ∷ (negsuc 1 *ℤ f x, f) ∷ (square (f x), λ k. pos 1) ∷ []) o
        (λ k. solve (f k ∷ f x ∷ []) ((var 0 ⊖ var 1) ⊗ (var 0 ⊖ var 1))
        (lit (pos 1) ⊗ (var 0 ⊗ var 0) ⊕ (lit (negsuc 1) ⊗ var 1 ⊗ var 0 ⊕ (var 1 ⊗ var 1 ⊗ lit (pos 1) ⊕ lit (pos 0)))) tt)

spread_total : (p : ℕ → ℕ → ℕ) (n A : ℕ) (o : List ℕ) → total spread p n A o ≡ sum_ℤ square (displacements p n A o) ∷ []
spread_total p n A [] = refl
spread_total p n A (j ∷ o) = ap (add_each (square (displacement p n A j) ∷ [])) (spread_total p n (with_unit A j) o)

above_one : (a b : ℤ) → above (a ∷ []) (b ∷ []) ≡ false → a ≤ℤ b
above_one a b h = grind (arith, ints)

abs_turn : (a b : ℤ) → pos (nat_abs (a -ℤ b)) ≡ pos (nat_abs (b -ℤ a))
abs_turn a b = omega (arith, ints)

abs_up : (a b : ℤ) → a ≤ℤ b → pos (nat_abs (a -ℤ b)) ≡ b -ℤ a
abs_up a b h = omega (arith, ints)

-- a distance misfits by at most what the signed difference does
below_signed : (a : ℕ) (d : ℤ) → square (pos a -ℤ pos (nat_abs d)) ≤ℤ square (pos a -ℤ d)
below_signed a (pos m) = ≤ℤ_refl (square (pos a -ℤ pos m))
below_signed a (negsuc m) =
    let e : square (pos a +ℤ pos (suc m)) ≡ square (pos a -ℤ pos (suc m)) +ℤ pos 4 *ℤ (pos a *ℤ pos (suc m)) =
    solve (pos a ∷ pos (suc m) ∷ []) ((var 0 ⊕ var 1) ⊗ (var 0 ⊕ var 1)) ((var 0 ⊖ var 1) ⊗ (var 0 ⊖ var 1) ⊕ lit (pos 4) ⊗ (var 0 ⊗ var 1)) tt in
    omega (arith, lin, e, prod_nonneg 4 (pos a *ℤ pos (suc m)) (prod_nonneg a (pos (suc m)) (omega (arith, ints))))

module _ (n : ℕ) (p : ℕ → ℕ → ℕ) (s : Symmetric p) where
  abbrev mark : ℕ × ℕ → ℤ
  mark q = pos (p q.0 q.1)

  -- the squared marks of the pairs of a row, and its squared displacements
  abbrev marks² : List ℕ → ℤ
  marks² o = sum_ℤ (λ q. square (mark q)) (pairs_in o)

  abbrev shifts² : List ℕ → ℤ
  shifts² o = sum_ℤ (λ j. square (shift p s o j)) o

  -- the misfits with the differences signed along the row
  abbrev signed : ℤ → (ℕ → ℤ) → List ℕ → ℤ
  signed d X o = sum_ℤ (λ q. square (d *ℤ mark q -ℤ (X q.1 -ℤ X q.0))) (pairs_in o)

  abbrev loss_over_n : List ℕ → Fraction
  loss_over_n o = record { over = loss p n o; under = n }

  fit_same : (d : ℤ) (X : ℕ → ℤ) {o q : List ℕ} → Perm o q → fit p d X o ≡ fit p d X q
  fit_same d X r = pairs_perm _ (λ u v i. square (d *ℤ pos (s u v i) -ℤ abs_turn (X u) (X v) i)) r

  module _ (o : List ℕ) (h : Order n o) where
    abbrev t : ℕ → ℤ
    t = shift p s o

    count : sum_ℤ (λ j. pos 1) o ≡ pos n
    count = sumℤ_ones o ∙ ap pos h.as_many

    cancel : sum_ℤ t o ≡ pos 0
    cancel = shifts_cancel p s o (order_distinct n o h)

    loss_is : loss p n o ≡ pos n *ℤ marks² o -ℤ shifts² o
    loss_is = λ i. pos n *ℤ pairs_perm (λ q. square (mark q)) (λ u v i. square (pos (s u v i))) (order_perm n o h) i
        -ℤ (ap (sum_ℤ square) (displacements_are p s n o h) ∙ sumℤ_map square t o) i

    signed_is : (d : ℤ) (X : ℕ → ℤ) → signed d X o
        ≡ square d *ℤ marks² o +ℤ (negsuc 1 *ℤ d *ℤ sum_ℤ (λ j. t j *ℤ X j) o +ℤ (pos 1 *ℤ (pos n *ℤ sum_ℤ (λ j. square (X j)) o -ℤ square (sum_ℤ X o)) +ℤ pos 0))
    signed_is d X =
        sumℤ_linear (λ q. square (d *ℤ mark q -ℤ rise q))
        ((square d, λ q. square (mark q)) ∷ (negsuc 1 *ℤ d, λ q. mark q *ℤ rise q) ∷ (pos 1, λ q. square (rise q)) ∷ []) (pairs_in o)
        (λ q. solve (d ∷ mark q ∷ rise q ∷ []) ((var 0 ⊗ var 1 ⊖ var 2) ⊗ (var 0 ⊗ var 1 ⊖ var 2))
        (var 0 ⊗ var 0 ⊗ (var 1 ⊗ var 1) ⊕ (lit (negsuc 1) ⊗ var 0 ⊗ (var 1 ⊗ var 2) ⊕ (lit (pos 1) ⊗ (var 2 ⊗ var 2) ⊕ lit (pos 0)))) tt)
        ∙ (λ i. square d *ℤ marks² o +ℤ (negsuc 1 *ℤ d *ℤ weigh p s X o (order_distinct n o h) i
        +ℤ (pos 1 *ℤ (differences X o ∙ ap (λ (m : ℤ). m *ℤ sum_ℤ (λ j. square (X j)) o -ℤ square (sum_ℤ X o)) count) i +ℤ pos 0)))
      where
        rise : ℕ × ℕ → ℤ
        rise q = X q.1 -ℤ X q.0

    -- what is left of the signed misfits is a sum of squares
    signed_bound : (d : ℤ) (X : ℕ → ℤ) → (square d *ℤ loss p n o) ≤ℤ (pos n *ℤ signed d X o)
    signed_bound d X = omega (arith, lin, squares_nonneg left o, whole)
      where
        S : ℤ
        S = sum_ℤ X o

        left : ℕ → ℤ
        left j = pos n *ℤ X j -ℤ S -ℤ d *ℤ t j

        parts : List (ℤ × (ℕ → ℤ))
        parts =
            (square (pos n), λ j. square (X j)) ∷ (square S, λ j. pos 1) ∷ (square d, λ j. square (t j))
            ∷ (negsuc 1 *ℤ (pos n *ℤ S), X) ∷ (negsuc 1 *ℤ (pos n *ℤ d), λ j. t j *ℤ X j) ∷ (pos 2 *ℤ (S *ℤ d), t) ∷ []

        opened : (j : ℕ) → square (left j) ≡ sum_ℤ (λ c. c.0 *ℤ c.1 j) parts
        opened j =
            let N = var 0 in let D = var 1 in let U = var 2 in let x = var 3 in let u = var 4 in let two = lit (negsuc 1) in
            solve (pos n ∷ d ∷ S ∷ X j ∷ t j ∷ []) ((N ⊗ x ⊖ U ⊖ D ⊗ u) ⊗ (N ⊗ x ⊖ U ⊖ D ⊗ u))
            (N ⊗ N ⊗ (x ⊗ x) ⊕ (U ⊗ U ⊗ lit (pos 1) ⊕ (D ⊗ D ⊗ (u ⊗ u) ⊕ (two ⊗ (N ⊗ U) ⊗ x ⊕ (two ⊗ (N ⊗ D) ⊗ (u ⊗ x) ⊕ (lit (pos 2) ⊗ (U ⊗ D) ⊗ u ⊕ lit (pos 0))))))) tt

        whole : pos n *ℤ signed d X o -ℤ square d *ℤ loss p n o ≡ sum_ℤ (λ j. square (left j)) o
        whole =
            (λ i. pos n *ℤ signed_is d X i -ℤ square d *ℤ loss_is i)
            ∙ (let N = var 0 in let D = var 1 in let P = var 2 in let W = var 3 in let X2 = var 4 in let U = var 5 in let T = var 6 in let two = lit (negsuc 1) in
            solve (pos n ∷ d ∷ marks² o ∷ sum_ℤ (λ j. t j *ℤ X j) o ∷ sum_ℤ (λ j. square (X j)) o ∷ S ∷ shifts² o ∷ [])
            (N ⊗ (D ⊗ D ⊗ P ⊕ (two ⊗ D ⊗ W ⊕ (lit (pos 1) ⊗ (N ⊗ X2 ⊖ U ⊗ U) ⊕ lit (pos 0)))) ⊖ D ⊗ D ⊗ (N ⊗ P ⊖ T))
            (N ⊗ N ⊗ X2 ⊕ (U ⊗ U ⊗ N ⊕ (D ⊗ D ⊗ T ⊕ (two ⊗ (N ⊗ U) ⊗ U ⊕ (two ⊗ (N ⊗ D) ⊗ W ⊕ (lit (pos 2) ⊗ (U ⊗ D) ⊗ lit (pos 0) ⊕ lit (pos 0))))))) tt)
            ∙ sym (λ i. square (pos n) *ℤ sum_ℤ (λ j. square (X j)) o +ℤ (square S *ℤ count i +ℤ (square d *ℤ shifts² o +ℤ (negsuc 1 *ℤ (pos n *ℤ S) *ℤ S
            +ℤ (negsuc 1 *ℤ (pos n *ℤ d) *ℤ sum_ℤ (λ j. t j *ℤ X j) o +ℤ (pos 2 *ℤ (S *ℤ d) *ℤ cancel i +ℤ pos 0))))))
            ∙ sym (sumℤ_linear (λ j. square (left j)) parts o opened)

    fit_low : fit p (pos n) t (labels n) ≤ℤ (pos n *ℤ loss p n o)
    fit_low = omega (arith, lin, low, exact, fit_same (pos n) t (order_perm n o h))
      where
        low : fit p (pos n) t o ≤ℤ signed (pos n) t o
        low = sumℤ_le _ _ (pairs_in o) (λ q. rw (abs_turn (t q.0) (t q.1)) (below_signed (n * p q.0 q.1) (t q.1 -ℤ t q.0)))

        exact : signed (pos n) t o ≡ pos n *ℤ loss p n o
        exact =
            signed_is (pos n) t
            ∙ ap (λ (z : ℤ). square (pos n) *ℤ marks² o +ℤ (negsuc 1 *ℤ pos n *ℤ shifts² o +ℤ (pos 1 *ℤ (pos n *ℤ shifts² o -ℤ square z) +ℤ pos 0))) cancel
            ∙ solve (pos n ∷ marks² o ∷ shifts² o ∷ [])
            (var 0 ⊗ var 0 ⊗ var 1 ⊕ (lit (negsuc 1) ⊗ var 0 ⊗ var 2 ⊕ (lit (pos 1) ⊗ (var 0 ⊗ var 2 ⊖ lit (pos 0)) ⊕ lit (pos 0))))
            (var 0 ⊗ (var 0 ⊗ var 1 ⊖ var 2)) tt
            ∙ ap (λ (z : ℤ). pos n *ℤ z) (sym loss_is)

    -- the order's own coordinates
    coordinates : ℕ → Fraction
    coordinates = placed_at n o (displacements p n 0 o)

    coordinates_are : 0 < n → (j : ℕ) → In j (labels n) → Is (coordinates j) (t j) n
    unfolding coordinates
    coordinates_are l j i = record { above_0 = l; equal = ap (λ (w : ℤ). w *ℤ pos n) (rw (displacements_are p s n o h) (found t o j (in_perm (order_perm n o h) j i))) }

    -- at its coordinates an order misfits by at most its loss over n
    at_most_loss : 0 < n → AtMost (misfits p n coordinates) (loss_over_n o)
    at_most_loss l =
        is_at_most (misfits p n coordinates) (loss_over_n o) (fit p (pos n) t (labels n)) (loss p n o) (n * n) n (product_0 n n l l) l
        (misfits_are p n coordinates t n (coordinates_are l)) (record { above_0 = l; equal = refl })
        (subst₂ (λ (a b : ℤ). a ≤ℤ b) (*ℤ_comm (pos n) (fit p (pos n) t (labels n)))
        (solve (pos n ∷ loss p n o ∷ []) (var 0 ⊗ (var 0 ⊗ var 1)) (var 1 ⊗ (var 0 ⊗ var 0)) tt) (mul_le n _ _ fit_low))

  -- an order of greatest spread
  module _ (o : List ℕ) (h : Order n o) (best : (q : List ℕ) → Order n q → above (total spread p n 0 q) (total spread p n 0 o) ≡ false) where
    loss_least : (q : List ℕ) → Order n q → loss p n o ≤ℤ loss p n q
    loss_least q k =
        let e = subst₂ (λ (a b : List ℤ). above a b ≡ false) (spread_total p n 0 q) (spread_total p n 0 o) (best q k) in
        omega (arith, lin, above_one (sum_ℤ square (displacements p n 0 q)) (sum_ℤ square (displacements p n 0 o)) e)

    -- along an order that is sorted by a placing, the signed differences are the distances
    fit_high : (D : ℕ) (X : ℕ → ℤ) → (pos (D * D) *ℤ loss p n o) ≤ℤ (pos n *ℤ fit p (pos D) X (labels n))
    fit_high D X =
        let w = sorted X o in
        let q : List ℕ = w.0 in
        let k : Order n q = perm_order n o q h w.1.0 in
        let up : (r : ℕ × ℕ) → In r (pairs_in q) → X r.0 ≤ℤ X r.1 = pairs_related (λ u v. X u ≤ℤ X v) q w.1.1 in
        let e : fit p (pos D) X (labels n) ≡ signed (pos D) X q =
        fit_same (pos D) X (order_perm n q k)
        ∙ sumℤ_same _ _ (pairs_in q) (λ r i. ap (λ (z : ℤ). square (pos D *ℤ mark r -ℤ z)) (abs_up (X r.0) (X r.1) (up r i))) in
        subst (λ (z : ℤ). (pos (D * D) *ℤ loss p n o) ≤ℤ (pos n *ℤ z)) (sym e)
        (omega (arith, lin, mul_le (D * D) (loss p n o) (loss p n q) (loss_least q k), signed_bound q k (pos D) X))

    -- no placing misfits by less than its loss over n
    loss_at_most : 0 < n → (x : ℕ → Fraction) → Placing n x → AtMost (loss_over_n o) (misfits p n x)
    loss_at_most l x px =
        let ls : List ℕ = labels n in
        let d : (j : ℕ) → In j ls → 0 < (x j).under = λ j i. px j (in_label n j i) in
        let D : ℕ = common x ls in
        let D0 : 0 < D = common_0 x ls d in
        let X : ℕ → ℤ = over_common x ls in
        is_at_most (loss_over_n o) (misfits p n x) (loss p n o) (fit p (pos D) X ls) n (D * D) l (product_0 D D D0 D0)
        (record { above_0 = l; equal = refl }) (misfits_are p n x X D (common_is x ls d))
        (subst₂ (λ (a b : ℤ). a ≤ℤ b) (*ℤ_comm (pos (D * D)) (loss p n o)) (*ℤ_comm (pos n) (fit p (pos D) X ls)) (fit_high D X))

pub line : Line
unfolding coordinates
line n two p s o h best x px =
    at_most_trans (misfits p n (placed_at n o (displacements p n 0 o))) (record { over = loss p n o; under = n }) (misfits p n x) (omega arith)
    (at_most_loss n p s o h (omega arith)) (loss_at_most n p s o h best (omega arith) x px)

pub loss_exact : Loss
unfolding coordinates
loss_exact n two p s o h =
    (at_most_loss n p s o h (omega arith), λ best. loss_at_most n p s o h best (omega arith) (placed_at n o (displacements p n 0 o)) (λ j l. omega arith))
