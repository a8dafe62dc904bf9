-- The anti-Robinson pattern: where some order has it, the orders of greatest gradient are those that have it.
use Rattle.std.proofs.Common.{◌≡◌, ℕ, zero, suc, ◌<◌, ◌≤◌, false, ◌⊎◌, List, [], ◌∷◌, get_or, ℤ, pos, negsuc, ◌+ℤ◌, ◌-ℤ◌, neg_ℤ, ◌≤ℤ◌, sym, ap, ◌∙◌, subst₂, inl, inr, arith}
use lib.IntN.{+ℤ_idl}
use borrow.Author.Differences.{up, down}
use Rattle.std.specs.Int.{int_max}
use Rattle.std.proofs.lemmas.Int.{int_max_is, ints}
use Rattle.std.proofs.lemmas.Bool.{lt-ltb}
use Rattle.rules.specs.Units.{sum_ℤ, with_unit}
use Rattle.rules.specs.Sheets.{pairs_in}
use Rattle.rules.specs.Yardsticks.{Symmetric, sign_ℤ, add_each, above, gradient, across}
use Rattle.rules.specs.Orders.{Order}
use Rattle.rules.specs.Ranking.{total}
use Rattle.rules.specs.Pattern.{Triple, triples, AntiRobinson}
use Rattle.rules.specs.Theorems.{Pattern, TiedPattern}
use Rattle.rules.proofs.Members.{In}
use Rattle.rules.proofs.Integers.{lin}
use Rattle.rules.proofs.Sums.{sumℤ_same, sumℤ_le, sumℤ_tight, pairs_step, three, triples_step, in_triples, triples_related}
use Rattle.rules.proofs.Permutations.{Perm, both, perm_sym, triples_perm, order_perm}
use Rattle.rules.proofs.Displacements.{set_sum, set_sum_none, set_sum_add, Placed, all_placed, next_placed, next_sum, next_crossed}

-- both comparisons of three units hold
abbrev pub Rises : (ℕ → ℕ → ℕ) → Triple → Type 0
Rises p t = (p t.first t.middle ≤ p t.first t.last) × (p t.middle t.last ≤ p t.first t.last)

pub pattern_rises : (p : ℕ → ℕ → ℕ) (o : List ℕ) → AntiRobinson p o → (t : Triple) → In t (triples o) → Rises p t
pattern_rises p o h = triples_related (λ u v w. (p u v ≤ p u w) × (p v w ≤ p u w)) o h

pub rises_pattern : (p : ℕ → ℕ → ℕ) (o : List ℕ) → ((t : Triple) → In t (triples o) → Rises p t) → AntiRobinson p o
rises_pattern p o h u v w a b c = h (three (get_or o u 0) (get_or o v 0, get_or o w 0)) (in_triples o u v w a b c)

-- a number of an outer mark x and two inner marks y and z: the signs of the rises, and the rises
abbrev signs : ℤ → ℤ → ℤ → ℤ
signs x y z = sign_ℤ (x -ℤ y) +ℤ sign_ℤ (x -ℤ z)

abbrev rises : ℤ → ℤ → ℤ → ℤ
rises x y z = (x -ℤ y) +ℤ (x -ℤ z)

abbrev of_triple : (ℤ → ℤ → ℤ → ℤ) → (ℕ → ℕ → ℕ) → Triple → ℤ
of_triple at p t = at (pos (p t.first t.last)) (pos (p t.first t.middle)) (pos (p t.middle t.last))

-- the total by gradient is two sums over the triples
module _ (n : ℕ) (p : ℕ → ℕ → ℕ) where
  abbrev from : ℕ → (Triple → ℤ) → List ℕ → ℤ
  from A g o = set_sum n A (λ i. sum_ℤ (λ q. g (three i q)) (pairs_in o)) +ℤ sum_ℤ g (triples o)

  none : (A : ℕ) → pos 0 ≡ set_sum n A (λ i. pos 0) +ℤ pos 0
  none A = omega (arith, lin, set_sum_add n A (λ i. pos 0) (λ i. pos 0))

  step : (A j : ℕ) (o : List ℕ) → Placed n A (j ∷ o) → (g : Triple → ℤ) → across (λ i k. g (three i (j, k))) n A j +ℤ from (with_unit A j) g o ≡ from A g (j ∷ o)
  step A j o w g =
      let e : set_sum n A (λ i. sum_ℤ (λ q. g (three i q)) (pairs_in (j ∷ o))) ≡ set_sum n A (λ i. sum_ℤ (λ k. g (three i (j, k))) o +ℤ sum_ℤ (λ q. g (three i q)) (pairs_in o)) =
      λ z. set_sum n A (λ i. pairs_step (λ q. g (three i q)) j o z) in
      omega (
        arith,
        lin,
        e,
        next_crossed n A j o w (λ i k. g (three i (j, k))),
        next_sum n A j o w (λ i. sum_ℤ (λ q. g (three i q)) (pairs_in o)),
        set_sum_add n A (λ i. sum_ℤ (λ k. g (three i (j, k))) o) (λ i. sum_ℤ (λ q. g (three i q)) (pairs_in o)),
        triples_step g j o,
      )

  along : (A : ℕ) (o : List ℕ) → Placed n A o → total gradient p n A o ≡ from A (of_triple signs p) o ∷ from A (of_triple rises p) o ∷ []
  along A [] w = λ i. none A i ∷ none A i ∷ []
  along A (j ∷ o) w =
      ap (add_each (across (λ i k. of_triple signs p (three i (j, k))) n A j ∷ across (λ i k. of_triple rises p (three i (j, k))) n A j ∷ []))
      (along (with_unit A j) o (next_placed n A j o w))
      ∙ (λ i. step A j o w (of_triple signs p) i ∷ step A j o w (of_triple rises p) i ∷ [])

  gradient_is : (o : List ℕ) → Order n o → total gradient p n 0 o ≡ sum_ℤ (of_triple signs p) (triples o) ∷ sum_ℤ (of_triple rises p) (triples o) ∷ []
  gradient_is o h = along 0 o (all_placed n o h) ∙ (λ i. whole (of_triple signs p) i ∷ whole (of_triple rises p) i ∷ [])
    where
      whole : (g : Triple → ℤ) → from 0 g o ≡ sum_ℤ g (triples o)
      whole g = ap (λ (w : ℤ). w +ℤ sum_ℤ g (triples o)) (set_sum_none n (λ i. sum_ℤ (λ q. g (three i q)) (pairs_in o))) ∙ +ℤ_idl (sum_ℤ g (triples o))

-- in the words of `omega`, which reads z as up z less down z
sign_of : (z : ℤ) → ((down z < up z) × (up (sign_ℤ z) ≡ 1) × (down (sign_ℤ z) ≡ 0))
    ⊎ (((up z ≡ down z) × (up (sign_ℤ z) ≡ 0) × (down (sign_ℤ z) ≡ 0)) ⊎ ((up z < down z) × (up (sign_ℤ z) ≡ 0) × (down (sign_ℤ z) ≡ 1)))
sign_of (pos zero) = inr (inl (omega arith))
sign_of (pos (suc n)) = inl (rw (lt-ltb 0 (suc n) (omega arith)) (omega arith))
sign_of (negsuc n) = inr (inr (omega arith))

sign_neg : (x y : ℤ) → sign_ℤ (y -ℤ x) ≡ neg_ℤ (sign_ℤ (x -ℤ y))
sign_neg x y = omega (arith, lin, sign_of (x -ℤ y), sign_of (y -ℤ x))

-- the most that three marks have, whichever is the outer one
most : (ℤ → ℤ → ℤ → ℤ) → ℤ → ℤ → ℤ → ℤ
most at x y z = int_max (at x y z) (int_max (at y x z) (at z x y))

-- the inner marks count alike, and none gives more as the outer mark than the greatest
abbrev FavoursOuter : (ℤ → ℤ → ℤ → ℤ) → Type 0
FavoursOuter at = ((x y z : ℤ) → at x y z ≡ at x z y) × ((x y z : ℤ) → y ≤ℤ x → z ≤ℤ x → at y x z ≤ℤ at x y z)

signs_favour : FavoursOuter signs
signs_favour = (λ x y z. omega (arith, lin), λ x y z h k. omega (arith, lin, sign_of (x -ℤ y), sign_of (x -ℤ z), sign_of (y -ℤ z), sign_neg x y))

rises_favour : FavoursOuter rises
rises_favour = (λ x y z. omega (arith, lin), λ x y z h k. omega (arith, lin))

signs_most : (x y z : ℤ) → signs x y z ≡ most signs x y z → (y ≤ℤ x) × (z ≤ℤ x)
unfolding most
signs_most x y z e = omega (arith, lin, int_max_is, sign_of (x -ℤ y), sign_of (x -ℤ z), sign_of (y -ℤ z), sign_neg x y, sign_neg x z, sign_neg y z)

-- summed over the triples, an anti-Robinson row has the most
module _ (at : ℤ → ℤ → ℤ → ℤ) (favours : FavoursOuter at) (p : ℕ → ℕ → ℕ) (s : Symmetric p) where
  abbrev each : Triple → ℤ
  each = of_triple at p

  abbrev bound : Triple → ℤ
  bound = of_triple (most at) p

  below : (t : Triple) → each t ≤ℤ bound t
  unfolding most
  below t = omega (arith, lin, int_max_is)

  same : {o q : List ℕ} → Perm o q → sum_ℤ bound (triples o) ≡ sum_ℤ bound (triples q)
  unfolding most
  same = triples_perm bound
      (λ u v w. left (pos (p u w)) (pos (p u v)) (pos (p v w)) ∙ ap (λ (m : ℕ). most at (pos (p v w)) (pos m) (pos (p u w))) (s u v))
      (λ u v w. right (pos (p u w)) (pos (p u v)) (pos (p v w)) ∙ ap (λ (m : ℕ). most at (pos (p u v)) (pos (p u w)) (pos m)) (s v w))
    where
      left : (x y z : ℤ) → most at x y z ≡ most at z y x
      left x y z = omega (arith, lin, int_max_is, favours.0 x y z, favours.0 y x z, favours.0 z x y)

      right : (x y z : ℤ) → most at x y z ≡ most at y x z
      right x y z = omega (arith, lin, int_max_is, favours.0 z x y)

  reached : (o : List ℕ) → AntiRobinson p o → sum_ℤ each (triples o) ≡ sum_ℤ bound (triples o)
  unfolding most
  reached o a = sumℤ_same each bound (triples o) (λ t i. let r = pattern_rises p o a t i in by _ _ _ r.0 r.1)
    where
      by : (x y z : ℕ) → y ≤ x → z ≤ x → at (pos x) (pos y) (pos z) ≡ most at (pos x) (pos y) (pos z)
      by x y z h k =
          let a : pos y ≤ℤ pos x = omega (arith, ints) in
          let b : pos z ≤ℤ pos x = omega (arith, ints) in
          omega (arith, lin, int_max_is, favours.0 (pos x) (pos y) (pos z), favours.1 (pos x) (pos y) (pos z) a b, favours.1 (pos x) (pos z) (pos y) b a)

  never_more : (o q : List ℕ) → AntiRobinson p o → Perm o q → sum_ℤ each (triples q) ≤ℤ sum_ℤ each (triples o)
  never_more o q a r = omega (arith, lin, sumℤ_le each bound (triples q) below, same r, reached o a)

  tight : (o q : List ℕ) → AntiRobinson p o → Perm o q → sum_ℤ each (triples o) ≤ℤ sum_ℤ each (triples q) → (t : Triple) → In t (triples q) → each t ≡ bound t
  tight o q a r h = sumℤ_tight each bound (triples q) below (omega (arith, lin, same r, reached o a))

above_not : (a b c d : ℤ) → a ≤ℤ c → b ≤ℤ d → above (a ∷ b ∷ []) (c ∷ d ∷ []) ≡ false
above_not a b c d h k = grind (arith, ints)

above_first : (a b c d : ℤ) → above (a ∷ b ∷ []) (c ∷ d ∷ []) ≡ false → a ≤ℤ c
above_first a b c d h = grind (arith, ints)

-- o is anti-Robinson, q another order
module _ (p : ℕ → ℕ → ℕ) (s : Symmetric p) (n : ℕ) (o : List ℕ) (ho : Order n o) (a : AntiRobinson p o) (q : List ℕ) (hq : Order n q) where
  same_units : Perm o q
  same_units = both (perm_sym (order_perm n o ho)) (order_perm n q hq)

  never_above : above (total gradient p n 0 q) (total gradient p n 0 o) ≡ false
  never_above =
      subst₂ (λ (t u : List ℤ). above t u ≡ false) (sym (gradient_is n p q hq)) (sym (gradient_is n p o ho))
      (above_not _ (sum_ℤ (of_triple rises p) (triples q)) _ (sum_ℤ (of_triple rises p) (triples o))
      (never_more signs signs_favour p s o q a same_units) (never_more rises rises_favour p s o q a same_units))

  not_below : above (total gradient p n 0 o) (total gradient p n 0 q) ≡ false → AntiRobinson p q
  not_below h =
      let e = subst₂ (λ (t u : List ℤ). above t u ≡ false) (gradient_is n p o ho) (gradient_is n p q hq) h in
      let g = above_first _ (sum_ℤ (of_triple rises p) (triples o)) _ (sum_ℤ (of_triple rises p) (triples q)) e in
      rises_pattern p q (λ t i. let w = signs_most _ _ _ (tight signs signs_favour p s o q a same_units g t i) in (omega (arith, ints, w.0), omega (arith, ints, w.1)))

pub pattern : Pattern
pattern n p s o ho a q hq = (λ f. not_below p s n o ho a q hq (f o ho), λ b r hr. never_above p s n q hq b r hr)

pub tied_pattern : TiedPattern
tied_pattern n p s tied o ho ko a q hq kq = (λ f. not_below p s n o ho a q hq (f o ho ko), λ b r hr kr. never_above p s n q hq b r hr)
