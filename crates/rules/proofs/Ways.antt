-- The tie-keeping ways to place what a set leaves: exactly the rows that are such ways, ascending in label order.
use Rattle.std.proofs.Common.{◌≡◌, ℕ, zero, suc, ◌+◌, ◌<◌, Bool, true, false, not, ◌||◌, ◌⊎◌, List, [], ◌∷◌, map, length, get_or, sym, refl, ap, ◌∙◌, subst, inl, inr, arith}
use Rattle.std.proofs.lemmas.Bool.{both_ways, not-true, not_from_false, and_parts, and_from}
use Rattle.std.proofs.lemmas.Bool.Decides.{nat_tests}
use Rattle.rules.specs.Units.{label, labels, has, with_unit}
use Rattle.rules.specs.Orders.{Order, Keeps, earlier, follows, ready, ready_units, ways}
use Rattle.rules.specs.Recurrence.{OnLabels}
use Rattle.rules.proofs.Tests.{or_then, then_or}
use Rattle.rules.proofs.Sets.{label_from, label_low, label_high, with_same, with_other, with_kept, with_lost, with_back, has_none, many, many_full, many_with, many_none}
use Rattle.rules.proofs.Members.{In, in_map, map_in, in_concat, concat_in, in_filter, filter_in, all_of_in, in_all_of, in_labels, labels_in, labels_ascend, Ascending, ascending_map, ascending_filter, ascending_concat}

pub label_in : (n j : ℕ) → label n j ≡ true → In j (labels n)
label_in n j h = in_labels n j (label_low n j h) (label_high n j h)

pub in_label : (n j : ℕ) → In j (labels n) → label n j ≡ true
in_label n j h = label_from n j (labels_in n j h).0 (labels_in n j h).1

module _ (tied : ℕ → ℕ → Bool) (n : ℕ) where
  pub follows_at : (A j : ℕ) → follows tied n A j ≡ true → (a : ℕ) → label n a ≡ true → tied a j ≡ true → has A a ≡ true
  follows_at A j h a l =
      or_then (tied a j) (has A a) (all_of_in (λ b. not (tied b j) || has A b) (labels n) h a (label_in n a l))

  pub follows_from : (A j : ℕ) → ((a : ℕ) → label n a ≡ true → tied a j ≡ true → has A a ≡ true) → follows tied n A j ≡ true
  follows_from A j h =
      in_all_of (λ b. not (tied b j) || has A b) (labels n) (λ a i. then_or (tied a j) (has A a) (h a (in_label n a i)))

  pub ready_out : (A j : ℕ) → ready tied n A j ≡ true → has A j ≡ false
  ready_out A j h = not-true (has A j) (and_parts (not (has A j)) (follows tied n A j) h).0

  pub ready_tied : (A j : ℕ) → ready tied n A j ≡ true → (a : ℕ) → label n a ≡ true → tied a j ≡ true → has A a ≡ true
  ready_tied A j h = follows_at A j (and_parts (not (has A j)) (follows tied n A j) h).1

  pub ready_from : (A j : ℕ) → has A j ≡ false → ((a : ℕ) → label n a ≡ true → tied a j ≡ true → has A a ≡ true)
      → ready tied n A j ≡ true
  ready_from A j h k =
      and_from (not (has A j)) (follows tied n A j) (not_from_false (has A j) h) (follows_from A j k)

  pub in_ready : (A j : ℕ) → label n j ≡ true → ready tied n A j ≡ true → In j (ready_units tied n A)
  in_ready A j l r = in_filter (ready tied n A) j (labels n) (label_in n j l) r

  pub ready_in : (A j : ℕ) → In j (ready_units tied n A) → (label n j ≡ true) × (ready tied n A j ≡ true)
  ready_in A j i = let w = filter_in (ready tied n A) j (labels n) i in (in_label n j w.0, w.1)

  -- each unit of the row may come next after those before it
  abbrev pub Way : ℕ → List ℕ → Type 0
  Way A [] = Unit {0}
  Way A (j ∷ o) = (label n j ≡ true) × ((ready tied n A j ≡ true) × Way (with_unit A j) o)

  -- the ways that place j next
  abbrev next : ℕ → ℕ → ℕ → List (List ℕ)
  next k A j = map (λ o. j ∷ o) (ways tied n k (with_unit A j))

  pub ways_in : (k A : ℕ) (o : List ℕ) → length o ≡ k → Way A o → In o (ways tied n k A)
  ways_in zero A [] l h = inl refl
  ways_in zero A (j ∷ o) l h = absurd (omega arith)
  ways_in (suc k) A [] l h = absurd (omega arith)
  ways_in (suc k) A (j ∷ o) l h =
      in_concat (next k A) j (j ∷ o) (ready_units tied n A) (in_ready A j h.0 h.1.0)
      (in_map (λ q. j ∷ q) o (ways tied n k (with_unit A j)) (ways_in k (with_unit A j) o (omega arith) h.1.1))

  pub in_ways : (k A : ℕ) (o : List ℕ) → In o (ways tied n k A) → (length o ≡ k) × Way A o
  in_ways zero A [] h = (refl, tt)
  in_ways zero A (j ∷ o) (inl e) = absurd (let z : ◌≡◌ {A = ℕ} 0 1 = cc in omega arith)
  in_ways zero A (j ∷ o) (inr z) = absurd z
  in_ways (suc k) A o h =
      let w = concat_in (next k A) o (ready_units tied n A) h in
      let j : ℕ = w.0 in
      let v = map_in (λ q. j ∷ q) o (ways tied n k (with_unit A j)) w.1.1 in
      let r = in_ways k (with_unit A j) v.0 v.1.0 in
      let b = ready_in A j w.1.0 in
      subst (λ (q : List ℕ). (length q ≡ suc k) × Way A q) (sym v.1.1) (ap suc r.0, (b.0, (b.1, r.1)))

  -- in label order
  earlier_head : (a b : ℕ) (y z : List ℕ) → a < b → earlier (a ∷ y) (b ∷ z) ≡ true
  earlier_head a b y z h = grind (arith, nat_tests)

  earlier_tail : (a : ℕ) (y z : List ℕ) → earlier y z ≡ true → earlier (a ∷ y) (a ∷ z) ≡ true
  earlier_tail a y z h = grind (arith, nat_tests)

  abbrev Earlier : List ℕ → List ℕ → Type 0
  Earlier u v = earlier u v ≡ true

  pub ways_ascend : (k A : ℕ) → Ascending (λ u v. earlier u v ≡ true) (ways tied n k A)
  ways_ascend zero A = ((λ z i. absurd i), tt)
  ways_ascend (suc k) A =
      ascending_concat (λ a b. a < b) Earlier (next k A)
      (λ j. ascending_map Earlier Earlier (λ q. j ∷ q) (earlier_tail j) (ways tied n k (with_unit A j)) (ways_ascend k (with_unit A j)))
      (λ a b y z l i j.
      let v = map_in (λ q. a ∷ q) y (ways tied n k (with_unit A a)) i in
      let w = map_in (λ q. b ∷ q) z (ways tied n k (with_unit A b)) j in
      rw (v.1.1, w.1.1) (earlier_head a b v.0 w.0 l))
      (ready_units tied n A) (ascending_filter (λ a b. a < b) (ready tied n A) (labels n) (labels_ascend n))

  -- what a way is, by places
  pub way_label : (A : ℕ) (o : List ℕ) → Way A o → (i : ℕ) → i < length o → label n (get_or o i 0) ≡ true
  way_label A [] h i l = absurd (omega arith)
  way_label A (j ∷ o) h zero l = h.0
  way_label A (j ∷ o) h (suc i) l = way_label (with_unit A j) o h.1.1 i (omega arith)

  pub way_out : (A : ℕ) (o : List ℕ) → Way A o → (i : ℕ) → i < length o → has A (get_or o i 0) ≡ false
  way_out A [] h i l = absurd (omega arith)
  way_out A (j ∷ o) h zero l = ready_out A j h.1.0
  way_out A (j ∷ o) h (suc i) l =
      with_lost A j (get_or o i 0) (label_low n j h.0) (ready_out A j h.1.0)
      (label_low n (get_or o i 0) (way_label (with_unit A j) o h.1.1 i (omega arith))) (way_out (with_unit A j) o h.1.1 i (omega arith))

  -- the first unit does not come again
  not_again : (A j : ℕ) (o : List ℕ) → Way A (j ∷ o) → (i : ℕ) → i < length o → j ≡ get_or o i 0 → ⊥
  not_again A j o h i l e =
      both_ways (has (with_unit A j) (get_or o i 0)) (way_out (with_unit A j) o h.1.1 i l)
      (subst (λ (z : ℕ). has (with_unit A j) z ≡ true) e (with_same A j (ready_out A j h.1.0)))

  pub way_once : (A : ℕ) (o : List ℕ) → Way A o → (i k : ℕ) → i < length o → k < length o → get_or o i 0 ≡ get_or o k 0 → i ≡ k
  way_once A [] h i k l m e = absurd (omega arith)
  way_once A (j ∷ o) h zero zero l m e = refl
  way_once A (j ∷ o) h zero (suc k) l m e = absurd (not_again A j o h k (omega arith) e)
  way_once A (j ∷ o) h (suc i) zero l m e = absurd (not_again A j o h i (omega arith) (sym e))
  way_once A (j ∷ o) h (suc i) (suc k) l m e = ap suc (way_once (with_unit A j) o h.1.1 i k (omega arith) (omega arith) e)

  -- a is in the set or stands at one of the first k places
  abbrev pub Placed : ℕ → List ℕ → ℕ → ℕ → Type 0
  Placed A o k a = (has A a ≡ true) ⊎ ((i : ℕ) × ((i < k) × (get_or o i 0 ≡ a)))

  placed_later : (A j : ℕ) (o : List ℕ) (k a : ℕ) → Way A (j ∷ o) → label n a ≡ true → Placed (with_unit A j) o k a → Placed A (j ∷ o) (suc k) a
  placed_later A j o k a h m (inl e) = elim (with_back A j a (label_low n j h.0) (ready_out A j h.1.0) (label_low n a m) e) [
    | inl q ↦ inr (0, (omega arith, sym q))
    | inr q ↦ inl q
  ]
  placed_later A j o k a h m (inr r) = inr (suc r.0, (omega arith, r.1.1))

  pub way_tied : (A : ℕ) (o : List ℕ) → Way A o → (k : ℕ) → k < length o → (a : ℕ) → label n a ≡ true → tied a (get_or o k 0) ≡ true → Placed A o k a
  way_tied A [] h k l a m t = absurd (omega arith)
  way_tied A (j ∷ o) h zero l a m t = inl (ready_tied A j h.1.0 a m t)
  way_tied A (j ∷ o) h (suc k) l a m t = placed_later A j o k a h m (way_tied (with_unit A j) o h.1.1 k (omega arith) a m t)

  pub way_covers : (A : ℕ) (o : List ℕ) → Way A o → many n A + length o ≡ n → (b : ℕ) → label n b ≡ true → Placed A o (length o) b
  way_covers A [] h e b l = inl (many_full n A (omega arith) b (label_low n b l) (label_high n b l))
  way_covers A (j ∷ o) h e b l =
      placed_later A j o (length o) b h l
      (way_covers (with_unit A j) o h.1.1 (omega (arith, many_with n A j h.0 (ready_out A j h.1.0))) b l)

  pub way_from : (A : ℕ) (o : List ℕ) → ((i : ℕ) → i < length o → label n (get_or o i 0) ≡ true) → ((i : ℕ) → i < length o → has A (get_or o i 0) ≡ false)
      → ((i k : ℕ) → i < length o → k < length o → get_or o i 0 ≡ get_or o k 0 → i ≡ k)
      → ((k a : ℕ) → k < length o → label n a ≡ true → tied a (get_or o k 0) ≡ true → Placed A o k a) → Way A o
  way_from A [] la ou on ti = tt
  way_from A (j ∷ o) la ou on ti = (
    lj,
    (
      ready_from A j oj (λ a l t. elim (ti 0 a (omega arith) l t) [ inl e ↦ e | inr r ↦ absurd (omega (arith, r.1.0)) ]),
      way_from (with_unit A j) o (λ i l. la (suc i) (omega arith)) outs
          (λ i k l m e. let q = on (suc i) (suc k) (omega arith) (omega arith) e in omega arith)
          (λ k a l m t. later k a m (ti (suc k) a (omega arith) m t)),
    ),
  )
    where
      lj : label n j ≡ true
      lj = la 0 (omega arith)

      oj : has A j ≡ false
      oj = ou 0 (omega arith)

      outs : (i : ℕ) → i < length o → has (with_unit A j) (get_or o i 0) ≡ false
      outs i l =
          with_other A j (get_or o i 0) (label_low n j lj) oj (label_low n (get_or o i 0) (la (suc i) (omega arith)))
          (λ e. let q = on (suc i) 0 (omega arith) (omega arith) e in omega arith)
          ∙ ou (suc i) (omega arith)

      later : (k a : ℕ) → label n a ≡ true → Placed A (j ∷ o) (suc k) a → Placed (with_unit A j) o k a
      later k a m (inl e) = inl (with_kept A j a (label_low n j lj) oj (label_low n a m) e)
      later k a m (inr (zero, (l, e))) = inl (subst (λ (z : ℕ). has (with_unit A j) z ≡ true) e (with_same A j oj))
      later k a m (inr (suc i, (l, e))) = inr (i, (omega arith, e))

  -- nothing stands in the empty set
  placed_at : (o : List ℕ) (k a : ℕ) → Placed 0 o k a → (i : ℕ) × ((i < k) × (get_or o i 0 ≡ a))
  placed_at o k a (inl e) = absurd (both_ways (has 0 a) (has_none a) e)
  placed_at o k a (inr r) = r

  -- the ways to place all units are the orders that keep the ties
  module _ (proper : OnLabels tied n) where
    pub way_order : (o : List ℕ) → length o ≡ n → Way 0 o → Order n o
    way_order o l h = record {
      as_many = l;
      in_range = λ i k. way_label 0 o h i (omega arith);
      once = λ i k p q e. way_once 0 o h i k (omega arith) (omega arith) e;
    }

    pub way_keeps : (o : List ℕ) → length o ≡ n → Way 0 o → Keeps tied o
    way_keeps o l h a b t =
        let r = placed_at o (length o) b (way_covers 0 o h (omega (arith, many_none n)) b (proper a b t).1) in
        let q = placed_at o r.0 a (way_tied 0 o h r.0 r.1.0 a (proper a b t).0 (subst (λ (z : ℕ). tied a z ≡ true) (sym r.1.1) t)) in
        (q.0, (r.0, (q.1.0, (r.1.0, (q.1.1, r.1.1)))))

    pub order_way : (o : List ℕ) → Order n o → Keeps tied o → Way 0 o
    order_way o h k =
        way_from 0 o (λ i l. h.in_range i (omega (arith, h.as_many))) (λ i l. has_none (get_or o i 0))
        (λ i j l m e. h.once i j (omega (arith, h.as_many)) (omega (arith, h.as_many)) e)
        (λ q a l m t.
        let w = k a (get_or o q 0) t in
        let same = h.once w.1.0 q (omega (arith, h.as_many, w.1.1.1.0)) (omega (arith, h.as_many)) w.1.1.1.1.1 in
        inr (w.0, (omega (arith, w.1.1.0), w.1.1.1.1.0)))
