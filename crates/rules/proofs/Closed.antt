-- Closed sets, and that without a circle each set can be completed by ready units.
use Rattle.std.proofs.Common.{◌≡◌, ℕ, zero, suc, ◌+◌, ◌-◌, ◌<◌, ◌≤◌, Bool, true, false, not, ◌||◌, eqb, List, [], ◌∷◌, length, sym, refl, subst, inl, inr, arith}
use Rattle.std.proofs.lemmas.Bool.{both_ways, cases_Bool, eqb-true, eq-eqb, ne_eqb}
use Rattle.rules.specs.Units.{label, labels, has, with_unit, size}
use Rattle.rules.specs.Orders.{Order, Keeps, closed, follows, ready, ready_units, ways, circular}
use Rattle.rules.specs.Recurrence.{first_placed, grown, NoCircle}
use Rattle.rules.proofs.Tests.{or_then, then_or}
use Rattle.rules.proofs.Sets.{label_low, with_same, with_kept, with_back, has_none, many, many_full, many_all, many_with, many_none, size_many, size_with, size_none}
use Rattle.rules.proofs.Members.{In, all_of_in, in_all_of}
use Rattle.rules.proofs.Ways.{label_in, in_label, follows_at, follows_from, ready_out, ready_tied, ready_from, in_ready, ready_in, Way, ways_in, in_ways, way_order, way_keeps, order_way}

module _ (tied : ℕ → ℕ → Bool) (n : ℕ) where
  pub closed_at : (A : ℕ) → closed tied n A ≡ true
      → (a b : ℕ) → label n a ≡ true → label n b ≡ true → has A b ≡ true → tied a b ≡ true → has A a ≡ true
  closed_at A h a b la lb hb =
      follows_at tied n A b
      (or_then (has A b) (follows tied n A b)
      (all_of_in (λ z. not (has A z) || follows tied n A z) (labels n) h b (label_in n b lb)) hb) a la

  pub closed_from : (A : ℕ)
      → ((a b : ℕ) → label n a ≡ true → label n b ≡ true → has A b ≡ true → tied a b ≡ true → has A a ≡ true)
      → closed tied n A ≡ true
  closed_from A h =
      in_all_of (λ z. not (has A z) || follows tied n A z) (labels n)
      (λ b i. then_or (has A b) (follows tied n A b)
      (λ hb. follows_from tied n A b (λ a l. h a b l (in_label n b i) hb)))

  pub closed_none : closed tied n 0 ≡ true
  closed_none = closed_from 0 (λ a b la lb hb t. absurd (both_ways (has 0 b) (has_none b) hb))

  pub closed_with : (A j : ℕ) → closed tied n A ≡ true → label n j ≡ true → ready tied n A j ≡ true → closed tied n (with_unit A j) ≡ true
  closed_with A j c l r = closed_from (with_unit A j) (λ a b la lb hb t.
      with_kept A j a (label_low n j l) (ready_out tied n A j r) (label_low n a la)
      (elim (with_back A j b (label_low n j l) (ready_out tied n A j r) (label_low n b lb) hb) [
        | inl e ↦ ready_tied tied n A j r a la (subst (λ (z : ℕ). tied a z ≡ true) e t)
        | inr h ↦ closed_at A c a b la lb h t
      ]))

  -- what B has, A has
  abbrev Inside : ℕ → ℕ → Type 0
  Inside B A = (i : ℕ) → 1 ≤ i → has B i ≡ true → has A i ≡ true

  -- the units of a way after B that A does not have are a way after A
  leaves : (B A : ℕ) (o : List ℕ) → Way tied n B o → Inside B A → many n B + length o ≡ n
      → (q : List ℕ) × ((many n A + length q ≡ n) × Way tied n A q)
  leaves B A [] h k e = ([], (omega (arith, many_all n A (λ i l m. k i l (many_full n B (omega arith) i l m))), tt))
  leaves B A (j ∷ o) h k e = elim (cases_Bool (has A j)) [
    | inl a ↦ leaves (with_unit B j) A o h.1.1
        (λ i m q. elim (with_back B j i low out m q) [ inl z ↦ subst (λ (x : ℕ). has A x ≡ true) (sym z) a | inr z ↦ k i m z ]) more
    | inr a ↦ (
        let w = leaves (with_unit B j) (with_unit A j) o h.1.1
        (λ i m q. elim (with_back B j i low out m q) [
          | inl z ↦ subst (λ (x : ℕ). has (with_unit A j) x ≡ true) (sym z) (with_same A j a)
          | inr z ↦ with_kept A j i low a m (k i m z)
        ]) more in (
          j ∷ w.0,
          (
            omega (arith, w.1.0, many_with n A j h.0 a),
            (h.0, (ready_from tied n A j a (λ c l t. k c (label_low n c l) (ready_tied tied n B j h.1.0 c l t)), w.1.1)),
          ),
        ))
  ]
    where
      low : 1 ≤ j
      low = label_low n j h.0

      out : has B j ≡ false
      out = ready_out tied n B j h.1.0

      more : many n (with_unit B j) + length o ≡ n
      more = omega (arith, many_with n B j h.0 out)

  -- no circle: some row of all units is a way
  abbrev pub HasWay : Type 0
  HasWay = (o : List ℕ) × ((length o ≡ n) × Way tied n 0 o)

  completes : HasWay → (A : ℕ) → (q : List ℕ) × ((length q ≡ n - size n A) × Way tied n A q)
  completes c A =
      let w = leaves 0 A c.0 c.1.1 (λ i l h. absurd (both_ways (has 0 i) (has_none i) h)) (omega (arith, many_none n, c.1.0)) in
      (w.0, (omega (arith, w.1.0, size_many n A), w.1.1))

  pub rest_some : HasWay → (A : ℕ) → (q : List ℕ) × In q (ways tied n (n - size n A) A)
  rest_some c A = let w = completes c A in (w.0, ways_in tied n (n - size n A) A w.0 w.1.0 w.1.1)

  -- a set that is not full has a unit that may come next
  pub some_next : HasWay → (A : ℕ) → size n A < n → (j : ℕ) × In j (ready_units tied n A)
  some_next c A h = go (completes c A).0 (completes c A).1.0 (completes c A).1.1
    where
      go : (q : List ℕ) → length q ≡ n - size n A → Way tied n A q → (j : ℕ) × In j (ready_units tied n A)
      go [] e w = absurd (omega arith)
      go (j ∷ q) e w = (j, in_ready tied n A j w.0 w.1.0)

  -- placing the first ready unit again and again: what is placed is a way
  abbrev Grows : ℕ → ℕ → Type 0
  Grows A B = (q : List ℕ) × (Way tied n A q × (size n B ≡ size n A + length q))

  grown_way : (m A : ℕ) → Grows A (grown tied n m A)
  grown_way zero A = ([], (tt, omega arith))
  grown_way (suc m) A = go (ready_units tied n A) (λ j i. ready_in tied n A j i) (grown_way m A) (λ j. grown_way m (with_unit A j))
    where
      go : (js : List ℕ) → ((j : ℕ) → In j js → (label n j ≡ true) × (ready tied n A j ≡ true))
          → Grows A (grown tied n m A) → ((j : ℕ) → Grows (with_unit A j) (grown tied n m (with_unit A j)))
          → Grows A (grown tied n m (first_placed A js))
      go [] h r k = r
      go (j ∷ js) h r k =
          let b = h j (inl refl) in
          let w = k j in
          (j ∷ w.0, ((b.0, (b.1, w.1.0)), omega (arith, w.1.1, size_with n A j b.0 (ready_out tied n A j b.1))))

  -- without a circle it is not stuck before the set is full
  grown_full : HasWay → (m A : ℕ) → size n A + m ≡ n → size n (grown tied n m A) ≡ n
  grown_full c zero A e = omega arith
  grown_full c (suc m) A e =
      go (some_next c A (omega arith)).0 (ready_units tied n A) (some_next c A (omega arith)).1 (λ j i. ready_in tied n A j i) (λ j. grown_full c m (with_unit A j))
    where
      go : (i : ℕ) (js : List ℕ) → In i js → ((j : ℕ) → In j js → (label n j ≡ true) × (ready tied n A j ≡ true))
          → ((j : ℕ) → size n (with_unit A j) + m ≡ n → size n (grown tied n m (with_unit A j)) ≡ n)
          → size n (grown tied n m (first_placed A js)) ≡ n
      go i [] s h k = absurd s
      go i (j ∷ js) s h k = let b = h j (inl refl) in k j (omega (arith, size_with n A j b.0 (ready_out tied n A j b.1)))

  pub ways_circle : circular tied n ≡ false → HasWay
  ways_circle h = go (ways tied n n 0) h (in_ways tied n n 0)
    where
      go : (os : List (List ℕ)) → eqb (length os) 0 ≡ false → ((o : List ℕ) → In o os → (length o ≡ n) × Way tied n 0 o) → HasWay
      go [] e k = absurd (both_ways true e refl)
      go (o ∷ os) e k = let w = k o (inl refl) in (o, (w.0, w.1))

  circle_ways : HasWay → circular tied n ≡ false
  circle_ways c = go (ways tied n n 0) (ways_in tied n n 0 c.0 c.1.0 c.1.1)
    where
      go : (os : List (List ℕ)) → In c.0 os → eqb (length os) 0 ≡ false
      go [] i = absurd i
      go (o ∷ os) i = ne_eqb (suc (length os)) 0 (λ e. omega arith)

pub no_circle : NoCircle
no_circle tied n proper = (
  (λ w. circle_ways tied n (to w), λ h. from (ways_circle tied n h)),
  (
    (λ w. eq-eqb (size n (grown tied n n 0)) n (grown_full tied n (to w) n 0 (omega (arith, size_none n)))),
    (λ h.
        let w = grown_way tied n n 0 in
        let e = eqb-true (size n (grown tied n n 0)) n h in
        from (w.0, (omega (arith, w.1.1, size_none n), w.1.0))),
  ),
)
  where
    to : (o : List ℕ) × (Order n o × Keeps tied o) → HasWay tied n
    to w = (w.0, (w.1.0.as_many, order_way tied n proper w.0 w.1.0 w.1.1))

    from : HasWay tied n → (o : List ℕ) × (Order n o × Keeps tied o)
    from w = (w.0, (way_order tied n proper w.0 w.1.0 w.1.1, way_keeps tied n proper w.0 w.1.0 w.1.1))
