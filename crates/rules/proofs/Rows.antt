-- The tests of a size and of a row say what they should: `is_order` that it is an order, `keeps` that it keeps the ties.
use Rattle.std.proofs.Common.{◌≡◌, ℕ, zero, suc, ◌<◌, ◌≤◌, Bool, true, false, not, ◌&&◌, eqb, List, [], ◌∷◌, length, get_or, sym, refl, ◌∙◌, subst, inl, inr, arith}
use Rattle.std.specs.List.{list_all}
use Rattle.std.proofs.lemmas.Bool.{both_ways, not-true, not_from_false, and_parts, and_from, eqb-true, eqb-false, eq-eqb, ne_eqb, cases_lt, cases_order}
use Rattle.std.proofs.lemmas.Bool.Decides.{nat_tests}
use Rattle.rules.specs.Units.{label, has}
use Rattle.rules.specs.Orders.{Order, Keeps, is_distinct, is_order, keeps}
use Rattle.rules.specs.Recurrence.{OnLabels}
use Rattle.rules.specs.Theorems.{Opens, RowTestsMean}
use Rattle.rules.proofs.Tests.{refuted}
use Rattle.rules.proofs.Sets.{has_none, many_none}
use Rattle.rules.proofs.Members.{in_at, at_in, all_of_in, in_all_of}
use Rattle.rules.proofs.Ways.{way_covers, order_way}

-- no two places hold the same
once_at : (o : List ℕ) → is_distinct eqb o ≡ true → (i k : ℕ) → i < k → k < length o → get_or o i 0 ≡ get_or o k 0 → ⊥
once_at [] h i k l m e = omega arith
once_at (u ∷ us) h i zero l m e = omega arith
once_at (u ∷ us) h zero (suc k) l m e =
    eqb-false u (get_or us k 0)
    (not-true (eqb u (get_or us k 0)) (all_of_in (λ z. not (eqb u z)) us (and_parts (list_all (λ z. not (eqb u z)) us) (is_distinct eqb us) h).0 (get_or us k 0) (in_at us k 0 (omega arith)))) e
once_at (u ∷ us) h (suc i) (suc k) l m e = once_at us (and_parts (list_all (λ z. not (eqb u z)) us) (is_distinct eqb us) h).1 i k (omega arith) (omega arith) e

at_once : (o : List ℕ) → ((i k : ℕ) → i < k → k < length o → get_or o i 0 ≡ get_or o k 0 → ⊥) → is_distinct eqb o ≡ true
at_once [] h = refl
at_once (u ∷ us) h =
    and_from (list_all (λ z. not (eqb u z)) us) (is_distinct eqb us)
    (in_all_of (λ z. not (eqb u z)) us (λ z i. let w = at_in z us 0 i in
    not_from_false (eqb u z) (ne_eqb u z (λ e. h 0 (suc w.0) (omega arith) (omega (arith, w.1.0)) (e ∙ sym w.1.1)))))
    (at_once us (λ i k l m. h (suc i) (suc k) (omega arith) (omega arith)))

-- a row that passes the test is an order, and an order passes it
pub is_order_means : (n : ℕ) (o : List ℕ) → is_order n o ≡ true → Order n o
is_order_means n o h =
    let w = and_parts (eqb (length o) n) (list_all (label n) o && is_distinct eqb o) h in
    let v = and_parts (list_all (label n) o) (is_distinct eqb o) w.1 in
    let long = eqb-true (length o) n w.0 in
    record {
      as_many = long;
      in_range = λ i l. all_of_in (label n) o v.0 (get_or o i 0) (in_at o i 0 (omega arith));
      once = λ i k l m e. elim (cases_order i k) [
        | inl q ↦ q
        | inr (inl q) ↦ absurd (once_at o v.1 i k q (omega arith) e)
        | inr (inr q) ↦ absurd (once_at o v.1 k i q (omega arith) (sym e))
      ];
    }

pub means_is_order : (n : ℕ) (o : List ℕ) → Order n o → is_order n o ≡ true
means_is_order n o h =
    and_from (eqb (length o) n) (list_all (label n) o && is_distinct eqb o) (eq-eqb (length o) n h.as_many)
    (and_from (list_all (label n) o) (is_distinct eqb o)
    (in_all_of (label n) o (λ z i. let w = at_in z o 0 i in
    subst (λ (j : ℕ). label n j ≡ true) w.1.1 (h.in_range w.0 (omega (arith, w.1.0, h.as_many)))))
    (at_once o (λ i k l m e. let q = h.once i k (omega (arith, h.as_many)) (omega (arith, h.as_many)) e in omega arith)))

untied : ℕ → ℕ → Bool
untied a b = false

-- each label stands somewhere in an order
pub order_covers : (n : ℕ) (o : List ℕ) → Order n o → (b : ℕ) → label n b ≡ true → (i : ℕ) × ((i < length o) × (get_or o i 0 ≡ b))
unfolding untied
order_covers n o h b l =
    elim (way_covers untied n 0 o (order_way untied n (λ a c t. absurd (both_ways false refl t)) o h (λ a c t. absurd (both_ways false refl t)))
    (omega (arith, many_none n, h.as_many)) b l) [
      | inl e ↦ absurd (both_ways (has 0 b) (has_none b) e)
      | inr r ↦ r
    ]

-- the ties, by places
pub keeps_at : (tied : ℕ → ℕ → Bool) (o : List ℕ) → keeps tied o ≡ true → (k i : ℕ) → k ≤ i → i < length o → tied (get_or o i 0) (get_or o k 0) ≡ false
keeps_at tied [] h k i l m = absurd (omega arith)
keeps_at tied (b ∷ o) h zero i l m =
    not-true (tied (get_or (b ∷ o) i 0) b)
    (all_of_in (λ x. not (tied x b)) (b ∷ o) (and_parts (list_all (λ a. not (tied a b)) (b ∷ o)) (keeps tied o) h).0 (get_or (b ∷ o) i 0) (in_at (b ∷ o) i 0 m))
keeps_at tied (b ∷ o) h (suc k) zero l m = absurd (omega arith)
keeps_at tied (b ∷ o) h (suc k) (suc i) l m =
    keeps_at tied o (and_parts (list_all (λ a. not (tied a b)) (b ∷ o)) (keeps tied o) h).1 k i (omega arith) (omega arith)

pub at_keeps : (tied : ℕ → ℕ → Bool) (o : List ℕ) → ((k i : ℕ) → k ≤ i → i < length o → tied (get_or o i 0) (get_or o k 0) ≡ false) → keeps tied o ≡ true
at_keeps tied [] h = refl
at_keeps tied (b ∷ o) h =
    and_from (list_all (λ a. not (tied a b)) (b ∷ o)) (keeps tied o)
    (in_all_of (λ x. not (tied x b)) (b ∷ o) (λ x i. let w = at_in x (b ∷ o) 0 i in
    not_from_false (tied x b) (subst (λ (z : ℕ). tied z b ≡ false) w.1.1 (h 0 w.0 (omega arith) w.1.0))))
    (at_keeps tied o (λ k i l m. h (suc k) (suc i) (omega arith) (omega arith)))

module _ (tied : ℕ → ℕ → Bool) (n : ℕ) (proper : OnLabels tied n) (o : List ℕ) (ord : Order n o) where
  pub keeps_means : keeps tied o ≡ true → Keeps tied o
  keeps_means h a b t =
      let u = order_covers n o ord a (proper a b t).0 in
      let v = order_covers n o ord b (proper a b t).1 in
      elim (cases_lt u.0 v.0) [
        | inl q ↦ (u.0, (v.0, (q, (v.1.0, (u.1.1, v.1.1)))))
        | inr q ↦ absurd (both_ways (tied a b) (rw (u.1.1, v.1.1) at (keeps_at tied o h v.0 u.0 q u.1.0)) t)
      ]

  pub means_keeps : Keeps tied o → keeps tied o ≡ true
  means_keeps h = at_keeps tied o (λ k i l m. refuted (tied (get_or o i 0) (get_or o k 0)) (λ t.
      let w = h (get_or o i 0) (get_or o k 0) t in
      let n' = ord.as_many in
      let p = ord.once w.0 i (omega (arith, w.1.1.0, w.1.1.1.0)) (omega arith) w.1.1.1.1.0 in
      let q = ord.once w.1.0 k (omega (arith, w.1.1.1.0)) (omega arith) w.1.1.1.1.1 in
      omega (arith, w.1.1.0)))

pub row_tests_mean : RowTestsMean
row_tests_mean = record {
  order = λ n o. (is_order_means n o, means_is_order n o);
  ties = λ tied n proper o ord. (keeps_means tied n proper o ord, means_keeps tied n proper o ord);
}

pub opens : Opens
opens n = (λ h. grind (arith, nat_tests), λ h. grind (arith, nat_tests))
