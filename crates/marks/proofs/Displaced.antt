-- The displacement of a unit, label by label.
use Rattle.std.proofs.Common.{◌≡◌, ℕ, zero, suc, ◌+◌, ◌-◌, ◌*◌, ◌<◌, ◌≤◌, Bool, true, false, eqb, ◌≢◌, List, get_or, take, drop, pos, ◌+ℤ◌, nat_abs, sym, refl, ap, ◌∙◌, inl, inr, add-one, arith, get_or-drop, get_or-take}
use Rattle.std.proofs.lemmas.Bool.{cases_Bool, cond-true, eqb-false}
use Rattle.std.proofs.lemmas.Int.{ints}
use Rattle.rules.specs.Units.{label, labels, has, displacement}
use Rattle.rules.specs.Yardsticks.{Low, Symmetric}
use Rattle.rules.proofs.Sets.{label_low, label_high, sum_last}
use Rattle.marks.specs.Cells.{place, pair, read, added}
use Rattle.marks.proofs.Cells.{pair_from}

added_low : (d : ℕ) (own earlier : Bool) → d ≤ 10000 → nat_abs (added d own earlier) ≤ 10000
added_low d true earlier h = omega arith
added_low d false true h = omega arith
added_low d false false h = omega (arith, ints)

added_none : (own earlier : Bool) → added 0 own earlier ≡ pos 0
added_none true earlier = refl
added_none false true = refl
added_none false false = refl

module _ (p : ℕ → ℕ → ℕ) (A j : ℕ) where
  -- one more label
  pub next : (i : ℕ) → displacement p (i + 1) A j ≡ displacement p i A j +ℤ added (p (i + 1) j) (eqb (i + 1) j) (has A (i + 1))
  next i = rw add-one (sum_last (λ k. added (p k j) (eqb k j) (has A k)) (labels i) (suc i))

  pub not_far : Low p → (i : ℕ) → nat_abs (displacement p i A j) ≤ 10000 * i
  not_far h zero = omega arith
  not_far h (suc i) =
      let s : displacement p (suc i) A j ≡ displacement p i A j +ℤ added (p (suc i) j) (eqb (suc i) j) (has A (suc i)) =
      sum_last (λ k. added (p k j) (eqb k j) (has A k)) (labels i) (suc i) in
      let k = added_low (p (suc i) j) (eqb (suc i) j) (has A (suc i)) (h (suc i) j) in
      let r = not_far h i in
      omega (arith, ints)

  -- a unit without marks
  pub unmarked : ((i : ℕ) → p i j ≡ 0) → (n : ℕ) → displacement p n A j ≡ pos 0
  unmarked h zero = refl
  unmarked h (suc n) =
      sum_last (λ k. added (p k j) (eqb k j) (has A k)) (labels n) (suc n)
      ∙ (λ i. unmarked h n i +ℤ added (h (suc n) i) (eqb (suc n) j) (has A (suc n)))
      ∙ ap (λ z. pos 0 +ℤ z) (added_none (eqb (suc n) j) (has A (suc n)))

module _ (n : ℕ) (cells : List ℕ) (even : Symmetric (read n cells)) (A j : ℕ) (own : label n j ≡ true) where
  -- the row of the unit
  abbrev row : List ℕ
  row = take (((j - 1) * 20 + n) - (j - 1) * 20) (drop ((j - 1) * 20) cells)

  beside : (i : ℕ) → i < n → i + 1 ≢ j → pair n j (i + 1) ≡ true
  beside i h ne = pair_from n j (i + 1) (record {
    a_low = label_low n j own;
    a_high = label_high n j own;
    b_low = omega arith;
    b_high = omega arith;
    apart = λ e. ne (sym e);
  })

  row_mark : (i : ℕ) → i < n → i + 1 ≢ j → get_or row i 0 ≡ read n cells (i + 1) j
  row_mark i h ne =
      let here : i < ((j - 1) * 20 + n) - (j - 1) * 20 = omega arith in
      let at : (j - 1) * 20 + i ≡ place j (i + 1) = omega arith in
      rw (get_or-take (((j - 1) * 20 + n) - (j - 1) * 20) (drop ((j - 1) * 20) cells) i 0 here, get_or-drop ((j - 1) * 20) cells i 0, at)
      (sym (cond-true (pair n j (i + 1)) (get_or cells (place j (i + 1)) 0) 0 (beside i h ne)) ∙ even j (i + 1))

  -- what the row has for a label is what the label adds
  pub row_added : (i : ℕ) → i < n → (h : Bool) → h ≡ has A (i + 1)
      → added (get_or row i 0) (eqb (i + 1) j) h ≡ added (read n cells (i + 1) j) (eqb (i + 1) j) (has A (i + 1))
  row_added i l h e = elim (cases_Bool (eqb (i + 1) j)) [
    | inl q ↦ rw q
    | inr q ↦ (λ k. added (row_mark i l (eqb-false (i + 1) j q) k) (eqb (i + 1) j) (e k))
  ]
