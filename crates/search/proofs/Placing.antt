-- Placing the first ready unit again and again.
use Rattle.std.proofs.Common.{◌≡◌, ℕ, zero, suc, ◌-◌, ◌^◌, ◌<◌, ◌≤◌, Bool, true, false, cond, not, ◌||◌, ◌↔◌, ltb, List, [], ◌∷◌, ◌++◌, filter, sym, refl, ap, ◌∙◌, subst, inl, inr, arith}
use Rattle.std.proofs.lemmas.Nat.{pow_pos}
use Rattle.std.proofs.lemmas.Bool.{both_ways, cases_eq, cases_Bool, eq-eqb, ne_eqb, le-ltb}
use Rattle.rules.specs.Units.{label, labels, has, with_unit, size}
use Rattle.rules.specs.Orders.{Order, Keeps, ready, ready_units, circular}
use Rattle.rules.specs.Recurrence.{OnLabels, first_placed, grown, placeable}
use Rattle.rules.proofs.Tests.{forced}
use Rattle.rules.proofs.Sets.{label_high, with_below, size_with, size_none}
use Rattle.rules.proofs.Members.{In}
use Rattle.rules.proofs.Tally.{filter_labels}
use Rattle.rules.proofs.Closed.{no_circle}
use Rattle.rules.proofs.Ways.{ready_out, ready_in}

-- none of the labels passes, one label more
none_more : (f : ℕ → Bool) (m : ℕ) → filter f (labels m) ≡ [] → f (suc m) ≡ false → filter f (labels (suc m)) ≡ []
none_more f m h e = filter_labels f m ∙ (λ i. h i ++ cond (e i) (suc m ∷ []) [])

-- none of the labels passes
pub none_of : (f : ℕ → Bool) (n : ℕ) → ((x : ℕ) → 1 ≤ x → x ≤ n → f x ≡ false) → filter f (labels n) ≡ []
none_of f zero h = refl
none_of f (suc n) h = none_more f n (none_of f n (λ x lo hi. h x lo (omega arith))) (h (suc n) (omega arith) (omega arith))

-- the first that passes
pub first_of : (f : ℕ → Bool) (m n : ℕ) → m < n → filter f (labels m) ≡ [] → f (suc m) ≡ true
    → (rest : List ℕ) × (filter f (labels n) ≡ suc m ∷ rest)
first_of f m zero l h e = absurd (omega arith)
first_of f m (suc n) l h e = elim (cases_eq m n) [
  | inl q ↦ ([], subst (λ (z : ℕ). filter f (labels (suc z)) ≡ suc m ∷ []) q (filter_labels f m ∙ (λ i. h i ++ cond (e i) (suc m ∷ []) [])))
  | inr ne ↦ (
      let r = first_of f m n (omega arith) h e in
      (r.0 ++ cond (f (suc n)) (suc n ∷ []) [], filter_labels f n ∙ ap (λ (xs : List ℕ). xs ++ cond (f (suc n)) (suc n ∷ []) []) r.1))
]

-- what `with_unit` of marks answers
abbrev pub put : ℕ → ℕ → ℕ
put A j = cond (ltb 32 j || has A j) A (with_unit A j)

-- a set with a label of at most 20 that it lacks
pub put_is : (n A j : ℕ) → n ≤ 20 → label n j ≡ true → has A j ≡ false → put A j ≡ with_unit A j
put_is n A j few l out =
    let low : ltb 32 j ≡ false = le-ltb 32 j (omega (arith, label_high n j l)) in
    λ i. cond (low i || out i) A (with_unit A j)

module _ (tied : ℕ → ℕ → Bool) (n : ℕ) where
  -- i units are placed, and what is still to be placed is placed after A
  pub record Placed (i A : ℕ) : Type 0 where
    pub goes_on : grown tied n n 0 ≡ grown tied n (n - i) A
    pub size_is : size n A ≡ i
    pub below : A < 2 ^ n

  pub none_placed : Placed 0 0
  none_placed = record {
    goes_on = (let e : n ≡ n - 0 = omega arith in ap (λ (m : ℕ). grown tied n m 0) e);
    size_is = size_none n;
    below = omega (arith, pow_pos n);
  }

  module _ (i A : ℕ) (s : Placed i A) where
    -- the first ready unit is placed
    module _ (l : i < n) (j : ℕ) (rest : List ℕ) (e : ready_units tied n A ≡ j ∷ rest) where
      first_in : (label n j ≡ true) × (ready tied n A j ≡ true)
      first_in = ready_in tied n A j (subst (λ (xs : List ℕ). In j xs) (sym e) (inl refl))

      first_out : has A j ≡ false
      first_out = ready_out tied n A j first_in.1

      one_placed : Placed (suc i) (with_unit A j)
      one_placed = record {
        goes_on = s.goes_on ∙ (let k : n - i ≡ suc (n - suc i) = omega arith in ap (λ (m : ℕ). grown tied n m A) k)
            ∙ ap (λ (xs : List ℕ). grown tied n (n - suc i) (first_placed A xs)) e;
        size_is = size_with n A j first_in.0 first_out ∙ ap suc s.size_is;
        below = with_below n A j first_in.0 s.below first_out;
      }

      -- as the code puts it to the set
      pub put_placed : n ≤ 20 → {r : ℕ} → r ≡ put A j → Placed (suc i) r
      put_placed few r = subst (λ (z : ℕ). Placed (suc i) z) (sym (r ∙ put_is n A j few first_in.0 first_out)) one_placed

    -- none is ready: no more is placed
    stuck : (m : ℕ) → ready_units tied n A ≡ [] → grown tied n m A ≡ A
    stuck zero e = refl
    stuck (suc m) e = ap (λ (xs : List ℕ). grown tied n m (first_placed A xs)) e ∙ stuck m e

    pub not_placeable : i < n → ready_units tied n A ≡ [] → placeable tied n ≡ false
    not_placeable l e =
        let r : size n (grown tied n n 0) ≡ i = ap (size n) (s.goes_on ∙ stuck (n - i) e) ∙ s.size_is in
        ne_eqb (size n (grown tied n n 0)) n (λ q. omega arith)

    pub all_placed : i ≡ n → placeable tied n ≡ true
    all_placed q =
        let k : n - i ≡ 0 = omega arith in
        let r : size n (grown tied n n 0) ≡ n = ap (size n) (s.goes_on ∙ ap (λ (m : ℕ). grown tied n m A) k) ∙ s.size_is ∙ q in
        eq-eqb (size n (grown tied n n 0)) n r

  -- what the answer means
  pub meant : OnLabels tied n → (r : Bool) → r ≡ placeable tied n
      → ((r ≡ true) ↔ ((o : List ℕ) × (Order n o × Keeps tied o))) × (r ≡ not (circular tied n))
  meant proper r e =
      let w = no_circle tied n proper in
      let order : (r ≡ true) ↔ ((o : List ℕ) × (Order n o × Keeps tied o)) = (λ h. w.1.1 (sym e ∙ h), λ o. e ∙ w.1.0 o) in (
        order,
        elim (cases_Bool r) [
          | inl h ↦ h ∙ sym (ap not (w.0.0 (order.0 h)))
          | inr h ↦ h ∙ sym (ap not (forced (circular tied n) (λ q. both_ways r h (order.1 (w.0.1 q)))))
        ],
      )
