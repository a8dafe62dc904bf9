-- A turn over the units that pass a test, taken over all labels one after another.
use Rattle.std.proofs.Common.{◌≡◌, ℕ, ◌+◌, ◌-◌, ◌<◌, ◌≤◌, Bool, true, false, cond, ltb, List, [], ◌∷◌, length, drop, filter, sym, refl, ap, ◌∙◌, inl, inr, arith}
use lib.Seq.{drop-length}
use Rattle.std.proofs.lemmas.Bool.{ltb-true, ltb-false, lt-ltb, le-ltb}
use Rattle.rules.specs.Units.{labels, sum_over}
use Rattle.rules.specs.Recurrence.{turn}
use Rattle.rules.proofs.Labels.{labels_length, labels_from}
use Rattle.rules.proofs.Members.{In}

-- units that fail the test count 0
pub turn_kept : (f : ℕ → Bool) (c : ℕ → ℕ) (js : List ℕ) (k : ℕ)
    → turn c (filter f js) k ≡ turn (λ j. cond (f j) (c j) 0) js k
turn_kept f c [] k = refl
turn_kept f c (j ∷ js) k = go (f j) (turn_kept f c js)
  where
    go : (b : Bool) → ((k : ℕ) → turn c (filter f js) k ≡ turn (λ j. cond (f j) (c j) 0) js k)
        → turn c (cond b (j ∷ filter f js) (filter f js)) k
        ≡ cond (ltb k (cond b (c j) 0)) (j, k) (turn (λ j. cond (f j) (c j) 0) js (k - cond b (c j) 0))
    go true rec = ap (λ (r : ℕ × ℕ). cond (ltb k (c j)) (j, k) r) (rec (k - c j))
    go false rec =
        let none : ltb k 0 ≡ false = le-ltb k 0 (omega arith) in
        let same : k - 0 ≡ k = omega arith in
        rec k ∙ sym ((λ i. cond (none i) (j, k) (turn (λ j. cond (f j) (c j) 0) js (same i))))

-- a place below the sum lies in one of the parts
pub turn_in : (c : ℕ → ℕ) (js : List ℕ) (k : ℕ) → k < sum_over c js
    → In (turn c js k).0 js × ((turn c js k).1 < c (turn c js k).0)
turn_in c [] k h = absurd (omega arith)
turn_in c (j ∷ js) k h = go (ltb k (c j)) refl (turn_in c js (k - c j))
  where
    go : (b : Bool) → ltb k (c j) ≡ b
        → (k - c j < sum_over c js → In (turn c js (k - c j)).0 js × ((turn c js (k - c j)).1 < c (turn c js (k - c j)).0))
        → In (cond b (j, k) (turn c js (k - c j))).0 (j ∷ js) × ((cond b (j, k) (turn c js (k - c j))).1 < c (cond b (j, k) (turn c js (k - c j))).0)
    go true e rec = (inl refl, ltb-true k (c j) e)
    go false e rec =
        let l = ltb-false k (c j) e in
        let r = rec (omega arith) in
        (inr r.0, r.1)

module _ (c : ℕ → ℕ) (n u k : ℕ) (lo : 1 ≤ u) (hi : u ≤ n) where
  turn_at : turn c (drop (u - 1) (labels n)) k ≡ cond (ltb k (c u)) (u, k) (turn c (drop (u + 1 - 1) (labels n)) (k - c u))
  turn_at =
      let here : u - 1 + 1 ≡ u = omega arith in
      let after : u - 1 + 1 ≡ u + 1 - 1 = omega arith in
      ap (λ js. turn c js k) (labels_from n (u - 1) (omega arith) ∙ (λ i. here i ∷ drop (after i) (labels n)))

  -- the place lies in the part of the label u
  pub turn_here : k < c u → turn c (drop (u - 1) (labels n)) k ≡ (u, k)
  turn_here h = turn_at ∙ ap (λ b. cond b (u, k) (turn c (drop (u + 1 - 1) (labels n)) (k - c u))) (lt-ltb k (c u) h)

  -- or it is passed over
  pub turn_past : {w : ℕ} → w ≡ c u → w ≤ k → turn c (drop (u - 1) (labels n)) k ≡ turn c (drop (u + 1 - 1) (labels n)) (k - w)
  turn_past {w} e h =
      turn_at ∙ ap (λ b. cond b (u, k) (turn c (drop (u + 1 - 1) (labels n)) (k - c u))) (le-ltb k (c u) (omega arith))
      ∙ ap (λ (q : ℕ). turn c (drop (u + 1 - 1) (labels n)) (k - q)) (sym e)

-- no label is left
pub turn_end : (c : ℕ → ℕ) (n i k : ℕ) → i ≡ n → turn c (drop i (labels n)) k ≡ (0, k)
turn_end c n i k h =
    let e : i ≡ length (labels n) = omega (arith, labels_length n) in
    ap (λ js. turn c js k) (ap (λ (q : ℕ). drop q (labels n)) e ∙ drop-length (labels n))
