-- The labels 1 to n, place by place.
use Rattle.std.proofs.Common.{◌≡◌, ℕ, zero, suc, ◌+◌, ◌-◌, ◌<◌, [], ◌∷◌, length, get_or, drop, sym, refl, ap, ◌∙◌, inl, inr, add-one, arith, length-append, drop-cons}
use Rattle.std.proofs.lemmas.Bool.{cases_eq}
use Rattle.rules.specs.Units.{labels}
use Rattle.rules.proofs.Lists.{get_or_left, get_or_right}

pub labels_length : (n : ℕ) → length (labels n) ≡ n
labels_length zero = refl
labels_length (suc n) = omega (arith, length-append (labels n) (suc n ∷ []), labels_length n)

-- the label at a place
pub label_at : (n i : ℕ) → i < n → get_or (labels n) i 0 ≡ suc i
label_at zero i l = absurd (omega arith)
label_at (suc n) i l = elim (cases_eq i n) [
  | inl e ↦ (
      let z : i - length (labels n) ≡ 0 = omega (arith, labels_length n) in
      get_or_right (labels n) (suc n ∷ []) i 0 (omega (arith, labels_length n))
      ∙ (ap (λ (q : ℕ). get_or (suc n ∷ []) q 0) z ∙ ap suc (sym e)))
  | inr ne ↦ get_or_left (labels n) (suc n ∷ []) i 0 (omega (arith, labels_length n)) ∙ label_at n i (omega arith)
]

-- what is left from a place on
pub labels_from : (n i : ℕ) → i < n → drop i (labels n) ≡ (i + 1) ∷ drop (i + 1) (labels n)
labels_from n i l =
    let h : i < length (labels n) = omega (arith, labels_length n) in
    rw add-one (drop-cons (labels n) i 0 h ∙ ap (λ (z : ℕ). z ∷ drop (suc i) (labels n)) (label_at n i l))
