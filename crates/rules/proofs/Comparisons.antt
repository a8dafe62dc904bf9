-- What a Check counts: each comparison is kept or broken, and an order is anti-Robinson exactly if none is broken.
use Rattle.std.proofs.Common.{◌≡◌, ℕ, zero, suc, ◌+◌, ◌-◌, ◌*◌, List, [], ◌∷◌, length, ℤ, pos, ◌+ℤ◌, ◌-ℤ◌, ◌*ℤ◌, sym, refl, ap, ◌∙◌, inl, inr, arith}
use Rattle.std.proofs.lemmas.Int.{ints}
use Rattle.std.proofs.lemmas.Bool.Decides.{nat_tests}
use Rattle.rules.specs.Units.{sum_over, sum_ℤ}
use Rattle.rules.specs.Sheets.{pairs_in}
use Rattle.rules.specs.Pattern.{Triple, triples, kept_at, broken_at, kept, broken}
use Rattle.rules.specs.Theorems.{Comparisons, Unbroken}
use Rattle.rules.proofs.Members.{In}
use Rattle.rules.proofs.Ring.{var, lit, ◌⊕◌, ◌⊗◌, ◌⊖◌, solve}
use Rattle.rules.proofs.Sums.{sumℤ_ones, pairs_step, triples_step}
use Rattle.rules.proofs.Pattern.{Rises, pattern_rises, rises_pattern}

-- how many pairs and triples a row has
many : {X : Type 0} → List X → ℤ
many xs = sum_ℤ (λ x. pos 1) xs

twice : (l : List ℕ) → pos 2 *ℤ many (pairs_in l) ≡ many l *ℤ (many l -ℤ pos 1)
unfolding many
twice [] = refl
twice (x ∷ l) =
    ap (λ (w : ℤ). pos 2 *ℤ w) (pairs_step (λ q. pos 1) x l)
    ∙ solve (many l ∷ many (pairs_in l) ∷ []) (lit (pos 2) ⊗ (var 0 ⊕ var 1)) (lit (pos 2) ⊗ var 0 ⊕ lit (pos 2) ⊗ var 1) tt
    ∙ ap (λ (w : ℤ). pos 2 *ℤ many l +ℤ w) (twice l)
    ∙ solve (many l ∷ []) (lit (pos 2) ⊗ var 0 ⊕ var 0 ⊗ (var 0 ⊖ lit (pos 1))) ((lit (pos 1) ⊕ var 0) ⊗ (lit (pos 1) ⊕ var 0 ⊖ lit (pos 1))) tt

six_times : (l : List ℕ) → pos 6 *ℤ many (triples l) ≡ many l *ℤ (many l -ℤ pos 1) *ℤ (many l -ℤ pos 2)
unfolding many
six_times [] = refl
six_times (x ∷ l) =
    ap (λ (w : ℤ). pos 6 *ℤ w) (triples_step (λ t. pos 1) x l)
    ∙ solve (many (pairs_in l) ∷ many (triples l) ∷ []) (lit (pos 6) ⊗ (var 0 ⊕ var 1)) (lit (pos 3) ⊗ (lit (pos 2) ⊗ var 0) ⊕ lit (pos 6) ⊗ var 1) tt
    ∙ (λ i. pos 3 *ℤ twice l i +ℤ six_times l i)
    ∙ solve (many l ∷ []) (lit (pos 3) ⊗ (var 0 ⊗ (var 0 ⊖ lit (pos 1))) ⊕ var 0 ⊗ (var 0 ⊖ lit (pos 1)) ⊗ (var 0 ⊖ lit (pos 2)))
    ((lit (pos 1) ⊕ var 0) ⊗ (lit (pos 1) ⊕ var 0 ⊖ lit (pos 1)) ⊗ (lit (pos 1) ⊕ var 0 ⊖ lit (pos 2))) tt

-- the same in counts
counts : (m a : ℕ) → pos (6 * a) ≡ pos m *ℤ (pos m -ℤ pos 1) *ℤ (pos m -ℤ pos 2) → 6 * a ≡ m * (m - 1) * (m - 2)
counts zero a e = omega (arith, ints)
counts (suc zero) a e = omega (arith, ints)
counts (suc (suc t)) a e =
    let one : pos (suc (suc t)) -ℤ pos 1 ≡ pos (suc t) = omega (arith, ints) in
    let two : pos (suc (suc t)) -ℤ pos 2 ≡ pos t = omega (arith, ints) in
    let f : pos (6 * a) ≡ pos (suc (suc t) * suc t * t) = e ∙ (λ i. pos (suc (suc t)) *ℤ one i *ℤ two i) in
    let g : 6 * a ≡ suc (suc t) * suc t * t = omega (arith, ints) in
    let down : suc t ≡ suc (suc t) - 1 = omega arith in
    let down₂ : t ≡ suc (suc t) - 2 = omega arith in
    g ∙ (λ i. suc (suc t) * down i * down₂ i)

two_each : (p : ℕ → ℕ → ℕ) (l : List Triple) → sum_over (kept_at p) l + sum_over (broken_at p) l ≡ 2 * length l
two_each p [] = refl
two_each p (t ∷ l) = let r = two_each p l in grind (arith, nat_tests)

pub comparisons : Comparisons
unfolding many
comparisons n p o h = (thrice, omega (arith, thrice))
  where
    six : 6 * length (triples o) ≡ n * (n - 1) * (n - 2)
    six =
        counts (length o) (length (triples o))
        (ap (λ (w : ℤ). pos 6 *ℤ w) (sym (sumℤ_ones (triples o))) ∙ six_times o ∙ ap (λ (w : ℤ). w *ℤ (w -ℤ pos 1) *ℤ (w -ℤ pos 2)) (sumℤ_ones o))
        ∙ ap (λ (m : ℕ). m * (m - 1) * (m - 2)) h.as_many

    thrice : 3 * (kept p o + broken p o) ≡ n * (n - 1) * (n - 2)
    thrice = omega (arith, two_each p (triples o), six)

-- a sum of counts is 0 exactly if each is
sum_zero : {X : Type 0} (f : X → ℕ) (xs : List X) → ((x : X) → In x xs → f x ≡ 0) → sum_over f xs ≡ 0
sum_zero f [] h = refl
sum_zero f (z ∷ xs) h = omega (arith, h z (inl refl), sum_zero f xs (λ x i. h x (inr i)))

zero_sum : {X : Type 0} (f : X → ℕ) (xs : List X) → sum_over f xs ≡ 0 → (x : X) → In x xs → f x ≡ 0
zero_sum f [] e x i = absurd i
zero_sum f (z ∷ xs) e x (inl q) = ap f q ∙ omega arith
zero_sum f (z ∷ xs) e x (inr i) = zero_sum f xs (omega arith) x i

pub unbroken : Unbroken
unbroken p o = (
  (λ h. sum_zero (broken_at p) (triples o) (λ t i. fine t (pattern_rises p o h t i))),
  (λ h. rises_pattern p o (λ t i. back t (zero_sum (broken_at p) (triples o) h t i))),
)
  where
    fine : (t : Triple) → Rises p t → broken_at p t ≡ 0
    fine t k = let a = k.0 in let b = k.1 in grind (arith, nat_tests)

    back : (t : Triple) → broken_at p t ≡ 0 → Rises p t
    back t k = (grind (arith, nat_tests), grind (arith, nat_tests))
