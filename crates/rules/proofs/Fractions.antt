-- Fractions compared by cross products, placings brought to one denominator, and the misfits of a placing as one fraction.
use Rattle.std.proofs.Common.{◌≡◌, ℕ, zero, suc, ◌*◌, ◌/◌, ◌<◌, List, [], ◌∷◌, map, get_or, ℤ, pos, negsuc, ◌+ℤ◌, ◌-ℤ◌, ◌*ℤ◌, neg_ℤ, nat_abs, sym, refl, ap, ◌∙◌, subst, inl, inr, mul_assoc, mul_comm, mul-div_cancel, arith}
use Rattle.std.proofs.lemmas.Int.{ints}
use Rattle.std.proofs.lemmas.Nat.{mul-lt}
use Rattle.rules.specs.Units.{labels, sum_ℤ}
use Rattle.rules.specs.Sheets.{pairs_in}
use Rattle.rules.specs.Scaling.{Fraction, minus, plus, magnitude, squared, square, whole, AtMost, misfit, misfits, sum_fractions}
use Rattle.rules.proofs.Members.{In, in_at}
use Rattle.rules.proofs.Integers.{lin, mul_ℤ_assoc, neg_ℤ_mul, mul_le, cancel_le}
use Rattle.rules.proofs.Ring.{var, lit, ◌⊕◌, ◌⊗◌, solve}
use Rattle.rules.proofs.Sums.{ascending_from, pairs_related}

pub product_0 : (a b : ℕ) → 0 < a → 0 < b → 0 < a * b
product_0 a b h k = omega (arith, mul-lt 0 0 a b h k)

turn : (a b : ℕ) (x : ℤ) → pos a *ℤ (x *ℤ pos b) ≡ pos b *ℤ (x *ℤ pos a)
turn a b x = solve (pos a ∷ pos b ∷ x ∷ []) (var 0 ⊗ (var 2 ⊗ var 1)) (var 1 ⊗ (var 2 ⊗ var 0)) tt

pub at_most_trans : (f g h : Fraction) → 0 < g.under → AtMost f g → AtMost g h → AtMost f h
at_most_trans f g h l a b =
    cancel_le g.under (f.over *ℤ pos h.under) (h.over *ℤ pos f.under) l
    (let t = turn g.under h.under f.over in let u = turn h.under f.under g.over in let v = turn f.under g.under h.over in
    omega (arith, lin, mul_le h.under _ _ a, mul_le f.under _ _ b))

-- f is N / D
pub record Is (f : Fraction) (N : ℤ) (D : ℕ) : Type 0 where
  pub above_0 : 0 < f.under
  pub equal : f.over *ℤ pos D ≡ N *ℤ pos f.under

is_plus : (f g : Fraction) (N M : ℤ) (D : ℕ) → Is f N D → Is g M D → Is (plus f g) (N +ℤ M) D
is_plus f g N M D a b = record {
  above_0 = product_0 f.under g.under a.above_0 b.above_0;
  equal =
      solve (f.over ∷ pos f.under ∷ g.over ∷ pos g.under ∷ pos D ∷ [])
      ((var 0 ⊗ var 3 ⊕ var 2 ⊗ var 1) ⊗ var 4) ((var 0 ⊗ var 4) ⊗ var 3 ⊕ (var 2 ⊗ var 4) ⊗ var 1) tt
      ∙ (λ i. a.equal i *ℤ pos g.under +ℤ b.equal i *ℤ pos f.under)
      ∙ solve (N ∷ pos f.under ∷ M ∷ pos g.under ∷ []) ((var 0 ⊗ var 1) ⊗ var 3 ⊕ (var 2 ⊗ var 3) ⊗ var 1) ((var 0 ⊕ var 2) ⊗ (var 1 ⊗ var 3)) tt;
}

is_minus : (f g : Fraction) (N M : ℤ) (D : ℕ) → Is f N D → Is g M D → Is (minus f g) (N -ℤ M) D
is_minus f g N M D a b =
    subst (λ (z : ℤ). Is (record { over = f.over *ℤ pos g.under +ℤ z; under = f.under * g.under }) (N -ℤ M) D) (neg_ℤ_mul g.over (pos f.under))
    (is_plus f (record { over = neg_ℤ g.over; under = g.under }) N (neg_ℤ M) D a
    (record { above_0 = b.above_0; equal = neg_ℤ_mul g.over (pos D) ∙ ap neg_ℤ b.equal ∙ sym (neg_ℤ_mul M (pos g.under)) }))

is_squared : (f : Fraction) (N : ℤ) (D : ℕ) → Is f N D → Is (squared f) (square N) (D * D)
is_squared f N D a = record {
  above_0 = product_0 f.under f.under a.above_0 a.above_0;
  equal =
      solve (f.over ∷ pos D ∷ []) ((var 0 ⊗ var 0) ⊗ (var 1 ⊗ var 1)) ((var 0 ⊗ var 1) ⊗ (var 0 ⊗ var 1)) tt
      ∙ (λ i. square (a.equal i))
      ∙ solve (N ∷ pos f.under ∷ []) ((var 0 ⊗ var 1) ⊗ (var 0 ⊗ var 1)) ((var 0 ⊗ var 0) ⊗ (var 1 ⊗ var 1)) tt;
}

is_magnitude : (f : Fraction) (N : ℤ) (D : ℕ) → Is f N D → Is (magnitude f) (pos (nat_abs N)) D
is_magnitude f N D a = record { above_0 = a.above_0; equal = times f.over D ∙ ap (λ (z : ℤ). pos (nat_abs z)) a.equal ∙ sym (times N f.under) }
  where
    times : (a : ℤ) (d : ℕ) → pos (nat_abs a) *ℤ pos d ≡ pos (nat_abs (a *ℤ pos d))
    times (pos a) d = refl
    times (negsuc a) zero = omega (arith, ints)
    times (negsuc a) (suc d) = omega (arith, ints)

is_whole : (k D : ℕ) → Is (whole k) (pos D *ℤ pos k) D
is_whole k D = record { above_0 = omega arith; equal = solve (pos k ∷ pos D ∷ []) (var 0 ⊗ var 1) ((var 1 ⊗ var 0) ⊗ lit (pos 1)) tt }

-- fractions are compared as what they are
pub is_at_most : (f g : Fraction) (N M : ℤ) (D E : ℕ) → 0 < D → 0 < E → Is f N D → Is g M E
    → AtMost (record { over = N; under = D }) (record { over = M; under = E }) → AtMost f g
is_at_most f g N M D E d e a b h =
    at_most_trans f (record { over = M; under = E }) g e
    (at_most_trans f (record { over = N; under = D }) (record { over = M; under = E }) d (omega (arith, lin, a.equal)) h) (omega (arith, lin, b.equal))

-- the misfits of units that stand at X / D, times D²
abbrev pub fit : (ℕ → ℕ → ℕ) → ℤ → (ℕ → ℤ) → List ℕ → ℤ
fit p d X o = sum_ℤ (λ q. square (d *ℤ pos (p q.0 q.1) -ℤ pos (nat_abs (X q.0 -ℤ X q.1)))) (pairs_in o)

pub misfits_are : (p : ℕ → ℕ → ℕ) (n : ℕ) (x : ℕ → Fraction) (X : ℕ → ℤ) (D : ℕ) → ((j : ℕ) → In j (labels n) → Is (x j) (X j) D)
    → Is (misfits p n x) (fit p (pos D) X (labels n)) (D * D)
misfits_are p n x X D h = all (pairs_in (labels n)) each
  where
    term : ℕ × ℕ → ℤ
    term q = square (pos D *ℤ pos (p q.0 q.1) -ℤ pos (nat_abs (X q.0 -ℤ X q.1)))

    one : (u v : ℕ) → Is (x u) (X u) D → Is (x v) (X v) D → Is (squared (misfit p x (u, v))) (term (u, v)) (D * D)
    one u v a b =
        is_squared (misfit p x (u, v)) _ D (is_minus (whole (p u v)) (magnitude (minus (x u) (x v))) _ _ D (is_whole (p u v) D)
        (is_magnitude (minus (x u) (x v)) _ D (is_minus (x u) (x v) (X u) (X v) D a b)))

    each : (q : ℕ × ℕ) → In q (pairs_in (labels n)) → Is (squared (misfit p x q)) (term q) (D * D)
    each =
        pairs_related (λ u v. Is (squared (misfit p x (u, v))) (term (u, v)) (D * D)) (labels n)
        (ascending_from _ (labels n) 0 (λ i k a b. one (get_or (labels n) i 0) (get_or (labels n) k 0) (h _ (in_at (labels n) i 0 (omega arith))) (h _ (in_at (labels n) k 0 b))))

    all : (l : List (ℕ × ℕ)) → ((q : ℕ × ℕ) → In q l → Is (squared (misfit p x q)) (term q) (D * D))
        → Is (sum_fractions (map (λ q. squared (misfit p x q)) l)) (sum_ℤ term l) (D * D)
    all [] k = record { above_0 = omega arith; equal = solve (pos (D * D) ∷ []) (lit (pos 0) ⊗ var 0) (lit (pos 0) ⊗ lit (pos 1)) tt }
    all (q ∷ l) k = is_plus (squared (misfit p x q)) _ (term q) (sum_ℤ term l) (D * D) (k q (inl refl)) (all l (λ r i. k r (inr i)))

-- a placing has the product of its denominators as a denominator
module _ (x : ℕ → Fraction) where
  abbrev pub common : List ℕ → ℕ
  common [] = 1
  common (j ∷ l) = (x j).under * common l

  pub common_0 : (l : List ℕ) → ((j : ℕ) → In j l → 0 < (x j).under) → 0 < common l
  common_0 [] h = omega arith
  common_0 (j ∷ l) h = product_0 (x j).under (common l) (h j (inl refl)) (common_0 l (λ i k. h i (inr k)))

  divided : (l : List ℕ) (j : ℕ) → In j l → (k : ℕ) × (common l ≡ k * (x j).under)
  divided [] j i = absurd i
  divided (z ∷ l) j (inl e) = (common l, mul_comm (x z).under (common l) ∙ ap (λ (w : ℕ). common l * (x w).under) (sym e))
  divided (z ∷ l) j (inr i) = let r = divided l j i in ((x z).under * r.0, ap (λ (w : ℕ). (x z).under * w) r.1 ∙ sym (mul_assoc (x z).under r.0 (x j).under))

  pub over_common : List ℕ → ℕ → ℤ
  over_common l j = (x j).over *ℤ pos (common l / (x j).under)

  pub common_is : (l : List ℕ) → ((j : ℕ) → In j l → 0 < (x j).under) → (j : ℕ) → In j l → Is (x j) (over_common l j) (common l)
  unfolding over_common
  common_is l h j i =
      let r = divided l j i in
      let e : common l / (x j).under ≡ r.0 = ap (λ (w : ℕ). w / (x j).under) r.1 ∙ mul-div_cancel r.0 (h j i) in
      record {
        above_0 = h j i;
        equal = rw (e, r.1) (sym (mul_ℤ_assoc (x j).over (pos r.0) (pos (x j).under)));
      }
