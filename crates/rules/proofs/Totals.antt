-- Totals under a lawful yardstick: how far they go, and the greatest of some.
use Rattle.std.proofs.Common.{◌≡◌, ℕ, suc, ◌+◌, ◌^◌, ◌<◌, ◌≤◌, Bool, true, false, not, ◌⊎◌, List, [], ◌∷◌, map, length, ℤ, filter, sym, refl, ap, ◌∙◌, subst, inl, inr, le_trans, mul-le-mul_right, arith}
use Rattle.std.proofs.lemmas.Bool.{both_ways, not-true, not_from_false, cond_both}
use Rattle.rules.specs.Units.{label, has, with_unit}
use Rattle.rules.specs.Yardsticks.{Merit, Lawful, Within, zeros}
use Rattle.rules.specs.Ranking.{total, greater, greatest}
use Rattle.rules.proofs.Tests.{refuted}
use Rattle.rules.proofs.Sets.{with_below}
use Rattle.rules.proofs.Members.{In, in_map, map_in, in_filter, filter_in}
use Rattle.rules.proofs.Ways.{Way, ready_out}

pub within_more : (m k : ℕ) (caps : List ℕ) (u : List ℤ) → m ≤ k → Within m caps u → Within k caps u
within_more m k [] [] l h = tt
within_more m k [] (x ∷ u) l h = h
within_more m k (c ∷ caps) [] l h = h
within_more m k (c ∷ caps) (x ∷ u) l h = (le_trans h.0 (mul-le-mul_right c l), within_more m k caps u l h.1)

pub within_zeros : (m : ℕ) (caps : List ℕ) → Within m caps (zeros caps)
within_zeros m [] = tt
within_zeros m (c ∷ caps) = (omega arith, within_zeros m caps)

module _ (y : Merit) (law : Lawful y) where
  abbrev pub Good : List ℤ → Type 0
  Good u = Within 21 y.caps u

  pub not_back : (u v : List ℤ) → Good u → Good v → y.exceeds u v ≡ true → y.exceeds v u ≡ false
  not_back u v g k e =
      refuted (y.exceeds v u) (λ f. both_ways (y.exceeds u u) (law.never_itself u g) (law.transitive u v u g k g e f))

  pub not_exceeds_trans : (u v w : List ℤ) → Good u → Good v → Good w
      → y.exceeds u v ≡ false → y.exceeds v w ≡ false → y.exceeds u w ≡ false
  not_exceeds_trans u v w a b c e f = refuted (y.exceeds u w) (λ p.
      let q = refuted (y.exceeds v u) (λ q. both_ways (y.exceeds v w) f (law.transitive v u w b a c q p)) in
      both_ways (y.exceeds u w) (ap (λ (z : List ℤ). y.exceeds z w) (law.compared u v a b e q) ∙ f) p)

  abbrev pub AllGood : List (List ℤ) → Type 0
  AllGood us = (u : List ℤ) → In u us → Good u

  abbrev Tops : List ℤ → List (List ℤ) → Type 0
  Tops m us = In m us × ((u : List ℤ) → In u us → y.exceeds u m ≡ false)

  -- the greatest of those and one that does not exceed one of them
  tops_more : (s t m : List ℤ) (us : List (List ℤ)) → Good s → AllGood (t ∷ us) → y.exceeds s t ≡ false → Tops m (t ∷ us)
      → (u : List ℤ) → (u ≡ s) ⊎ In u (t ∷ us) → y.exceeds u m ≡ false
  tops_more s t m us gs g e h u (inl q) =
      ap (λ (z : List ℤ). y.exceeds z m) q
      ∙ not_exceeds_trans s t m gs (g t (inl refl)) (g m h.0) e (h.1 t (inl refl))
  tops_more s t m us gs g e h u (inr i) = h.1 u i

  tops_greater : (t : List ℤ) (us : List (List ℤ)) → AllGood (t ∷ us) → Tops (greater y t us) (t ∷ us)
  tops_greater t [] g = (
    inl refl,
    λ u i. elim i [
      | inl e ↦ ap (λ (z : List ℤ). y.exceeds z t) e ∙ law.never_itself t (g t (inl refl))
      | inr z ↦ absurd z
    ],
  )
  tops_greater t (u ∷ us) g =
      cond_both (y.exceeds u t) u t (λ m. Tops (greater y m us) (t ∷ u ∷ us))
      (λ e.
      let h = tops_greater u us (λ z i. g z (inr i)) in
      (inr h.0, tops_more t u (greater y u us) us gt (λ z i. g z (inr i)) (not_back u t gu gt e) h))
      (λ e.
      let k = tops_greater t us gtu in (
        elim k.0 [ inl q ↦ inl q | inr i ↦ inr (inr i) ],
        (λ z i. tops_more u t (greater y t us) us gu gtu e k z (turned z i)),
      ))
    where
      gt : Good t
      gt = g t (inl refl)

      gu : Good u
      gu = g u (inr (inl refl))

      gtu : AllGood (t ∷ us)
      gtu z i = elim i [ inl e ↦ g z (inl e) | inr k ↦ g z (inr (inr k)) ]

      turned : (z : List ℤ) → In z (t ∷ u ∷ us) → (z ≡ u) ⊎ In z (t ∷ us)
      turned z (inl q) = inr (inl q)
      turned z (inr (inl q)) = inl q
      turned z (inr (inr i)) = inr (inr i)

  tops_greatest : (us : List (List ℤ)) → AllGood us → (v : List ℤ) → In v us → Tops (greatest y us) us
  tops_greatest [] g v i = absurd i
  tops_greatest (t ∷ us) g v i = tops_greater t us g

  -- what has a total, and those of the greatest
  module _ {X : Type 0} (f : X → List ℤ) where
    abbrev pub top_of : List X → List ℤ
    top_of R = greatest y (map f R)

    abbrev pub tops_of : List X → List X
    tops_of R = filter (λ o. not (y.exceeds (top_of R) (f o))) R

    abbrev pub GoodOn : List X → Type 0
    GoodOn R = (o : X) → In o R → Good (f o)

    on_map : (R : List X) → GoodOn R → AllGood (map f R)
    on_map R g u i = let w = map_in f u R i in subst (λ (z : List ℤ). Good z) (sym w.1.1) (g w.0 w.1.0)

    pub top_not_exceeded : (R : List X) → GoodOn R → (o : X) → In o R → y.exceeds (f o) (top_of R) ≡ false
    top_not_exceeded R g o i = (tops_greatest (map f R) (on_map R g) (f o) (in_map f o R i)).1 (f o) (in_map f o R i)

    pub top_reached : (R : List X) → GoodOn R → (o : X) → In o R → (q : X) × (In q R × (f q ≡ top_of R))
    top_reached R g o i =
        let w = map_in f (top_of R) R (tops_greatest (map f R) (on_map R g) (f o) (in_map f o R i)).0 in
        (w.0, (w.1.0, sym w.1.1))

    pub top_good : (R : List X) → GoodOn R → (o : X) → In o R → Good (top_of R)
    top_good R g o i = let w = top_reached R g o i in subst (λ (z : List ℤ). Good z) w.1.1 (g w.0 w.1.0)

    -- what is reached and not exceeded is the greatest
    pub top_is : (R : List X) → GoodOn R → (o : X) → In o R → ((q : X) → In q R → y.exceeds (f q) (f o) ≡ false) → top_of R ≡ f o
    top_is R g o i h =
        let w = top_reached R g o i in
        sym w.1.1 ∙ law.compared (f w.0) (f o) (g w.0 w.1.0) (g o i) (h w.0 w.1.0)
        (subst (λ (z : List ℤ). y.exceeds (f o) z ≡ false) (sym w.1.1) (top_not_exceeded R g o i))

    pub in_tops : (R : List X) → GoodOn R → (o : X) → In o R → f o ≡ top_of R → In o (tops_of R)
    in_tops R g o i e =
        in_filter (λ q. not (y.exceeds (top_of R) (f q))) o R i
        (not_from_false (y.exceeds (top_of R) (f o)) (ap (λ (z : List ℤ). y.exceeds (top_of R) z) e ∙ law.never_itself (top_of R) (top_good R g o i)))

    pub tops_in : (R : List X) → GoodOn R → (o : X) → In o (tops_of R) → In o R × (f o ≡ top_of R)
    tops_in R g o i =
        let w = filter_in (λ q. not (y.exceeds (top_of R) (f q))) o R i in
        (w.0, law.compared (f o) (top_of R) (g o w.0) (top_good R g o w.0) (top_not_exceeded R g o w.0) (not-true (y.exceeds (top_of R) (f o)) w.1))

  -- totals of ways
  module _ (p : ℕ → ℕ → ℕ) (tied : ℕ → ℕ → Bool) (n : ℕ) (two : 2 ≤ n) (twenty : n ≤ 20)
      (low : (a b : ℕ) → p a b ≤ 10000) (sm : (a b : ℕ) → p a b ≡ p b a) where
    pub step_is_within : (A j : ℕ) → A < 2 ^ n → label n j ≡ true → has A j ≡ false → Within 1 y.caps (y.step p n A j)
    step_is_within A j a l h = law.step_within p n A j two twenty low sm a l h

    pub total_within : (A : ℕ) (o : List ℕ) → Way tied n A o → A < 2 ^ n → length o ≤ 20 → Within (length o) y.caps (total y p n A o)
    total_within A [] h a l = within_zeros 0 y.caps
    total_within A (j ∷ o) h a l =
        let out = ready_out tied n A j h.1.0 in
        let e : 1 + length o ≡ suc (length o) = omega arith in
        subst (λ (m : ℕ). Within m y.caps (y.plus (y.step p n A j) (total y p n (with_unit A j) o))) e
        (law.adds_caps 1 (length o) (y.step p n A j) (total y p n (with_unit A j) o) (omega arith) (step_is_within A j a h.0 out)
        (total_within (with_unit A j) o h.1.1 (with_below n A j h.0 a out) (omega arith)))

    pub total_good : (A : ℕ) (o : List ℕ) → Way tied n A o → A < 2 ^ n → length o ≤ 20 → Good (total y p n A o)
    total_good A o h a l = within_more (length o) 21 y.caps (total y p n A o) (omega arith) (total_within A o h a l)
