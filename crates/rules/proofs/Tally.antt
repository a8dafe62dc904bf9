-- The greatest so far and how many reach it, one more at a time, as a loop over the units finds them.
use Rattle.std.proofs.Common.{◌≡◌, ℕ, suc, ◌+◌, Bool, true, false, cond, List, [], ◌∷◌, ◌++◌, map, ℤ, filter, refl, ap, ◌∙◌, inl, arith}
use Rattle.std.proofs.lemmas.Bool.{both_ways, cond-true, cond-false}
use Rattle.rules.specs.Units.{labels, sum_over}
use Rattle.rules.specs.Yardsticks.{Merit, Lawful}
use Rattle.rules.specs.Ranking.{greater}
use Rattle.rules.proofs.Tests.{forced}
use Rattle.rules.proofs.Members.{In, in_left, in_right}
use Rattle.rules.proofs.Lists.{filter_append, sum_append, in_sum_zero}
use Rattle.rules.proofs.Totals.{Good, not_exceeds_trans, GoodOn, top_of, top_not_exceeded, top_good}

-- the labels that pass a test, one label more
pub filter_labels : (f : ℕ → Bool) (m : ℕ) → filter f (labels (suc m)) ≡ filter f (labels m) ++ cond (f (suc m)) (suc m ∷ []) []
filter_labels f m = filter_append f (labels m) (suc m ∷ [])

module _ (y : Merit) (law : Lawful y) {X : Type 0} (f : X → List ℤ) (c : X → ℕ) where
  abbrev top : List X → List ℤ
  top xs = top_of y law f xs

  -- how many reach the greatest, each counted with its weight
  abbrev pub tally : List X → ℕ
  tally xs = sum_over (λ x. cond (y.exceeds (top xs) (f x)) 0 (c x)) xs

  greater_push : (t : List ℤ) (us : List X) (x : X)
      → greater y t (map f (us ++ (x ∷ []))) ≡ cond (y.exceeds (f x) (greater y t (map f us))) (f x) (greater y t (map f us))
  greater_push t [] x = refl
  greater_push t (u ∷ us) x = greater_push (cond (y.exceeds (f u) t) (f u) t) us x

  pub top_push : (z : X) (xs : List X) (x : X) → In z xs
      → top (xs ++ (x ∷ [])) ≡ cond (y.exceeds (f x) (top xs)) (f x) (top xs)
  top_push z [] x i = absurd i
  top_push z (w ∷ xs) x i = greater_push (f w) xs x

  pub tally_first : (x : X) → Good y law (f x) → tally (x ∷ []) ≡ c x
  tally_first x g = ap (λ (b : Bool). cond b 0 (c x) + 0) (law.never_itself (f x) g) ∙ omega arith

  module _ (z : X) (xs : List X) (x : X) (i : In z xs) (g : GoodOn y law f (xs ++ (x ∷ []))) where
    here : GoodOn y law f xs
    here o k = g o (in_left o xs (x ∷ []) k)

    gx : Good y law (f x)
    gx = g x (in_right x xs (x ∷ []) (inl refl))

    gt : Good y law (top xs)
    gt = top_good y law f xs here z i

    split : (t : List ℤ) → top (xs ++ (x ∷ [])) ≡ t
        → tally (xs ++ (x ∷ [])) ≡ sum_over (λ o. cond (y.exceeds t (f o)) 0 (c o)) xs + cond (y.exceeds t (f x)) 0 (c x)
    split t e =
        ap (λ (u : List ℤ). sum_over (λ o. cond (y.exceeds u (f o)) 0 (c o)) (xs ++ (x ∷ []))) e
        ∙ (sum_append (λ o. cond (y.exceeds t (f o)) 0 (c o)) xs (x ∷ []) ∙ omega arith)

    -- a new greatest: only it reaches
    pub push_more : y.exceeds (f x) (top xs) ≡ true → (top (xs ++ (x ∷ [])) ≡ f x) × (tally (xs ++ (x ∷ [])) ≡ c x)
    push_more e = (
      is,
      split (f x) is ∙ (ap (λ (k : ℕ). k + cond (y.exceeds (f x) (f x)) 0 (c x)) (in_sum_zero (λ o. cond (y.exceeds (f x) (f o)) 0 (c o)) xs away)
          ∙ (ap (λ (b : Bool). 0 + cond b 0 (c x)) (law.never_itself (f x) gx) ∙ omega arith)),
    )
      where
        is : top (xs ++ (x ∷ [])) ≡ f x
        is = top_push z xs x i ∙ cond-true (y.exceeds (f x) (top xs)) (f x) (top xs) e

        away : (o : X) → In o xs → cond (y.exceeds (f x) (f o)) 0 (c o) ≡ 0
        away o k = cond-true (y.exceeds (f x) (f o)) 0 (c o) (forced (y.exceeds (f x) (f o)) (λ q.
            both_ways (y.exceeds (f x) (top xs))
            (not_exceeds_trans y law (f x) (f o) (top xs) gx (here o k) gt q (top_not_exceeded y law f xs here o k)) e))

    stays : y.exceeds (f x) (top xs) ≡ false → top (xs ++ (x ∷ [])) ≡ top xs
    stays e = top_push z xs x i ∙ cond-false (y.exceeds (f x) (top xs)) (f x) (top xs) e

    -- a lesser one changes nothing
    pub push_less : y.exceeds (f x) (top xs) ≡ false → y.exceeds (top xs) (f x) ≡ true
        → (top (xs ++ (x ∷ [])) ≡ top xs) × (tally (xs ++ (x ∷ [])) ≡ tally xs)
    push_less e q = (stays e, split (top xs) (stays e) ∙ (ap (λ (b : Bool). tally xs + cond b 0 (c x)) q ∙ omega arith))

    -- an equal one is counted too
    pub push_equal : y.exceeds (f x) (top xs) ≡ false → y.exceeds (top xs) (f x) ≡ false
        → (top (xs ++ (x ∷ [])) ≡ top xs) × (tally (xs ++ (x ∷ [])) ≡ tally xs + c x)
    push_equal e q = (stays e, split (top xs) (stays e) ∙ ap (λ (b : Bool). tally xs + cond b 0 (c x)) q)
