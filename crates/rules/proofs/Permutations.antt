-- Permutations of a row: orders are the permutations of the labels, and sums over a row, its pairs and its triples do not change.
use Rattle.std.proofs.Common.{◌≡◌, ℕ, zero, suc, ◌≤◌, true, List, [], ◌∷◌, ◌++◌, length, get_or, ℤ, ◌+ℤ◌, ◌≤ℤ◌, sym, refl, ap, ◌∙◌, subst, inl, inr, arith}
use lib.Signed.{le_z}
use Rattle.std.proofs.lemmas.Int.{ints}
use Rattle.std.proofs.lemmas.Bool.{cases_Bool, cases_order}
use Rattle.rules.specs.Units.{label, labels, sum_ℤ}
use Rattle.rules.specs.Sheets.{pairs_in}
use Rattle.rules.specs.Orders.{Order}
use Rattle.rules.specs.Pattern.{Triple, triples}
use Rattle.rules.proofs.Sets.{label_from}
use Rattle.rules.proofs.Members.{In, in_at, at_in, Ascending, ascending_at}
use Rattle.rules.proofs.Rows.{order_covers}
use Rattle.rules.proofs.Integers.{lin}
use Rattle.rules.proofs.Sums.{pairs_step, three, triples_step, ascending_from}

-- the same units in another order
pub data Perm {X : Type 0} : List X → List X → Type 0 where
  done : Perm [] []
  keep : (x : X) {xs ys : List X} → Perm xs ys → Perm (x ∷ xs) (x ∷ ys)
  swap : (x y : X) (xs : List X) → Perm (x ∷ y ∷ xs) (y ∷ x ∷ xs)
  both : {xs ys zs : List X} → Perm xs ys → Perm ys zs → Perm xs zs

module _ {X : Type 0} where
  perm_refl : (xs : List X) → Perm xs xs
  perm_refl [] = done
  perm_refl (x ∷ xs) = keep x (perm_refl xs)

  pub perm_sym : {xs ys : List X} → Perm xs ys → Perm ys xs
  perm_sym done = done
  perm_sym (keep x q) = keep x (perm_sym q)
  perm_sym (swap x y xs) = swap y x xs
  perm_sym (both q r) = both (perm_sym r) (perm_sym q)

  perm_last : (xs : List X) (y : X) → Perm (xs ++ (y ∷ [])) (y ∷ xs)
  perm_last [] y = keep y done
  perm_last (x ∷ xs) y = both (keep x (perm_last xs y)) (swap x y xs)

  length_perm : {xs ys : List X} → Perm xs ys → length xs ≡ length ys
  length_perm done = refl
  length_perm (keep x q) = ap suc (length_perm q)
  length_perm (swap x y xs) = refl
  length_perm (both q r) = length_perm q ∙ length_perm r

  pub in_perm : {xs ys : List X} → Perm xs ys → (z : X) → In z xs → In z ys
  in_perm done z h = h
  in_perm (keep x q) z (inl e) = inl e
  in_perm (keep x q) z (inr h) = inr (in_perm q z h)
  in_perm (swap x y xs) z (inl e) = inr (inl e)
  in_perm (swap x y xs) z (inr (inl e)) = inl e
  in_perm (swap x y xs) z (inr (inr h)) = inr (inr h)
  in_perm (both q r) z h = in_perm r z (in_perm q z h)

  -- what each two have, whichever comes first
  ascending_perm : (R : X → X → Type 0) → ((x y : X) → R x y → R y x) → {xs ys : List X} → Perm xs ys → Ascending R xs → Ascending R ys
  ascending_perm R s done h = h
  ascending_perm R s (keep x q) h = ((λ z i. h.0 z (in_perm (perm_sym q) z i)), ascending_perm R s q h.1)
  ascending_perm R s (swap x y xs) h =
      ((λ z i. elim i [ inl e ↦ subst (R y) (sym e) (s x y (h.0 y (inl refl))) | inr k ↦ h.1.0 z k ]), ((λ z k. h.0 z (inr k)), h.1.1))
  ascending_perm R s (both q r) h = ascending_perm R s r (ascending_perm R s q h)

  -- the others, where x is in the list
  others : (x : X) (xs : List X) → In x xs → (ys : List X) × Perm (x ∷ ys) xs
  others x [] h = absurd h
  others x (z ∷ xs) (inl e) = (xs, subst (λ (w : X). Perm (w ∷ xs) (z ∷ xs)) (sym e) (perm_refl (z ∷ xs)))
  others x (z ∷ xs) (inr h) = let w = others x xs h in (z ∷ w.0, both (swap x z w.0) (keep z w.1))

  pub sum_perm : (f : X → ℤ) {xs ys : List X} → Perm xs ys → sum_ℤ f xs ≡ sum_ℤ f ys
  sum_perm f done = refl
  sum_perm f (keep x q) = ap (λ (w : ℤ). f x +ℤ w) (sum_perm f q)
  sum_perm f (swap x y xs) = omega (arith, lin)
  sum_perm f (both q r) = sum_perm f q ∙ sum_perm f r

pub pairs_perm : (h : ℕ × ℕ → ℤ) → ((x y : ℕ) → h (x, y) ≡ h (y, x)) → {xs ys : List ℕ} → Perm xs ys → sum_ℤ h (pairs_in xs) ≡ sum_ℤ h (pairs_in ys)
pairs_perm h e done = refl
pairs_perm h e (keep x {xs} {ys} q) = pairs_step h x xs ∙ (λ i. sum_perm (λ y. h (x, y)) q i +ℤ pairs_perm h e q i) ∙ sym (pairs_step h x ys)
pairs_perm h e (swap x y xs) = omega (arith, lin, e x y, pairs_step h x (y ∷ xs), pairs_step h y xs, pairs_step h y (x ∷ xs), pairs_step h x xs)
pairs_perm h e (both q r) = pairs_perm h e q ∙ pairs_perm h e r

pub triples_perm : (g : Triple → ℤ) → ((x y z : ℕ) → g (three x (y, z)) ≡ g (three y (x, z))) → ((x y z : ℕ) → g (three x (y, z)) ≡ g (three x (z, y)))
    → {xs ys : List ℕ} → Perm xs ys → sum_ℤ g (triples xs) ≡ sum_ℤ g (triples ys)
triples_perm g e f done = refl
triples_perm g e f (keep x {xs} {ys} q) = triples_step g x xs ∙ (λ i. pairs_perm (λ q. g (three x q)) (f x) q i +ℤ triples_perm g e f q i) ∙ sym (triples_step g x ys)
triples_perm g e f (swap x y xs) =
    let same : sum_ℤ (λ z. g (three x (y, z))) xs ≡ sum_ℤ (λ z. g (three y (x, z))) xs = λ i. sum_ℤ (λ z. e x y z i) xs in
    let a = pairs_step (λ q. g (three x q)) y xs in
    let b = pairs_step (λ q. g (three y q)) x xs in
    omega (arith, lin, triples_step g x (y ∷ xs), triples_step g y xs, triples_step g y (x ∷ xs), triples_step g x xs)
triples_perm g e f (both q r) = triples_perm g e f q ∙ triples_perm g e f r

-- a row of n that has each label is a permutation of the labels
all_there : (n : ℕ) (o : List ℕ) → length o ≡ n → ((j : ℕ) → 1 ≤ j → j ≤ n → In j o) → Perm (labels n) o
all_there zero [] e h = done
all_there zero (x ∷ o) e h = absurd (omega arith)
all_there (suc n) o e h =
    let w = others (suc n) o (h (suc n) (omega arith) (omega arith)) in
    let l = length_perm w.1 in
    let r = all_there n w.0 (omega arith) (λ j a b. rest j b w.0 (in_perm (perm_sym w.1) j (h j a (omega arith)))) in
    both (perm_last (labels n) (suc n)) (both (keep (suc n) r) w.1)
  where
    rest : (j : ℕ) → j ≤ n → (ys : List ℕ) → In j (suc n ∷ ys) → In j ys
    rest j b ys (inl q) = absurd (omega arith)
    rest j b ys (inr i) = i

pub order_perm : (n : ℕ) (o : List ℕ) → Order n o → Perm (labels n) o
order_perm n o h =
    all_there n o h.as_many (λ j a b. let w = order_covers n o h j (label_from n j a b) in subst (λ (z : ℕ). In z o) w.1.1 (in_at o w.0 0 w.1.0))

-- no unit comes twice
abbrev pub Distinct : List ℕ → Type 0
Distinct o = Ascending (λ u v. u ≡ v → ⊥) o

pub order_distinct : (n : ℕ) (o : List ℕ) → Order n o → Distinct o
order_distinct n o h =
    ascending_from (λ u v. u ≡ v → ⊥) o 0 (λ i k a b e. let z : i ≡ k = h.once i k (omega (arith, h.as_many)) (omega (arith, h.as_many)) e in omega arith)

pub perm_order : (n : ℕ) (o q : List ℕ) → Order n o → Perm o q → Order n q
perm_order n o q h r =
    let long : length q ≡ n = sym (length_perm r) ∙ h.as_many in
    let apart = ascending_at (λ u v. u ≡ v → ⊥) q 0 (ascending_perm (λ u v. u ≡ v → ⊥) (λ u v k e. k (sym e)) r (order_distinct n o h)) in
    record {
      as_many = long;
      in_range = λ i l.
          let w = at_in (get_or q i 0) o 0 (in_perm (perm_sym r) (get_or q i 0) (in_at q i 0 (omega arith))) in
          subst (λ (z : ℕ). label n z ≡ true) w.1.1 (h.in_range w.0 (omega (arith, w.1.0, h.as_many)));
      once = λ i k a b e. elim (cases_order i k) [ inl z ↦ z | inr (inl l) ↦ absurd (apart i k l (omega arith) e) | inr (inr l) ↦ absurd (apart k i l (omega arith) (sym e)) ];
    }

-- each row can be sorted by numbers of its units
module _ (x : ℕ → ℤ) where
  abbrev Sorted : List ℕ → Type 0
  Sorted o = (q : List ℕ) × (Perm o q × Ascending (λ u v. x u ≤ℤ x v) q)

  put : (a : ℕ) (o : List ℕ) → Ascending (λ u v. x u ≤ℤ x v) o → Sorted (a ∷ o)
  put a [] h = (a ∷ [], (keep a done, ((λ z i. absurd i), tt)))
  put a (b ∷ o) h = elim (cases_Bool (le_z (x a) (x b))) [
    | inl e ↦ (a ∷ b ∷ o, (perm_refl (a ∷ b ∷ o), ((λ z i. let l = after b (omega (arith, lin)) z i in omega (arith, ints)), h)))
    | inr e ↦
        let r = put a o h.1 in
        (b ∷ r.0, (both (swap a b o) (keep b r.1.0), ((λ z i. after a (omega (arith, ints)) z (in_perm (perm_sym r.1.0) z i)), r.1.1)))
  ]
    where
      after : (c : ℕ) → x b ≤ℤ x c → (z : ℕ) → In z (c ∷ o) → x b ≤ℤ x z
      after c l z (inl e) = subst (λ (w : ℕ). x b ≤ℤ x w) (sym e) l
      after c l z (inr i) = h.0 z i

  pub sorted : (o : List ℕ) → Sorted o
  sorted [] = ([], (done, tt))
  sorted (a ∷ o) = let r = sorted o in let w = put a r.0 r.1.1 in (w.0, (both (keep a r.1.0) w.1.0, w.1.1))
