-- Tables whose first cells are known one by one, and whose other cells stay.
use Rattle.std.proofs.Common.{◌≡◌, ℕ, zero, suc, ◌+◌, ◌<◌, ◌≤◌, List, [], ◌∷◌, ◌++◌, map, length, get_or, take, drop, sym, refl, ap, ◌∙◌, arith}
use Rattle.std.specs.List.{range_with_len}
use Rattle.std.proofs.lemmas.List.{map-append, drop-map, take-append-drop}
use Rattle.rules.specs.Ranking.{filled}

module _ {T X : Type 0} (g : T → X) where
  -- the first m cells, from the cell number a on
  cells_are : (f : ℕ → X) (a m : ℕ) (xs : List T) → m ≤ length xs → ((i : ℕ) (d : T) → i < m → g (get_or xs i d) ≡ f (a + i))
      → map g (take m xs) ≡ map f (range_with_len a m)
  cells_are f a zero xs l h = refl
  cells_are f a (suc m) [] l h = absurd (omega arith)
  cells_are f a (suc m) (x ∷ xs) l h =
      let e : a + 0 ≡ a = omega arith in
      let first : g x ≡ f a = h 0 x (omega arith) ∙ ap f e in
      let rest = cells_are f (a + 1) m xs (omega arith)
      (λ i d k. let q : a + suc i ≡ (a + 1) + i = omega arith in h (suc i) d (omega arith) ∙ ap f q) in
      λ i. first i ∷ rest i

  -- the whole table
  pub table_is : (f : ℕ → X) (m : ℕ) (xs ys : List T) → m ≤ length xs → ((i : ℕ) (d : T) → i < m → g (get_or xs i d) ≡ f i)
      → drop m xs ≡ drop m ys → map g xs ≡ filled f m (map g ys)
  table_is f m xs ys l h past =
      ap (map g) (sym (take-append-drop m xs))
      ∙ map-append g (take m xs) (drop m xs)
      ∙ (λ i. first i ++ rest i)
    where
      first : map g (take m xs) ≡ map f (range_with_len 0 m)
      first = cells_are f 0 m xs l (λ i d k. let q : i ≡ 0 + i = omega arith in h i d k ∙ ap f q)

      rest : map g (drop m xs) ≡ drop m (map g ys)
      rest = ap (map g) past ∙ sym (drop-map g m ys)
