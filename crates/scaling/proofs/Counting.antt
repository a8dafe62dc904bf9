-- How many comparisons are kept, and how many are broken.
use Rattle.std.proofs.Common.{◌≡◌, ℕ, ◌+◌, ◌-◌, ◌*◌, ◌/◌, ◌≤◌, true, List, [], ◌∷◌, length, get_or, take, drop, sym, refl, ap, ◌∙◌, arith, Bool, false, sum_by, lit≤, nat_le}
use Rattle.std.proofs.lemmas.List.Sums.{sum_by-cons}
use Rattle.std.proofs.lemmas.List.{take_rest}
use Rattle.rules.specs.Units.{sum_over}
use Rattle.rules.specs.Orders.{is_order}
use Rattle.rules.specs.Pattern.{triples_at, triples_from, triples, one_if, kept_at, kept, broken}
use Rattle.rules.proofs.Lists.{sum_append}
use Rattle.rules.proofs.Rows.{is_order_means}
use Rattle.rules.proofs.Comparisons.{comparisons, unbroken}
use Rattle.marks.specs.declared.marks.Marks.{Marks}
use Rattle.marks.specs.Numbers.{units_of, numbers_of}
use Rattle.scaling.specs.Compared.{Compared}

one_low : (b : Bool) → one_if b ≤ 1
one_low true = lit≤ tt
one_low false = lit≤ tt

module _ (p : ℕ → ℕ → ℕ) where
  -- of two units and each of some
  module _ (u v : ℕ) where
    abbrev pub with_last : ℕ → ℕ
    with_last w = kept_at p (record { first = u; middle = v; last = w })

    pub each_last : (ws : List ℕ) → sum_by with_last ws ≡ sum_over (kept_at p) (triples_at u v ws)
    each_last [] = refl
    each_last (w ∷ ws) = sum_by-cons with_last w ws ∙ ap (λ s. with_last w + s) (each_last ws)

    pub few_last : (ws : List ℕ) → sum_over (kept_at p) (triples_at u v ws) ≤ 2 * length ws
    few_last [] = omega arith
    few_last (w ∷ ws) = omega (arith, few_last ws, one_low (nat_le (p u v) (p u w)), one_low (nat_le (p v w) (p u w)))

  -- all but the first, as the code has them
  abbrev pub rest : List ℕ → List ℕ
  rest xs = take (length xs - 1) (drop 1 xs)

  -- of one unit and each two of some: those of the first of them, and the others
  pub first_middle : (u : ℕ) (vs : List ℕ) → 1 ≤ length vs
      → sum_over (kept_at p) (triples_from u vs)
      ≡ sum_over (kept_at p) (triples_at u (get_or vs 0 0) (rest vs)) + sum_over (kept_at p) (triples_from u (rest vs))
  first_middle u [] l = absurd (omega arith)
  first_middle u (v ∷ vs) l =
      sum_append (kept_at p) (triples_at u v vs) (triples_from u vs)
      ∙ ap (λ ws. sum_over (kept_at p) (triples_at u v ws) + sum_over (kept_at p) (triples_from u ws)) (sym (take_rest (v ∷ vs) 1))

  -- of a row: those of its first unit, and the others
  pub first_unit : (us : List ℕ) → 1 ≤ length us → kept p us ≡ sum_over (kept_at p) (triples_from (get_or us 0 0) (rest us)) + kept p (rest us)
  first_unit [] l = absurd (omega arith)
  first_unit (u ∷ us) l =
      sum_append (kept_at p) (triples_from u us) (triples us)
      ∙ ap (λ vs. sum_over (kept_at p) (triples_from u vs) + kept p vs) (sym (take_rest (u ∷ us) 1))

-- what is kept of an order, and the rest of all comparisons
module _ (m : Marks) (o : List ℕ) (is : is_order (units_of m) o ≡ true) (k all : ℕ)
    (held : k ≡ kept (numbers_of m) o) (in_all : all ≡ units_of m * (units_of m - 1) * (units_of m - 2) / 3) where
  both : kept (numbers_of m) o + broken (numbers_of m) o ≡ units_of m * (units_of m - 1) * (units_of m - 2) / 3
  both = (comparisons (units_of m) (numbers_of m) o (is_order_means (units_of m) o is)).1

  pub kept_low : k ≤ all
  kept_low = omega (arith, both)

  pub compared : Compared m o (k, all - k)
  compared =
      let rest : all - k ≡ broken (numbers_of m) o = omega (arith, both) in
      record {
        order = is;
        counts = λ i. (held i, rest i);
        all = omega (arith, both);
        pattern = (
          (λ h. rest ∙ (unbroken (numbers_of m) o).0 h),
          (λ h. (unbroken (numbers_of m) o).1 (sym rest ∙ h)),
        );
      }
