-- Tables that are filled from the full set down: one cell more.
use Rattle.std.proofs.Common.{◌≡◌, ℕ, ◌+◌, ◌^◌, ◌<◌, Bool, List, get_or, set, ℤ, sym, ap, ◌∙◌, subst, inl, inr, arith, get_or-set_other, get_or-set_same}
use Rattle.std.proofs.lemmas.Bool.{cases_eq}
use Rattle.rules.specs.Yardsticks.{Merit}
use Rattle.rules.specs.Ranking.{total_cell, count_cell}
use Rattle.search.specs.Tables.{Filled}
use Rattle.search.specs.Above.{FilledFrom, Room}

module _ {T : Type 0} (numbers : T → List ℤ) (y : Merit) (p : ℕ → ℕ → ℕ) (tied : ℕ → ℕ → Bool) (n : ℕ) (totals : List T) (counts : List ℕ) where
  -- one cell more
  pub one_filled : (A : ℕ) (t : T) (c : ℕ) → A < 2 ^ n → Room n totals counts → FilledFrom numbers y p tied n (A + 1) totals counts
      → numbers t ≡ total_cell y p tied n A → c ≡ count_cell y p tied n A
      → FilledFrom numbers y p tied n A (set totals A t) (set counts A c)
  one_filled A t c a room old e f = record {
    total = λ B d l k. elim (cases_eq B A) [
      | inl q ↦ subst (λ (z : ℕ). numbers (get_or (set totals A t) z d) ≡ total_cell y p tied n z) (sym q)
          (ap numbers (get_or-set_same totals A t d (omega (arith, room.for_totals))) ∙ e)
      | inr ne ↦ ap numbers (get_or-set_other totals A B t d ne) ∙ old.total B d (omega arith) k
    ];
    count = λ B l k. elim (cases_eq B A) [
      | inl q ↦ subst (λ (z : ℕ). get_or (set counts A c) z 0 ≡ count_cell y p tied n z) (sym q)
          (get_or-set_same counts A c 0 (omega (arith, room.for_counts)) ∙ f)
      | inr ne ↦ get_or-set_other counts A B c 0 ne ∙ old.count B (omega arith) k
    ];
  }

-- filled tables are filled from every set on
pub from_filled : {T : Type 0} {numbers : T → List ℤ} {y : Merit} {p : ℕ → ℕ → ℕ} {tied : ℕ → ℕ → Bool} {n : ℕ} {totals : List T} {counts : List ℕ} (a : ℕ)
    → Filled numbers y p tied n totals counts → FilledFrom numbers y p tied n a totals counts
from_filled a s = record { total = λ A d _ b. s.total A d b; count = λ A _ b. s.count A b }
