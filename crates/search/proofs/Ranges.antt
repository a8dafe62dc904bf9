-- What a search of `1..=n`, or of the places `0..n`, by a test says of the labels.
use Rattle.std.proofs.Common.{◌≡◌, ℕ, suc, ◌+◌, ◌-◌, ◌<◌, ◌≤◌, Bool, true, false, List, [], ◌∷◌, filter, Bor, Option, Some, None, IfSome, sym, refl, ap, ◌∙◌, subst, arith}
use Rattle.std.specs.declared.ops.Range.{Range}
use Rattle.std.specs.declared.ops.RangeInclusive.{RangeInclusive}
use Rattle.std.specs.Bool.{MatchBool, IsTrue}
use Rattle.std.specs.List.{list_all}
use Rattle.std.specs.Option.{option_map, unwrap_or, MatchOption, IsSomeAnd}
use Rattle.std.specs.Fn.{Mut, Called}
use Rattle.std.specs.Iterator.Runs.{Run, SomeRun, ItemsCountUp, AllItems, AnyItem, AllItemsBelow, AllItemsGive, AnyItemGives, NoItemPasses, EndsAtFirstPassing}
use Rattle.std.specs.Range.{range_inclusive_start, range_inclusive_end, range_inclusive_exhausted}
use Rattle.std.proofs.iter.runs.Sources.{nat_range_inclusive_steps, inclusive_listed, range_runs}
use Rattle.std.proofs.iter.Yields.{nat_range_steps}
use Rattle.rules.specs.Units.{labels}
use Rattle.search.specs.Parts.{FirstReady}
use Rattle.search.proofs.Parts.{labels_all}
use Rattle.search.proofs.Placing.{first_of, none_of}

some_same : {x y : ℕ} → Some x ≡ Some y → x ≡ y
some_same {x} e = ap (λ (o : Option ℕ). unwrap_or o x) e

as_is : (o : Option ℕ) → option_map (λ y. y) o ≡ o
as_is None = refl
as_is (Some x) = refl

-- a run over `1..=n`
module _ {s : RangeInclusive ℕ} {n : ℕ} (start : range_inclusive_start s ≡ 1) (end : range_inclusive_end s ≡ n)
    (fresh : range_inclusive_exhausted s ≡ false) (p : Run nat_range_inclusive_steps) (from : p.from ≡ s) where
  counts : ItemsCountUp p 1 (n + 1)
  counts =
      let w = inclusive_listed p p.seen in
      let a : w.0 ≡ 1 = w.2 ∙ ap range_inclusive_start from ∙ start in
      let b : w.1 ≡ n + 1 = w.3 ∙ ap (λ (t : RangeInclusive ℕ). range_inclusive_end t + 1) from ∙ ap (λ (k : ℕ). k + 1) end in
      subst (λ (k : ℕ). ItemsCountUp p k (n + 1)) a (subst (λ (k : ℕ). ItemsCountUp p w.0 k) b (w.4 (ap range_inclusive_exhausted from ∙ fresh)).0)

  -- the item at a place is the label that is one more
  at_label : (k : ℕ) → k < p.len → p.at k ≡ Some (suc k)
  at_label k l = let e : 1 + k ≡ suc k = omega arith in sym (as_is (p.at k)) ∙ counts.3 k l ∙ ap Some e

  few : p.len ≤ n
  few = omega (arith, counts.0)

  all_seen : p.whole ≡ true → p.len ≡ n
  all_seen w = omega (arith, counts.1 w)

  -- what holds of each item holds of the labels up to the run's length
  each : (P : ℕ → Type 0) → AllItems p P → (x : ℕ) → 1 ≤ x → x ≤ p.len → P x
  each P h x lo hi =
      let e : suc (x - 1) ≡ x = omega arith in
      subst P e (subst (λ (o : Option ℕ). IfSome o P) (at_label (x - 1) (omega arith)) (h (x - 1)))

  -- the same of the labels before a place
  below : (P : ℕ → Type 0) (i : ℕ) → i ≤ p.len → AllItemsBelow p i P → (x : ℕ) → 1 ≤ x → x ≤ i → P x
  below P i l h x lo hi =
      let e : suc (x - 1) ≡ x = omega arith in
      subst P e (subst (λ (o : Option ℕ). IsSomeAnd o P) (at_label (x - 1) (omega arith)) (h (x - 1) (omega arith)))

-- the same over `0..n`, whose items are one less than the labels
module _ {s : Range ℕ} {n : ℕ} (is : s ≡ record { start = 0; end = n }) (p : Run nat_range_steps) (from : p.from ≡ s) where
  counts_from_0 : ItemsCountUp p 0 n
  counts_from_0 = subst (λ (r : Range ℕ). ItemsCountUp p r.start r.end) (from ∙ is) (range_runs p p.seen)

  at_place : (k : ℕ) → k < p.len → p.at k ≡ Some k
  at_place k l = let e : 0 + k ≡ k = omega arith in sym (as_is (p.at k)) ∙ counts_from_0.3 k l ∙ ap Some e

  each_from_0 : (P : ℕ → Type 0) → AllItems p P → p.len ≡ n → (k : ℕ) → k < n → P k
  each_from_0 P h l k lo =
      subst (λ (o : Option ℕ). IfSome o P) (at_place k (omega arith)) (h k)

  some_from_0 : (P : ℕ → Type 0) → AnyItem p P → (k : ℕ) × (k < n) × P k
  some_from_0 P (k, l, h) =
      (k, omega (arith, counts_from_0.0), subst (λ (o : Option ℕ). IsSomeAnd o P) (at_place k l) h)

-- `all` over `0..n` answers the test of all labels
pub all_places : {F : Type 0} {s : Range ℕ} (n : ℕ) (test : ℕ → Bool) → s ≡ record { start = 0; end = n }
    → (g : Mut F (ℕ × Unit {0}) Bool) (f : F) → ((x : ℕ) (b : Bool) (q : F) → Called g f (x, tt) b q → (q ≡ f) × (b ≡ test (x + 1))) → (r : Bool)
    → SomeRun nat_range_steps s (λ p. MatchBool r (IsTrue p.whole × AllItemsGive p g f true) (AnyItemGives p g f false))
    → r ≡ list_all test (labels n)
all_places n test is g f gives true (p, from, h) =
    labels_all test n true (λ x lo hi. let e : x - 1 + 1 ≡ x = omega arith in
    ap test (sym e) ∙ sym (gives (x - 1) true f (each_from_0 is p from _ (h.1 (λ a b q w. (gives a.0 b q w).0))
    (omega (arith, (counts_from_0 is p from).1 h.0)) (x - 1) (omega arith))).1)
all_places n test is g f gives false (p, from, h) =
    let w = some_from_0 is p from _ (h (λ a b q w. (gives a.0 b q w).0)) in
    labels_all test n false (w.0 + 1, omega arith, omega (arith, w.1), sym (gives w.0 false f w.2).1)

module _ {F : Type 0} {s : RangeInclusive ℕ} (n : ℕ) (test : ℕ → Bool)
    (start : range_inclusive_start s ≡ 1) (end : range_inclusive_end s ≡ n) (fresh : range_inclusive_exhausted s ≡ false) where
  -- `find` answers the first of those that pass
  pub first_label : (g : Mut F (Bor ℕ × Unit {0}) Bool) (f : F) → ((x : Bor ℕ) (b : Bool) (q : F) → Called g f (x, tt) b q → (q ≡ f) × (b ≡ test x.now)) → (r : Option ℕ)
      → SomeRun nat_range_inclusive_steps s (λ p. MatchOption r (IsTrue p.whole × NoItemPasses p g f) (EndsAtFirstPassing p g f))
      → FirstReady (filter test (labels n)) r
  first_label g f gives None (p, from, h) =
      none_of test n (λ x lo hi. let w = each start end fresh p from _ (h.1 (λ a b q w. (gives a.0 b q w).0)) x lo
      (omega (arith, all_seen start end fresh p from h.0)) in sym ((gives w.shown false f w.called).1 ∙ ap test w.shows))
  first_label g f gives (Some x) (p, from, (i, len, at, h)) =
      let e : x ≡ suc i = some_same (sym at ∙ at_label start end fresh p from i (omega arith)) in
      let w = h (λ a b q w. (gives a.0 b q w).0) in
      let hit : test (suc i) ≡ true = ap test (sym e) ∙ sym ((gives w.0.shown true f w.0.called).1 ∙ ap test w.0.shows) in
      let none : filter test (labels i) ≡ [] = none_of test i (λ k lo hi. let v = below start end fresh p from _ i (omega arith) w.1 k lo hi in
      sym ((gives v.shown false f v.called).1 ∙ ap test v.shows)) in
      subst (λ (j : ℕ). (rest : List ℕ) × (filter test (labels n) ≡ j ∷ rest)) (sym e)
      (first_of test i n (omega (arith, few start end fresh p from)) none hit)
