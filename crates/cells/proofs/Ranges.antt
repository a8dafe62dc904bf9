-- What `find` and `find_map` answer over a range, said of its numbers.
use Rattle.std.proofs.Common.{◌≡◌, ℕ, ◌+◌, ◌-◌, ◌<◌, ◌≤◌, Bool, true, false, Option, Some, None, MatchOption, IfSome, IsSomeAnd, IsTrue, refl, sym, ap, ◌∙◌, subst, subst₂, arith}
use denote.Param.Members.{Mut, Called}
use denote.Ref.{Bor}
use Rattle.std.specs.Fn.{CalledAt}
use Rattle.std.specs.declared.ops.Range.{Range}
use Rattle.std.specs.declared.ops.RangeInclusive.{RangeInclusive}
use Rattle.std.specs.Option.{option_map}
use Rattle.std.specs.Range.{range_inclusive_start, range_inclusive_end, range_inclusive_exhausted}
use Rattle.std.specs.Iterator.Runs.{Run, SomeRun, AllItems, AllItemsBelow, ItemsCountUp, CallKeepsClosure, AllItemsGive, IsFirstToGive, NoItemPasses, EndsAtFirstPassing}
use Rattle.std.proofs.iter.Yields.{nat_range_steps}
use Rattle.std.proofs.iter.runs.Sources.{nat_range_inclusive_steps, range_listed, inclusive_listed}

is_some : (o : Option ℕ) (n : ℕ) → option_map (λ y. y) o ≡ Some n → o ≡ Some n
is_some None n e = cc
is_some (Some x) n e = e

-- a run over the numbers from a to below b
module _ {S : Type 0} {steps : S → Option ℕ → S → Type 0} (p : Run steps) (a b : ℕ) (up : ItemsCountUp p a b) where
  at_place : (k : ℕ) → a ≤ k → k < a + p.len → p.at (k - a) ≡ Some k
  at_place k l m =
      let e : a + (k - a) ≡ k = omega arith in
      is_some (p.at (k - a)) k (up.3 (k - a) (omega arith) ∙ ap Some e)

  module _ (P : ℕ → Type 0) where
    each : p.whole ≡ true → AllItems p P → (k : ℕ) → a ≤ k → k < b → P k
    each w h k l m = subst (λ o. IfSome o P) (at_place k l (omega (arith, up.1 w))) (h (k - a))

    below : (i : ℕ) → p.len ≡ i + 1 → AllItemsBelow p i P → (k : ℕ) → a ≤ k → k < a + i → P k
    below i e h k l m = subst (λ o. IsSomeAnd o P) (at_place k l (omega arith)) (h (k - a) (omega arith))

    last : (i : ℕ) → p.len ≡ i + 1 → IsSomeAnd (p.at i) P → P (a + i)
    last i e h =
        let k : a + i - a ≡ i = omega arith in
        subst (λ o. IsSomeAnd o P) (ap p.at (sym k) ∙ at_place (a + i) (omega arith) (omega arith)) h

-- the first number from a to below b that passes a test
abbrev pub First : (ℕ → Bool) → ℕ → ℕ → Option ℕ → Type 0
First test a b r =
    MatchOption r ((k : ℕ) → a ≤ k → k < b → test k ≡ false)
    (λ x. (a ≤ x) × (x < b) × (test x ≡ true) × ((k : ℕ) → a ≤ k → k < x → test k ≡ false))

-- `find` over `a..=b` with a closure that computes a test
module _ {F : Type 0} (g : Mut F (Bor ℕ × Unit {0}) Bool) (f : F) (test : ℕ → Bool)
    (computes : (x : ℕ) (b : Bool) (q : F) → CalledAt g f x b q → (q ≡ f) × (b ≡ test x)) where
  stays : CallKeepsClosure g f
  stays x b q h = (computes x.0.now b q (record { shown = x.0; shows = refl; called = h })).0

  says : (x : ℕ) (b : Bool) → CalledAt g f x b f → test x ≡ b
  says x b h = sym (computes x b f h).1

  found_in : (p : Run nat_range_inclusive_steps) (a b : ℕ) → ItemsCountUp p a b → (r : Option ℕ)
      → MatchOption r (IsTrue p.whole × NoItemPasses p g f) (EndsAtFirstPassing p g f) → First test a b r
  found_in p a b up None h = λ k l m. says k false (each p a b up (λ x. CalledAt g f x false f) h.0 (h.1 stays) k l m)
  found_in p a b up (Some x) h =
      let here : x ≡ a + h.0 = last p a b up (λ y. x ≡ y) h.0 h.1 (subst (λ o. IsSomeAnd o (λ y. x ≡ y)) (sym h.2) refl) in
      let called = h.3 stays in (
        omega arith,
        omega (arith, up.0, h.1),
        says x true called.0,
        λ k l m. says k false (below p a b up (λ y. CalledAt g f y false f) h.0 h.1 called.1 k l (omega arith)),
      )

  pub found : (s : RangeInclusive ℕ) (a b : ℕ) → range_inclusive_exhausted s ≡ false → range_inclusive_start s ≡ a → range_inclusive_end s + 1 ≡ b
      → (r : Option ℕ) → SomeRun nat_range_inclusive_steps s (λ p. MatchOption r (IsTrue p.whole × NoItemPasses p g f) (EndsAtFirstPassing p g f))
      → First test a b r
  found s a b w e i r h =
      let listed = inclusive_listed h.0 h.0.seen in
      subst₂ (λ a b. First test a b r)
      (listed.2 ∙ ap range_inclusive_start h.1 ∙ e) (listed.3 ∙ ap (λ q. range_inclusive_end q + 1) h.1 ∙ i)
      (found_in h.0 listed.0 listed.1 (listed.4 (ap range_inclusive_exhausted h.1 ∙ w)).0 r h.2)

-- what `find_map` answers: at the first number where the closure gives something; it gives r at k only where R k r
abbrev pub FirstSome : {B : Type 0} → (ℕ → Option B → Type 0) → ℕ → ℕ → Option B → Type 0
FirstSome R a b r =
    MatchOption r ((k : ℕ) → a ≤ k → k < b → R k None)
    (λ y. (x : ℕ) × (a ≤ x) × (x < b) × R x (Some y) × ((k : ℕ) → a ≤ k → k < x → R k None))

-- `find_map` over `a..b`
module _ {B F : Type 0} (g : Mut F (ℕ × Unit {0}) (Option B)) (f : F) (R : ℕ → Option B → Type 0)
    (computes : (x : ℕ) (r : Option B) (q : F) → Called g f (x, tt) r q → (q ≡ f) × R x r) where
  stays_mapped : CallKeepsClosure g f
  stays_mapped x r q h = (computes x.0 r q h).0

  mapped_in : (p : Run nat_range_steps) (a b : ℕ) → ItemsCountUp p a b → (r : Option B)
      → MatchOption r (IsTrue p.whole × AllItemsGive p g f None) (λ y. (i : ℕ) × (i < p.len) × (p.len ≡ i + 1) × IsFirstToGive p g f (Some y) None i)
      → FirstSome R a b r
  mapped_in p a b up None h = λ k l m. (computes k None f (each p a b up (λ x. Called g f (x, tt) None f) h.0 (h.1 stays_mapped) k l m)).1
  mapped_in p a b up (Some y) h =
      let gave = h.3 stays_mapped in (
        a + h.0,
        omega arith,
        omega (arith, up.0, h.1),
        (computes (a + h.0) (Some y) f (last p a b up (λ x. Called g f (x, tt) (Some y) f) h.0 h.2 gave.0)).1,
        λ k l m. (computes k None f (below p a b up (λ x. Called g f (x, tt) None f) h.0 h.2 gave.1 k l m)).1,
      )

  pub found_some : (s : Range ℕ) (r : Option B)
      → SomeRun nat_range_steps s (λ p. MatchOption r (IsTrue p.whole × AllItemsGive p g f None) (λ y. (i : ℕ) × (i < p.len) × (p.len ≡ i + 1) × IsFirstToGive p g f (Some y) None i))
      → FirstSome R s.start s.end r
  found_some s r h =
      let listed = range_listed h.0 h.0.seen in
      subst₂ (λ a b. FirstSome R a b r)
      (listed.2 ∙ ap (λ (q : Range ℕ). q.start) h.1) (listed.3 ∙ ap (λ (q : Range ℕ). q.end) h.1)
      (mapped_in h.0 listed.0 listed.1 listed.4 r h.2)
