-- When a call is accepted, and what its refusal says.
use Rattle.std.proofs.Common.{◌≡◌, ℕ, Bool, true, false, ◌⊎◌, List, [], ◌∷◌, ◌++◌, None, sym, refl, ap, ◌∙◌, subst, inl, inr, append-nil, arith}
use Rattle.std.specs.List.{AllByRecursion}
use Rattle.std.proofs.lemmas.Bool.{both_ways, cases_Bool, cond-false}
use Rattle.rules.specs.Calls.{Refusal, Outcome, accepted, refused, is_accepted, decide}
use Rattle.rules.specs.Runs.{refusal_in}

-- none of the tests holds
abbrev pub NoneHolds : List (Bool × Refusal) → Type 0
NoneHolds ts = AllByRecursion (λ t. t.0 ≡ false) ts

pub none_parts : (ss ts : List (Bool × Refusal)) → NoneHolds (ss ++ ts) → NoneHolds ss × NoneHolds ts
none_parts [] ts h = (tt, h)
none_parts (s ∷ ss) ts h = let w = none_parts ss ts h.1 in ((h.0, w.0), w.1)

module _ {X : Type 0} where
  pub decided : (ts : List (Bool × Refusal)) (x : X) → NoneHolds ts → decide ts x ≡ accepted x
  decided [] x h = refl
  decided (t ∷ ts) x h = cond-false t.0 (refused t.1) (decide ts x) h.0 ∙ decided ts x h.1

  pub none_holds : (ts : List (Bool × Refusal)) (x : X) → is_accepted (decide ts x) ≡ true → NoneHolds ts
  none_holds [] x h = tt
  none_holds (t ∷ ts) x h = elim (cases_Bool t.0) [
    | inl e ↦ absurd (both_ways false refl (rw e at h))
    | inr e ↦ (e, none_holds ts x (rw e at h))
  ]

  pub not_refused : (ts : List (Bool × Refusal)) (x : X) → refusal_in (decide ts x) ≡ None → NoneHolds ts
  not_refused ts x e = none_holds ts x (go (decide ts x) e)
    where
      go : (o : Outcome X) → refusal_in o ≡ None → is_accepted o ≡ true
      go (accepted z) h = refl
      go (refused r) h = absurd (let q : ◌≡◌ {A = ℕ} 0 1 = cc in omega arith)

  -- what an accepted call answers
  pub answered : (ts : List (Bool × Refusal)) (x z : X) → decide ts x ≡ accepted z → NoneHolds ts × (x ≡ z)
  answered ts x z e =
      let h = none_holds ts x (ap is_accepted e) in
      let d = decided ts x h in
      (h, cc)

  -- a refusal by one test more than others: it is that of the last test exactly if the others pass
  pub refused_last : (P : Refusal → Type 0) (ts : List (Bool × Refusal)) (t : Bool × Refusal) (x : X) (r : Refusal) → AllByRecursion (λ s. P s.1) ts
      → decide (ts ++ (t ∷ [])) x ≡ refused r
      → ((is_accepted (decide ts (tt {0})) ≡ false) × P r) ⊎ ((is_accepted (decide ts (tt {0})) ≡ true) × (r ≡ t.1))
  refused_last P [] t x r h e = elim (cases_Bool t.0) [
    | inl b ↦ (let d : ◌≡◌ {A = Outcome X} (refused t.1) (refused r) = rw b at e in inr (refl, cc))
    | inr b ↦ (let d : ◌≡◌ {A = Outcome X} (accepted x) (refused r) = rw b at e in let z : ◌≡◌ {A = ℕ} 0 1 = cc in absurd (omega arith))
  ]
  refused_last P (s ∷ ts) t x r h e = elim (cases_Bool s.0) [
    | inl b ↦ (
        let d : ◌≡◌ {A = Outcome X} (refused s.1) (refused r) = rw b at e in
        let q : s.1 ≡ r = cc in
        rw b (inl (refl, subst P q h.0)))
    | inr b ↦ rw b (refused_last P ts t x r h.1 (rw b at e))
  ]

-- tests that all pass are passed over
pub decide_past : {X : Type 0} (ss ts : List (Bool × Refusal)) (x : X) → decide ss (tt {0}) ≡ accepted tt → decide (ss ++ ts) x ≡ decide ts x
decide_past [] ts x e = refl
decide_past (s ∷ ss) ts x e = elim (cases_Bool s.0) [
  | inl b ↦ (let d : ◌≡◌ {A = Outcome (Unit {0})} (refused s.1) (accepted tt) = rw b at e in let z : ◌≡◌ {A = ℕ} 0 1 = cc in absurd (omega arith))
  | inr b ↦ rw b (decide_past ss ts x (rw b at e))
]

-- the first test that holds decides, whatever follows
pub decide_stop : {X : Type 0} (ss ts : List (Bool × Refusal)) (x : X) (r : Refusal) → decide ss (tt {0}) ≡ refused r → decide (ss ++ ts) x ≡ refused r
decide_stop [] ts x r e = let z : ◌≡◌ {A = ℕ} 0 1 = cc in absurd (omega arith)
decide_stop (s ∷ ss) ts x r e = elim (cases_Bool s.0) [
  | inl b ↦ (let d : ◌≡◌ {A = Outcome (Unit {0})} (refused s.1) (refused r) = rw b at e in let q : s.1 ≡ r = cc in rw (b, q))
  | inr b ↦ rw b (decide_stop ss ts x r (rw b at e))
]

-- the tests decide alike for any answer
pub refused_any : {X : Type 0} (ts : List (Bool × Refusal)) (x : X) (r : Refusal) → decide ts (tt {0}) ≡ refused r → decide ts x ≡ refused r
refused_any ts x r e = ap (λ us. decide us x) (sym (append-nil ts)) ∙ decide_stop ts [] x r e

pub accepted_any : {X : Type 0} (ts : List (Bool × Refusal)) (x : X) → decide ts (tt {0}) ≡ accepted tt → decide ts x ≡ accepted x
accepted_any ts x e = ap (λ us. decide us x) (sym (append-nil ts)) ∙ decide_past ts [] x e
