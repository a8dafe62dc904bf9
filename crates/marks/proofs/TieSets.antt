-- What is read in the sets of earlier units, at first and after a tie was set.
use Rattle.std.proofs.Common.{◌≡◌, ℕ, ◌-◌, ◌<◌, ◌≤◌, Bool, true, false, cond, ◌&&◌, eqb, ◌≢◌, List, length, get_or, set, replicate, refl, ap, ◌∙◌, inl, inr, arith}
use Rattle.std.proofs.lemmas.Bool.{cases_Bool, cases_eq, and_parts, eq-eqb}
use Rattle.std.proofs.lemmas.Bool.Decides.{nat_tests}
use Rattle.std.proofs.lemmas.List.{get_or-set_same, get_or-set_other}
use Rattle.rules.specs.Units.{label, has}
use Rattle.rules.specs.Sheets.{same_tie}
use Rattle.rules.specs.Recurrence.{OnLabels}
use Rattle.rules.proofs.Sets.{has_none, label_low}
use Rattle.marks.specs.TieSets.{tied_by, OnUnits}
use Rattle.marks.proofs.Bits.{past_bit}
use Rattle.marks.proofs.Cells.{Two, all_zero}

-- empty sets
pub tied_none : (n : ℕ) (sets : List ℕ) (k : ℕ) → sets ≡ replicate k 0 → (x y : ℕ) → tied_by n sets x y ≡ false
tied_none n sets k e x y =
    let none : has (get_or sets (y - 1) 0) x ≡ false =
    ap (λ s. has (get_or s (y - 1) 0) x) e ∙ ap (λ A. has A x) (all_zero k (y - 1)) ∙ has_none x in
    grind (arith, none)

-- ties stand between labels only
pub on_labels : (n : ℕ) (sets : List ℕ) → OnLabels (tied_by n sets) n
on_labels n sets a b e =
    let h = and_parts (label n a) (label n b && has (get_or sets (b - 1) 0) a) e in
    (h.0, (and_parts (label n b) (has (get_or sets (b - 1) 0) a) h.1).0)

-- the set of a label has the units tied before it
pub tied_set : (n : ℕ) (sets : List ℕ) → OnUnits n sets → (j : ℕ) → label n j ≡ true → (a : ℕ) → 1 ≤ a
    → has (get_or sets (j - 1) 0) a ≡ tied_by n sets a j
tied_set n sets own j l a h = elim (cases_Bool (label n a)) [
  | inl e ↦ rw (e, l)
  | inr e ↦ rw e (past_bit (get_or sets (j - 1) 0) n a (own (j - 1)) (let k : n < a = grind (arith, nat_tests) in omega arith))
]

with_true : (u s r : Bool) → cond u s r ≡ cond (u && true) s r
with_true true s r = refl
with_true false s r = refl

module _
    (n : ℕ) (sets : List ℕ) (a b A : ℕ) (s : Bool) (m : n ≤ 20) (l : length sets ≡ 20) (t : Two n a b)
    (new : (x : ℕ) → 1 ≤ x → has A x ≡ cond (eqb a x) s (has (get_or sets (b - 1) 0) x)) where
  -- the set of b replaced by one where the unit a is as it should be
  pub tied_put : (x y : ℕ) → tied_by n (set sets (b - 1) A) x y ≡ cond (same_tie a b x y) s (tied_by n sets x y)
  tied_put x y = elim (cases_Bool (label n x && label n y)) [
    | inr e ↦ (let f : same_tie a b x y ≡ false = grind (arith, nat_tests) in rw f (grind arith))
    | inl e ↦ (
        let h = and_parts (label n x) (label n y) e in
        let low = label_low n x h.0 in
        elim (cases_eq b y) [
          | inl q ↦ (
              let lt : b - 1 < length sets = omega arith in
              let same : eqb b y ≡ true = eq-eqb b y q in
              let here : has (get_or (set sets (b - 1) A) (b - 1) 0) x ≡ cond (eqb a x) s (has (get_or sets (b - 1) 0) x) =
              ap (λ B. has B x) (get_or-set_same sets (b - 1) A 0 lt) ∙ new x low in
              rw (h.0, h.1, same, ← q, here) (with_true (eqb a x) s (has (get_or sets (b - 1) 0) x))
              )
          | inr q ↦ (
              let low_y = label_low n y h.1 in
              let ne : y - 1 ≢ b - 1 = λ k. q (omega (arith, t.b_low)) in
              let f : same_tie a b x y ≡ false = grind (arith, nat_tests) in
              rw (f, get_or-set_other sets (b - 1) (y - 1) A 0 ne)
              )
        ]
        )
  ]
