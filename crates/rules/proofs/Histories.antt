-- What any list of calls leaves: marks and ties are by the last accepted calls, and a refused call changes nothing.
use Rattle.std.proofs.Common.{◌≡◌, ℕ, ◌≤◌, Bool, true, false, cond, ◌&&◌, ◌||◌, eqb, ltb, ◌⊎◌, List, [], ◌∷◌, ◌++◌, map, ℤ, Some, None, Option, unwrap_or, refl, ap, ◌∙◌, subst, inl, inr, arith, lit≤}
use Rattle.std.specs.List.{AllByRecursion}
use Rattle.std.proofs.ByRecursion.{All-append}
use Rattle.std.proofs.lemmas.Bool.{both_ways, not-false, eqb-true, ltb-false, cond_both, and_parts}
use Rattle.rules.specs.declared.Mark.TheVariants.{Gap, Number}
use Rattle.rules.specs.Units.{label, labels}
use Rattle.rules.specs.Sheets.{Contents, same_pair, same_tie, value, pairs_in}
use Rattle.rules.specs.Yardsticks.{Merit, Low, Symmetric}
use Rattle.rules.specs.Orders.{circular}
use Rattle.rules.specs.Calls.{Refusal, circle, number, number_of, Outcome, accepted, refused, is_accepted, pair_tests, written, write_outcome, pair_outcome, gap_test, gap_tests, rank_tests, rank_answer, number_test, rank_outcome, rank_fills, scale_outcome, improve_outcome}
use Rattle.rules.specs.Recurrence.{OnLabels}
use Rattle.rules.specs.Runs.{Call, write, blank, tie, untie, rank, score, scale, check, improve, refusal, refusal_in, Change, to_mark, to_tie, no_change, if_accepted, change, changed, after, run, mark_given, tie_given, last_said, last_mark, last_tie, marks_now, Last, Told, Unchanged}
use Rattle.rules.proofs.Deciding.{none_holds, refused_last}

-- what is said, if anything, has a property
abbrev Says : {A : Type 0} → (A → Type 0) → Option A → Type 0
Says P None = Unit {0}
Says P (Some x) = P x

-- what the last call says that says something
module _ {A : Type 0} (f : Call → Option A) (d : A) where
  last_has : (P : A → Type 0) → P d → ((c : Call) → Says P (f c)) → (calls : List Call) → P (last_said f d calls)
  last_has P h k [] = h
  last_has P h k (c ∷ cs) = go (f c) (k c) (last_has P h k cs)
    where
      go : (o : Option A) → Says P o → P (last_said f d cs) → P (unwrap_or o (last_said f d cs))
      go None s r = r
      go (Some x) s r = s

  last_none : (calls : List Call) → AllByRecursion (λ c. f c ≡ None) calls → last_said f d calls ≡ d
  last_none [] h = refl
  last_none (c ∷ cs) h = rw h.0 (last_none cs h.1)

  last_here : (later : List Call) (c : Call) (before : List Call) (x : A) → f c ≡ Some x → AllByRecursion (λ c. f c ≡ None) later
      → last_said f d (later ++ (c ∷ before)) ≡ x
  last_here [] c before x e h = rw e
  last_here (l ∷ later) c before x e h = rw h.0 (last_here later c before x e h.1)

  last_is : (calls : List Call) (x : A) → Last f calls x → last_said f d calls ≡ x
  last_is calls x l = rw l.parts (last_here l.later l.call l.before x l.says l.silent)

last_same : {A : Type 0} (f g : Call → Option A) (d : A) → ((c : Call) → f c ≡ g c) → (calls : List Call) → last_said f d calls ≡ last_said g d calls
last_same f g d h [] = refl
last_same f g d h (c ∷ cs) = λ i. unwrap_or (h c i) (last_same f g d h cs i)

-- what a change leaves
given_or : {A : Type 0} (b : Bool) (x d : A) → cond b x d ≡ unwrap_or (cond b (Some x) None) d
given_or true x d = refl
given_or false x d = refl

changed_units : (s : Contents) (c : Change) → (changed s c).units ≡ s.units
changed_units s (to_mark a b m) = refl
changed_units s (to_tie a b t) = refl
changed_units s no_change = refl

changed_mark : (s : Contents) (c : Change) (x y : ℕ) → (changed s c).mark x y ≡ unwrap_or (mark_given c x y) (s.mark x y)
changed_mark s (to_mark a b m) x y = given_or (same_pair a b x y) m (s.mark x y)
changed_mark s (to_tie a b t) x y = refl
changed_mark s no_change x y = refl

changed_tie : (s : Contents) (c : Change) (x y : ℕ) → (changed s c).tied x y ≡ unwrap_or (tie_given c x y) (s.tied x y)
changed_tie s (to_mark a b m) x y = refl
changed_tie s (to_tie a b t) x y = given_or (same_tie a b x y) t (s.tied x y)
changed_tie s no_change x y = refl

module _ (n : ℕ) where
  -- the contents that the calls say
  abbrev pub said : List Call → Contents
  said calls = record { units = n; mark = last_mark n calls; tied = last_tie n calls }

  pub run_units : (calls : List Call) → (run n calls).units ≡ n
  run_units [] = refl
  run_units (c ∷ cs) = changed_units (run n cs) (change (run n cs).units c) ∙ run_units cs

  pub run_marks : (calls : List Call) (x y : ℕ) → (run n calls).mark x y ≡ last_mark n calls x y
  run_marks [] x y = refl
  run_marks (c ∷ cs) x y =
      changed_mark (run n cs) (change (run n cs).units c) x y
      ∙ (λ i. unwrap_or (mark_given (change (run_units cs i) c) x y) (run_marks cs x y i))

  pub run_ties : (calls : List Call) (x y : ℕ) → (run n calls).tied x y ≡ last_tie n calls x y
  run_ties [] x y = refl
  run_ties (c ∷ cs) x y =
      changed_tie (run n cs) (change (run n cs).units c) x y
      ∙ (λ i. unwrap_or (tie_given (change (run_units cs i) c) x y) (run_ties cs x y i))

  pub run_is : (calls : List Call) → run n calls ≡ said calls
  run_is calls = λ i. record {
    units = run_units calls i;
    mark = λ a b. run_marks calls a b i;
    tied = λ a b. run_ties calls a b i;
  }

  pub told : (calls : List Call) → Told n calls (run n calls)
  told calls = record {
    marked = λ a b m l. run_marks calls a b ∙ last_is (λ c. mark_given (change n c) a b) Gap calls m l;
    unmarked = λ a b h. run_marks calls a b ∙ last_none (λ c. mark_given (change n c) a b) Gap calls h;
    tied = λ a b t l. run_ties calls a b ∙ last_is (λ c. tie_given (change n c) a b) false calls t l;
    untied = λ a b h. run_ties calls a b ∙ last_none (λ c. tie_given (change n c) a b) false calls h;
  }

  -- an accepted call gives no mark above 10,000, and ties labels only
  abbrev Fine : Change → Type 0
  Fine (to_mark a b m) = value m ≤ 10000
  Fine (to_tie a b t) = (label n a ≡ true) × (label n b ≡ true)
  Fine no_change = Unit {0}

  fine_if : {X : Type 0} (o : Outcome X) (c : Change) → (is_accepted o ≡ true → Fine c) → Fine (if_accepted o c)
  fine_if (accepted x) c h = h refl
  fine_if (refused r) c h = tt

  on_labels : (a b : ℕ) → is_accepted (pair_outcome n a b) ≡ true → (label n a ≡ true) × (label n b ≡ true)
  on_labels a b h = let k = none_holds (pair_tests n a b) tt h in (not-false (label n a) k.0, not-false (label n b) k.1.0)

  change_fine : (c : Call) → Fine (change n c)
  change_fine (write a b d) = fine_if (write_outcome n a b d) (to_mark a b (Number d))
      (λ h. ltb-false 10000 d (none_holds (pair_tests n a b ++ ((ltb 10000 d, Refusal.mark) ∷ [])) tt h).1.1.1.0)
  change_fine (blank a b) = fine_if (pair_outcome n a b) (to_mark a b Gap) (λ h. lit≤ tt)
  change_fine (tie a b) = fine_if (pair_outcome n a b) (to_tie a b true) (on_labels a b)
  change_fine (untie a b) = fine_if (pair_outcome n a b) (to_tie a b false) (on_labels a b)
  change_fine (rank y k totals counts row) = tt
  change_fine (score y row) = tt
  change_fine (scale row list) = tt
  change_fine (check row) = tt
  change_fine (improve k y limit row) = tt

  given_low : (c : Change) → Fine c → (x y : ℕ) → Says (λ m. value m ≤ 10000) (mark_given c x y)
  given_low (to_mark a b m) h x y = cond_both (same_pair a b x y) (Some m) None (Says (λ v. value v ≤ 10000)) (λ _. h) (λ _. tt)
  given_low (to_tie a b t) h x y = tt
  given_low no_change h x y = tt

  pub marks_low : (calls : List Call) → Low (marks_now n calls)
  marks_low calls x y =
      last_has (λ c. mark_given (change n c) x y) Gap (λ m. value m ≤ 10000) (lit≤ tt) (λ c. given_low (change n c) (change_fine c) x y) calls

  or_swap : (p q : Bool) → (p || q) ≡ (q || p)
  or_swap p q = grind arith

  given_turned : (c : Change) (x y : ℕ) → mark_given c x y ≡ mark_given c y x
  given_turned (to_mark a b m) x y = λ i. cond (or_swap (eqb a x && eqb b y) (eqb a y && eqb b x) i) (Some m) None
  given_turned (to_tie a b t) x y = refl
  given_turned no_change x y = refl

  pub last_mark_sym : (calls : List Call) (x y : ℕ) → last_mark n calls x y ≡ last_mark n calls y x
  last_mark_sym calls x y =
      last_same (λ c. mark_given (change n c) x y) (λ c. mark_given (change n c) y x) Gap (λ c. given_turned (change n c) x y) calls

  pub marks_sym : (calls : List Call) → Symmetric (marks_now n calls)
  marks_sym calls x y = ap value (last_mark_sym calls x y)

  abbrev OnTrue : ℕ → ℕ → Bool → Type 0
  OnTrue x y t = t ≡ true → (label n x ≡ true) × (label n y ≡ true)

  given_labels : (c : Change) → Fine c → (x y : ℕ) → Says (OnTrue x y) (tie_given c x y)
  given_labels (to_mark a b m) h x y = tt
  given_labels (to_tie a b t) h x y =
      cond_both (same_tie a b x y) (Some t) None (Says (OnTrue x y))
      (λ e _. let w = and_parts (eqb a x) (eqb b y) e in
      (subst (λ (z : ℕ). label n z ≡ true) (eqb-true a x w.0) h.0, subst (λ (z : ℕ). label n z ≡ true) (eqb-true b y w.1) h.1))
      (λ _. tt)
  given_labels no_change h x y = tt

  pub ties_on_labels : (calls : List Call) → OnLabels (last_tie n calls) n
  ties_on_labels calls x y =
      last_has (λ c. tie_given (change n c) x y) false (OnTrue x y) (λ e. absurd (both_ways false refl e))
      (λ c. given_labels (change n c) (change_fine c) x y) calls

-- a refused call changes nothing
if_refused : {X : Type 0} (o : Outcome X) (c : Change) (r : Refusal) → refusal_in o ≡ Some r → if_accepted o c ≡ no_change
if_refused (accepted x) c r e = absurd (let q : ◌≡◌ {A = ℕ} 0 1 = cc in omega arith)
if_refused (refused q) c r e = refl

sheet_stays : (s : Contents) (c : Call) (r : Refusal) → refusal s c ≡ Some r → after s c ≡ s
sheet_stays s (write a b d) r e = ap (changed s) (if_refused (write_outcome s.units a b d) (to_mark a b (Number d)) r e)
sheet_stays s (blank a b) r e = ap (changed s) (if_refused (pair_outcome s.units a b) (to_mark a b Gap) r e)
sheet_stays s (tie a b) r e = ap (changed s) (if_refused (pair_outcome s.units a b) (to_tie a b true) r e)
sheet_stays s (untie a b) r e = ap (changed s) (if_refused (pair_outcome s.units a b) (to_tie a b false) r e)
sheet_stays s (rank y k totals counts row) r e = refl
sheet_stays s (score y row) r e = refl
sheet_stays s (scale row list) r e = refl
sheet_stays s (check row) r e = refl
sheet_stays s (improve k y limit row) r e = refl

list_stays : {X Y : Type 0} (o : Outcome X) (f : X → List Y) (n : ℕ) (old : List Y) (r : Refusal) → o ≡ refused r → written o f n old ≡ old
list_stays o f n old r e = ap (λ (q : Outcome _). written q f n old) e

-- only the last of Rank's tests gives the refusal `number`
abbrev NotNumber : Bool × Refusal → Type 0
NotNumber t = t.1 ≡ number → ⊥

gaps_not_number : (s : Contents) (qs : List (ℕ × ℕ)) → AllByRecursion NotNumber (map (gap_test s) qs)
gaps_not_number s [] = tt
gaps_not_number s (q ∷ qs) = ((λ e. omega (arith, ap number_of e)), gaps_not_number s qs)

module _ (s : Contents) (y : Merit) (k : ℕ) (totals : List (List ℤ)) (counts row : List ℕ) where
  early : AllByRecursion NotNumber (rank_tests s totals counts row)
  early = (
    (λ e. omega (arith, ap number_of e)),
    All-append NotNumber (gap_tests s) ((circular s.tied s.units, circle) ∷ [])
        (gaps_not_number s (pairs_in (labels s.units))) ((λ e. omega (arith, ap number_of e)), tt),
  )

  fills_when : (r : Refusal) → rank_outcome s y k totals counts row ≡ refused r
      → ((rank_fills s y k totals counts row ≡ false) × (r ≡ number → ⊥)) ⊎ ((rank_fills s y k totals counts row ≡ true) × (r ≡ number))
  fills_when r e =
      refused_last (λ q. q ≡ number → ⊥) (rank_tests s totals counts row) (number_test s y k) (rank_answer s y k) r early e

pub unchanged : (s : Contents) → Unchanged s
unchanged s = record {
  sheet = sheet_stays s;
  rank_row = λ y k totals counts row r e. list_stays (rank_outcome s y k totals counts row) (λ q. q.order) s.units row r e;
  rank_tables = λ y k totals counts row r e ne. elim (fills_when s y k totals counts row r e) [
    | inl w ↦ (rw w.0, rw w.0)
    | inr w ↦ absurd (ne w.1)
  ];
  rank_filled = λ y k totals counts row e. elim (fills_when s y k totals counts row number e) [
    | inl w ↦ absurd (w.1 refl)
    | inr w ↦ (rw w.0, rw w.0)
  ];
  scale_list = λ row list r e. list_stays (scale_outcome s row list) (λ q. q.displaced) s.units list r e;
  improve_row = λ k y limit row r e. list_stays (improve_outcome s k y limit row) (λ q. q.order) s.units row r e;
}
