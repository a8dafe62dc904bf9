-- What the calls that change a sheet leave of its contents.
use Rattle.std.proofs.Common.{◌≡◌, ℕ, ◌<◌, ◌≤◌, Bool, true, false, cond, ◌&&◌, ltb, [], ◌∷◌, sym, refl, ap, ◌∙◌, subst, arith, Result, is_ok}
use Rattle.std.proofs.lemmas.Bool.{both_ways, lt-ltb, le-ltb}
use Rattle.std.proofs.lemmas.Bool.Decides.{nat_tests}
use Rattle.rules.specs.declared.Mark.{Mark}
use Rattle.rules.specs.declared.Mark.TheVariants.{Gap, Number}
use Rattle.rules.specs.Yardsticks.{Low}
use Rattle.rules.specs.Sheets.{new_contents, with_mark, with_tie, same_pair, same_tie, value}
use Rattle.rules.specs.Calls.{Refusal, accepted, refused, mark, is_accepted, pair_tests, write_outcome, pair_outcome}
use Rattle.rules.specs.Runs.{to_mark, to_tie, changed, if_accepted}
use Rattle.rules.proofs.Deciding.{decide_past, decide_stop, none_holds}
use Rattle.marks.specs.declared.faults.MarkFault.{MarkFault}
use Rattle.marks.specs.declared.ties.Ties.{Ties}
use Rattle.marks.specs.Cells.{pair}
use Rattle.marks.specs.Tied.{tied_units, tied_of, TieSet, Untied}
use Rattle.cells.specs.declared.triangle.Triangle.{Triangle}
use Rattle.cells.specs.Read.{mark_at, number_at, AllGaps}
use Rattle.cells.specs.Gaps.{sheet_of}
use Rattle.sheet.specs.declared.sheet.Sheet.{Sheet}
use Rattle.sheet.specs.Contents.{contents}
use Rattle.sheet.specs.Changes.{OneMark, OneTie, Writes, Blanks, Binds, Unbinds}

-- two labels pass the tests of a pair
pub passed : (n a b : ℕ) → accepted tt ≡ pair_outcome n a b → pair n a b ≡ true
passed n a b e =
    let h = none_holds (pair_tests n a b) (tt {0}) (sym (ap is_accepted e)) in
    let u = h.0 in
    let v = h.1.0 in
    let w = h.1.1.0 in
    grind (arith, nat_tests)

-- the outcome of Write, by that of the tests of the pair
module _ (n a b d : ℕ) where
  pub write_stop : (r : Refusal) → refused r ≡ pair_outcome n a b → refused r ≡ write_outcome n a b d
  write_stop r e = sym (decide_stop (pair_tests n a b) ((ltb 10000 d, mark) ∷ []) (tt {0}) r (sym e))

  write_next : accepted tt ≡ pair_outcome n a b → write_outcome n a b d ≡ cond (ltb 10000 d) (refused mark) (accepted tt)
  write_next e = decide_past (pair_tests n a b) ((ltb 10000 d, mark) ∷ []) (tt {0}) (sym e)

  pub write_high : accepted tt ≡ pair_outcome n a b → 10000 < d → refused mark ≡ write_outcome n a b d
  write_high e h = sym (write_next e ∙ ap (λ t. cond t (refused mark) (accepted tt)) (lt-ltb 10000 d h))

  pub write_low : accepted tt ≡ pair_outcome n a b → d ≤ 10000 → accepted tt ≡ write_outcome n a b d
  write_low e h = sym (write_next e ∙ ap (λ t. cond t (refused mark) (accepted tt)) (le-ltb 10000 d h))

-- a refusal leaves the record
same_mark : (s : Sheet) (a b : ℕ) (m : Mark) (r : Refusal) → OneMark s a b m (refused r) s
same_mark s a b m r = record { units = refl; cells = λ x y. refl; ties = refl; refused = λ _. refl }

same_tie_record : (s : Sheet) (a b : ℕ) (stands : Bool) (r : Refusal) → OneTie s a b stands (refused r) s
same_tie_record s a b stands r = record { units = refl; cells = refl; ties = λ x y. refl; refused = λ _. refl }

module _ (s : Sheet) (a b : ℕ) (r : Refusal) where
  pub refused_write : (d : ℕ) → refused r ≡ write_outcome s.units.count a b d → Writes s a b d (refused r) s
  refused_write d e = record {
    answer = e;
    sheet = ap (λ o. changed (contents s) (if_accepted o (to_mark a b (Number d)))) e;
    record_after = same_mark s a b (Number d) r;
  }

  pub refused_blank : refused r ≡ pair_outcome s.units.count a b → Blanks s a b (refused r) s
  refused_blank e = record {
    answer = e;
    sheet = ap (λ o. changed (contents s) (if_accepted o (to_mark a b Gap))) e;
    record_after = same_mark s a b Gap r;
  }

  pub refused_tie : refused r ≡ pair_outcome s.units.count a b → Binds s a b (refused r) s
  refused_tie e = record {
    answer = e;
    sheet = ap (λ o. changed (contents s) (if_accepted o (to_tie a b true))) e;
    record_after = same_tie_record s a b true r;
  }

  pub refused_untie : refused r ≡ pair_outcome s.units.count a b → Unbinds s a b (refused r) s
  refused_untie e = record {
    answer = e;
    sheet = ap (λ o. changed (contents s) (if_accepted o (to_tie a b false))) e;
    record_after = same_tie_record s a b false r;
  }

-- the pair of a and b, in either direction, is a pair of labels
pair_inside : (n a b x y : ℕ) → pair n a b ≡ true → same_pair a b x y ≡ true → pair n x y ≡ true
pair_inside n a b x y two e = grind (arith, nat_tests)

pair_among : (n a b : ℕ) → n ≤ 20 → pair n a b ≡ true → pair 20 a b ≡ true
pair_among n a b most two = grind (arith, nat_tests)

-- one mark is put into the cells
module _ (n a b : ℕ) (m : Mark) (t u : Triangle) (most : n ≤ 20) (two : pair n a b ≡ true)
    (put : (x y : ℕ) → mark_at u x y ≡ cond (pair 20 a b && same_pair a b x y) m (mark_at t x y)) where
  pub put_cells : (x y : ℕ) → mark_at u x y ≡ cond (same_pair a b x y) m (mark_at t x y)
  put_cells x y = put x y ∙ ap (λ p. cond (p && same_pair a b x y) m (mark_at t x y)) (pair_among n a b most two)

  -- the mark and the test of the pair change places
  turned : (k : Mark) (p q : Bool) → (p ≡ true → q ≡ true) → cond q (cond p m k) Gap ≡ cond p m (cond q k Gap)
  turned k true true h = refl
  turned k true false h = absurd (both_ways false refl (h refl))
  turned k false true h = refl
  turned k false false h = refl

  put_at : (x y : ℕ) → cond (pair n x y) (mark_at u x y) Gap ≡ cond (same_pair a b x y) m (cond (pair n x y) (mark_at t x y) Gap)
  put_at x y =
      ap (λ k. cond (pair n x y) k Gap) (put_cells x y)
      ∙ turned (mark_at t x y) (same_pair a b x y) (pair n x y) (pair_inside n a b x y two)

  pub put_sheet : (tied : ℕ → ℕ → Bool) → sheet_of n u tied ≡ with_mark (sheet_of n t tied) a b m
  put_sheet tied = λ i. record { units = n; mark = λ x y. put_at x y i; tied = tied }

  pub put_low : value m ≤ 10000 → Low (number_at t) → Low (number_at u)
  put_low h l x y =
      rw (put_cells x y)
      (elim (same_pair a b x y) as (λ p. value (cond p m (mark_at t x y)) ≤ 10000) [ true ↦ h | false ↦ l x y ])

-- no call is both accepted and refused
pub never_refused : {X : Type 0} → true ≡ false → X
never_refused e = absurd (both_ways true e refl)

-- a sheet after a mark was put into its cells
module _ (s t : Sheet) (a b : ℕ) (m : Mark) (units : t.units.count ≡ s.units.count) (ties : t.ties ≡ s.ties) (two : pair s.units.count a b ≡ true)
    (put : (x y : ℕ) → mark_at t.cells x y ≡ cond (pair 20 a b && same_pair a b x y) m (mark_at s.cells x y)) where
  pub marked_record : OneMark s a b m (accepted tt) t
  marked_record = record {
    units = units;
    cells = put_cells s.units.count a b m s.cells t.cells s.units.most two put;
    ties = ties;
    refused = never_refused;
  }

  pub marked_contents : contents t ≡ with_mark (contents s) a b m
  marked_contents =
      (λ i. sheet_of (units i) t.cells (tied_of (ties i)))
      ∙ put_sheet s.units.count a b m s.cells t.cells s.units.most two put (tied_of s.ties)

  pub wrote : (d : ℕ) → m ≡ Number d → accepted tt ≡ write_outcome s.units.count a b d → Writes s a b d (accepted tt) t
  wrote d e o = record {
    answer = o;
    sheet = marked_contents ∙ ap (with_mark (contents s) a b) e ∙ ap (λ q. changed (contents s) (if_accepted q (to_mark a b (Number d)))) o;
    record_after = subst (λ k. OneMark s a b k (accepted tt) t) e marked_record;
  }

  pub blanked : m ≡ Gap → accepted tt ≡ pair_outcome s.units.count a b → Blanks s a b (accepted tt) t
  blanked e o = record {
    answer = o;
    sheet = marked_contents ∙ ap (with_mark (contents s) a b) e ∙ ap (λ q. changed (contents s) (if_accepted q (to_mark a b Gap))) o;
    record_after = subst (λ k. OneMark s a b k (accepted tt) t) e marked_record;
  }

-- a sheet after a tie was set
module _ (s t : Sheet) (a b : ℕ) (stands : Bool) (r : Result (Unit {0}) MarkFault) (units : t.units.count ≡ s.units.count) (cells : t.cells ≡ s.cells) (two : pair s.units.count a b ≡ true)
    (set : TieSet s.ties a b stands r t.ties) where
  done : is_ok r ≡ true
  done =
      let labels : pair (tied_units s.ties) a b ≡ true = ap (λ (n : ℕ). pair n a b) s.same ∙ two in
      rw (set.answered, labels) refl

  set_ties : (x y : ℕ) → tied_of t.ties x y ≡ cond (same_tie a b x y) stands (tied_of s.ties x y)
  set_ties x y = set.ties x y ∙ ap (λ q. cond (q && same_tie a b x y) stands (tied_of s.ties x y)) done

  pub tied_record : OneTie s a b stands (accepted tt) t
  tied_record = record { units = units; cells = cells; ties = set_ties; refused = never_refused }

  pub tied_contents : contents t ≡ with_tie (contents s) a b stands
  tied_contents = λ i. sheet_of (units i) (cells i) (λ x y. set_ties x y i)

pub bound : (s t : Sheet) (a b : ℕ) (r : Result (Unit {0}) MarkFault) → t.units.count ≡ s.units.count → t.cells ≡ s.cells → accepted tt ≡ pair_outcome s.units.count a b
    → TieSet s.ties a b true r t.ties → Binds s a b (accepted tt) t
bound s t a b r units cells o set = record {
  answer = o;
  sheet = tied_contents s t a b true r units cells (passed s.units.count a b o) set ∙ ap (λ q. changed (contents s) (if_accepted q (to_tie a b true))) o;
  record_after = tied_record s t a b true r units cells (passed s.units.count a b o) set;
}

pub unbound : (s t : Sheet) (a b : ℕ) (r : Result (Unit {0}) MarkFault) → t.units.count ≡ s.units.count → t.cells ≡ s.cells → accepted tt ≡ pair_outcome s.units.count a b
    → TieSet s.ties a b false r t.ties → Unbinds s a b (accepted tt) t
unbound s t a b r units cells o set = record {
  answer = o;
  sheet = tied_contents s t a b false r units cells (passed s.units.count a b o) set ∙ ap (λ q. changed (contents s) (if_accepted q (to_tie a b false))) o;
  record_after = tied_record s t a b false r units cells (passed s.units.count a b o) set;
}

-- a new sheet
pub opened_contents : (n : ℕ) (t : Triangle) (ties : Ties) → AllGaps t → Untied n ties → sheet_of n t (tied_of ties) ≡ new_contents n
opened_contents n t ties gaps none = λ i. record { units = n; mark = λ x y. blank_at x y i; tied = λ x y. none.ties x y i }
  where
    blank_at : (x y : ℕ) → cond (pair n x y) (mark_at t x y) Gap ≡ Gap
    blank_at x y = ap (λ k. cond (pair n x y) k Gap) (gaps x y) ∙ elim (pair n x y) as (λ q. cond q Gap Gap ≡ Gap) [ true ↦ refl | false ↦ refl ]
