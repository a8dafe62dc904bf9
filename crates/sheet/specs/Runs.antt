-- Any list of the nine calls on a sheet, as the records pass through it, and what is promised of it.
use Rattle.std.specs.Prelude.{◌≡◌, ℕ, List, [], ◌∷◌, map, ℤ}
use Rattle.rules.specs.Sheets.{Contents}
use Rattle.rules.specs.Yardsticks.{Merit}
use Rattle.rules.specs.Moves.{Moves}
use Rattle.rules.specs.Calls.{Outcome, RankAnswer, ScaleAnswer, ImproveAnswer, write_outcome, pair_outcome}
use Rattle.rules.specs.Runs.{Call, run, Promised}
use Rattle.rules.specs.Runs as rule
use Rattle.search.specs.Best.{Lent}
use Rattle.sheet.specs.declared.sheet.Sheet.{Sheet}
use Rattle.sheet.specs.Contents.{contents}
use Rattle.sheet.specs.Answers.{Ranks, Scores, Scales, Checks, Improves}
use Rattle.sheet.specs.Changes.{Writes, Blanks, Binds, Unbinds}

-- a call that was made: its arguments, its outcome, and what was lent to it, before and after
pub data Event : Type 0 where
  write : (a b d : ℕ) (o : Outcome (Unit {0})) → Event
  blank : (a b : ℕ) (o : Outcome (Unit {0})) → Event
  tie : (a b : ℕ) (o : Outcome (Unit {0})) → Event
  untie : (a b : ℕ) (o : Outcome (Unit {0})) → Event
  rank : (y : Merit) (k : ℕ) (before : Lent (List ℤ)) (o : Outcome RankAnswer) (after : Lent (List ℤ)) → Event
  score : (y : Merit) (row : List ℕ) (o : Outcome (List ℤ)) → Event
  scale : (row : List ℕ) (before : List ℤ) (o : Outcome ScaleAnswer) (after : List ℤ) → Event
  check : (row : List ℕ) (o : Outcome (ℕ × ℕ)) → Event
  improve : (k : Moves) (y : Merit) (limit : ℕ) (before : List ℕ) (o : Outcome ImproveAnswer) (after : List ℕ) → Event

-- The sheet t after the calls es, the latest first, on the sheet s. Each call does what its contract says.
pub data Run (s : Sheet) : List Event → Sheet → Type 0 where
  none : Run s [] s
  by_write : {es : List Event} {t u : Sheet} (a b d : ℕ) (o : Outcome (Unit {0})) → Run s es t → Writes t a b d o u
      → Run s (write a b d o ∷ es) u
  by_blank : {es : List Event} {t u : Sheet} (a b : ℕ) (o : Outcome (Unit {0})) → Run s es t → Blanks t a b o u
      → Run s (blank a b o ∷ es) u
  by_tie : {es : List Event} {t u : Sheet} (a b : ℕ) (o : Outcome (Unit {0})) → Run s es t → Binds t a b o u
      → Run s (tie a b o ∷ es) u
  by_untie : {es : List Event} {t u : Sheet} (a b : ℕ) (o : Outcome (Unit {0})) → Run s es t → Unbinds t a b o u
      → Run s (untie a b o ∷ es) u
  by_rank : {es : List Event} {t : Sheet} (y : Merit) (k : ℕ) (before : Lent (List ℤ)) (o : Outcome RankAnswer) (after : Lent (List ℤ))
      → Run s es t → Ranks (contents t) y k before o after → Run s (rank y k before o after ∷ es) t
  by_score : {es : List Event} {t : Sheet} (y : Merit) (row : List ℕ) (o : Outcome (List ℤ)) → Run s es t
      → Scores (contents t) y row o → Run s (score y row o ∷ es) t
  by_scale : {es : List Event} {t : Sheet} (row : List ℕ) (before : List ℤ) (o : Outcome ScaleAnswer) (after : List ℤ)
      → Run s es t → Scales (contents t) row before o after → Run s (scale row before o after ∷ es) t
  by_check : {es : List Event} {t : Sheet} (row : List ℕ) (o : Outcome (ℕ × ℕ)) → Run s es t
      → Checks (contents t) row o → Run s (check row o ∷ es) t
  by_improve : {es : List Event} {t : Sheet} (k : Moves) (y : Merit) (limit : ℕ) (before : List ℕ) (o : Outcome ImproveAnswer) (after : List ℕ)
      → Run s es t → Improves (contents t) k y limit before o after → Run s (improve k y limit before o after ∷ es) t

-- the call of the rulebook
abbrev pub call_of : Event → Call
call_of (write a b d o) = rule.write a b d
call_of (blank a b o) = rule.blank a b
call_of (tie a b o) = rule.tie a b
call_of (untie a b o) = rule.untie a b
call_of (rank y k before o after) = rule.rank y k before.totals before.counts before.row
call_of (score y row o) = rule.score y row
call_of (scale row before o after) = rule.scale row before
call_of (check row o) = rule.check row
call_of (improve k y limit before o after) = rule.improve k y limit before

abbrev pub calls_of : List Event → List Call
calls_of es = map call_of es

-- a call answered, and left in what was lent to it, what the rules say of a sheet with these contents
abbrev pub ByRules : Contents → Event → Type 0
ByRules s (write a b d o) = o ≡ write_outcome s.units a b d
ByRules s (blank a b o) = o ≡ pair_outcome s.units a b
ByRules s (tie a b o) = o ≡ pair_outcome s.units a b
ByRules s (untie a b o) = o ≡ pair_outcome s.units a b
ByRules s (rank y k before o after) = Ranks s y k before o after
ByRules s (score y row o) = Scores s y row o
ByRules s (scale row before o after) = Scales s row before o after
ByRules s (check row o) = Checks s row o
ByRules s (improve k y limit before o after) = Improves s k y limit before o after

-- each of some calls did, on the sheet that the rules give for the calls before it
abbrev pub EachByRules : ℕ → List Event → Type 0
EachByRules n [] = Unit {0}
EachByRules n (e ∷ es) = ByRules (run n (calls_of es)) e × EachByRules n es

-- What holds after the calls es on a sheet opened for n units, which have left the sheet t: it is the rulebook's, each
-- call answered by the rules, and all that the rulebook promises of such calls holds.
pub record Kept (n : ℕ) (es : List Event) (t : Sheet) : Type 0 where
  pub sheet : contents t ≡ run n (calls_of es)
  pub answers : EachByRules n es
  pub promised : Promised n (calls_of es)

-- the promise of a sheet s that was opened for n units: it is kept by every run of calls on it
abbrev pub Promise : ℕ → Sheet → Type 0
Promise n s = (es : List Event) (t : Sheet) → Run s es t → Kept n es t
