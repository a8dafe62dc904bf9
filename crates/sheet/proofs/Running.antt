-- What holds after any run of calls on a sheet that was opened.
use Rattle.std.proofs.Common.{◌≡◌, ℕ, ◌≤◌, List, ap, ◌∙◌, subst}
use Rattle.rules.specs.Sheets.{Contents, new_contents}
use Rattle.rules.specs.Calls.{write_outcome, pair_outcome}
use Rattle.rules.specs.Runs.{after, run}
use Rattle.rules.specs.Runs as rule
use Rattle.rules.proofs.Promise.{promise}
use Rattle.sheet.specs.declared.sheet.Sheet.{Sheet}
use Rattle.sheet.specs.Contents.{contents}
use Rattle.sheet.specs.Answers.{Ranks, Scores, Scales, Checks, Improves}
use Rattle.sheet.specs.Runs.{Event, Run, none, by_write, by_blank, by_tie, by_untie, by_rank, by_score, by_scale, by_check, by_improve, calls_of, EachByRules, Promise}

module _ (n : ℕ) (s : Sheet) (new : contents s ≡ new_contents n) where
  -- the sheet is the rulebook's
  pub sheet_after : {es : List Event} {t : Sheet} → Run s es t → contents t ≡ run n (calls_of es)
  sheet_after none = new
  sheet_after (by_write a b d o r w) = w.sheet ∙ ap (λ c. after c (rule.write a b d)) (sheet_after r)
  sheet_after (by_blank a b o r w) = w.sheet ∙ ap (λ c. after c (rule.blank a b)) (sheet_after r)
  sheet_after (by_tie a b o r w) = w.sheet ∙ ap (λ c. after c (rule.tie a b)) (sheet_after r)
  sheet_after (by_untie a b o r w) = w.sheet ∙ ap (λ c. after c (rule.untie a b)) (sheet_after r)
  sheet_after (by_rank y k before o end r w) = sheet_after r
  sheet_after (by_score y row o r w) = sheet_after r
  sheet_after (by_scale row before o end r w) = sheet_after r
  sheet_after (by_check row o r w) = sheet_after r
  sheet_after (by_improve k y limit before o end r w) = sheet_after r

  -- each call answered by the rules
  pub each_by_rules : {es : List Event} {t : Sheet} → Run s es t → EachByRules n es
  each_by_rules none = tt
  each_by_rules (by_write a b d o r w) =
      (w.answer ∙ ap (λ (c : Contents). write_outcome c.units a b d) (sheet_after r), each_by_rules r)
  each_by_rules (by_blank a b o r w) = (w.answer ∙ ap (λ (c : Contents). pair_outcome c.units a b) (sheet_after r), each_by_rules r)
  each_by_rules (by_tie a b o r w) = (w.answer ∙ ap (λ (c : Contents). pair_outcome c.units a b) (sheet_after r), each_by_rules r)
  each_by_rules (by_untie a b o r w) = (w.answer ∙ ap (λ (c : Contents). pair_outcome c.units a b) (sheet_after r), each_by_rules r)
  each_by_rules (by_rank y k before o end r w) = (subst (λ c. Ranks c y k before o end) (sheet_after r) w, each_by_rules r)
  each_by_rules (by_score y row o r w) = (subst (λ c. Scores c y row o) (sheet_after r) w, each_by_rules r)
  each_by_rules (by_scale row before o end r w) = (subst (λ c. Scales c row before o end) (sheet_after r) w, each_by_rules r)
  each_by_rules (by_check row o r w) = (subst (λ c. Checks c row o) (sheet_after r) w, each_by_rules r)
  each_by_rules (by_improve k y limit before o end r w) =
      (subst (λ c. Improves c k y limit before o end) (sheet_after r) w, each_by_rules r)

  pub promise_kept : 2 ≤ n → n ≤ 20 → Promise n s
  promise_kept two twenty es t r = record {
    sheet = sheet_after r;
    answers = each_by_rules r;
    promised = promise n two twenty (calls_of es);
  }
