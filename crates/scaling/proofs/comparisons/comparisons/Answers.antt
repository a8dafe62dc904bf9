use Rattle.std.proofs.Common.{◌≡◌, ℕ, ◌-◌, ◌*◌, ◌/◌, true, take, sym, ap, ◌∙◌}
use Rattle.rules.specs.Orders.{is_order}
use Rattle.rules.specs.Pattern.{kept}
use Rattle.marks.specs.Numbers.{units_of, numbers_of}
use Rattle.scaling.proofs.Counting.{kept_low, compared}
use Rattle.scaling.proofs.comparisons.comparisons.Goals as goal

-- what the calls answered, by the row
is : (c : goal.After-all_comparisons) → is_order (units_of c.args.marks.now) (take (units_of c.args.marks.now) c.args.row.now) ≡ true
is c = ap (is_order (units_of c.args.marks.now)) (sym c.in_ok-labels.ensures.0) ∙ c.in_ok-labels.ensures.1

held : (c : goal.After-all_comparisons)
    → c.kept-kept.result ≡ kept (numbers_of c.args.marks.now) (take (units_of c.args.marks.now) c.args.row.now)
held c = c.kept-kept.ensures.value ∙ ap (kept (numbers_of c.args.marks.now)) c.in_ok-labels.ensures.0

in_all : (c : goal.After-all_comparisons)
    → c.all_comparisons.result ≡ units_of c.args.marks.now * (units_of c.args.marks.now - 1) * (units_of c.args.marks.now - 2) / 3
in_all c = c.all_comparisons.ensures ∙ ap (λ (n : ℕ). n * (n - 1) * (n - 2) / 3) c.size.ensures

pub overflow_sub-result : goal.overflow_sub-result
overflow_sub-result c = kept_low c.args.marks.now _ (is c) _ _ (held c) (in_all c)

pub returns : goal.returns
returns c = compared c.args.marks.now _ (is c) _ _ (held c) (in_all c)
