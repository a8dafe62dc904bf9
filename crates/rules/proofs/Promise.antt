-- The whole promise, from its parts.
use Rattle.std.proofs.Common.{◌≡◌, ℕ, ◌≤◌, false, ltb, List, [], ◌∷◌, length, take, sym, refl, ap, ◌∙◌, subst}
use Rattle.std.proofs.lemmas.Bool.{both_ways}
use Rattle.rules.specs.Sheets.{Contents}
use Rattle.rules.specs.Yardsticks.{Symmetric, above, spread, gradient}
use Rattle.rules.specs.Orders.{Order}
use Rattle.rules.specs.Ranking.{total}
use Rattle.rules.specs.Scaling.{AtMost, misfits, placed_at, displacements, loss}
use Rattle.rules.specs.Calls.{short, row_tests, ScaleAnswer, scale_answer, scale_outcome}
use Rattle.rules.specs.Runs.{Call, run, last_tie, marks_now, NoTies, Scales, Answered, Promise}
use Rattle.rules.proofs.Deciding.{answered}
use Rattle.rules.proofs.Histories.{said, run_is, run_units, run_marks, run_ties, told, unchanged, marks_sym}
use Rattle.rules.proofs.Lawfulness.{yardsticks_lawful}
use Rattle.rules.proofs.Ranked.{measured, ranked, answered_top, top_answered}
use Rattle.rules.proofs.Improving.{gains_hold}
use Rattle.rules.proofs.Line.{line, loss_exact}
use Rattle.rules.proofs.Pattern.{tied_pattern}

take_all : (n : ℕ) (row : List ℕ) → length row ≡ n → take n row ≡ row
take_all n row e = subst (λ (m : ℕ). take m row ≡ row) e (whole row)
  where
    whole : (xs : List ℕ) → take (length xs) xs ≡ xs
    whole [] = refl
    whole (x ∷ xs) = ap (λ (r : List ℕ). x ∷ r) (whole xs)

module _ (n : ℕ) (two : 2 ≤ n) (twenty : n ≤ 20) (calls : List Call) where
  -- what Scale answers for an order
  scaled : (o : List ℕ) (c : ScaleAnswer) → Order n o → Scales n calls o c → scale_answer (said n calls) o ≡ c
  scaled o c h w =
      (answered ((ltb (length w.list) n, short) ∷ row_tests (said n calls) o) (scale_answer (said n calls) o) c
      (ap (λ (s : Contents). scale_outcome s o w.list) (sym (run_is n calls)) ∙ w.outcome)).1

  -- the listed orders by spread without ties: no order has a greater spread
  module _ (free : NoTies n calls) (o : List ℕ) (c : ScaleAnswer) (a : Answered n calls spread o) (sc : Scales n calls o c) where
    ord : Order n o
    ord = (answered_top n calls spread two twenty yardsticks_lawful.0 o a).0

    greatest : (q : List ℕ) → Order n q → above (total spread (marks_now n calls) n 0 q) (total spread (marks_now n calls) n 0 o) ≡ false
    greatest q h =
        (answered_top n calls spread two twenty yardsticks_lawful.0 o a).1.1 q h
        (λ u v t. absurd (both_ways (last_tie n calls u v) (free u v) t))

    -- what Scale answers is said of o itself
    by_scale : (P : ScaleAnswer → Type 0) → P (record { displaced = displacements (marks_now n calls) n 0 o; loss = loss (marks_now n calls) n o }) → P c
    by_scale P h =
        subst P (scaled o c ord sc)
        (subst (λ (q : List ℕ). P (record { displaced = displacements (marks_now n calls) n 0 q; loss = loss (marks_now n calls) n q })) (sym (take_all n o ord.as_many)) h)

pub promise : Promise
promise n two twenty calls = record {
  units = run_units n calls;
  marks = run_marks n calls;
  ties = run_ties n calls;
  told = told n calls;
  unchanged = unchanged (run n calls);
  measured = measured n calls;
  ranks = λ y law k r w. ranked n calls y two twenty law k r w;
  line = λ free o c a sc x px.
      by_scale n two twenty calls free o c a sc (λ d. AtMost (misfits p n (placed_at n o d.displaced)) (misfits p n x))
      (line n two p sm o (ord n two twenty calls free o c a sc) (greatest n two twenty calls free o c a sc) x px);
  loss = λ free o c a sc.
      let h = loss_exact n two p sm o (ord n two twenty calls free o c a sc) in
      by_scale n two twenty calls free o c a sc
      (λ d. AtMost (record { over = d.loss; under = n }) (misfits p n (placed_at n o d.displaced))
      × AtMost (misfits p n (placed_at n o d.displaced)) (record { over = d.loss; under = n }))
      (h.1 (greatest n two twenty calls free o c a sc), h.0);
  pattern = λ full o ho ko a q hq.
      let top = tied_pattern n p sm (last_tie n calls) o ho ko a q hq in (
        (λ w.
            let t = answered_top n calls gradient two twenty yardsticks_lawful.1.0 q w in
            (t.1.0, (top t.1.0).0 t.1.1)),
        λ b. top_answered n calls gradient two twenty yardsticks_lawful.1.0 full q (hq, (b.0, (top b.0).1 b.1)),
      );
  gains = λ y which k lawful limit row r e. gains_hold n calls y which k limit row r e;
}
  where
    p : ℕ → ℕ → ℕ
    p = marks_now n calls

    sm : Symmetric p
    sm = marks_sym n calls
