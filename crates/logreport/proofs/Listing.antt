-- A report is listed line by line, and a log has one report.
use Rattle.std.proofs.Common.{◌≡◌, ℕ, suc, ◌+◌, ◌<◌, List, [], ◌∷◌, ◌++◌, length, get_or, take, decimal, sym, refl, ap, ◌∙◌, inl, inr, append_assoc, arith, length-take-le}
use Rattle.std.proofs.lemmas.List.{take_more}
use Rattle.loglines.specs.Readings.{Reading}
use Rattle.loglines.proofs.States.{one_reading}
use Rattle.logreport.specs.declared.count.Kind.{Kind}
use Rattle.logreport.specs.Counts.{kind_words, count_of}
use Rattle.logreport.specs.Said.{said}
use Rattle.logreport.specs.Reports.{listing, totals, summary, OneReport}

listing_push : (n : ℕ) (rs : List Reading) (r : Reading) → listing n (rs ++ (r ∷ [])) ≡ listing n rs ++ (said (n + length rs) r ++ (10 ∷ []))
listing_push n [] r = ap (λ k. said k r ++ (10 ∷ [])) (omega arith)
listing_push n (q ∷ rs) r =
    ap (λ t. said n q ++ (10 ∷ t)) (listing_push (suc n) rs r ∙ ap (λ k. listing (suc n) rs ++ (said k r ++ (10 ∷ []))) (omega arith))
    ∙ sym (append_assoc (said n q) (10 ∷ listing (suc n) rs) (said (n + length (q ∷ rs)) r ++ (10 ∷ [])))

-- one line more
pub listed_more : (before out after : List ℕ) (rs : List Reading) (i : ℕ) (d : Reading) → i < length rs
    → out ≡ before ++ listing 1 (take i rs) → after ≡ out ++ (said (i + 1) (get_or rs i d) ++ (10 ∷ [])) → after ≡ before ++ listing 1 (take (i + 1) rs)
listed_more before out after rs i d lt sofar wrote =
    let long = length-take-le i rs (omega arith) in
    let line : 1 + length (take i rs) ≡ i + 1 = omega arith in
    wrote ∙ ap (λ t. t ++ (said (i + 1) (get_or rs i d) ++ (10 ∷ []))) sofar
    ∙ append_assoc before (listing 1 (take i rs)) (said (i + 1) (get_or rs i d) ++ (10 ∷ []))
    ∙ ap (λ t. before ++ t) (ap (λ k. listing 1 (take i rs) ++ (said k (get_or rs i d) ++ (10 ∷ []))) (sym line) ∙ sym (listing_push 1 (take i rs) (get_or rs i d)) ∙ ap (listing 1) (sym (take_more rs i d lt)))

totals_push : (ks : List Kind) (k : Kind) (rs : List Reading) → totals (ks ++ (k ∷ [])) rs ≡ totals ks rs ++ (kind_words k ++ (32 ∷ (decimal (count_of k rs) ++ (10 ∷ []))))
totals_push [] k rs = refl
totals_push (j ∷ ks) k rs = rw (totals_push ks k rs) (simp append_assoc)

-- one kind more
pub totals_more : (before out after : List ℕ) (ks : List Kind) (rs : List Reading) (i : ℕ) (d : Kind) (n : ℕ) → i < length ks
    → out ≡ before ++ totals (take i ks) rs → n ≡ count_of (get_or ks i d) rs
    → after ≡ out ++ (kind_words (get_or ks i d) ++ (32 ∷ (decimal n ++ (10 ∷ [])))) → after ≡ before ++ totals (take (i + 1) ks) rs
totals_more before out after ks rs i d n lt sofar is wrote =
    wrote ∙ (λ j. sofar j ++ (kind_words (get_or ks i d) ++ (32 ∷ (decimal (is j) ++ (10 ∷ [])))))
    ∙ append_assoc before (totals (take i ks) rs) (kind_words (get_or ks i d) ++ (32 ∷ (decimal (count_of (get_or ks i d) rs) ++ (10 ∷ []))))
    ∙ ap (λ t. before ++ t) (sym (totals_push (take i ks) (get_or ks i d) rs) ∙ ap (λ l. totals l rs) (sym (take_more ks i d lt)))

pub one_report : OneReport
one_report input a b (inl h) (inl k) = h.2 ∙ ap (λ rs. listing 1 rs ++ summary rs) (one_reading input h.0 k.0 h.1 k.1) ∙ sym k.2
one_report input a b (inl h) (inr k) = absurd (omega (arith, h.1.few, k.0))
one_report input a b (inr h) (inl k) = absurd (omega (arith, k.1.few, h.0))
one_report input a b (inr h) (inr k) = h.1 ∙ sym k.1
