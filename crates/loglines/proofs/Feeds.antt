-- Cutting an input at its line feeds: what each turn keeps, and that the cut is the only one.
use Rattle.std.proofs.Common.{◌≡◌, ℕ, ◌+◌, ◌-◌, ◌<◌, ◌≤◌, ◌⊎◌, List, [], ◌∷◌, ◌++◌, length, get_or, take, drop, sym, refl, ap, ◌∙◌, subst, inl, inr, ⊎_elim, append_assoc, append-nil, arith, length-append, take_all, get_or-append-add}
use Rattle.std.specs.List.{AllByRecursion}
use Rattle.std.proofs.slice.Lists.{all_by_recursion_push}
use Rattle.loglines.specs.Spans.{Spans, Free}
use Rattle.loglines.specs.Lines.{fed, Unended, First, OneCut}
use Rattle.loglines.proofs.Cuts.{span_free, cut_unique}

-- a last line without its line feed
pub first_unfed : (rest line tail : List ℕ) (n : ℕ) → Spans 10 rest n → line ≡ take n rest → length rest ≤ n → 0 < length rest → tail ≡ [] → First rest line tail
first_unfed rest line tail n sp front le some none =
    let all : line ≡ rest = front ∙ take_all n rest le in
    record { feedless = subst (Free 10) (sym front) (span_free 10 rest n sp); whole = inr (sym all, none, omega (arith, ap length all)) }

pub first_less : (rest line tail : List ℕ) → First rest line tail → length tail < length rest
first_less rest line tail h =
    ⊎_elim (λ e. omega (arith, ap length e, length-append line (10 ∷ tail))) (λ e. omega (arith, ap length e.0, ap length e.1, e.2)) h.whole

-- ls are the lines of what stands before rest
pub record Sofar (input : List ℕ) (ls : List (List ℕ)) (rest : List ℕ) : Type 0 where
  pub feedless : AllByRecursion (Free 10) ls
  pub whole : (fed ls ++ rest ≡ input) ⊎ ((rest ≡ []) × (fed ls ≡ input ++ (10 ∷ [])) × Unended input)

fed_snoc : (ls : List (List ℕ)) (l tail : List ℕ) → fed (ls ++ (l ∷ [])) ++ tail ≡ fed ls ++ (l ++ (10 ∷ tail))
fed_snoc [] l tail = append_assoc l (10 ∷ []) tail
fed_snoc (k ∷ ls) l tail = append_assoc k (10 ∷ fed (ls ++ (l ∷ []))) tail ∙ ap (λ t. k ++ (10 ∷ t)) (fed_snoc ls l tail) ∙ sym (append_assoc k (10 ∷ fed ls) (l ++ (10 ∷ tail)))

last_of : (xs ys : List ℕ) → 0 < length ys → get_or (xs ++ ys) (length (xs ++ ys) - 1) 0 ≡ get_or ys (length ys - 1) 0
last_of xs ys some =
    let long = length-append xs ys in
    let at : length (xs ++ ys) - 1 ≡ length xs + (length ys - 1) = omega arith in
    ap (λ k. get_or (xs ++ ys) k 0) at ∙ get_or-append-add xs ys (length ys - 1) 0

pub one_more : (input : List ℕ) (ls : List (List ℕ)) (rest line tail : List ℕ) → Sofar input ls rest → First rest line tail → Sofar input (ls ++ (line ∷ [])) tail
one_more input ls rest line tail h f = record {
  feedless = all_by_recursion_push (Free 10) ls line h.feedless f.feedless;
  whole = ⊎_elim
      (λ e. ⊎_elim
      (λ p. inl (fed_snoc ls line tail ∙ ap (λ t. fed ls ++ t) (sym p) ∙ e))
      (λ p.
      let whole : input ≡ fed ls ++ line = sym e ∙ ap (λ t. fed ls ++ t) p.0 in
      inr (
        p.1,
        sym (append-nil _) ∙ fed_snoc ls line [] ∙ sym (append_assoc (fed ls) line (10 ∷ [])) ∙ ap (λ t. t ++ (10 ∷ [])) (sym whole),
        record {
          some = omega (arith, ap length whole, length-append (fed ls) line, p.2);
          last = λ ten. f.feedless (length line - 1) (omega (arith, p.2)) (sym (last_of (fed ls) line p.2) ∙ ap (λ t. get_or t (length t - 1) 0) (sym whole) ∙ ten);
        },
      ))
      f.whole)
      (λ e. absurd (omega (arith, first_less _ _ _ f, ap length e.0)))
      h.whole;
}

-- lines with their line feeds tell the lines
fed_same : (ls ms : List (List ℕ)) → AllByRecursion (Free 10) ls → AllByRecursion (Free 10) ms → fed ls ≡ fed ms → ls ≡ ms
fed_same [] [] fl fm e = refl
fed_same [] (m ∷ ms) fl fm e = absurd (omega (arith, ap length e, length-append m (10 ∷ fed ms)))
fed_same (l ∷ ls) [] fl fm e = absurd (omega (arith, ap length e, length-append l (10 ∷ fed ls)))
fed_same (l ∷ ls) (m ∷ ms) fl fm e =
    let p = cut_unique 10 l (10 ∷ fed ls) m (10 ∷ fed ms) fl.0 (λ lt. refl) fm.0 (λ lt. refl) e in
    let here = p.0 in
    let more = fed_same ls ms fl.1 fm.1 (ap (drop 1) p.1) in
    λ i. here i ∷ more i

-- and end in one
fed_last : (ls : List (List ℕ)) → 0 < length (fed ls) → get_or (fed ls) (length (fed ls) - 1) 0 ≡ 10
fed_last [] some = absurd (omega arith)
fed_last (l ∷ []) some = last_of l (10 ∷ []) (omega arith)
fed_last (l ∷ k ∷ ks) some =
    let long : 0 < length (fed (k ∷ ks)) = omega (arith, length-append k (10 ∷ fed ks)) in
    last_of l (10 ∷ fed (k ∷ ks)) (omega arith) ∙ last_of (10 ∷ []) (fed (k ∷ ks)) long ∙ fed_last (k ∷ ks) long

never_both : (input : List ℕ) (ls : List (List ℕ)) → fed ls ≡ input → Unended input → ⊥
never_both input ls e u = u.last (ap (λ t. get_or t (length t - 1) 0) (sym e) ∙ fed_last ls (omega (arith, ap length e, u.some)))

pub one_cut : OneCut
one_cut input ls ms h k =
    ⊎_elim
    (λ e. ⊎_elim (λ d. fed_same ls ms h.feedless k.feedless (e ∙ sym d)) (λ d. absurd (never_both input ls e d.1)) k.whole)
    (λ e. ⊎_elim (λ d. absurd (never_both input ms d e.1)) (λ d. fed_same ls ms h.feedless k.feedless (e.0 ∙ sym d.0)) k.whole)
    h.whole
