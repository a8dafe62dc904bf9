-- Interchange and insertion turn an order into an order, and have few moves up to 20 units.
use Rattle.std.proofs.Common.{◌≡◌, ℕ, suc, ◌+◌, ◌-◌, ◌*◌, ◌^◌, ◌<◌, ◌≤◌, Bool, true, cond, not, eqb, ltb, List, [], ◌∷◌, map, length, get_or, take, drop, set, filter, sym, ap, ◌∙◌, subst, arith, length-append, length-drop, length-set, length-take, get_or-drop, get_or-set_other, get_or-take, get_or-set_same}
use lib.ListN.{length-map}
use lib.Seq.{get_or_at}
use Rattle.std.specs.List.{range_with_len, flat_map}
use Rattle.std.proofs.lemmas.List.FromFn.{length-range_with_len}
use Rattle.std.proofs.lemmas.Bool.{eqb-true, eqb-false, ltb-true, ltb-false, cond_both}
use Rattle.std.proofs.lemmas.Bool.Decides.{nat_tests}
use Rattle.rules.specs.Units.{label}
use Rattle.rules.specs.Orders.{Order}
use Rattle.rules.specs.Moves.{LawfulMoves, chosen, by_places, swapped, without, inserted}
use Rattle.rules.specs.Theorems.{MovesLawful}
use Rattle.rules.proofs.Members.{In, in_at, map_in, filter_in, concat_in, counting_in}
use Rattle.rules.proofs.Lists.{get_or_left, get_or_right, filter_short}

-- a row that reads an order at other places, each once, is an order
reordered : (n : ℕ) (o q : List ℕ) (place : ℕ → ℕ) → length q ≡ n → ((x : ℕ) → x < n → place x < n)
    → ((x z : ℕ) → x < n → z < n → place x ≡ place z → x ≡ z) → ((x : ℕ) → x < n → get_or q x 0 ≡ get_or o (place x) 0) → Order n o → Order n q
reordered n o q place l within once reads h = record {
  as_many = l;
  in_range = λ x k. subst (λ (z : ℕ). label n z ≡ true) (sym (reads x k)) (h.in_range (place x) (within x k));
  once = λ x z a b e. once x z a b (h.once (place x) (place z) (within x a) (within z b) (sym (reads x a) ∙ (e ∙ reads z b)));
}

-- the places of a chosen pair
in_chosen : (test : ℕ → ℕ → Bool) (n : ℕ) (q : ℕ × ℕ) → In q (chosen test n) → (q.0 < n) × (q.1 < n)
in_chosen test n q i =
    let w = concat_in (λ u. map (λ v. (u, v)) (filter (test u) (range_with_len 0 n))) q (range_with_len 0 n) i in
    let v = map_in (λ v. (w.0, v)) q (filter (test w.0) (range_with_len 0 n)) w.1.1 in
    let a = (counting_in 0 n w.0 w.1.0).1 in
    let b = (counting_in 0 n v.0 (filter_in (test w.0) v.0 (range_with_len 0 n) v.1.0).0).1 in
    subst (λ (z : ℕ × ℕ). (z.0 < n) × (z.1 < n)) (sym v.1.1) (omega arith, omega arith)

-- few
joined_low : {X : Type 0} (f : ℕ → List X) (c : ℕ) → ((u : ℕ) → length (f u) ≤ c) → (us : List ℕ) → length (flat_map f us) ≤ length us * c
joined_low f c h [] = omega arith
joined_low f c h (u ∷ us) = omega (arith, length-append (f u) (flat_map f us), joined_low f c h us, h u)

chosen_few : (test : ℕ → ℕ → Bool) (n : ℕ) → n ≤ 20 → length (chosen test n) < 2 ^ 32
chosen_few test n l =
    let r = joined_low (λ u. map {B = ℕ × ℕ} (λ v. (u, v)) (filter (test u) (range_with_len 0 n))) 20
    (λ u. omega (arith, length-map {B = ℕ × ℕ} (filter (test u) (range_with_len 0 n)) (λ v. (u, v)), filter_short (test u) (range_with_len 0 n), length-range_with_len 0 n)) (range_with_len 0 n) in
    omega (arith, length-range_with_len 0 n)

-- a kind of move by places is lawful if what it does makes orders of orders
by_places_lawful : (test : ℕ → ℕ → Bool) (act : ℕ → ℕ → List ℕ → List ℕ)
    → ((n u v : ℕ) (o : List ℕ) → u < n → v < n → Order n o → Order n (act u v o)) → LawfulMoves (by_places test act)
by_places_lawful test act again = record {
  few = λ n two l. chosen_few test n l;
  order_again = λ n i o l m h.
      let q = get_or (chosen test n) (i - 1) (0, 0) in
      let w = in_chosen test n q (in_at (chosen test n) (i - 1) (0, 0) (omega arith)) in
      again n q.0 q.1 o w.0 w.1 h;
}

-- two places swapped
swap_place : ℕ → ℕ → ℕ → ℕ
swap_place u v x = cond (eqb x v) u (cond (eqb x u) v x)

swapped_order : (n u v : ℕ) (o : List ℕ) → u < n → v < n → Order n o → Order n (swapped u v o)
unfolding swap_place
swapped_order n u v o a b h =
    reordered n o (swapped u v o) (swap_place u v)
    (length-set once v (get_or o u 0) ∙ (length-set o u (get_or o v 0) ∙ h.as_many))
    (λ x l. grind (arith, nat_tests)) (λ x z l m e. grind (arith, nat_tests)) reads h
  where
    once : List ℕ
    once = set o u (get_or o v 0)

    reads : (x : ℕ) → x < n → get_or (swapped u v o) x 0 ≡ get_or o (swap_place u v x) 0
    reads x l =
        cond_both (eqb x v) u (cond (eqb x u) v x) (λ z. get_or (swapped u v o) x 0 ≡ get_or o z 0)
        (λ e. rw (eqb-true x v e) (get_or-set_same once v (get_or o u 0) 0 (omega (arith, length-set o u (get_or o v 0), h.as_many))))
        (λ e. get_or-set_other once v x (get_or o u 0) 0 (eqb-false x v e)
        ∙ cond_both (eqb x u) v x (λ z. get_or once x 0 ≡ get_or o z 0)
        (λ f. rw (eqb-true x u f) (get_or-set_same o u (get_or o v 0) 0 (omega (arith, h.as_many))))
        (λ f. get_or-set_other o u x (get_or o v 0) 0 (eqb-false x u f)))

-- one place taken out and put elsewhere
skip : ℕ → ℕ → ℕ
skip u x = cond (ltb x u) x (suc x)

insert_place : ℕ → ℕ → ℕ → ℕ
insert_place u v x = cond (ltb x v) (skip u x) (cond (eqb x v) u (skip u (x - 1)))

without_reads : (n u : ℕ) (o : List ℕ) → length o ≡ n → u < n → (x : ℕ) → get_or (without u o) x 0 ≡ get_or o (skip u x) 0
unfolding skip
without_reads n u o l h x =
    let long : length (take u o) ≡ u = omega (arith, length-take u o) in
    cond_both (ltb x u) x (suc x) (λ z. get_or (without u o) x 0 ≡ get_or o z 0)
    (λ e. let k = ltb-true x u e in get_or_left (take u o) (drop (suc u) o) x 0 (omega arith) ∙ get_or-take u o x 0 k)
    (λ e.
    let k = ltb-false x u e in
    let same : suc u + (x - length (take u o)) ≡ suc x = omega arith in
    get_or_right (take u o) (drop (suc u) o) x 0 (omega arith)
    ∙ (get_or-drop (suc u) o (x - length (take u o)) 0 ∙ ap (λ (z : ℕ). get_or o z 0) same))

inserted_order : (n u v : ℕ) (o : List ℕ) → u < n → v < n → Order n o → Order n (inserted u v o)
unfolding insert_place skip
inserted_order n u v o a b h =
    reordered n o (inserted u v o) (insert_place u v)
    (omega (arith, h.as_many, length-append (take v w) (get_or o u 0 ∷ drop v w), length-take v w, length-drop v w, wl))
    (λ x l. grind (arith, nat_tests)) (λ x z l m e. grind (arith, nat_tests)) reads h
  where
    w : List ℕ
    w = without u o

    wl : length w ≡ n - 1
    wl = omega (arith, length-append (take u o) (drop (suc u) o), length-take u o, length-drop (suc u) o, h.as_many)

    tl : length (take v w) ≡ v
    tl = omega (arith, length-take v w, wl)

    reads : (x : ℕ) → x < n → get_or (inserted u v o) x 0 ≡ get_or o (insert_place u v x) 0
    reads x l =
        cond_both (ltb x v) (skip u x) (cond (eqb x v) u (skip u (x - 1))) (λ z. get_or (inserted u v o) x 0 ≡ get_or o z 0)
        (λ e.
        let k = ltb-true x v e in
        get_or_left (take v w) (get_or o u 0 ∷ drop v w) x 0 (omega (arith, tl)) ∙ (get_or-take v w x 0 k ∙ without_reads n u o h.as_many a x))
        (λ e.
        let k = ltb-false x v e in
        cond_both (eqb x v) u (skip u (x - 1)) (λ z. get_or (inserted u v o) x 0 ≡ get_or o z 0)
        (λ f. get_or_at (take v w) (get_or o u 0) (drop v w) 0 x (tl ∙ sym (eqb-true x v f)))
        (λ f.
        let ne = eqb-false x v f in
        let more : x - length (take v w) ≡ suc (x - v - 1) = omega (arith, tl) in
        let back : v + (x - v - 1) ≡ x - 1 = omega arith in
        get_or_right (take v w) (get_or o u 0 ∷ drop v w) x 0 (omega (arith, tl))
        ∙ (ap (λ (z : ℕ). get_or (get_or o u 0 ∷ drop v w) z 0) more
        ∙ (get_or-drop v w (x - v - 1) 0 ∙ (ap (λ (z : ℕ). get_or w z 0) back ∙ without_reads n u o h.as_many a (x - 1))))))

pub moves_lawful : MovesLawful
moves_lawful = (by_places_lawful ltb swapped swapped_order, by_places_lawful (λ u v. not (eqb u v)) inserted inserted_order)
