-- What the best total and the listed ways of a set mean.
use Rattle.std.proofs.Common.{◌≡◌, ℕ, ◌-◌, ◌^◌, ◌<◌, ◌≤◌, Bool, true, false, not, List, [], length, get_or, ℤ, arith}
use Rattle.rules.specs.Units.{size}
use Rattle.rules.specs.Yardsticks.{Merit, Lawful, Low, Symmetric}
use Rattle.rules.specs.Orders.{earlier, circular}
use Rattle.rules.specs.Ranking.{total, best, listed, rest}
use Rattle.rules.specs.Recurrence.{Placement, Cell, CellsMean}
use Rattle.rules.proofs.Members.{In, in_at, at_in, ascending_filter, ascending_at}
use Rattle.rules.proofs.Ways.{Way, ways_in, in_ways, ways_ascend, way_label, way_out, way_once, way_tied, way_from}
use Rattle.rules.proofs.Closed.{rest_some, ways_circle}
use Rattle.rules.proofs.Totals.{GoodOn, total_good, top_not_exceeded, top_reached, in_tops, tops_in}

module _ (tied : ℕ → ℕ → Bool) (n A : ℕ) where
  -- such ways are the rows that `ways` lists
  pub way_placement : (o : List ℕ) → length o ≡ n - size n A → Way tied n A o → Placement tied n A o
  way_placement o l h = record {
    as_many = l;
    outside = λ i k. (way_label tied n A o h i k, way_out tied n A o h i k);
    once = way_once tied n A o h;
    after = λ k a l m t. way_tied tied n A o h k l a m t;
  }

  pub placement_way : (o : List ℕ) → Placement tied n A o → Way tied n A o
  placement_way o h = way_from tied n A o (λ i l. (h.outside i l).0) (λ i l. (h.outside i l).1) h.once h.after

module _ (y : Merit) (law : Lawful y) (p : ℕ → ℕ → ℕ) (tied : ℕ → ℕ → Bool) (n : ℕ) (two : 2 ≤ n) (twenty : n ≤ 20)
    (low : Low p) (sm : Symmetric p) (h : circular tied n ≡ false) (A : ℕ) (below : A < 2 ^ n) where
  abbrev sum : List ℕ → List ℤ
  sum o = total y p n A o

  abbrev all_rows : List (List ℕ)
  all_rows = rest y p tied n A

  abbrev best_rows : List (List ℕ)
  best_rows = listed y p tied n A

  good : GoodOn y law sum all_rows
  good o i =
      let w = in_ways tied n (n - size n A) A o i in
      total_good y law p tied n two twenty low sm A o w.1 below (omega (arith, w.0))

  inside : (o : List ℕ) → Placement tied n A o → In o all_rows
  inside o pl = ways_in tied n (n - size n A) A o pl.as_many (placement_way tied n A o pl)

  reaches : (o : List ℕ) → In o best_rows → Placement tied n A o × (sum o ≡ best y p tied n A)
  reaches o i =
      let w = tops_in y law sum all_rows good o i in
      let v = in_ways tied n (n - size n A) A o w.0 in
      (way_placement tied n A o v.0 v.1, w.1)

  cell : Cell y p tied n A
  cell = record {
    some = let one = rest_some tied n (ways_circle tied n h) A in
        let q = top_reached y law sum all_rows good one.0 one.1 in
        let w = at_in q.0 best_rows [] (in_tops y law sum all_rows good q.0 q.1.0 q.1.1) in
        omega (arith, w.1.0);
    each = λ i l. reaches (get_or best_rows i []) (in_at best_rows i [] l);
    all = λ o pl e. at_in o best_rows [] (in_tops y law sum all_rows good o (inside o pl) e);
    none_exceeds = λ o pl. top_not_exceeded y law sum all_rows good o (inside o pl);
    in_label_order = ascending_at (λ u v. earlier u v ≡ true) best_rows []
        (ascending_filter (λ u v. earlier u v ≡ true) (λ o. not (y.exceeds (best y p tied n A) (sum o))) all_rows (ways_ascend tied n (n - size n A) A));
  }

pub cells_mean : CellsMean
cells_mean = cell
