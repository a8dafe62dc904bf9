-- Any list of the nine calls on a sheet just opened, and what then holds.
use Rattle.std.specs.Prelude.{◌≡◌, ℕ, ◌-◌, ◌^◌, ◌<◌, ◌≤◌, Bool, true, false, cond, ◌⊎◌, ◌↔◌, List, [], ◌∷◌, ◌++◌, length, take, ℤ, pos, ◌+ℤ◌, ◌≤ℤ◌, Some, None, Option, ◌≢◌, slice_index_or}
use Rattle.std.specs.Option.{unwrap_or}
use Rattle.std.specs.List.{AllByRecursion}
use Rattle.rules.specs.declared.Mark.{Mark}
use Rattle.rules.specs.declared.Mark.TheVariants.{Gap, Number}
use Rattle.rules.specs.Units.{label}
use Rattle.rules.specs.Sheets.{Contents, new_contents, with_mark, with_tie, same_pair, same_tie, value, numbers}
use Rattle.rules.specs.Yardsticks.{Merit, Lawful, spread, gradient, target}
use Rattle.rules.specs.Orders.{Order, Keeps, earlier}
use Rattle.rules.specs.Ranking.{total, total_cell, count_cell, filled}
use Rattle.rules.specs.Scaling.{Fraction, Placing, AtMost, misfits, placed_at}
use Rattle.rules.specs.Pattern.{AntiRobinson}
use Rattle.rules.specs.Moves.{Moves, LawfulMoves}
use Rattle.rules.specs.Calls.{Refusal, number, Outcome, accepted, refused, write_outcome, pair_outcome, RankAnswer, rank_outcome, rank_totals_after, rank_counts_after, rank_row_after, score_outcome, ScaleAnswer, scale_outcome, scale_list_after, check_outcome, ImproveAnswer, improve_outcome, improve_row_after}

-- a call with its arguments
pub data Call : Type 0 where
  write : (a b d : ℕ) → Call
  blank : (a b : ℕ) → Call
  tie : (a b : ℕ) → Call
  untie : (a b : ℕ) → Call
  rank : (y : Merit) (k : ℕ) (totals : List (List ℤ)) (counts row : List ℕ) → Call
  score : (y : Merit) (row : List ℕ) → Call
  scale : (row : List ℕ) (list : List ℤ) → Call
  check : (row : List ℕ) → Call
  improve : (k : Moves) (y : Merit) (limit : ℕ) (row : List ℕ) → Call

-- the refusal in an outcome, if any
abbrev pub refusal_in : {X : Type 0} → Outcome X → Option Refusal
refusal_in (accepted x) = None
refusal_in (refused r) = Some r

-- the refusal that a call is given on a sheet, if any
abbrev pub refusal : Contents → Call → Option Refusal
refusal s (write a b d) = refusal_in (write_outcome s.units a b d)
refusal s (blank a b) = refusal_in (pair_outcome s.units a b)
refusal s (tie a b) = refusal_in (pair_outcome s.units a b)
refusal s (untie a b) = refusal_in (pair_outcome s.units a b)
refusal s (rank y k totals counts row) = refusal_in (rank_outcome s y k totals counts row)
refusal s (score y row) = refusal_in (score_outcome s y row)
refusal s (scale row list) = refusal_in (scale_outcome s row list)
refusal s (check row) = refusal_in (check_outcome s row)
refusal s (improve k y limit row) = refusal_in (improve_outcome s k y limit row)

-- the calls that answer from the marks
abbrev pub asks : Call → Bool
asks (write a b d) = false
asks (blank a b) = false
asks (tie a b) = false
asks (untie a b) = false
asks (rank y k totals counts row) = true
asks (score y row) = true
asks (scale row list) = true
asks (check row) = true
asks (improve k y limit row) = true

-- what a call changes of a sheet: the mark of a pair, whether a tie stands, or nothing
pub data Change : Type 0 where
  to_mark : (a b : ℕ) (m : Mark) → Change
  to_tie : (a b : ℕ) (stands : Bool) → Change
  no_change : Change

-- a refused call changes nothing
abbrev pub if_accepted : {X : Type 0} → Outcome X → Change → Change
if_accepted (accepted x) c = c
if_accepted (refused r) c = no_change

-- what a call changes of a sheet of n units
abbrev pub change : ℕ → Call → Change
change n (write a b d) = if_accepted (write_outcome n a b d) (to_mark a b (Number d))
change n (blank a b) = if_accepted (pair_outcome n a b) (to_mark a b Gap)
change n (tie a b) = if_accepted (pair_outcome n a b) (to_tie a b true)
change n (untie a b) = if_accepted (pair_outcome n a b) (to_tie a b false)
change n (rank y k totals counts row) = no_change
change n (score y row) = no_change
change n (scale row list) = no_change
change n (check row) = no_change
change n (improve k y limit row) = no_change

-- the sheet after a change
abbrev pub changed : Contents → Change → Contents
changed s (to_mark a b m) = with_mark s a b m
changed s (to_tie a b stands) = with_tie s a b stands
changed s no_change = s

-- what a call leaves of the sheet
abbrev pub after : Contents → Call → Contents
after s c = changed s (change s.units c)

-- the sheet after some calls, the latest first
abbrev pub run : ℕ → List Call → Contents
run n [] = new_contents n
run n (c ∷ cs) = after (run n cs) c

-- the mark that a change gives to the pair of x and y, if it names the pair
abbrev pub mark_given : Change → ℕ → ℕ → Option Mark
mark_given (to_mark a b m) x y = cond (same_pair a b x y) (Some m) None
mark_given (to_tie a b stands) x y = None
mark_given no_change x y = None

-- whether it lets the tie of x before y stand, if it names that tie
abbrev pub tie_given : Change → ℕ → ℕ → Option Bool
tie_given (to_mark a b m) x y = None
tie_given (to_tie a b stands) x y = cond (same_tie a b x y) (Some stands) None
tie_given no_change x y = None

-- what the last of the calls says that says something; d where none does
abbrev pub last_said : {A : Type 0} → (Call → Option A) → A → List Call → A
last_said f d [] = d
last_said f d (c ∷ cs) = unwrap_or (f c) (last_said f d cs)

-- the mark by the last accepted Write or Blank of the pair; with neither, a gap
abbrev pub last_mark : ℕ → List Call → ℕ → ℕ → Mark
last_mark n calls x y = last_said (λ c. mark_given (change n c) x y) Gap calls

-- whether the last accepted Tie or Untie of x before y was a Tie; with neither, no tie stands
abbrev pub last_tie : ℕ → List Call → ℕ → ℕ → Bool
last_tie n calls x y = last_said (λ c. tie_given (change n c) x y) false calls

-- the same as a relation: some call says x, and no later one says anything
pub record Last {A : Type 0} (f : Call → Option A) (calls : List Call) (x : A) : Type 0 where
  pub later : List Call
  pub call : Call
  pub before : List Call
  pub parts : calls ≡ later ++ (call ∷ before)
  pub says : f call ≡ Some x
  pub silent : AllByRecursion (λ c. f c ≡ None) later

-- each mark and tie of the sheet is by the last accepted call that names its pair; by none, a gap and no tie
pub record Told (n : ℕ) (calls : List Call) (s : Contents) : Type 0 where
  pub marked : (a b : ℕ) (m : Mark) → Last (λ c. mark_given (change n c) a b) calls m → s.mark a b ≡ m
  pub unmarked : (a b : ℕ) → AllByRecursion (λ c. mark_given (change n c) a b ≡ None) calls → s.mark a b ≡ Gap
  pub tied : (a b : ℕ) (t : Bool) → Last (λ c. tie_given (change n c) a b) calls t → s.tied a b ≡ t
  pub untied : (a b : ℕ) → AllByRecursion (λ c. tie_given (change n c) a b ≡ None) calls → s.tied a b ≡ false

-- A refused call changes no sheet, row, table or list, but Rank's refusal `number` leaves both tables filled.
pub record Unchanged (s : Contents) : Type 0 where
  pub sheet : (c : Call) (r : Refusal) → refusal s c ≡ Some r → after s c ≡ s
  pub rank_row : (y : Merit) (k : ℕ) (totals : List (List ℤ)) (counts row : List ℕ) (r : Refusal)
      → rank_outcome s y k totals counts row ≡ refused r → rank_row_after s y k totals counts row ≡ row
  pub rank_tables : (y : Merit) (k : ℕ) (totals : List (List ℤ)) (counts row : List ℕ) (r : Refusal)
      → rank_outcome s y k totals counts row ≡ refused r → (r ≢ number)
      → (rank_totals_after s y k totals counts row ≡ totals) × (rank_counts_after s y k totals counts row ≡ counts)
  pub rank_filled : (y : Merit) (k : ℕ) (totals : List (List ℤ)) (counts row : List ℕ)
      → rank_outcome s y k totals counts row ≡ refused number
      → (rank_totals_after s y k totals counts row
      ≡ filled (total_cell y (numbers s) s.tied s.units) (2 ^ s.units) totals)
      × (rank_counts_after s y k totals counts row
      ≡ filled (count_cell y (numbers s) s.tied s.units) (2 ^ s.units) counts)
  pub scale_list : (row : List ℕ) (list : List ℤ) (r : Refusal)
      → scale_outcome s row list ≡ refused r → scale_list_after s row list ≡ list
  pub improve_row : (k : Moves) (y : Merit) (limit : ℕ) (row : List ℕ) (r : Refusal)
      → improve_outcome s k y limit row ≡ refused r → improve_row_after s k y limit row ≡ row

-- exactly the tie-keeping orders that have the total t, which none exceeds, once each and in label order
pub record Listing (n : ℕ) (p : ℕ → ℕ → ℕ) (tied : ℕ → ℕ → Bool) (y : Merit) (t : List ℤ) (orders : List (List ℕ)) : Type 0 where
  pub some : 0 < length orders
  pub listed : (i : ℕ) → i < length orders
      → Order n (slice_index_or orders i []) × (Keeps tied (slice_index_or orders i []) × (total y p n 0 (slice_index_or orders i []) ≡ t))
  pub all : (o : List ℕ) → Order n o → Keeps tied o → total y p n 0 o ≡ t
      → (i : ℕ) × ((i < length orders) × (slice_index_or orders i [] ≡ o))
  pub none_exceeds : (o : List ℕ) → Order n o → Keeps tied o → y.exceeds (total y p n 0 o) t ≡ false
  pub in_label_order : (i k : ℕ) → i < k → k < length orders → earlier (slice_index_or orders i []) (slice_index_or orders k []) ≡ true

-- r has the total t, the count of the orders, and the k-th of them
pub record Numbered (t : List ℤ) (orders : List (List ℕ)) (k : ℕ) (r : RankAnswer) : Type 0 where
  pub total : r.total ≡ t
  pub count : r.count ≡ length orders
  pub low : 1 ≤ k
  pub high : k ≤ length orders
  pub order : r.order ≡ slice_index_or orders (k - 1) []

-- the first number of a total
abbrev pub first : List ℤ → ℤ
first [] = pos 0
first (x ∷ xs) = x

module _ (n : ℕ) (calls : List Call) where
  -- the marks that stand, as numbers
  abbrev pub marks_now : ℕ → ℕ → ℕ
  marks_now a b = value (last_mark n calls a b)

  -- every pair has a number
  abbrev pub NoGap : Type 0
  NoGap =
      (a b : ℕ) → label n a ≡ true → label n b ≡ true → (a ≢ b) → (d : ℕ) × (last_mark n calls a b ≡ Number d)

  -- no tie stands
  abbrev pub NoTies : Type 0
  NoTies = (a b : ℕ) → last_tie n calls a b ≡ false

  -- a Rank with this yardstick and number, on some tables and row, is accepted and answers r
  pub record Ranks (y : Merit) (k : ℕ) (r : RankAnswer) : Type 0 where
    pub totals : List (List ℤ)
    pub counts : List ℕ
    pub row : List ℕ
    pub outcome : rank_outcome (run n calls) y k totals counts row ≡ accepted r

  -- a Scale of this row, on some list, is accepted and answers c
  pub record Scales (row : List ℕ) (c : ScaleAnswer) : Type 0 where
    pub list : List ℤ
    pub outcome : scale_outcome (run n calls) row list ≡ accepted c

  -- o is the order that some accepted Rank answers
  pub record Answered (y : Merit) (o : List ℕ) : Type 0 where
    pub number : ℕ
    pub answer : RankAnswer
    pub ranks : Ranks y number answer
    pub order : answer.order ≡ o

  -- The best tie-keeping orders are those that are answered: with a number from 1 to the count, the one at that place,
  -- always with the same total and count.
  pub record Ranked (y : Merit) (t : List ℤ) : Type 0 where
    pub orders : List (List ℕ)
    pub listing : Listing n marks_now (last_tie n calls) y t orders
    pub answers : (k : ℕ) (r : RankAnswer) → Ranks y k r → Numbered t orders k r
    pub each : (k : ℕ) → 1 ≤ k → k ≤ length orders → (r : RankAnswer) × Ranks y k r

  -- What holds after the calls. Each number that is answered is by the marks and ties of the calls.
  pub record Promised : Type 0 where
    pub units : (run n calls).units ≡ n
    pub marks : (a b : ℕ) → (run n calls).mark a b ≡ last_mark n calls a b
    pub ties : (a b : ℕ) → (run n calls).tied a b ≡ last_tie n calls a b
    pub told : Told n calls (run n calls)
    pub unchanged : Unchanged (run n calls)
    -- no call answers from the marks where a pair is a gap
    pub measured : (c : Call) → asks c ≡ true → refusal (run n calls) c ≡ None → NoGap
    -- for every lawful yardstick, accepted Ranks answer the best tie-keeping orders
    pub ranks : (y : Merit) → Lawful y → (k : ℕ) (r : RankAnswer) → Ranks y k r → Ranked y r.total
    -- by spread and without ties, no placing at fractions misfits less than a listed order at Scale's coordinates
    pub line : NoTies → (o : List ℕ) (c : ScaleAnswer) → Answered spread o → Scales o c → (x : ℕ → Fraction) → Placing n x
        → AtMost (misfits marks_now n (placed_at n o c.displaced)) (misfits marks_now n x)
    -- and the loss that Scale answers, over n, is its sum of squared misfits
    pub loss : NoTies → (o : List ℕ) (c : ScaleAnswer) → Answered spread o → Scales o c
        → AtMost (record { over = c.loss; under = n }) (misfits marks_now n (placed_at n o c.displaced))
        × AtMost (misfits marks_now n (placed_at n o c.displaced)) (record { over = c.loss; under = n })
    -- by gradient, where some tie-keeping order is anti-Robinson, those are the orders listed
    pub pattern : NoGap → (o : List ℕ) → Order n o → Keeps (last_tie n calls) o → AntiRobinson marks_now o
        → (q : List ℕ) → Order n q → Answered gradient q ↔ (Keeps (last_tie n calls) q × AntiRobinson marks_now q)
    -- by spread or target, the moves made are at most the total gained
    pub gains : (y : Merit) → (y ≡ spread) ⊎ (y ≡ target) → (k : Moves) → LawfulMoves k
        → (limit : ℕ) (row : List ℕ) (r : ImproveAnswer) → improve_outcome (run n calls) k y limit row ≡ accepted r
        → (pos r.made +ℤ first (total y marks_now n 0 (take n row))) ≤ℤ first r.total

-- what holds of every sheet that is opened, after any list of calls
abbrev pub Promise : Type 0
Promise = (n : ℕ) → 2 ≤ n → n ≤ 20 → (calls : List Call) → Promised n calls
