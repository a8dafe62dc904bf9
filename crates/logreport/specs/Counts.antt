-- How many lines of a log are of each kind.
use Rattle.std.specs.Prelude.{◌≡◌, ℕ, ◌+◌, List, [], ◌∷◌, length, Ok, Err, codes, count_by, ◌==◌}
use Rattle.loglines.specs.declared.command.Mark.TheVariants as mark
use Rattle.loglines.specs.declared.command.Command.TheVariants as command
use Rattle.loglines.specs.Readings.{Reading}
use Rattle.logreport.specs.declared.count.Kind.{Kind}
use Rattle.logreport.specs.declared.count.Kind.TheVariants.{Opening, Number, Gap, Tie, Untie, Ranking, Refusal}

abbrev pub kind_of : Reading → Kind
kind_of (Ok (command.Open n)) = Opening
kind_of (Ok (command.Pair a b (mark.Number d))) = Number
kind_of (Ok (command.Pair a b mark.Gap)) = Gap
kind_of (Ok (command.Tie a b)) = Tie
kind_of (Ok (command.Untie a b)) = Untie
kind_of (Ok (command.Rank y k)) = Ranking
kind_of (Err f) = Refusal

-- a number for each kind, by which kinds are compared
abbrev pub tag : Kind → ℕ
tag Opening = 0
tag Number = 1
tag Gap = 2
tag Tie = 3
tag Untie = 4
tag Ranking = 5
tag Refusal = 6

-- how many readings are of a kind
abbrev pub count_of : Kind → List Reading → ℕ
count_of k rs = count_by (λ r. tag (kind_of r) == tag k) rs

-- the kinds, in the order of a report, and their names there
abbrev pub kinds : List Kind
kinds = Opening ∷ Number ∷ Gap ∷ Tie ∷ Untie ∷ Ranking ∷ Refusal ∷ []

abbrev pub kind_words : Kind → List ℕ
kind_words Opening = codes "sheets opened"
kind_words Number = codes "marks written"
kind_words Gap = codes "gaps"
kind_words Tie = codes "ties"
kind_words Untie = codes "ties taken away"
kind_words Ranking = codes "rankings asked"
kind_words Refusal = codes "refusals"

-- the sum of the counts of some kinds
abbrev pub counted : List Kind → List Reading → ℕ
counted [] rs = 0
counted (k ∷ ks) rs = count_of k rs + counted ks rs

-- every line is counted as one of the seven kinds
abbrev pub EachOnce : Type 0
EachOnce = (rs : List Reading) → counted kinds rs ≡ length rs
