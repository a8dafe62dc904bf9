-- The report on a whole log.
use Rattle.std.specs.Prelude.{◌≡◌, ℕ, suc, ◌<◌, ◌⊎◌, List, [], ◌∷◌, ◌++◌, length, codes, decimal}
use Rattle.loglines.specs.declared.fault.LogFault.{LogFault}
use Rattle.loglines.specs.declared.fault.LogFault.TheVariants.{Long}
use Rattle.loglines.specs.Faults.{number_of}
use Rattle.loglines.specs.Readings.{Reading, LogRead}
use Rattle.logreport.specs.declared.count.Kind.{Kind}
use Rattle.logreport.specs.Counts.{kinds, kind_words, count_of}
use Rattle.logreport.specs.Said.{said}

-- a line for each reading, the first of them with the number n
abbrev pub listing : ℕ → List Reading → List ℕ
listing n [] = []
listing n (r ∷ rs) = said n r ++ (10 ∷ listing (suc n) rs)

-- a line for each of some kinds: its name, and how many readings are of it
abbrev pub totals : List Kind → List Reading → List ℕ
totals [] rs = []
totals (k ∷ ks) rs = kind_words k ++ (32 ∷ (decimal (count_of k rs) ++ (10 ∷ totals ks rs)))

-- the end of a report: how many lines there are, and how many of each kind
abbrev pub summary : List Reading → List ℕ
summary rs = codes "lines read " ++ (decimal (length rs) ++ (10 ∷ totals kinds rs))

-- the one line on a log that is refused whole
abbrev pub refusal : LogFault → List ℕ
refusal f = codes "line 0 refused " ++ (decimal (number_of f) ++ (10 ∷ []))

-- the report on a log that is read is the listing of its lines and the summary; that on a log that is too long is one refusal
abbrev pub Reported : List ℕ → List ℕ → Type 0
Reported input out =
    ((rs : List Reading) × LogRead input rs × (out ≡ listing 1 rs ++ summary rs))
    ⊎ ((32768 < length input) × (out ≡ refusal Long))

-- a log has one report
abbrev pub OneReport : Type 0
OneReport = (input a b : List ℕ) → Reported input a → Reported input b → a ≡ b
