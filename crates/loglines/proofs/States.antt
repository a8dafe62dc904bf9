-- Reading line after line: what each turn keeps, and that the readings are the only ones.
use Rattle.std.proofs.Common.{◌≡◌, ℕ, ◌+◌, ◌^◌, ◌<◌, Bool, false, List, [], ◌∷◌, ◌++◌, length, get_or, take, Ok, Err, sym, refl, ap, ◌∙◌, subst, Bor}
use Rattle.std.specs.List.{fold}
use Rattle.std.proofs.lemmas.List.{take_more, map-append}
use Rattle.std.proofs.lemmas.List.Sums.{fold-append}
use Rattle.loglines.specs.declared.command.Command.{Command}
use Rattle.loglines.specs.declared.command.Command.TheVariants.{Open, Pair, Tie, Untie, Rank}
use Rattle.loglines.specs.declared.fault.LogFault.TheVariants as fault
use Rattle.loglines.specs.Text.{Form, Numbers, Short}
use Rattle.loglines.specs.Lines.{texts}
use Rattle.loglines.specs.Readings.{Reading, Sized, Reads, open_after, Readings, OneReading}
use Rattle.loglines.specs.Spelled.{short_fits, mark_fits}
use Rattle.loglines.proofs.Commands.{one_command}
use Rattle.loglines.proofs.Feeds.{one_cut}

-- whether a sheet is open after some readings
abbrev pub opened_by : Bool → List Reading → Bool
opened_by o rs = fold open_after o rs

pub readings_snoc : (o : Bool) (ls : List (List ℕ)) (rs : List Reading) (l : List ℕ) (r : Reading) → Readings o ls rs → Reads (opened_by o rs) l r → Readings o (ls ++ (l ∷ [])) (rs ++ (r ∷ []))
readings_snoc o [] [] l r h k = (k, tt)
readings_snoc o [] (q ∷ rs) l r h k = absurd h
readings_snoc o (m ∷ ls) [] l r h k = absurd h
readings_snoc o (m ∷ ls) (q ∷ rs) l r h k = (h.0, readings_snoc (open_after o q) ls rs l r h.1 k)

-- one line more is read
pub read_more : (lines : List (Bor (List ℕ))) (d : Bor (List ℕ)) (i : ℕ) (rs after : List Reading) (r : Reading) (o p : Bool)
    → i < length lines → Readings false (texts (take i lines)) rs × (o ≡ opened_by false rs) → Reads o (get_or lines i d).now r
    → after ≡ rs ++ (r ∷ []) → p ≡ open_after o r → Readings false (texts (take (i + 1) lines)) after × (p ≡ opened_by false after)
read_more lines d i rs after r o p lt inv reads pushed is =
    let one = ap texts (take_more lines i d lt) ∙ map-append (λ l. l.now) (take i lines) (get_or lines i d ∷ []) in
    let read = readings_snoc false (texts (take i lines)) rs (get_or lines i d).now r inv.0 (subst (λ b. Reads b (get_or lines i d).now r) inv.1 reads) in
    let back = sym one in
    let made = sym pushed in (
      subst (λ ls. Readings false ls after) back (subst (Readings false _) made read),
      is ∙ ap (λ b. open_after b r) inv.1 ∙ sym (fold-append open_after false rs (r ∷ [])) ∙ ap (opened_by false) made,
    )

numbers_fit : (c : Command) → Numbers Short c → Numbers (λ n. n < 2 ^ 64) c
numbers_fit (Open n) h = short_fits n h
numbers_fit (Pair a b m) h = (short_fits a h.0, short_fits b h.1, mark_fits m h.2)
numbers_fit (Tie a b) h = (short_fits a h.0, short_fits b h.1)
numbers_fit (Untie a b) h = (short_fits a h.0, short_fits b h.1)
numbers_fit (Rank y k) h = short_fits k h

-- a line asks for one command
pub form_same : (l : List ℕ) (o : Bool) (c d : Command) → Form l o c → Form l o d → c ≡ d
form_same l o c d h k = one_command c d (numbers_fit c h.numbers) (numbers_fit d k.numbers) (sym h.text ∙ k.text)

reads_same : (o : Bool) (l : List ℕ) (r q : Reading) → Reads o l r → Reads o l q → r ≡ q
reads_same o l (Ok c) (Ok d) h k = ap Ok (form_same l o c d h.0 k.0)
reads_same o l (Ok c) (Err fault.Size) h k = absurd (k.2 (subst Sized (form_same l o c k.0 h.0 k.1) h.1))
reads_same o l (Ok c) (Err fault.Form) h k = absurd (k c h.0)
reads_same o l (Ok c) (Err fault.Long) h k = absurd k
reads_same o l (Err fault.Size) (Ok d) h k = absurd (h.2 (subst Sized (form_same l o d h.0 k.0 h.1) k.1))
reads_same o l (Err fault.Size) (Err fault.Size) h k = refl
reads_same o l (Err fault.Size) (Err fault.Form) h k = absurd (k h.0 h.1)
reads_same o l (Err fault.Size) (Err fault.Long) h k = absurd k
reads_same o l (Err fault.Form) (Ok d) h k = absurd (h d k.0)
reads_same o l (Err fault.Form) (Err fault.Size) h k = absurd (h k.0 k.1)
reads_same o l (Err fault.Form) (Err fault.Form) h k = refl
reads_same o l (Err fault.Form) (Err fault.Long) h k = absurd k
reads_same o l (Err fault.Long) q h k = absurd h

readings_same : (o : Bool) (ls : List (List ℕ)) (rs qs : List Reading) → Readings o ls rs → Readings o ls qs → rs ≡ qs
readings_same o [] [] [] h k = refl
readings_same o [] [] (q ∷ qs) h k = absurd k
readings_same o [] (r ∷ rs) qs h k = absurd h
readings_same o (l ∷ ls) [] qs h k = absurd h
readings_same o (l ∷ ls) (r ∷ rs) [] h k = absurd k
readings_same o (l ∷ ls) (r ∷ rs) (q ∷ qs) h k =
    let here = reads_same o l r q h.0 k.0 in
    let more = readings_same (open_after o r) ls rs qs h.1 (subst (λ x. Readings (open_after o x) ls qs) (sym here) k.1) in
    λ i. here i ∷ more i

pub one_reading : OneReading
one_reading input rs qs h k =
    readings_same false k.lines rs qs (subst (λ ls. Readings false ls rs) (one_cut input h.lines k.lines h.cut k.cut) h.read) k.read
