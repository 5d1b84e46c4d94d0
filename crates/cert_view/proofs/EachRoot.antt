-- Reading the lines of a roots file one after another, as a loop does.
use Rattle.std.proofs.Common.{◌≡◌, ℕ, suc, ◌-◌, ◌<◌, ◌≤◌, List, [], ◌∷◌, ◌++◌, length, take, Result, Ok, Err, refl, sym, ap, ◌∙◌, arith, length-append, false}
use Rattle.std.specs.Prelude.{nat_le}
use Rattle.std.proofs.lemmas.Bool.Decides.{nat_tests}
use Rattle.mdoc_outside.specs.Lines.{Line}
use Rattle.mdoc_outside.specs.ResultSteps.{◌>>=◌, each}
use Rattle.mdoc_outside.proofs.EachStep.{with_front, regroup}
use Rattle.cert_view.specs.RootLine.{Listed}
use Rattle.cert_view.specs.Roots.{line_root, within_limit, IsRootsFault}
use Rattle.cert_view.specs.declared.roots_fault.RootsFault.{RootsFault}
use Rattle.cert_view.specs.declared.roots_fault.RootsFault.TheVariants as faults

-- with the roots before them, what the lines give: so many of them as there are roots missing to 65
abbrev pub read_on : List Listed → List Line → Result (List Listed) RootsFault
read_on front lines = with_front front (each line_root (take (65 - length front) lines)) >>= within_limit

-- ---- one line more

-- what a line says, before so many others
abbrev and_others : ℕ → List Line → Result Listed RootsFault → Result (List Listed) RootsFault
and_others count lines said = said >>= λ root. each line_root (take count lines) >>= λ others. Ok (root ∷ others)

abbrev after_front : List Listed → ℕ → List Line → Result Listed RootsFault → Result (List Listed) RootsFault
after_front front count lines said = with_front front (and_others count lines said) >>= within_limit

first_line : (front : List Listed) (line : Line) (lines : List Line) (count : ℕ) → 65 - length front ≡ suc count →
    read_on front (line ∷ lines) ≡ after_front front count lines (line_root line)
first_line front line lines count same = ap (λ (n : ℕ). with_front front (each line_root (take n (line ∷ lines))) >>= within_limit) same

pub read_on-bad : (front : List Listed) (line : Line) (lines : List Line) (fault : RootsFault) →
    line_root line ≡ Err fault → length front ≤ 64 → read_on front (line ∷ lines) ≡ Err fault
read_on-bad front line lines fault said few =
    first_line front line lines (64 - length front) (omega arith)
    ∙ ap (after_front front (64 - length front) lines) said

pub read_on-next : (front : List Listed) (line : Line) (lines : List Line) (root : Listed) →
    line_root line ≡ Ok root → length front < 64 → read_on front (line ∷ lines) ≡ read_on (front ++ root ∷ []) lines
read_on-next front line lines root said few =
    let count = 64 - length front in
    let left : 65 - length (front ++ root ∷ []) ≡ count = omega (arith, length-append front (root ∷ [])) in
    first_line front line lines count (omega arith)
    ∙ ap (after_front front count lines) said
    ∙ ap (λ (r : Result (List Listed) RootsFault). r >>= within_limit) (regroup front root (each line_root (take count lines)))
    ∙ ap (λ (n : ℕ). with_front (front ++ root ∷ []) (each line_root (take n lines)) >>= within_limit) (sym left)

over_limit : (roots : List Listed) → 64 < length roots → within_limit roots ≡ Err (faults.TooMany 65)
over_limit roots many =
    let over : nat_le (length roots) 64 ≡ false = grind (arith, nat_tests) in
    rw over refl

pub read_on-full : (front : List Listed) (line : Line) (lines : List Line) (root : Listed) →
    line_root line ≡ Ok root → length front ≡ 64 → read_on front (line ∷ lines) ≡ Err (faults.TooMany 65)
read_on-full front line lines root said full =
    first_line front line lines 0 (omega arith)
    ∙ ap (after_front front 0 lines) said
    ∙ over_limit (front ++ root ∷ []) (omega (arith, length-append front (root ∷ [])))

-- ---- no line more

-- the fault of a line is that of the reading
pub read_on-fault : (front : List Listed) (line : Line) (lines : List Line) (fault : RootsFault) →
    IsRootsFault fault (line_root line) → length front ≤ 64 → IsRootsFault fault (read_on front (line ∷ lines))
read_on-fault front line lines (faults.Line number) said few = read_on-bad front line lines (faults.Line number) said few
read_on-fault front line lines (faults.TooMany number) said few = read_on-bad front line lines (faults.TooMany number) said few
read_on-fault front line lines faults.Memory said few = tt
