use Rattle.std.proofs.Common.{◌≤◌, ◌∷◌, [], ◌++◌, length, map, sym, ◌∙◌, arith, rules, length-append}
use Rattle.std.proofs.lemmas.List.{length-map, map-append}
use Rattle.mdoc_outside.specs.FileLine.{line}
use Rattle.mdoc_outside.specs.FileLines.{lines_left}
use Rattle.cert_view.specs.Root.{listed}
use Rattle.cert_view.proofs.EachRoot.{read_on-fault, read_on-next, read_on-full}
use Rattle.cert_view.proofs.roots.Roots.read.Goals as goal

pub returns-in_err-root : goal.returns-in_err-root
returns-in_err-root c =
    let so_far = rw c.in-Some.ensures.steps at c.loop-line.invariant.3 in
    let few : length (map listed c.loop-line.roots.items) ≤ 64 = omega (arith, length-map c.loop-line.roots.items listed, c.loop-line.invariant.2) in
    let bad = read_on-fault (map listed c.loop-line.roots.items) (line c.in-Some.line) (lines_left c.next.new.self) c.in_err-root.field-0.0 c.in_err-root.ensures few in
    rw (sym so_far) (search (rules, bad))

pub returns-then-len-ge-MOST_ROOTS : goal.returns-then-len-ge-MOST_ROOTS
returns-then-len-ge-MOST_ROOTS c =
    let so_far = rw c.in-Some.ensures.steps at c.loop-line.invariant.3 in
    let full = read_on-full (map listed c.loop-line.roots.items) (line c.in-Some.line) (lines_left c.next.new.self) (listed c.in_ok-root.root) c.in_ok-root.ensures
    (omega (arith, length-map c.loop-line.roots.items listed, c.loop-line.invariant.2, c.len.ensures, c.if-len-ge-MOST_ROOTS.true)) in
    sym so_far ∙ full

pub loop-line-preserved : goal.loop-line-preserved
loop-line-preserved c =
    let so_far = rw c.in-Some.ensures.steps at c.loop-line.invariant.3 in
    let next = read_on-next (map listed c.loop-line.roots.items) (line c.in-Some.line) (lines_left c.next.new.self) (listed c.in_ok-root.root) c.in_ok-root.ensures
    (omega (arith, length-map c.loop-line.roots.items listed, c.len.ensures, c.if-len-ge-MOST_ROOTS.false)) in
    let more = map-append listed c.loop-line.roots.items (c.in_ok-root.root ∷ []) in
    let few : length (c.loop-line.roots.items ++ c.in_ok-root.root ∷ []) ≤ 64 = omega (arith, length-append c.loop-line.roots.items (c.in_ok-root.root ∷ []), c.len.ensures, c.if-len-ge-MOST_ROOTS.false) in
    (tt, tt, rw c.in_ok-push.ensures.items few, rw (c.in_ok-push.ensures.items, more) (sym next ∙ so_far))
