use Rattle.std.proofs.Common.{◌≡◌, ◌∙◌, ℕ, List, ap, length, arith}
use Rattle.std.specs.Borrow.{Bor}
use Rattle.std.proofs.lemmas.List.{length-map, take_all}
use Rattle.doc_response.specs.AnsweredView.{text_seen}
use Rattle.doc_response.specs.Namespaces.{texts}
use Rattle.issuing.proofs.GroupLemmas.{map_written}
use Rattle.issuing.proofs.grouped_items.put_grouped_items.Goals as goal

pub returns : goal.returns
returns c =
    let spaces = c.deref-ns-items.result.now in
    let all = take_all c.loop-ns.ns-index spaces c.loop-ns-test.false in
    let seen = length-map spaces text_seen in
    let same = ap (λ (xs : List (Bor (List ℕ))). length xs) c.deref-ns-items.ensures.value in
    let as_many : c.in_ok-count_of.field-0 ≡ length (texts spaces) = omega (arith, seen, same) in
    map_written c.args.elements.now c.args.salts.now (texts spaces) c.args.build.now _ _ c.in_ok-count_of.field-0 c.requires.salts
    (ap texts c.deref-ns-items.ensures.value ∙ c.in_ok-spaces.ensures) as_many c.in_ok-map.ensures.ok (rw all at c.loop-ns.invariant)
