use Rattle.std.proofs.Common.{◌≡◌, drop, map}
use Rattle.std.specs.List.{list_any}
use Rattle.doc_response.specs.AnsweredView.{element_seen}
use Rattle.doc_response.specs.Draft.{is_element}
use Rattle.doc_response.proofs.response_draft.is_missing.Given as goal

-- the elements that are left decide
abbrev pub invariant-loop-element : goal.invariant-loop-element
invariant-loop-element l =
    list_any (is_element l.ns l.name) (map element_seen (drop l.element-index l.missing)) ≡ list_any (is_element l.ns l.name) (map element_seen l.missing)
