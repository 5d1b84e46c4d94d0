use Rattle.std.proofs.Common.{Some, List, ℕ, ap, ◌∙◌}
use Rattle.std.proofs.lemmas.Slice.Eq.{bytes_eq-Decides}
use Rattle.std.specs.List.{list_any}
use Rattle.verdict_model.specs.Elements.{is_accepted}
use Rattle.reader_checks.specs.ElementNames.{has_element, has_name, has_name_in_some}
use Rattle.reader_checks.proofs.NameSets.{one_changed, put_back}
use Rattle.reader_checks.proofs.accepted.AcceptedElements.add.Goals as goal

pub returns : goal.returns
returns c = λ wanted.
    let doc_type : List ℕ = c.as_slice-doc_type.result.now in
    let same_type = c.as_slice-doc_type.ensures in
    let same_elements = c.as_slice-elements.ensures in
    rw (same_type, same_elements) at (put_back doc_type wanted.doc_type (has_element c.args.self.now wanted) (has_element c.take-names.new.self wanted) _
    (has_name c.add_verdicts.new.names wanted.ns wanted.name) (list_any (is_accepted wanted.ns wanted.name) c.as_slice-elements.result.now) (has_name c.take-names.result wanted.ns wanted.name)
    (λ e. c.take-names.ensures.taken wanted.ns wanted.name ∙ ap (λ (own : List ℕ). has_element c.args.self.now (record { doc_type = own; ns = wanted.ns; name = wanted.name })) ((bytes_eq-Decides doc_type wanted.doc_type).0 e))
    (c.take-names.ensures.left wanted) (c.in_ok-add_verdicts.ensures wanted.ns wanted.name)
    (one_changed (λ found. has_name_in_some found wanted.ns wanted.name) c.take-names.new.self.types c.insert.new.self doc_type (Some c.add_verdicts.new.names) c.in_ok-insert.ensures.updates wanted.doc_type))
