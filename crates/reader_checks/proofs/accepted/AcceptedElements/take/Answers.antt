use Rattle.std.proofs.Common.{None}
use Rattle.std.specs.Str.{bytes_eq}
use Rattle.reader_checks.specs.ElementNames.{has_element, has_name_in_some}
use Rattle.reader_checks.proofs.NameSets.{one_changed, taken_out}
use Rattle.reader_checks.proofs.accepted.AcceptedElements.take.Goals as goal

pub returns-in-Some-clause-left : goal.returns-in-Some-clause-left
returns-in-Some-clause-left c = λ wanted. taken_out (bytes_eq c.args.doc_type.now wanted.doc_type) (has_element c.args.self.now wanted) _
    (one_changed (λ found. has_name_in_some found wanted.ns wanted.name) c.args.self.now.types c.remove.new.self c.args.doc_type.now None c.remove.ensures.updates wanted.doc_type)
