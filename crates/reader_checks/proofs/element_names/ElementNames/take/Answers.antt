use Rattle.std.proofs.Common.{None}
use Rattle.std.specs.Str.{bytes_eq}
use Rattle.reader_checks.specs.ElementNames.{has_name, is_in_some}
use Rattle.reader_checks.proofs.NameSets.{one_changed, taken_out}
use Rattle.reader_checks.proofs.element_names.ElementNames.take.Goals as goal

pub returns-in-Some-clause-left : goal.returns-in-Some-clause-left
returns-in-Some-clause-left c = λ own name. taken_out (bytes_eq c.args.ns.now own) (has_name c.args.self.now own name) _
    (one_changed (λ found. is_in_some found name) c.args.self.now.namespaces c.remove.new.self c.args.ns.now None c.remove.ensures.updates own)
