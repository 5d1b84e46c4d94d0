use Rattle.std.proofs.Common.{Some, ap, ◌∙◌}
use Rattle.std.proofs.lemmas.Slice.Eq.{bytes_eq-Decides}
use Rattle.std.specs.Str.{bytes_eq}
use Rattle.reader_checks.specs.ElementNames.{has_name, is_in, is_in_some}
use Rattle.reader_checks.proofs.NameSets.{one_changed, one_named, put_back}
use Rattle.reader_checks.proofs.element_names.ElementNames.add.Goals as goal

pub returns : goal.returns
returns c = λ own other. put_back c.args.ns.now own (has_name c.args.self.now own other) (has_name c.take-names.new.self own other) _
    (is_in c.insert.new.self other) (bytes_eq c.args.name.now other) (is_in c.take-names.result other)
    (λ e. c.take-names.ensures.taken other ∙ ap (λ ns. has_name c.args.self.now ns other) ((bytes_eq-Decides c.args.ns.now own).0 e))
    (c.take-names.ensures.left own other) (one_named c.take-names.result c.insert.new.self c.args.name c.in_ok-insert.ensures.updates other)
    (one_changed (λ found. is_in_some found other) c.take-names.new.self.namespaces c.insert-2.new.self c.args.ns.now (Some c.insert.new.self) c.in_ok-insert-2.ensures.updates own)
