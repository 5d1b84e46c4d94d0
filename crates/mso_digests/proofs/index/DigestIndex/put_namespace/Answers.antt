use Rattle.std.proofs.Common.{Some, ap, ◌∙◌}
use Rattle.std.proofs.lemmas.Slice.Eq.{bytes_eq-Decides}
use Rattle.cbor_view.specs.Pairs.{pairs_left}
use Rattle.mso_digests.specs.Indexed.{indexed, numbered}
use Rattle.mso_digests.specs.Nested.{under_number}
use Rattle.mso_digests.proofs.IndexedDigests.{one_changed, put_back}
use Rattle.mso_digests.proofs.index.DigestIndex.put_namespace.Goals as goal

pub returns : goal.returns
returns c = λ ns id. put_back c.args.name.now ns (indexed c.args.self.now ns id) (indexed c.take-numbers.new.self ns id) _
    (numbered c.put_digests.new.numbers id) (under_number id (pairs_left c.args.digests)) (numbered c.take-numbers.result id)
    (λ e. c.take-numbers.ensures.taken id ∙ ap (λ name. indexed c.args.self.now name id) ((bytes_eq-Decides c.args.name.now ns).0 e))
    (c.take-numbers.ensures.left ns id) (c.in_ok-put_digests.ensures id)
    (one_changed c.take-numbers.new.self.namespaces c.insert.new.self c.args.name.now (Some c.put_digests.new.numbers) c.in_ok-insert.ensures.updates ns id)
