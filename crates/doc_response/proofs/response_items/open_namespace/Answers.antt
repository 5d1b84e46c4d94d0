use Rattle.std.proofs.Common.{sym}
use Rattle.cbor_view.specs.Items.{left}
use Rattle.cbor_view.specs.View.{part}
use Rattle.doc_response.proofs.Opened.{opened}
use Rattle.doc_response.proofs.response_items.open_namespace.Goals as goal

pub returns : goal.returns
returns c =
    opened (part c.args.name.now) (part c.args.list.now) c.in-Some-Some.own.now (left c.in-Some-Some.items) (sym c.in-Some-Some.ensures) (sym c.in-Some-Some.ensures'.place)
