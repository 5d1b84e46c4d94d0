use Rattle.cbor_view.specs.Items.{left}
use Rattle.cbor_view.specs.View.{part}
use Rattle.doc_store.proofs.HeldItems.{beside_parts}
use Rattle.doc_store.proofs.copy_items.open_space.Goals as goal
use Rattle.std.proofs.Common.{sym}

pub returns : goal.returns
returns c =
    beside_parts (part c.args.name.now) (part c.args.list.now) c.in-Some-Some.own.now (left c.in-Some-Some.items) (sym c.in-Some-Some.ensures) (sym c.in-Some-Some.ensures'.place) c.requires
