use Rattle.issuing.proofs.ElementLemmas.{part_bytes, value_is_read, value_nesting}
use Rattle.issuing.proofs.items.value_of.Goals as goal

pub returns : goal.returns
returns c = record {
  bytes = part_bytes c.args.element.now.value _ (rw c.as_slice.ensures at c.in-Ok.ensures.whole);
  nesting = value_nesting c.args.element.now _ c.requires (rw c.as_slice.ensures at c.in-Ok.ensures.read);
}

pub unreachable-requires : goal.unreachable-requires
unreachable-requires c = value_is_read c.args.element.now _ c.requires (rw c.as_slice.ensures at c.in-Err.ensures.read)
