use Rattle.std.proofs.Common.{refl}
use lib.Utf8.{encode}
use Rattle.std.specs.Str.{is_utf8, chars}
use Rattle.cbor_view.specs.Parts.{parts_at, entries_at}
use Rattle.cbor_view.specs.Reading.{head_at, inner, item_at, items_at, pairs_at, reads, size, tree_of}
use Rattle.cbor_maps.specs.Reading.{entry}
use Rattle.issuer_items.specs.Item.{item as issuer_item}
use Rattle.doc_store.specs.Item.{item}
use Rattle.doc_store.specs.Store.{store}
use Rattle.doc_response.specs.Answered.{document_error, errors_map, items_map}
use Rattle.mdoc_draft.specs.Core.{core_bytes, document_bytes}
use Rattle.mdoc_draft.proofs.laws.denied_is_as_absent.Goals as goal

pub returns : goal.returns
unfolding chars core_bytes document_bytes document_error encode entries_at entry errors_map head_at inner is_utf8 issuer_item item item_at items_at items_map pairs_at parts_at reads size store tree_of
returns c = refl
