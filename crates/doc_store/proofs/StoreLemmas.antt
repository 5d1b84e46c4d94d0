-- Small cases of stores, by computing.
use Rattle.std.proofs.Common.{◌≡◌, Some, [], refl}
use lib.Utf8.{encode}
use Rattle.std.specs.Str.{is_utf8, chars}
use Rattle.cbor_view.specs.Reading.{head_at, items_at, pairs_at, item_at, inner, reads, tree_of, size}
use Rattle.cbor_view.specs.Parts.{parts_at, entries_at}
use Rattle.cbor_maps.specs.Reading.{entry}
use Rattle.doc_store.specs.Store.{store}
use Rattle.doc_store.specs.declared.laws.TheConstants.{EMPTY_STORE}

-- the empty store is a store
pub store_empty : store EMPTY_STORE ≡ Some []
unfolding store entry head_at items_at pairs_at item_at inner reads tree_of size parts_at entries_at is_utf8 chars encode
store_empty = refl
