-- What contracts see of a copy that is to be written.
use Rattle.std.specs.Prelude.{map}
use Rattle.doc_response.specs.AnsweredView.{item_seen}
use Rattle.doc_store.specs.Store.{Copy}
use Rattle.store_write.specs.declared.copy_draft.CopyDraft.{CopyDraft}

abbrev pub copy_seen : CopyDraft → Copy
copy_seen copy = record { key = copy.key; used = copy.used; issuer_auth = copy.issuer_auth.now; items = map item_seen copy.items.now }
