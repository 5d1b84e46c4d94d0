-- What contracts see of a copy that was read.
use Rattle.std.specs.Prelude.{[], false, unwrap_or}
use Rattle.cbor_view.specs.Parts.{Part}
use Rattle.cbor_view.specs.View.{part}
use Rattle.doc_store.specs.declared.stored_copy.StoredCopy.{StoredCopy}
use Rattle.doc_store.specs.Store.{Copy, copy}

-- what no copy says
abbrev pub no_copy : Copy
no_copy = record { key = 0; used = false; issuer_auth = []; items = [] }

-- the copy that its bytes spell
abbrev pub copy_of : StoredCopy → Copy
copy_of c = unwrap_or (copy (part c.stored)) no_copy

-- the part of the file that it is
abbrev pub copy_part : StoredCopy → Part
copy_part c = part c.stored
