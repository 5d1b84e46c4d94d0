-- The fields of a document and of a file one by one.
use Rattle.std.specs.Prelude.{ℕ, ◌==◌, List, Bool, Option}
use Rattle.cbor_view.specs.Parts.{Part, uint_in, items_in}
use Rattle.mdoc_outside.specs.declared.key_name.KeyName.TheVariants as keys
use Rattle.mdoc_outside.specs.OptionSteps.{◌>>=◌, where_true}
use Rattle.doc_store.specs.Fields.{field_of}
use Rattle.doc_store.specs.Store.{name_in, is_mac, within}

abbrev pub doc_type_in : Part → Option (List ℕ)
doc_type_in document = field_of keys.DocType name_in document

abbrev pub uses_mac_in : Part → Option Bool
uses_mac_in document = field_of keys.Auth uint_in document >>= is_mac

abbrev pub copies_in : Part → Option (List Part)
copies_in document = field_of keys.Copies items_in document >>= within 1 64

abbrev pub version_in : Part → Option ℕ
version_in file = field_of keys.Version uint_in file >>= λ n. where_true (n == 1) n

abbrev pub documents_in : Part → Option (List Part)
documents_in file = field_of keys.Documents items_in file >>= within 0 16
