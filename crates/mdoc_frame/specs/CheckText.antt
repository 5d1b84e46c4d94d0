-- The texts of what is wrong with a file.
use Rattle.std.specs.Prelude.{ℕ, List, ◌++◌, codes}
use Rattle.std.specs.Fmt.{decimal}
use Rattle.cbor_view.specs.declared.cbor_kind.CborKind.{CborKind}
use Rattle.cbor_view.specs.declared.cbor_kind.CborKind.TheVariants as kinds
use Rattle.issuer_items.specs.declared.item_fault.ItemFault.{ItemFault}
use Rattle.issuer_items.specs.declared.item_fault.ItemFault.TheVariants as items
use Rattle.doc_store.specs.declared.store_check.StoreCheck.{StoreCheck}
use Rattle.doc_store.specs.declared.store_check.StoreCheck.TheVariants as stores
use Rattle.issue_spec.specs.declared.spec_check.SpecCheck.{SpecCheck}
use Rattle.issue_spec.specs.declared.spec_check.SpecCheck.TheVariants as specs
use Rattle.mdl_table.specs.declared.row_fault.RowFault.{RowFault}
use Rattle.mdl_table.specs.declared.row_fault.RowFault.TheVariants as rows
use Rattle.mdoc_outside.specs.KeyName.{key_text}
use Rattle.mdoc_outside.specs.LimitName.{limit_text}
use Rattle.mdoc_frame.specs.declared.form_check.FormCheck.{FormCheck}
use Rattle.mdoc_frame.specs.declared.form_check.FormCheck.TheVariants.{Line, Spec, Store}

abbrev pub kind_text : CborKind → List ℕ
kind_text kinds.Truncated = codes "Truncated"
kind_text kinds.Reserved = codes "Reserved"
kind_text kinds.Chunked = codes "Chunked"
kind_text kinds.Indefinite = codes "Indefinite"
kind_text kinds.Length = codes "Length"
kind_text kinds.Deep = codes "Deep"
kind_text kinds.BadText = codes "BadText"
kind_text kinds.Trailing = codes "Trailing"

-- a fault inside a stored item, by its name alone
abbrev pub item_fault_text : ItemFault → List ℕ
item_fault_text items.NotTagged = codes "NotTagged"
item_fault_text (items.Cbor found) = codes "Cbor"
item_fault_text (items.Doubled key) = codes "Doubled"
item_fault_text (items.Field key) = codes "Field"

abbrev pub store_check_text : StoreCheck → List ℕ
store_check_text (stores.Cbor kind) = codes "Cbor " ++ kind_text kind
store_check_text (stores.Field key) = codes "Field " ++ key_text key
store_check_text stores.Version = codes "Version"
store_check_text stores.Doubled = codes "Doubled"
store_check_text (stores.Item found) = codes "Item " ++ item_fault_text found
store_check_text (stores.Limit limit number) = codes "Limit " ++ limit_text limit ++ codes " " ++ decimal number

-- what is wrong with the value of an element
abbrev pub row_fault_text : RowFault → List ℕ
row_fault_text rows.KindWrong = codes "KindWrong"
row_fault_text rows.DateWrong = codes "DateWrong"
row_fault_text rows.RangeWrong = codes "RangeWrong"

abbrev pub spec_check_text : SpecCheck → List ℕ
spec_check_text specs.Line = codes "Line"
spec_check_text (specs.Row found) = codes "Row " ++ row_fault_text found
spec_check_text (specs.Missing number) = codes "Missing " ++ decimal number
spec_check_text specs.Order = codes "Order"
spec_check_text (specs.Limit limit number) = codes "Limit " ++ limit_text limit ++ codes " " ++ decimal number

abbrev pub check_text : FormCheck → List ℕ
check_text Line = codes "Line"
check_text (Store check) = store_check_text check
check_text (Spec check) = spec_check_text check
