-- What is wrong with a stored item that is whole, against the reading of it.
use Rattle.std.proofs.Common.{◌≡◌, ℕ, ◌&&◌, List, length, Option, Result, Ok, Err, refl, sym, ◌∙◌}
use Rattle.std.specs.Prelude.{is_some, nat_le}
use Rattle.cbor_view.specs.PartialItem.{whole}
use Rattle.cbor_view.specs.Parts.{Part}
use Rattle.cbor_view.proofs.ReadParts.{IsRead}
use Rattle.mdoc_outside.specs.declared.limit_name.LimitName.TheVariants as limits
use Rattle.mdoc_outside.specs.OptionSteps.{◌>>=◌, where_true}
use Rattle.issuer_items.specs.Item.{Item, item as issuer_item}
use Rattle.issuer_items.specs.declared.item_fault.ItemFault.{ItemFault}
use Rattle.doc_store.specs.Item.{if_item, item}
use Rattle.doc_store.specs.declared.store_check.StoreCheck.TheVariants as checks
use Rattle.doc_store.specs.Store.{named_item}
use Rattle.doc_store.specs.Faults.{fault, name_limit, value_limit, whole_item, item_faults}
use Rattle.doc_store.proofs.CleanLaw.{is_clean, and_same, clean_joined, clean_unless, some_where}

abbrev named_by : List ℕ → Option Item → Option (List ℕ × List ℕ)
named_by bytes o = o >>= λ read. where_true (nat_le (length read.name) 128 && nat_le (length read.value) 262144) (read.name, bytes)

clean_whole : (p : Part) (r : Result Item ItemFault) → is_clean (whole_item (whole p) r) ≡ is_some (named_by p.bytes (if_item r))
clean_whole p (Ok read) =
    clean_joined (name_limit (whole p) read.name) (value_limit (whole p) (length read.value))
    ∙ and_same _ _ _ _ (clean_unless (nat_le (length read.name) 128) (fault (checks.Limit limits.Name (length read.name)) (whole p)))
    (clean_unless (nat_le (length read.value) 262144) (fault (checks.Limit limits.Value (length read.value)) (whole p)))
    ∙ sym (some_where (nat_le (length read.name) 128 && nat_le (length read.value) 262144) (read.name, p.bytes))
clean_whole p (Err f) = refl

-- nothing is wrong with an item exactly where it is read, within the limits
pub clean_item : (p : Part) → IsRead p → is_clean (item_faults (whole p)) ≡ is_some (named_item p)
unfolding item
clean_item p read = clean_whole p (issuer_item p.bytes)
