-- The fields of a copy one by one.
use Rattle.std.specs.Prelude.{ℕ, ◌^◌, nat_lt, List, Bool, Option, Some}
use Rattle.cbor_view.specs.Parts.{Part, uint_in, boolean_in, items_in, pairs_in}
use Rattle.cbor_maps.specs.Reading.{any_in}
use Rattle.mdoc_outside.specs.declared.key_name.KeyName.TheVariants as keys
use Rattle.mdoc_outside.specs.OptionSteps.{◌>>=◌, where_true}
use Rattle.doc_store.specs.Fields.{field_of}
use Rattle.doc_store.specs.Store.{within}

abbrev pub key_in : Part → Option ℕ
key_in copy = field_of keys.Key uint_in copy >>= λ key. where_true (nat_lt key (2 ^ 32)) key

abbrev pub used_in : Part → Option Bool
used_in copy = field_of keys.Used boolean_in copy

abbrev pub issuer_auth_in : Part → Option Part
issuer_auth_in copy = field_of keys.IssuerAuth any_in copy >>= λ auth. (items_in auth >>= within 4 4) >>= λ parts. Some auth

abbrev pub spaces_in : Part → Option (List (Part × Part))
spaces_in copy = field_of keys.NameSpaces pairs_in copy
