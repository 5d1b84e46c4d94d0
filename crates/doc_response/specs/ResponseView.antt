-- What contracts see of a response that was read, and of what its iterators have left.
use Rattle.std.specs.Prelude.{ℕ, List, [], Bool, is_some, Option, Some, None, unwrap_or, Result, Ok, Err}
use Rattle.cbor_view.specs.declared.items.Items.{Items}
use Rattle.cbor_view.specs.declared.pairs.Pairs.{Pairs}
use Rattle.cbor_view.specs.Items.{left}
use Rattle.cbor_view.specs.Pairs.{pairs_left}
use Rattle.cbor_view.specs.Parts.{Part}
use Rattle.mdoc_outside.specs.OptionSteps.{each}
use Rattle.doc_response.specs.ResponseParts.{namespace, error_of, errors_in}
use Rattle.doc_response.specs.Response.{spread, all_errors}

-- the items of an array, and the pairs of a map, that may be missing
abbrev pub items_or_none : Option Items → List Part
items_or_none None = []
items_or_none (Some items) = left items

abbrev pub pairs_or_none : Option Pairs → List (Part × Part)
pairs_or_none None = []
pairs_or_none (Some pairs) = pairs_left pairs

-- pairs that are namespaces with their items
abbrev pub are_namespaces : List (Part × Part) → Bool
are_namespaces pairs = is_some (each namespace pairs)

-- each item beside its namespace
abbrev pub beside : List ℕ → List Part → List (List ℕ × Part)
beside ns items = spread (ns, items)

abbrev pub namespace_or_none : Part × Part → List ℕ × List Part
namespace_or_none entry = unwrap_or (namespace entry) ([], [])

abbrev pub namespaces_of : List (Part × Part) → List (List ℕ × List Part)
namespaces_of pairs = unwrap_or (each namespace pairs) []

-- pairs that are errors, and maps of them
abbrev pub are_errors : List (Part × Part) → Bool
are_errors pairs = is_some (each error_of pairs)

abbrev pub error_or_none : Part × Part → List ℕ × Part
error_or_none entry = unwrap_or (error_of entry) ([], entry.1)

abbrev pub errors_in_or_none : Part → List (List ℕ × Part)
errors_in_or_none map = unwrap_or (errors_in map) []

abbrev pub errors_of : List (Part × Part) → List (List ℕ × Part)
errors_of pairs = unwrap_or (each error_of pairs) []

abbrev pub are_error_maps : List Part → Bool
are_error_maps maps = is_some (each errors_in maps)

abbrev pub errors_of_all : List Part → List (List ℕ × Part)
errors_of_all maps = all_errors (unwrap_or (each errors_in maps) [])

-- a value, or another where there is none
abbrev pub value_or : {A E : Type 0} → A → Result A E → A
value_or other (Ok value) = value
value_or other (Err fault) = other
