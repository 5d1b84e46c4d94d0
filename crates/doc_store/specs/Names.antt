-- The names that were seen.
use Rattle.std.specs.Prelude.{ℕ, List, [], ◌∷◌, Bool, Option, Some, None, map}
use Rattle.std.specs.List.{list_any}
use Rattle.std.specs.Str.{bytes_eq}
use Rattle.cbor_view.specs.PartialItem.{PartialItem}
use Rattle.doc_store.specs.declared.first_fault.Fault.{Fault}
use Rattle.doc_store.specs.declared.names.Names.{Names}
use Rattle.doc_store.specs.declared.repeats.Repeats.{Repeats}
use Rattle.doc_store.specs.Faults.{repeats_after}

abbrev pub names_seen : Names → List (List ℕ)
names_seen names = map (λ name. name.now) names.seen.keys

-- whether a name was
abbrev pub was_seen : Names → List ℕ → Bool
was_seen names name = list_any (bytes_eq name) (names_seen names)

-- what is repeated in a list, where nothing was before it
abbrev pub repeats_left : Option Fault → Names → List (List ℕ × PartialItem) → List Fault
repeats_left (Some f) names others = f ∷ []
repeats_left None names others = repeats_after (names_seen names) others

-- the same of the names so far and those that are left
abbrev pub repeats_from : Repeats → List (List ℕ × PartialItem) → List Fault
repeats_from r others = repeats_left r.first r.names others
