-- Of several faults the first in the order of `ResponseFault`: a key that is missing or of another kind, then a key that
-- is there twice, then the version.
use Rattle.std.specs.Prelude.{Option, Some, None, Result, Ok, Err}
use Rattle.cbor_maps.specs.declared.map_fault.MapFault.{MapFault}
use Rattle.cbor_maps.specs.declared.map_fault.MapFault.TheVariants as maps
use Rattle.doc_response.specs.declared.response_fault.ResponseFault.{ResponseFault}
use Rattle.doc_response.specs.declared.response_fault.ResponseFault.TheVariants.{Field, Doubled, Version}

abbrev pub response_fault : MapFault → ResponseFault
response_fault (maps.Doubled name) = Doubled
response_fault (maps.Field name) = Field name

-- what a map has under a key, or its fault
abbrev pub found : {A : Type 0} → Result A MapFault → Result A ResponseFault
found (Ok value) = Ok value
found (Err fault) = Err (response_fault fault)

-- of two faults the first in the order, and of two keys the one that was looked at first
abbrev pub first_of : ResponseFault → ResponseFault → ResponseFault
first_of (Field name) other = Field name
first_of Doubled (Field name) = Field name
first_of Doubled other = Doubled
first_of Version (Field name) = Field name
first_of Version Doubled = Doubled
first_of Version Version = Version

-- two values, or the first of their faults
abbrev pub both : {A B C : Type 0} → (A → B → C) → Result A ResponseFault → Result B ResponseFault → Result C ResponseFault
both join (Ok one) (Ok other) = Ok (join one other)
both join (Ok one) (Err fault) = Err fault
both join (Err fault) (Ok other) = Err fault
both join (Err fault) (Err second) = Err (first_of fault second)

-- the fault, where there is one
abbrev pub fault_in : {A : Type 0} → Result A ResponseFault → Option ResponseFault
fault_in (Ok value) = None
fault_in (Err fault) = Some fault

-- the first of two faults that may be there
abbrev pub first_fault : Option ResponseFault → Option ResponseFault → Option ResponseFault
first_fault None other = other
first_fault (Some fault) None = Some fault
first_fault (Some fault) (Some other) = Some (first_of fault other)
