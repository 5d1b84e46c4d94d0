-- The checks of a request in their order, and which of two faults comes first.
use Rattle.std.specs.Prelude.{ℕ, nat_le, if◌then◌else◌, Bool, true, false, Option, Some, None, Result, Ok, Err}
use Rattle.cbor_maps.specs.declared.map_fault.MapFault.{MapFault}
use Rattle.cbor_maps.specs.declared.map_fault.MapFault.TheVariants as maps
use Rattle.doc_request.specs.declared.request_fault.RequestFault.{RequestFault}
use Rattle.doc_request.specs.declared.request_fault.RequestFault.TheVariants.{Field, Doubled, Version, Inner, Count}

abbrev pub rank : RequestFault → ℕ
rank (Field name) = 0
rank Doubled = 1
rank Version = 2
rank (Inner fault) = 3
rank Count = 4

-- the fault whose check comes first, and of one check the first
abbrev pub earlier : Option RequestFault → Option RequestFault → Option RequestFault
earlier None other = other
earlier (Some fault) None = Some fault
earlier (Some fault) (Some other) = if nat_le (rank fault) (rank other) then Some fault else Some other

-- what is wrong with a field of a map
abbrev pub of_field : {A : Type 0} → Result A MapFault → Option RequestFault
of_field (Ok value) = None
of_field (Err (maps.Field name)) = Some (Field name)
of_field (Err (maps.Doubled name)) = Some Doubled
