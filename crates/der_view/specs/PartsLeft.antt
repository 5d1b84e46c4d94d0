-- What the elements of a body have left.
use Rattle.std.specs.Prelude.{List, Result}
use Rattle.der_view.specs.declared.der_fault.DerFault.{DerFault}
use Rattle.der_view.specs.declared.parts.Parts.{Parts}
use Rattle.der_view.specs.Parts.{Part, parts_at}

abbrev pub left : Parts → List (Result Part DerFault)
left it = parts_at (record { at = it.at; bytes = it.rest.now })
