-- What contracts see of a view.
use Rattle.std.specs.Prelude.{ℕ, List, Result, Ok, Err}
use Rattle.der_view.specs.declared.der.Der.{Der}
use Rattle.der_view.specs.declared.der_fault.DerFault.{DerFault}
use Rattle.der_view.specs.Reading.{tag_of, body_of}
use Rattle.der_view.specs.Parts.{Part}

-- the bytes that spell the element, at their place in the bytes first read
abbrev pub part : Der → Part
part d = record { at = d.at; bytes = d.slice.now }

abbrev pub tag : Der → ℕ
tag d = tag_of d.slice.now

abbrev pub body : Der → List ℕ
body d = body_of d.slice.now

abbrev pub seen : Result Der DerFault → Result Part DerFault
seen (Ok d) = Ok (part d)
seen (Err fault) = Err fault
