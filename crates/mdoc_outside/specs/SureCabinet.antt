-- What contracts see of a cabinet in memory that never fails.
use Rattle.std.specs.Prelude.{Some}
use Rattle.mdoc_outside.specs.Cabinet.{CabinetTold}
use Rattle.mdoc_outside.specs.State.{State}
use Rattle.mdoc_outside.specs.declared.sure_cabinet.SureCabinet.{SureCabinet}

-- its files and its calls
abbrev pub told : SureCabinet → CabinetTold
told cabinet = cabinet.log

-- it tells, and has never failed
abbrev pub cabinet_state : SureCabinet → State CabinetTold
cabinet_state cabinet = record { told = Some (told cabinet); faults = 0 }
