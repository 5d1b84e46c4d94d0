-- What contracts see of a fragment's part in code.
use Rattle.ble_fragments.specs.declared.part.Part.{Part}
use Rattle.ble_fragments.specs.declared.part.Part.TheVariants.{Piece, Start, Stop, Broken}
use Rattle.ble_fragments.specs.Part as defined

abbrev pub part : Part → defined.Part
part (Piece bytes is_last) = defined.Piece is_last bytes.now
part Start = defined.Start
part Stop = defined.Stop
part (Broken fault) = defined.Broken fault
