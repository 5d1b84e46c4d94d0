-- What contracts see of a wishes file that is being read.
use Rattle.std.specs.Prelude.{option_map}
use Rattle.mdoc_frame.specs.OpenDocument.{open_document}
use Rattle.mdoc_frame.specs.Wishes.{Progress}
use Rattle.mdoc_frame.specs.declared.reading.Reading.{Reading}

abbrev pub progress : Reading → Progress
progress reading = record { complete = reading.complete.items; current = option_map open_document reading.current }
