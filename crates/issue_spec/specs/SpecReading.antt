-- What contracts see of a spec file that is being read.
use Rattle.issue_spec.specs.SpecSoFar.{SoFar}
use Rattle.issue_spec.specs.declared.spec_reading.SpecReading.{SpecReading}

abbrev pub so_far : SpecReading → SoFar
so_far reading = record { headers = reading.headers; elements = reading.elements.items }
