-- What contracts see of a trusted certificate.
use Rattle.cert_view.specs.RootLine.{Listed}
use Rattle.cert_view.specs.declared.root.Root.{Root}

abbrev pub listed : Root → Listed
listed root = record { name = root.name; bytes = root.bytes }
