-- What contracts see of a security object that was read.
use Rattle.std.specs.Prelude.{option_map}
use Rattle.mdoc_outside.specs.Borrowed.{content}
use Rattle.cbor_view.specs.View.{part}
use Rattle.mso_digests.specs.declared.contents.Contents as read
use Rattle.mso_digests.specs.declared.validity.Validity as dates
use Rattle.mso_digests.specs.declared.validity.Moments as times
use Rattle.mso_digests.specs.declared.mso.Mso.{Mso}
use Rattle.mso_digests.specs.Digests.{digests_in}
use Rattle.mso_digests.specs.Object.{Object, Contents, Validity, Moments}

abbrev pub validity : dates.Validity → Validity
validity v = record { signed = v.signed.now; from = v.from.now; until = v.until.now; update = option_map content v.update }

abbrev pub moments : times.Moments → Moments
moments m = record { signed = m.signed; from = m.from; until = m.until }

abbrev pub contents : read.Contents → Contents
contents c = record { version = c.version.now; algorithm = c.algorithm.now; digests = part c.digests; device_key = (part c.device_key).bytes; doc_type = c.doc_type.now; validity = validity c.validity }

-- what the object says
abbrev pub object_seen : Mso → Object
object_seen m = record { doc_type = m.doc_type.now; digests = digests_in (part m.digests); device_key = (part m.device_key).bytes; signed = m.signed; from = m.from; until = m.until }
