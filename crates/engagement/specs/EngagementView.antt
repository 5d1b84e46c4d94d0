-- What contracts see of an engagement that was read, and of its security.
use Rattle.std.specs.Prelude.{ℕ, List}
use Rattle.cbor_view.specs.View.{part}
use Rattle.key_device.specs.declared.point.Point.{Point}
use Rattle.engagement.specs.declared.engagement.Engagement.{Engagement}
use Rattle.engagement.specs.declared.security.Security as read
use Rattle.engagement.specs.Engagement.{Security}

abbrev pub point_of : Engagement → Point
point_of e = e.key

abbrev pub raw_of : Engagement → List ℕ
raw_of e = e.raw.now

abbrev pub security : read.Security → Security
security s = record { suite = s.suite; key = part s.key }
