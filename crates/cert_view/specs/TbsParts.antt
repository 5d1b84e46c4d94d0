-- What contracts see of the parts of the to-be-signed part.
use Rattle.std.specs.Prelude.{option_map}
use Rattle.der_view.specs.Der.{part}
use Rattle.cert_view.specs.Tbs.{Layout}
use Rattle.cert_view.specs.declared.tbs_parts.TbsParts.{TbsParts}

abbrev pub layout_of : TbsParts → Layout
layout_of l = record {
  version = part l.version;
  serial = part l.serial;
  algorithm = part l.algorithm;
  issuer = part l.issuer;
  validity = part l.validity;
  subject = part l.subject;
  key = part l.key;
  extensions = option_map part l.extensions;
}
