-- What contracts see of a message that was read.
use Rattle.std.specs.Prelude.{ℕ, List, option_map, IfSome}
use Rattle.mdoc_outside.specs.Borrowed.{content}
use Rattle.cbor_view.specs.View.{part}
use Rattle.cbor_maps.specs.Contents.{IsPart}
use Rattle.cose_msgs.specs.declared.message.Message as read
use Rattle.cose_msgs.specs.declared.sign1.Sign1.{Sign1}
use Rattle.cose_msgs.specs.declared.mac0.Mac0.{Mac0}
use Rattle.cose_msgs.specs.Message.{Message, Signed, Authenticated}

abbrev pub message : read.Message → Message
message m = record { protected = m.protected.now; unprotected = part m.unprotected; payload = option_map content m.payload; last = m.last.now }

abbrev pub signed : Sign1 → Signed
signed s = record { protected = s.protected.now; chain = option_map content s.chain; payload = option_map content s.payload; signature = s.signature.now }

abbrev pub authenticated : Mac0 → Authenticated
authenticated m = record { protected = m.protected.now; payload = option_map content m.payload; tag = m.tag.now }

-- what a message says is a part of its bytes
pub record HasParts (bytes : List ℕ) (m : Message) : Type 0 where
  pub protected : IsPart bytes m.protected
  pub unprotected : IsPart bytes m.unprotected.bytes
  pub payload : IfSome m.payload (IsPart bytes)
  pub last : IsPart bytes m.last

pub record AreSigned (bytes : List ℕ) (s : Signed) : Type 0 where
  pub protected : IsPart bytes s.protected
  pub chain : IfSome s.chain (IsPart bytes)
  pub payload : IfSome s.payload (IsPart bytes)
  pub signature : IsPart bytes s.signature

pub record AreAuthenticated (bytes : List ℕ) (m : Authenticated) : Type 0 where
  pub protected : IsPart bytes m.protected
  pub payload : IfSome m.payload (IsPart bytes)
  pub tag : IsPart bytes m.tag
