-- What contracts see of a message that was read.
use Rattle.std.specs.Prelude.{ℕ, List, option_map}
use Rattle.std.specs.Borrow.{Bor}
use Rattle.mdoc_outside.specs.Borrowed.{content}
use Rattle.session_seal.specs.declared.session_data.SessionData as data_read
use Rattle.session_seal.specs.declared.session_establishment.SessionEstablishment as establishment_read
use Rattle.session_seal.specs.Messages.{SessionData, Establishment, KeyAndText}

abbrev pub fields : data_read.SessionData → SessionData
fields message = record { sealed = option_map content message.sealed; status = message.status }

abbrev pub parts : establishment_read.SessionEstablishment → Establishment
parts message = record { reader_key = message.reader_key.now; point = message.point; sealed = message.sealed.now }

abbrev pub key_and_text_of : Bor (List ℕ) × Bor (List ℕ) → KeyAndText
key_and_text_of both = record { reader_key = both.0.now; sealed = both.1.now }
