-- What contracts see of a copy that is shown, and of what is released of it.
use Rattle.doc_store.specs.StoredCopy.{copy_of}
use Rattle.wallet_answer.specs.declared.released_document.ReleasedDocument as made
use Rattle.wallet_answer.specs.declared.shown_copy.ShownCopy as found
use Rattle.wallet_model.specs.Released.{ReleasedDocument, ShownCopy}

abbrev pub shown_seen : found.ShownCopy → ShownCopy
shown_seen s = record { document = s.document; uses_mac = s.uses_mac; copy = copy_of s.copy }

abbrev pub choice_seen : made.ReleasedDocument → ReleasedDocument
choice_seen c = record { key = c.key; uses_mac = c.uses_mac; issuer_auth = c.issuer_auth.now; answered = c.answered; places = c.places.items }
