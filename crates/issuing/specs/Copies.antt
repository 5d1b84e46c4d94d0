-- The copies of a document that are issued, as a plan that asks the holder's device (the first one) and the issuer's
-- (the other one) and draws words (ISO/IEC 18013-5, 9.1.2).
use Rattle.std.specs.Prelude.{ℕ, false, List, length, Some, Result, Ok}
use Rattle.cose_msgs.specs.Structures.{signed_structure}
use Rattle.cose_msgs.specs.Written.{es256, sign1_bytes}
use Rattle.issuing.specs.declared.signer.Signer.{Signer}
use Rattle.doc_store.specs.Store.{Copy}
use Rattle.issuing.specs.IssuedItems.{items_of, payload, raw_items}
use Rattle.issuing.specs.declared.issued_item.IssuedItem.{IssuedItem}
use Rattle.issue_spec.specs.declared.spec_fields.SpecFields.{SpecFields}
use Rattle.key_device.specs.Plan.{Plan, Done, of_other}
use Rattle.key_device.specs.PlanSteps.{◌>>=◌, times}
use Rattle.key_device.specs.Questions.{fresh, signed}
use Rattle.key_device.specs.declared.made.Made.{Made}
use Rattle.key_device.specs.declared.point.Point.{Point}
use Rattle.issuing.specs.Questions.{salts}
use Rattle.issuing.specs.declared.issue_fault.IssueFault.{IssueFault}
use Rattle.issuing.specs.declared.issue_fault.IssueFault.TheVariants.{Device}
use Rattle.store_write.specs.Written.{copy_bytes}

-- what the issuer signs: the security object of the copy's items and of its own device key (RFC 9052, section 4.4)
abbrev pub message : SpecFields → Point → List (List ℕ) → List ℕ
message fields key drawn = signed_structure es256 (payload fields key drawn)

-- the copy with a signature, beside which is the certificate of the signer, as a store has it: not used yet
abbrev pub finished_copy : Signer → Made → List IssuedItem → List ℕ → List ℕ → Copy
finished_copy signer made items object signature = record {
  key = made.key;
  used = false;
  issuer_auth = sign1_bytes (Some signer.certificate) (Some object) signature;
  items = raw_items items;
}

-- the copy by its device key, its salts and its signature
abbrev pub issued_copy : SpecFields → Signer → Made → List (List ℕ) → List ℕ → Copy
issued_copy fields signer made drawn signature = finished_copy signer made (items_of fields.elements drawn) (payload fields made.public drawn) signature

abbrev pub with_signature : SpecFields → Signer → Made → List (List ℕ) → List ℕ → Plan (Result (List ℕ) IssueFault)
with_signature fields signer made drawn signature = Done (Ok (copy_bytes (issued_copy fields signer made drawn signature)))

-- of the issuer's device: its signature
abbrev pub signed_copy : SpecFields → Signer → Made → List (List ℕ) → Plan (Result (List ℕ) IssueFault)
signed_copy fields signer made drawn = signed Device signer.key (message fields made.public drawn) >>= with_signature fields signer made drawn

abbrev pub with_salts : SpecFields → Signer → Made → List (List ℕ) → Plan (Result (List ℕ) IssueFault)
with_salts fields signer made drawn = of_other (signed_copy fields signer made drawn)

-- of the dice: a salt of four words for each element
abbrev pub with_key : SpecFields → Signer → Made → Plan (Result (List ℕ) IssueFault)
with_key fields signer made = salts (length fields.elements) >>= with_salts fields signer made

-- the bytes of one copy: of the holder's device a new key, then the salts, then the signature
unfoldable pub copy : SpecFields → Signer → Plan (Result (List ℕ) IssueFault)
copy fields signer = fresh Device >>= with_key fields signer

-- all of them, one after the other
unfoldable pub copies : SpecFields → Signer → Plan (Result (List (List ℕ)) IssueFault)
copies fields signer = times fields.copies (copy fields signer)
