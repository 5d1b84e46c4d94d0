-- The package that an issuer makes of a spec, as a plan that asks the holder's device (the first one) and the issuer's
-- (the other one) and draws words.
use Rattle.std.specs.Prelude.{ℕ, nat_lt, if◌then◌else◌, List, [], ◌∷◌, length, Option, Result, Ok, Err}
use Rattle.issuing.specs.Signers.{signer_of}
use Rattle.issuing.specs.declared.signer.Signer.{Signer}
use Rattle.issuing.specs.Copies.{copies}
use Rattle.issue_spec.specs.declared.spec_fields.SpecFields.{SpecFields}
use Rattle.key_device.specs.Plan.{Plan, Done, of_other}
use Rattle.key_device.specs.PlanSteps.{◌>>=◌}
use Rattle.issuing.specs.declared.issue_fault.IssueFault.{IssueFault}
use Rattle.issuing.specs.declared.issue_fault.IssueFault.TheVariants.{Limit}
use Rattle.mdoc_outside.specs.declared.limit_name.LimitName.TheVariants.{PackageBytes}
use Rattle.store_write.specs.Written.{document_map, store_map}
use Rattle.issuing.specs.declared.issued.Issued.{Issued}

-- the bytes of a store of one document, whose copies are given as their bytes
abbrev pub package_bytes : SpecFields → List (List ℕ) → List ℕ
package_bytes fields written = store_map (document_map fields.doc_type fields.uses_mac written ∷ [])

-- a package has at most 16,777,216 bytes
abbrev pub within_limit : Option (List ℕ) → List ℕ → Result Issued IssueFault
within_limit root bytes =
    if nat_lt 16_777_216 (length bytes) then Err (Limit PackageBytes (length bytes)) else Ok (record { «package» = bytes; root = root })

abbrev pub with_copies : SpecFields → Option (List ℕ) → List (List ℕ) → Plan (Result Issued IssueFault)
with_copies fields root written = Done (within_limit root (package_bytes fields written))

abbrev pub with_signer : SpecFields → Signer → Plan (Result Issued IssueFault)
with_signer fields signer = copies fields signer >>= with_copies fields signer.root

-- of the issuer's device: the signer; then the copies
unfoldable pub issued_package : SpecFields → Plan (Result Issued IssueFault)
issued_package fields = of_other (signer_of fields) >>= with_signer fields
