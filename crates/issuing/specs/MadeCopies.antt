-- That the object of a copy is made from the items of the copy.
use Rattle.std.specs.Prelude.{◌≡◌, ℕ, List, length, All}
use Rattle.cbor_view.specs.Spelling.{AreBytes}
use Rattle.issue_spec.specs.SpecFacts.{IsSpec}
use Rattle.issue_spec.specs.declared.spec_fields.SpecFields.{SpecFields}
use Rattle.key_device.specs.declared.point.Point.{Point}
use Rattle.mso_digests.specs.MadeFrom.{MadeFrom}
use Rattle.mso_digests.specs.Written.{drafted}
use Rattle.issuing.specs.IssuedItems.{items_of, object_draft, raw_items}

-- A law: of a spec whose values are bytes, with a salt of 32 bytes for each element.
abbrev pub IsMadeFromItsItems : Type 0
IsMadeFromItsItems =
    (fields : SpecFields) (key : Point) (salts : List (List ℕ))
    → IsSpec fields → All (λ e. AreBytes e.value) fields.elements
    → All (λ s. length s ≡ 32) salts
    → MadeFrom (drafted (object_draft fields key salts)) (raw_items (items_of fields.elements salts))
