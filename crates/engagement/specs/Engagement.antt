-- Device engagement (ISO/IEC 18013-5, 8.2.1.1): what its bytes say, or the first check that fails.
use Rattle.std.specs.Prelude.{ℕ, Bool, ℤ, pos, List, [], ◌∷◌, ◌==◌, codes, Option, Some, None, option_and_then, Result, Ok, Err}
use Rattle.std.specs.List.{starts_with}
use Rattle.std.specs.Ordering.{int_eq}
use Rattle.mdoc_outside.specs.ResultSteps.{◌>>=◌, or_fault}
use Rattle.cbor_view.specs.declared.cbor_fault.CborFault.{CborFault}
use Rattle.cbor_view.specs.Parts.{Part, cbor, items_in, text_in, tree_in}
use Rattle.cbor_view.specs.Tree.{int_of}
use Rattle.cbor_maps.specs.Labels.{labelled}
use Rattle.cbor_maps.specs.Reading.{encoded_in, once}
use Rattle.cose_msgs.specs.declared.key_fault.KeyFault.{KeyFault}
use Rattle.cose_msgs.specs.Key.{key_of}
use Rattle.cose_msgs.specs.Steps.{check}
use Rattle.key_device.specs.declared.point.Point.{Point}
use Rattle.engagement.specs.declared.engage_fault.EngageFault.{EngageFault}
use Rattle.engagement.specs.declared.engage_fault.EngageFault.TheVariants.{Cbor, Doubled, Field, Version, Suite, Key}

-- the version, a text under key 0
abbrev pub version_in : Option Part → Result (List ℕ) EngageFault
version_in found = or_fault (Field 0) (option_and_then text_in found)

-- a version of edition 1 begins with `1.`
abbrev pub is_edition_1 : List ℕ → Bool
is_edition_1 version = starts_with (λ a b. a == b) version (codes "1.")

-- The security (9.1.5.2): a cipher suite, and the item that EDeviceKeyBytes hold.
pub record Security : Type 0 where
  pub suite : ℤ
  pub key : Part

abbrev pub if_item : Result Part CborFault → Option Part
if_item (Ok item) = Some item
if_item (Err fault) = None

abbrev pub encoded_item : Option (List ℕ) → Option Part
encoded_item None = None
encoded_item (Some bytes) = if_item (cbor bytes)

abbrev pub security_of : Option ℤ → Option Part → Option Security
security_of None key = None
security_of (Some suite) None = None
security_of (Some suite) (Some key) = Some (record { suite = suite; key = key })

-- an array of two: a number, and tag 24 over the bytes of one item
abbrev pub of_items : List Part → Option Security
of_items (first ∷ second ∷ []) = security_of (int_of (tree_in first)) (encoded_item (encoded_in second))
of_items _ = None

abbrev pub security_in : Part → Option Security
security_in item = option_and_then of_items (items_in item)

-- it is under key 1
abbrev pub needed_security : Option Part → Result Security EngageFault
needed_security found = or_fault (Field 1) (option_and_then security_in found)

abbrev pub key_fault : Result Point KeyFault → Result Point EngageFault
key_fault (Ok point) = Ok point
key_fault (Err fault) = Err (Key fault)

-- Version, security and retrieval methods are there once at most; the methods aren't looked at.
abbrev pub of_map : Part → Result Point EngageFault
of_map map = do
  found ← once Doubled (labelled map (pos 0))
  secured ← once Doubled (labelled map (pos 1))
  methods ← once Doubled (labelled map (pos 2))
  version ← version_in found
  security ← needed_security secured
  of_edition ← check Version (is_edition_1 version)
  of_suite ← check Suite (int_eq security.suite (pos 1))
  key_fault (key_of security.key)

abbrev pub of_bytes : Result Part CborFault → Result Point EngageFault
of_bytes (Ok map) = of_map map
of_bytes (Err fault) = Err Cbor

-- the device key of an engagement
unfoldable pub engagement : List ℕ → Result Point EngageFault
engagement bytes = of_bytes (cbor bytes)
