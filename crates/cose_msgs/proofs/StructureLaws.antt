-- What is signed or authenticated determines its parts, and tells its context.
use Rattle.std.proofs.Common.{◌≡◌, ℕ, ◌<◌, ◌^◌, List, [], length, get_or, Result, Ok, refl, sym, ap, ◌∙◌, arith, codes}
use Rattle.std.specs.Prelude.{IsUtf8}
use Rattle.cbor_view.specs.declared.cbor_fault.CborFault.{CborFault}
use Rattle.cbor_view.specs.Reading.{reads}
use Rattle.cbor_view.specs.Tree.{Tree, Text, Bytes, Array, none, more}
use Rattle.cbor_view.proofs.WrittenParts.{reads-shortest}
use Rattle.cbor_maps.proofs.WrittenMaps.{utf8-ascii}
use Rattle.cose_msgs.specs.Structures.{structure, signed_structure, mac_structure}

abbrev structure_tree : List ℕ → List ℕ → List ℕ → Tree
structure_tree context protected payload = Array (more (Text context) (more (Bytes protected) (more (Bytes []) (more (Bytes payload) none))))

structure-read : (context protected payload : List ℕ) → IsUtf8 context → length context < 2 ^ 32 → length protected < 2 ^ 32 → length payload < 2 ^ 32 → reads (structure context protected payload) ≡ Ok (structure_tree context protected payload)
unfolding structure
structure-read context protected payload text short first second = reads-shortest (structure_tree context protected payload) (omega arith, ((short, text), (first, (omega arith, (second, tt))))) (omega arith)

pub determined : (context : List ℕ) → IsUtf8 context → length context < 2 ^ 32 → (protected payload others other : List ℕ) → length protected < 2 ^ 32 → length payload < 2 ^ 32 → length others < 2 ^ 32 → length other < 2 ^ 32 → structure context protected payload ≡ structure context others other → (protected ≡ others) × (payload ≡ other)
determined context text short protected payload others other a b c d e =
    let first = structure-read context protected payload text short a b in
    let second = structure-read context others other text short c d in
    let same : ◌≡◌ {A = Result Tree CborFault} (Ok (structure_tree context protected payload)) (Ok (structure_tree context others other)) = sym first ∙ ap reads e ∙ second in
    (cc, cc)

pub signed-determined : (protected payload others other : List ℕ) → length protected < 2 ^ 32 → length payload < 2 ^ 32 → length others < 2 ^ 32 → length other < 2 ^ 32 → signed_structure protected payload ≡ signed_structure others other → (protected ≡ others) × (payload ≡ other)
signed-determined = determined (codes "Signature1") (utf8-ascii (codes "Signature1") refl) (omega arith)

pub mac-determined : (protected payload others other : List ℕ) → length protected < 2 ^ 32 → length payload < 2 ^ 32 → length others < 2 ^ 32 → length other < 2 ^ 32 → mac_structure protected payload ≡ mac_structure others other → (protected ≡ others) × (payload ≡ other)
mac-determined = determined (codes "MAC0") (utf8-ascii (codes "MAC0") refl) (omega arith)

-- the second byte is the head of the context
pub told-apart : (protected payload others other : List ℕ) → signed_structure protected payload ≡ mac_structure others other → ⊥
unfolding structure
told-apart protected payload others other e = let second : ◌≡◌ {A = ℕ} 106 100 = ap (λ (bytes : List ℕ). get_or bytes 1 0) e in absurd (omega (arith, second))
