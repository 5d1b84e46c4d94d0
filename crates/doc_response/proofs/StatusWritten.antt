-- A response of another status than 0 is read as that status alone.
use Rattle.std.proofs.Common.{◌≡◌, ◌==◌, ◌<◌, ◌^◌, ℕ, zero, suc, Bool, false, if◌then◌else◌, List, Ok, refl, ap, subst, sym, arith, codes}
use Rattle.mdoc_outside.specs.declared.key_name.KeyName.TheVariants as keys
use Rattle.cbor_view.specs.Shortest.{uint_bytes}
use Rattle.cbor_view.specs.Tree.{Unsigned, Text}
use Rattle.cbor_view.proofs.WrittenParts.{IsPiece, piece-shortest, cbor-piece, tree-shortest}
use Rattle.cbor_maps.specs.Writing.{with_values, named_map}
use Rattle.cbor_maps.specs.WrittenReads.{SpellsItem, AreItems}
use Rattle.cbor_maps.proofs.WrittenMaps.{under, under-none, piece-named, utf8-ascii}
use Rattle.cose_msgs.specs.Written.{IsReadAs}
use Rattle.doc_response.specs.Draft.{Draft}
use Rattle.doc_response.specs.Response.{response}
use Rattle.doc_response.specs.Written.{full_fields, refusal_fields, response_bytes, version}
use Rattle.doc_response.specs.WrittenReads.{status_alone}

leaf : (bytes : List ℕ) → IsPiece 0 bytes → SpellsItem 31 bytes
leaf bytes p = let n = p.nesting in record { item = p.item; spells = record { spelled = p.spelled; nesting = omega arith }; nesting = omega arith }

version-piece : IsPiece 0 version
version-piece = piece-shortest 0 (Text (codes "1.0")) (omega arith, utf8-ascii (codes "1.0") refl) (omega arith)

refusal-items : (status : ℕ) → status < 2 ^ 64 → AreItems (with_values (refusal_fields status))
refusal-items status fits = (leaf version version-piece, (leaf (uint_bytes status) (piece-shortest 0 (Unsigned status) fits (omega arith)), tt))

not-zero : (n : ℕ) → (n ≡ 0 → ⊥) → (n == 0) ≡ false
not-zero zero other = absurd (other refl)
not-zero (suc n) other = grind arith

refusal-read : (status : ℕ) → status < 2 ^ 64 → response (record { at = 0; bytes = named_map (refusal_fields status) }) ≡ Ok (status_alone status)
unfolding response
refusal-read status fits =
    let are = refusal-items status fits in
    let v = under 0 (refusal_fields status) keys.Version version are (omega arith) refl in
    let s = under 0 (refusal_fields status) keys.Status (uint_bytes status) are (omega arith) refl in
    let d = under-none 0 (refusal_fields status) keys.Documents are (omega arith) refl in
    let e = under-none 0 (refusal_fields status) keys.DocumentErrors are (omega arith) refl in
    rw v.is (rw d (rw e (rw s.is
    (rw (tree-shortest (Text (codes "1.0")) (omega arith, utf8-ascii (codes "1.0") refl) (omega arith))
    (rw (tree-shortest (Unsigned status) fits (omega arith)) refl)))))

pub status-read : (draft : Draft) → draft.status < 2 ^ 64 → (draft.status ≡ 0 → ⊥) → IsReadAs response (response_bytes draft) (status_alone draft.status)
unfolding response_bytes
status-read draft fits other =
    let written : (if draft.status == 0 then named_map (full_fields draft) else named_map (refusal_fields draft.status)) ≡ named_map (refusal_fields draft.status) =
    ap (λ (b : Bool). if b then named_map (full_fields draft) else named_map (refusal_fields draft.status)) (not-zero draft.status other) in
    subst (λ (bytes : List ℕ). IsReadAs response bytes (status_alone draft.status)) (sym written) (record {
      one = cbor-piece (named_map (refusal_fields draft.status)) (piece-named (refusal_fields draft.status) (refusal-items draft.status fits) (omega arith));
      value_is = refusal-read draft.status fits;
    })
