-- Copies and packages by their parts: what stands first, and the rest.
use Rattle.std.proofs.Common.{◌≡◌, ℕ, List, [], ◌∷◌, ◌++◌, Bool, Result, Ok, Err, sym, ap, ◌∙◌, append_assoc, append-nil}
use Rattle.std.specs.Prelude.{OnOk}
use Rattle.cbor_view.specs.Shortest.{array_bytes}
use Rattle.doc_response.specs.Answered.{items_map}
use Rattle.doc_store.specs.Store.{Copy}
use Rattle.store_write.specs.Written.{copy_bytes, copy_head, document_head, document_map, package_head, store_head, store_map}

-- a copy: its head, and its items
pub copy_parts : (copy : Copy) → copy_bytes copy ≡ copy_head copy.key copy.used copy.issuer_auth ++ items_map copy.items
unfolding copy_bytes copy_head
copy_parts copy = simp append_assoc

pub copy_joined : {E : Type 0} (r : Result (Unit {0}) E) (old with_head now : List ℕ) (copy : Copy)
    → with_head ≡ old ++ copy_head copy.key copy.used copy.issuer_auth → OnOk r (now ≡ with_head ++ items_map copy.items) → OnOk r (now ≡ old ++ copy_bytes copy)
copy_joined (Err e) old with_head now copy head_is now_is = tt
copy_joined (Ok u) old with_head now copy head_is now_is =
    now_is
    ∙ ap (λ (h : List ℕ). h ++ items_map copy.items) head_is
    ∙ append_assoc old (copy_head copy.key copy.used copy.issuer_auth) (items_map copy.items)
    ∙ ap (λ (c : List ℕ). old ++ c) (sym (copy_parts copy))

-- a package: its head, and its copies
pub package_parts : (doc_type : List ℕ) (uses_mac : Bool) (copies : List (List ℕ)) → store_map (document_map doc_type uses_mac copies ∷ []) ≡ package_head doc_type uses_mac ++ array_bytes copies
unfolding store_map document_map store_head document_head
package_parts doc_type uses_mac copies = simp (append_assoc, append-nil)
