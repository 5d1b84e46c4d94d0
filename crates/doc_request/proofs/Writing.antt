-- What is written piece by piece, as the definitions say it at once.
use Rattle.std.proofs.Common.{◌≡◌, ℕ, suc, ◌+◌, length, List, [], ◌∷◌, ◌++◌, map, refl, sym, ap, ◌∙◌, append_assoc}
use Rattle.std.specs.Prelude.{filter, flat_map}
use Rattle.std.proofs.lemmas.List.{length-map}
use Rattle.cbor_view.specs.Shortest.{shortest_head, text_bytes}
use Rattle.doc_request.specs.declared.doc_draft.DocDraft.{DocDraft}
use Rattle.doc_request.specs.declared.wish_draft.WishDraft.{WishDraft}
use Rattle.doc_request.specs.Written.{document_maps, entry_bytes, is_in, name_entry, space_entry}

-- a namespace with its names, from what each call leaves
pub space_written : (old with_text with_head now ns : List ℕ) (count : ℕ) (wishes : List WishDraft) →
    with_text ≡ old ++ text_bytes ns → with_head ≡ with_text ++ shortest_head 5 count →
    now ≡ with_head ++ flat_map entry_bytes (map name_entry (filter (is_in ns) wishes)) → count ≡ length (filter (is_in ns) wishes) →
    now ≡ old ++ entry_bytes (space_entry wishes ns)
space_written old with_text with_head now ns count wishes text_is head_is now_is count_is =
    let names = filter (is_in ns) wishes in
    let joined : ((old ++ text_bytes ns) ++ shortest_head 5 (length (map name_entry names))) ++ flat_map entry_bytes (map name_entry names)
    ≡ old ++ entry_bytes (space_entry wishes ns) = simp append_assoc in
    now_is
    ∙ ap (λ (h : List ℕ). h ++ flat_map entry_bytes (map name_entry names)) (head_is ∙ ap (λ (t : List ℕ). t ++ shortest_head 5 count) text_is)
    ∙ ap (λ (n : ℕ). ((old ++ text_bytes ns) ++ shortest_head 5 n) ++ flat_map entry_bytes (map name_entry names)) (count_is ∙ sym (length-map names name_entry))
    ∙ joined

-- a map for each document
pub maps_length : (place : ℕ) (documents : List DocDraft) (auths : List (List ℕ)) → length (document_maps place documents auths) ≡ length documents
maps_length place [] auths = refl
maps_length place (document ∷ documents) auths = ap suc (maps_length (place + 1) documents auths)
