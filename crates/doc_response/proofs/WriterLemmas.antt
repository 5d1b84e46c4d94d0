-- What is written piece by piece, as the definitions say it at once.
use Rattle.std.proofs.Common.{◌≡◌, ℕ, suc, Bool, true, false, cond, List, [], ◌∷◌, ◌++◌, length, map, refl, sym, ap, ◌∙◌, append_assoc}
use Rattle.std.specs.Prelude.{filter, flat_map}
use Rattle.std.specs.Str.{bytes_eq}
use Rattle.std.proofs.lemmas.List.{length-map}
use Rattle.cbor_view.specs.Shortest.{shortest_head, text_bytes}
use Rattle.doc_response.specs.Answered.{of_namespace, namespace_entry, errors_entry, error_entry}
use Rattle.doc_response.specs.Namespaces.{entry_bytes}
use Rattle.doc_response.specs.Namespaces.{count_of_text}

-- an entry of a namespace with its items
pub items_entry : (old ns : List ℕ) (raws : List (List ℕ)) →
    ((old ++ text_bytes ns) ++ shortest_head 4 (length raws)) ++ flat_map (λ part. part) raws ≡ old ++ entry_bytes (namespace_entry (ns, raws))
items_entry old ns raws = simp append_assoc

-- an entry of a namespace with its errors
pub errors_bytes : (old ns : List ℕ) (names : List (List ℕ)) →
    ((old ++ text_bytes ns) ++ shortest_head 5 (length names)) ++ flat_map entry_bytes (map error_entry names) ≡ old ++ entry_bytes (errors_entry (ns, names))
errors_bytes old ns names =
    let joined : ((old ++ text_bytes ns) ++ shortest_head 5 (length names)) ++ flat_map entry_bytes (map error_entry names)
    ≡ old ++ (text_bytes ns ++ (shortest_head 5 (length names) ++ flat_map entry_bytes (map error_entry names))) = simp append_assoc in
    joined ∙ ap (λ (n : ℕ). old ++ (text_bytes ns ++ (shortest_head 5 n ++ flat_map entry_bytes (map error_entry names)))) (sym (length-map names error_entry))

-- the same, from what each call leaves
pub items_written : (old ns with_text with_head now : List ℕ) (count : ℕ) (raws : List (List ℕ)) →
    with_text ≡ old ++ text_bytes ns → with_head ≡ with_text ++ shortest_head 4 count → now ≡ with_head ++ flat_map (λ part. part) raws → count ≡ length raws →
    now ≡ old ++ entry_bytes (namespace_entry (ns, raws))
items_written old ns with_text with_head now count raws text_is head_is now_is count_is =
    now_is
    ∙ ap (λ (h : List ℕ). h ++ flat_map (λ part. part) raws) (head_is ∙ ap (λ (t : List ℕ). t ++ shortest_head 4 count) text_is)
    ∙ ap (λ (n : ℕ). ((old ++ text_bytes ns) ++ shortest_head 4 n) ++ flat_map (λ part. part) raws) count_is
    ∙ items_entry old ns raws

pub errors_written : (old ns with_text with_head now : List ℕ) (count : ℕ) (names : List (List ℕ)) →
    with_text ≡ old ++ text_bytes ns → with_head ≡ with_text ++ shortest_head 5 count → now ≡ with_head ++ flat_map entry_bytes (map error_entry names) → count ≡ length names →
    now ≡ old ++ entry_bytes (errors_entry (ns, names))
errors_written old ns with_text with_head now count names text_is head_is now_is count_is =
    now_is
    ∙ ap (λ (h : List ℕ). h ++ flat_map entry_bytes (map error_entry names)) (head_is ∙ ap (λ (t : List ℕ). t ++ shortest_head 5 count) text_is)
    ∙ ap (λ (n : ℕ). ((old ++ text_bytes ns) ++ shortest_head 5 n) ++ flat_map entry_bytes (map error_entry names)) count_is
    ∙ errors_bytes old ns names

-- the pairs of a namespace are as many as its name among the namespaces of all pairs
pub counted : (pairs : List (List ℕ × List ℕ)) (ns : List ℕ) →
    count_of_text ns (map (λ (pair : List ℕ × List ℕ). pair.0) pairs) ≡ length (of_namespace pairs ns).1
counted [] ns = refl
counted (pair ∷ pairs) ns = either (bytes_eq pair.0 ns) (counted pairs ns) where
  either : (b : Bool) → count_of_text ns (map (λ (p : List ℕ × List ℕ). p.0) pairs) ≡ length (of_namespace pairs ns).1 →
      length (cond b (pair.0 ∷ filter (λ (other : List ℕ). bytes_eq other ns) (map (λ (p : List ℕ × List ℕ). p.0) pairs)) (filter (λ (other : List ℕ). bytes_eq other ns) (map (λ (p : List ℕ × List ℕ). p.0) pairs)))
      ≡ length (map (λ (p : List ℕ × List ℕ). p.1) (cond b (pair ∷ filter (λ (p : List ℕ × List ℕ). bytes_eq p.0 ns) pairs) (filter (λ (p : List ℕ × List ℕ). bytes_eq p.0 ns) pairs)))
  either true rest = ap suc rest
  either false rest = rest

-- the count of a namespace among all of them is the number of its pairs
pub group_counted : (small count : ℕ) (ns : List ℕ) (all : List (List ℕ)) (pairs : List (List ℕ × List ℕ)) →
    small ≡ count → count ≡ count_of_text ns all → all ≡ map (λ (pair : List ℕ × List ℕ). pair.0) pairs →
    small ≡ length (of_namespace pairs ns).1
group_counted small count ns all pairs small_is count_is all_is =
    small_is ∙ count_is ∙ ap (count_of_text ns) all_is ∙ counted pairs ns
