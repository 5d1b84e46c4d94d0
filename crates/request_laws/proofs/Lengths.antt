-- An items request that is written is short.
use Rattle.std.proofs.Common.{◌<◌, ◌≤◌, ◌^◌, ◌*◌, ℕ, Bool, true, false, List, [], ◌∷◌, ◌++◌, length, arith}
use Rattle.std.specs.Prelude.{filter, flat_map, map}
use Rattle.std.proofs.lemmas.List.{length-append}
use Rattle.mdoc_outside.specs.declared.key_name.KeyName.TheVariants as keys
use Rattle.cbor_view.specs.Shortest.{boolean_bytes, map_bytes, shortest_form, shortest_head, text_bytes}
use Rattle.cbor_view.specs.Spelling.{Form, Within, One, Two, Four, Eight, head}
use Rattle.cbor_maps.specs.Writing.{key_bytes, map_head}
use Rattle.doc_request.specs.declared.doc_draft.DocDraft.{DocDraft}
use Rattle.doc_request.specs.declared.wish_draft.WishDraft.{WishDraft}
use Rattle.doc_request.specs.Draft.{AreWishes, IsDocument, IsName, IsWish}
use Rattle.doc_request.specs.Written.{entry_bytes, is_in, items_map, name_entry, opened_by, openers, spaces_bytes}
use Rattle.request_laws.proofs.Grouping.{filter-fewer}
use Rattle.request_laws.proofs.Names.{AreNamed, entries_of_space, space-named}
use Rattle.request_laws.proofs.Openers.{Wishes, openers-all, openers-few}

head-short : (form : Form) (major n : ℕ) → length (head form major n) ≤ 9
head-short Within major n = omega arith
head-short One major n = omega arith
head-short Two major n = omega arith
head-short Four major n = omega arith
head-short Eight major n = omega arith

shortest-short : (major n : ℕ) → length (shortest_head major n) ≤ 9
shortest-short major n = head-short (shortest_form n) major n

text-short : (name : List ℕ) → IsName name → length (text_bytes name) ≤ 137
text-short name is = let front = shortest-short 3 (length name) in let short = is.short in omega (arith, length-append (shortest_head 3 (length name)) name)

truth-short : (b : Bool) → length (boolean_bytes b) ≤ 9
truth-short false = omega arith
truth-short true = omega arith

names-short : (ws : Wishes) → AreNamed ws → length (flat_map entry_bytes (map name_entry ws)) ≤ 146 * length ws
names-short [] named = omega arith
names-short (w ∷ ws) named =
    let rest = names-short ws named.1 in
    let name = text-short w.name named.0.name in
    let truth = truth-short w.retain in
    let one = length-append (text_bytes w.name) (boolean_bytes w.retain) in
    let all = length-append (text_bytes w.name ++ boolean_bytes w.retain) (flat_map entry_bytes (map name_entry ws)) in
    omega arith

space-short : (ws : Wishes) (o : WishDraft) → AreWishes ws → IsWish o → length (entry_bytes (opened_by ws o)) ≤ 75000
space-short ws o are named =
    let names = names-short (filter (is_in o.ns) ws) (space-named o.ns ws are) in
    let kept = filter-fewer (is_in o.ns) ws in
    let few = are.few in
    let front = shortest-short 5 (length (entries_of_space o.ns ws)) in
    let text = text-short o.ns named.ns in
    let inside = length-append (shortest_head 5 (length (entries_of_space o.ns ws))) (flat_map entry_bytes (entries_of_space o.ns ws)) in
    let all = length-append (text_bytes o.ns) (map_bytes (entries_of_space o.ns ws)) in
    omega arith

spaces-short : (ws os : Wishes) → AreWishes ws → AreNamed os → length (flat_map entry_bytes (map (opened_by ws) os)) ≤ 75000 * length os
spaces-short ws [] are named = omega arith
spaces-short ws (o ∷ os) are named =
    let rest = spaces-short ws os are named.1 in
    let one = space-short ws o are named.0 in
    let all = length-append (entry_bytes (opened_by ws o)) (flat_map entry_bytes (map (opened_by ws) os)) in
    omega arith

map-short : (ws : Wishes) → AreWishes ws → length (spaces_bytes ws) ≤ 38500000
unfolding spaces_bytes
map-short ws are =
    let os = openers [] ws in
    let rest = spaces-short ws os are (openers-all IsWish [] ws are.names) in
    let fewer = openers-few [] ws in
    let few = are.few in
    let front = shortest-short 5 (length (map (opened_by ws) os)) in
    let all = length-append (shortest_head 5 (length (map (opened_by ws) os))) (flat_map entry_bytes (map (opened_by ws) os)) in
    omega arith

two-fields : (front first type second map : List ℕ) → length front ≤ 9 → length first ≤ 20 → length type ≤ 137 → length second ≤ 20 → length map ≤ 38500000 → length ((((front ++ first) ++ type) ++ second) ++ map) < 2 ^ 32
two-fields front first type second map a b c d e =
    let one = length-append front first in
    let two = length-append (front ++ first) type in
    let three = length-append ((front ++ first) ++ type) second in
    let all = length-append (((front ++ first) ++ type) ++ second) map in
    omega arith

pub items-short : (draft : DocDraft) → IsDocument draft → length (items_map draft) < 2 ^ 32
unfolding items_map map_head key_bytes
items-short draft is =
    two-fields (map_head 2) (key_bytes keys.DocType) (text_bytes draft.doc_type) (key_bytes keys.NameSpaces) (spaces_bytes draft.wishes)
    (omega arith) (omega arith) (text-short draft.doc_type is.doc_type) (omega arith) (map-short draft.wishes is.wishes)
