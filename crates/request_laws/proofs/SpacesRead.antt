-- The namespaces that were written are read by what was given, and nothing is wrong with them.
use Rattle.std.proofs.Common.{◌≡◌, ◌<◌, ◌≤◌, ◌+◌, ℕ, Bool, true, false, ◌&&◌, ◌||◌, cond, List, [], ◌∷◌, ◌++◌, length, None, Some, refl, ap, arith}
use Rattle.std.specs.Prelude.{filter, flat_map, map, nat_le}
use Rattle.std.specs.List.{AllByRecursion, list_all}
use Rattle.std.specs.Str.{bytes_eq}
use Rattle.std.proofs.lemmas.Bool.{le-leb}
use Rattle.std.proofs.lemmas.List.Sorted.{length_permutation}
use Rattle.cbor_view.specs.Parts.{pairs_in}
use Rattle.cbor_view.specs.Shortest.{map_bytes, text_bytes}
use Rattle.cbor_view.proofs.WrittenParts.{ArePieces, IsPiece, entries_from, pairs_begin, pairs-written, piece-map}
use Rattle.doc_request.specs.declared.wish_draft.WishDraft.{WishDraft}
use Rattle.doc_request.specs.Draft.{AreWishes, IsWish}
use Rattle.doc_request.specs.Spaces.{are_distinct, elements, entries, has_distinct_names, has_name, is_count, is_empty, is_space, spaces_fault}
use Rattle.doc_request.specs.Written.{is_in, name_entry, opened_by, openers, spaces_bytes}
use Rattle.request_laws.specs.ReadBack.{grouped, of_space}
use Rattle.request_laws.proofs.Grouping.{grouped-permutation}
use Rattle.request_laws.proofs.Names.{AreNamed, all-elements, elements-read, entries_of_space, in-space, map-length, name-piece, name-read, names-distinct, names-once, space-named, space-pairs, space-piece}
use Rattle.request_laws.proofs.Openers.{AreOnce, Wishes, has_space, openers-all, openers-few, openers-once, own}

abbrev pub Pairs : Type 0
Pairs = List (List ℕ × List ℕ)

-- the bytes of a namespace's map, and where the next namespace is
abbrev map_of : Wishes → WishDraft → List ℕ
map_of ws o = map_bytes (entries_of_space o.ns ws)

abbrev after : ℕ → Wishes → WishDraft → ℕ
after at ws o = at + length (text_bytes o.ns) + length (map_of ws o)

pub spaces-pieces : (ws os : Wishes) → AreWishes ws → AreNamed os → ArePieces 1 (map (opened_by ws) os)
spaces-pieces ws [] are named = tt
spaces-pieces ws (o ∷ os) are named = (name-piece 1 o.ns named.0.ns, space-piece o.ns ws are, spaces-pieces ws os are named.1)

spaces-elements : (at : ℕ) (ws os : Wishes) → AreWishes ws → AreNamed os → elements (entries_from at (map (opened_by ws) os)) ≡ flat_map (of_space ws) os
spaces-elements at ws [] are named = refl
spaces-elements at ws (o ∷ os) are named =
    let place = at + length (text_bytes o.ns) in
    rw (name-read at o.ns named.0.ns)
    (rw (space-pairs place o.ns ws are)
    (rw (elements-read o.ns (pairs_begin place (entries_of_space o.ns ws)) (filter (is_in o.ns) ws) (space-named o.ns ws are) (in-space o.ns ws))
    (ap (λ (x : Wishes). filter (is_in o.ns) ws ++ x) (spaces-elements (after at ws o) ws os are named.1))))

-- a namespace that one of the wishes is in has an entry
some-entry : (at : ℕ) (ns : List ℕ) (ws : Wishes) → has_space ns ws ≡ true → is_empty (entries_from at (entries_of_space ns ws)) ≡ false
some-entry at ns [] e = absurd (cc)
some-entry at ns (w ∷ ws) e = go (some-entry at ns ws) (bytes_eq w.ns ns) e where
  go : (has_space ns ws ≡ true → is_empty (entries_from at (entries_of_space ns ws)) ≡ false) → (b : Bool) → (b || has_space ns ws) ≡ true → is_empty (entries_from at (map name_entry (cond b (w ∷ filter (is_in ns) ws) (filter (is_in ns) ws)))) ≡ false
  go later true e = refl
  go later false e = later e

abbrev AreThere : Wishes → Wishes → Type 0
AreThere ws os = AllByRecursion (λ o. has_space o.ns ws ≡ true) os

all-spaces : (at : ℕ) (ws os : Wishes) → AreWishes ws → AreNamed os → AreThere ws os → list_all is_space (entries_from at (map (opened_by ws) os)) ≡ true
all-spaces at ws [] are named there = refl
all-spaces at ws (o ∷ os) are named there =
    let place = at + length (text_bytes o.ns) in
    let begin = pairs_begin place (entries_of_space o.ns ws) in
    rw (name-read at o.ns named.0.ns)
    (rw (space-pairs place o.ns ws are)
    (rw (some-entry begin o.ns ws there.0, all-elements begin (filter (is_in o.ns) ws) (space-named o.ns ws are))
    (all-spaces (after at ws o) ws os are named.1 there.1)))

spaces-any : (name : List ℕ) (at : ℕ) (ws os : Wishes) → AreNamed os → has_name name (entries_from at (map (opened_by ws) os)) ≡ has_space name os
spaces-any name at ws [] named = refl
spaces-any name at ws (o ∷ os) named =
    rw (name-read at o.ns named.0.ns) (ap (λ b. bytes_eq o.ns name || b) (spaces-any name (after at ws o) ws os named.1))

spaces-distinct : (at : ℕ) (ws os : Wishes) → AreNamed os → AreOnce os → are_distinct (entries_from at (map (opened_by ws) os)) ≡ true
spaces-distinct at ws [] named once = refl
spaces-distinct at ws (o ∷ os) named once =
    rw (name-read at o.ns named.0.ns)
    (rw (spaces-any o.ns (after at ws o) ws os named.1) (rw once.0 (spaces-distinct (after at ws o) ws os named.1 once.1)))

all-names-distinct : (at : ℕ) (ws os : Wishes) → AreWishes ws → list_all has_distinct_names (entries_from at (map (opened_by ws) os)) ≡ true
all-names-distinct at ws [] are = refl
all-names-distinct at ws (o ∷ os) are =
    let place = at + length (text_bytes o.ns) in
    rw (space-pairs place o.ns ws are)
    (rw (names-distinct (pairs_begin place (entries_of_space o.ns ws)) (filter (is_in o.ns) ws) (space-named o.ns ws are) (names-once o.ns ws are.distinct))
    (all-names-distinct (after at ws o) ws os are))

-- ---- the map of them

abbrev pub entries_of_spaces : Wishes → Pairs
entries_of_spaces ws = map (opened_by ws) (openers [] ws)

pub few-spaces : (ws : Wishes) → AreWishes ws → length (entries_of_spaces ws) ≤ 512
few-spaces ws are = let few = are.few in let fewer = openers-few [] ws in rw (map-length (opened_by ws) (openers [] ws)) (omega arith)

named-openers : (ws : Wishes) → AreWishes ws → AreNamed (openers [] ws)
named-openers ws are = openers-all IsWish [] ws are.names

pub spaces-piece : (ws : Wishes) → AreWishes ws → IsPiece 2 (spaces_bytes ws)
unfolding spaces_bytes
spaces-piece ws are = let few = few-spaces ws are in piece-map 1 (entries_of_spaces ws) (spaces-pieces ws (openers [] ws) are (named-openers ws are)) (omega arith)

pub spaces-pairs : (at : ℕ) (ws : Wishes) → AreWishes ws → pairs_in (record { at = at; bytes = spaces_bytes ws }) ≡ Some (entries_from (pairs_begin at (entries_of_spaces ws)) (entries_of_spaces ws))
unfolding spaces_bytes
spaces-pairs at ws are = let few = few-spaces ws are in pairs-written 1 (entries_of_spaces ws) at (spaces-pieces ws (openers [] ws) are (named-openers ws are)) (omega arith) (omega arith)

pub wishes-read : (at : ℕ) (ws : Wishes) → AreWishes ws → elements (entries (record { at = at; bytes = spaces_bytes ws })) ≡ grouped ws
wishes-read at ws are = rw (spaces-pairs at ws are) (spaces-elements (pairs_begin at (entries_of_spaces ws)) ws (openers [] ws) are (named-openers ws are))

counted : (most n : ℕ) → 0 < n → n ≤ most → (nat_le 1 n && nat_le n most) ≡ true
counted most n some few = rw (le-leb 1 n (omega arith), le-leb n most few) refl

pub spaces-sound : (at : ℕ) (ws : Wishes) → AreWishes ws → 0 < length ws → spaces_fault (entries (record { at = at; bytes = spaces_bytes ws })) ≡ None
spaces-sound at ws are some =
    let begin = pairs_begin at (entries_of_spaces ws) in
    let os = openers [] ws in
    let named = named-openers ws are in
    let few = are.few in
    let kept = length_permutation _ _ (grouped-permutation ws) in
    let count : is_count 512 (grouped ws) ≡ true = counted 512 (length (grouped ws)) (omega arith) (omega arith) in
    rw (spaces-pairs at ws are)
    (rw (all-spaces begin ws os are named (openers-all (λ o. has_space o.ns ws ≡ true) [] ws (own ws)))
    (rw (spaces-elements begin ws os are named)
    (rw count
    (rw (spaces-distinct begin ws os named (openers-once [] ws), all-names-distinct begin ws os are) refl))))
