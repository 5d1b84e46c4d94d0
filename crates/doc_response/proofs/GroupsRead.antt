-- Namespaces that were written are read as they were given.
use Rattle.std.proofs.Common.{◌≡◌, ◌+◌, ◌<◌, ◌^◌, ℕ, List, [], ◌∷◌, length, map, Some, refl, ap, ◌∙◌, arith}
use Rattle.mdoc_outside.specs.OptionSteps.{each}
use Rattle.cbor_view.specs.Parts.{Part, text_in}
use Rattle.cbor_view.specs.Shortest.{array_bytes, map_bytes, text_bytes}
use Rattle.cbor_view.specs.Tree.{Text}
use Rattle.cbor_view.proofs.WrittenParts.{IsPiece, AllPieces, ArePieces, entries_from, items-written, items_begin, pairs-written, pairs_begin, parts_from, piece-array, piece-shortest, tree-shortest}
use Rattle.doc_response.specs.Answered.{namespace_entry}
use Rattle.doc_response.specs.ResponseParts.{namespace, namespaces_in}
use Rattle.doc_response.specs.WrittenReads.{IsText}

pub text-read : (at : ℕ) (text : List ℕ) → IsText text → text_in (record { at = at; bytes = text_bytes text }) ≡ Some text
text-read at text is = rw (tree-shortest (Text text) (is.short, is.utf8) (omega arith)) refl

pub text-piece : (d : ℕ) (text : List ℕ) → IsText text → IsPiece d (text_bytes text)
text-piece d text is = piece-shortest d (Text text) (is.short, is.utf8) (omega arith)

abbrev Group : Type 0
Group = List ℕ × List (List ℕ)

abbrev pub part_bytes : Part → List ℕ
part_bytes p = p.bytes

pub parts-bytes : (at : ℕ) (parts : List (List ℕ)) → map part_bytes (parts_from at parts) ≡ parts
parts-bytes at [] = refl
parts-bytes at (part ∷ parts) = ap (λ (x : List (List ℕ)). part ∷ x) (parts-bytes (at + length part) parts)

-- the groups are namespaces of items, of few levels each
pub record IsGroup (d : ℕ) (group : Group) : Type 0 where
  pub text : IsText group.0
  pub items : AllPieces d group.1
  pub few : length group.1 < 2 ^ 32

abbrev pub AreGroups : ℕ → List Group → Type 0
AreGroups d [] = Unit {0}
AreGroups d (group ∷ groups) = IsGroup d group × AreGroups d groups

pub group-pieces : (d : ℕ) (groups : List Group) → AreGroups d groups → ArePieces (d + 1) (map namespace_entry groups)
group-pieces d [] are = tt
group-pieces d (group ∷ groups) are = let g = are.0 in
    (text-piece (d + 1) group.0 g.text, piece-array d group.1 g.items g.few, group-pieces d groups are.1)

abbrev pub plain_group : List ℕ × List Part → Group
plain_group space = (space.0, map part_bytes space.1)

pub record GroupsRead (entries : List (Part × Part)) (groups : List Group) : Type 0 where
  pub spaces : List (List ℕ × List Part)
  pub is : each namespace entries ≡ Some spaces
  pub same : map plain_group spaces ≡ groups

pub groups-read : (at d : ℕ) (groups : List Group) → AreGroups d groups → d < 32 → GroupsRead (entries_from at (map namespace_entry groups)) groups
groups-read at d [] are h = record { spaces = []; is = refl; same = refl }
groups-read at d (group ∷ groups) are h =
    let g = are.0 in
    let place = at + length (text_bytes group.0) in
    let rest = groups-read (place + length (array_bytes group.1)) d groups are.1 h in
    let parts = parts_from (items_begin place group.1) group.1 in
    record {
      spaces = (group.0, parts) ∷ rest.spaces;
      is = rw (text-read at group.0 g.text) (rw (items-written d group.1 place g.items (omega arith) g.few) (rw rest.is refl));
      same = ap (λ (x : List (List ℕ)). (group.0, x) ∷ map plain_group rest.spaces) (parts-bytes (items_begin place group.1) group.1) ∙ ap (λ (x : List Group). group ∷ x) rest.same;
    }

pub record MapRead (at : ℕ) (groups : List Group) : Type 0 where
  pub spaces : List (List ℕ × List Part)
  pub is : namespaces_in (record { at = at; bytes = map_bytes (map namespace_entry groups) }) ≡ Some spaces
  pub same : map plain_group spaces ≡ groups

pub map-read : (at d : ℕ) (groups : List Group) → AreGroups d groups → d < 31 → length (map namespace_entry groups) < 2 ^ 32 → MapRead at groups
map-read at d groups are h few =
    let entries = map namespace_entry groups in
    let g = groups-read (pairs_begin at entries) d groups are (omega arith) in
    record {
      spaces = g.spaces;
      is = rw (pairs-written (d + 1) entries at (group-pieces d groups are) (omega arith) few) g.is;
      same = g.same;
    }
