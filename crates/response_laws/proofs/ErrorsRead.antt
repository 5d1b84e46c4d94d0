-- Errors that were written are read as they were given.
use Rattle.std.proofs.Common.{◌≡◌, ℕ, pos, true, ◌+◌, ◌<◌, ◌^◌, List, [], ◌∷◌, ◌++◌, length, map, Some, Ok, refl, ap, ◌∙◌, arith}
use Rattle.std.specs.Prelude.{is_some}
use Rattle.std.specs.List.{AllByRecursion}
use Rattle.std.proofs.lemmas.List.{map-append}
use Rattle.mdoc_outside.specs.declared.key_name.KeyName.TheVariants as keys
use Rattle.mdoc_outside.specs.OptionSteps.{each}
use Rattle.cbor_view.specs.Parts.{Part, tree_in}
use Rattle.cbor_view.specs.Shortest.{array_bytes, map_bytes, text_bytes, uint_bytes}
use Rattle.cbor_view.specs.Tree.{Unsigned, int_of}
use Rattle.cbor_view.proofs.WrittenParts.{AllPieces, ArePieces, IsPiece, entries_from, items-written, items_begin, pairs-written, pairs_begin, parts_from, piece-array, piece-map, piece-shortest, tree-shortest}
use Rattle.doc_response.specs.Answered.{document_error, error_entry, errors_entry, errors_map, distinct_texts, grouped, if_any, of_namespace}
use Rattle.doc_response.specs.Response as reading
use Rattle.doc_response.specs.ResponseParts.{are_element_errors, error_of, errors_in, namespace_errors}
use Rattle.doc_response.specs.WrittenReads.{IsText, plain_part}
use Rattle.doc_response.proofs.Each.{each_more}
use Rattle.doc_response.proofs.Grouping.{firsts-all, grouped-fewer, map-all, map-length, of-all, of-fewer}
use Rattle.doc_response.proofs.GroupsRead.{text-piece, text-read}
use Rattle.response_laws.specs.ReadBack.{not_returned}
use Rattle.response_laws.specs.Writable.{IsName}
use Rattle.response_laws.proofs.NamedMaps.{MayHave}
use Rattle.response_laws.proofs.WholeDocument.{AreNames}

-- ---- names, each with error code 0

record CodesRead (entries : List (Part × Part)) (names : List (List ℕ)) : Type 0 where
  errors : List (List ℕ × Part)
  is : each error_of entries ≡ Some errors
  same : map plain_part errors ≡ map not_returned names

zero-read : (at : ℕ) → int_of (tree_in (record { at = at; bytes = uint_bytes 0 })) ≡ Some (pos 0)
zero-read at = rw (tree-shortest (Unsigned 0) (omega arith) (omega arith)) refl

codes-read : (at : ℕ) (names : List (List ℕ)) → AllByRecursion IsText names → CodesRead (entries_from at (map error_entry names)) names
codes-read at [] all = record { errors = []; is = refl; same = refl }
codes-read at (name ∷ names) all =
    let place = at + length (text_bytes name) in
    let rest = codes-read (place + length (uint_bytes 0)) names all.1 in
    record {
      errors = (name, record { at = place; bytes = uint_bytes 0 }) ∷ rest.errors;
      is = rw (text-read at name all.0) (rw (zero-read place) (rw rest.is refl));
      same = ap (λ (x : List (List ℕ × List ℕ)). (name, uint_bytes 0) ∷ x) rest.same;
    }

code-pieces : (d : ℕ) (names : List (List ℕ)) → AllByRecursion IsText names → ArePieces d (map error_entry names)
code-pieces d [] all = tt
code-pieces d (name ∷ names) all = (text-piece d name all.0, piece-shortest d (Unsigned 0) (omega arith) (omega arith), code-pieces d names all.1)

record CodesMapRead (value : Part) (names : List (List ℕ)) : Type 0 where
  errors : List (List ℕ × Part)
  is : errors_in value ≡ Some errors
  same : map plain_part errors ≡ map not_returned names

codes-map-read : (at : ℕ) (names : List (List ℕ)) → AllByRecursion IsText names → length names < 2 ^ 32 → CodesMapRead (record { at = at; bytes = map_bytes (map error_entry names) }) names
codes-map-read at names all few =
    let entries = map error_entry names in
    let count = map-length error_entry names in
    let c = codes-read (pairs_begin at entries) names all in
    record {
      errors = c.errors;
      is = rw (pairs-written 0 entries at (code-pieces 0 names all) (omega arith) (omega (arith, count, few))) c.is;
      same = c.same;
    }

codes-piece : (names : List (List ℕ)) → AllByRecursion IsText names → length names < 2 ^ 32 → IsPiece 1 (map_bytes (map error_entry names))
codes-piece names all few = let count = map-length error_entry names in piece-map 0 (map error_entry names) (code-pieces 0 names all) (omega (arith, count, few))

-- ---- the errors of a document's elements

abbrev Group : Type 0
Group = List ℕ × List (List ℕ)

record IsErrors (group : Group) : Type 0 where
  text : IsText group.0
  names : AllByRecursion IsText group.1
  few : length group.1 < 2 ^ 32

groups-read : (at : ℕ) (groups : List Group) → AllByRecursion IsErrors groups → is_some (each namespace_errors (entries_from at (map errors_entry groups))) ≡ true
groups-read at [] all = refl
groups-read at (group ∷ groups) all =
    let g = all.0 in
    let place = at + length (text_bytes group.0) in
    let one = codes-map-read place group.1 g.names g.few in
    let rest = map_bytes (map error_entry group.1) in
    let behind = place + length rest in
    each_more namespace_errors (record { at = at; bytes = text_bytes group.0 }, record { at = place; bytes = rest }) (entries_from behind (map errors_entry groups))
    (rw (text-read at group.0 g.text) (rw one.is refl))
    ∙ groups-read behind groups all.1

group-pieces : (groups : List Group) → AllByRecursion IsErrors groups → ArePieces 1 (map errors_entry groups)
group-pieces [] all = tt
group-pieces (group ∷ groups) all = let g = all.0 in (text-piece 1 group.0 g.text, codes-piece group.1 g.names g.few, group-pieces groups all.1)

abbrev Pairs : Type 0
Pairs = List (List ℕ × List ℕ)

spaces-all : (missing : Pairs) → AllByRecursion IsName missing → AllByRecursion (λ (element : List ℕ × List ℕ). IsText element.0) missing
spaces-all [] all = tt
spaces-all (element ∷ missing) all = (all.0.0, spaces-all missing all.1)

names-all : (missing : Pairs) → AllByRecursion IsName missing → AllByRecursion (λ (element : List ℕ × List ℕ). IsText element.1) missing
names-all [] all = tt
names-all (element ∷ missing) all = (all.0.1, names-all missing all.1)

groups-of : (missing : Pairs) → AreNames missing → (spaces : List (List ℕ)) → AllByRecursion IsText spaces → AllByRecursion IsErrors (map (of_namespace missing) spaces)
groups-of missing are [] all = tt
groups-of missing are (space ∷ spaces) all =
    let few = are.few in
    let fewer = of-fewer space missing in (
      record {
        text = all.0;
        names = of-all IsText space missing (names-all missing are.each);
        few = omega (arith, few, fewer);
      },
      groups-of missing are spaces all.1,
    )

error-groups : (missing : Pairs) → AreNames missing → AllByRecursion IsErrors (grouped missing)
error-groups missing are =
    let spaces = map (λ (element : List ℕ × List ℕ). element.0) missing in
    groups-of missing are (distinct_texts spaces) (firsts-all IsText spaces (map-all IsText (λ (element : List ℕ × List ℕ). element.0) missing (spaces-all missing are.each)))

few-groups : (missing : Pairs) → length missing < 2 ^ 32 → length (map errors_entry (grouped missing)) < 2 ^ 32
few-groups missing few =
    let fewer = grouped-fewer missing in
    let count = map-length errors_entry (grouped missing) in
    omega (arith, few, fewer, count)

pub errors-piece : (missing : Pairs) → AreNames missing → IsPiece 2 (errors_map missing)
unfolding errors_map
errors-piece missing are = piece-map 1 (map errors_entry (grouped missing)) (group-pieces (grouped missing) (error-groups missing are)) (few-groups missing are.few)

errors-are : (at : ℕ) (missing : Pairs) → AreNames missing → are_element_errors (record { at = at; bytes = errors_map missing }) ≡ true
unfolding errors_map
errors-are at missing are =
    let entries = map errors_entry (grouped missing) in
    rw (pairs-written 1 entries at (group-pieces (grouped missing) (error-groups missing are)) (omega arith) (few-groups missing are.few))
    (groups-read (pairs_begin at entries) (grouped missing) (error-groups missing are))

pub element-errors-read : (m : Part) (missing : Pairs) → AreNames missing → MayHave m keys.Errors (if_any missing (errors_map missing)) → reading.element_errors m ≡ Ok tt
element-errors-read m [] are has = rw has refl
element-errors-read m (element ∷ missing) are has = rw has.is (rw (errors-are has.at (element ∷ missing) are) refl)

-- ---- the errors of document types

type-read : (at : ℕ) (doc_type : List ℕ) → IsText doc_type → CodesMapRead (record { at = at; bytes = document_error doc_type }) (doc_type ∷ [])
unfolding document_error
type-read at doc_type is = codes-map-read at (doc_type ∷ []) (is, tt) (omega arith)

type-piece : (doc_type : List ℕ) → IsText doc_type → IsPiece 1 (document_error doc_type)
unfolding document_error
type-piece doc_type is = codes-piece (doc_type ∷ []) (is, tt) (omega arith)

type-pieces : (types : List (List ℕ)) → AllByRecursion IsText types → AllPieces 1 (map document_error types)
type-pieces [] all = tt
type-pieces (doc_type ∷ types) all = (type-piece doc_type all.0, type-pieces types all.1)

record TypesRead (parts : List Part) (types : List (List ℕ)) : Type 0 where
  maps : List (List (List ℕ × Part))
  is : each errors_in parts ≡ Some maps
  same : map plain_part (reading.all_errors maps) ≡ map not_returned types

types-read : (at : ℕ) (types : List (List ℕ)) → AllByRecursion IsText types → TypesRead (parts_from at (map document_error types)) types
types-read at [] all = record { maps = []; is = refl; same = refl }
types-read at (doc_type ∷ types) all =
    let one = type-read at doc_type all.0 in
    let rest = types-read (at + length (document_error doc_type)) types all.1 in
    record {
      maps = one.errors ∷ rest.maps;
      is = rw one.is (rw rest.is refl);
      same = map-append plain_part one.errors (reading.all_errors rest.maps)
          ∙ ap (λ (x : List (List ℕ × List ℕ)). x ++ map plain_part (reading.all_errors rest.maps)) one.same
          ∙ ap (λ (x : List (List ℕ × List ℕ)). not_returned doc_type ∷ x) rest.same;
    }

few-types : (types : List (List ℕ)) → length types < 2 ^ 32 → length (map document_error types) < 2 ^ 32
few-types types few = let count = map-length document_error types in omega (arith, count, few)

pub types-piece : (types : List (List ℕ)) → AllByRecursion IsText types → length types < 2 ^ 32 → IsPiece 2 (array_bytes (map document_error types))
types-piece types all few = piece-array 1 (map document_error types) (type-pieces types all) (few-types types few)

pub record DocumentErrorsRead (m : Part) (types : List (List ℕ)) : Type 0 where
  pub errors : List (List ℕ × Part)
  pub is : reading.document_errors m ≡ Ok errors
  pub same : map plain_part errors ≡ map not_returned types

pub document-errors-read : (m : Part) (types : List (List ℕ)) → AllByRecursion IsText types → length types < 2 ^ 32 →
    MayHave m keys.DocumentErrors (if_any types (array_bytes (map document_error types))) → DocumentErrorsRead m types
document-errors-read m [] all few has = record { errors = []; is = rw has refl; same = refl }
document-errors-read m (doc_type ∷ types) all few has =
    let parts = map document_error (doc_type ∷ types) in
    let read = types-read (items_begin has.at parts) (doc_type ∷ types) all in
    record {
      errors = reading.all_errors read.maps;
      is = rw has.is (rw (items-written 1 parts has.at (type-pieces (doc_type ∷ types) all) (omega arith) (few-types (doc_type ∷ types) few)) (rw read.is refl));
      same = read.same;
    }
