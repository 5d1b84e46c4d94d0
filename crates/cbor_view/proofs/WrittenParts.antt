-- What is written from parts is read as these parts: the pairs of a map, the item under a tag.
use Rattle.std.proofs.Common.{◌≡◌, ℕ, suc, ◌+◌, ◌-◌, ◌<◌, ◌≤◌, ◌^◌, List, [], ◌∷◌, ◌++◌, length, Some, None, Ok, refl, ap, ◌∙◌, arith}
use Rattle.std.specs.Prelude.{flat_map}
use Rattle.std.proofs.lemmas.List.{append_assoc, length-append}
use Rattle.cbor_view.specs.declared.heads.Head.TheVariants as heads
use Rattle.cbor_view.specs.Tree.{Tree, Array, Map, Tag, Trees, none, more, Pairs, no_pair, pair, count, pair_count, levels, levels_of_all, levels_of_pairs}
use Rattle.cbor_view.specs.Spelling.{Spelled, AllSpelled, PairsSpelled, Fits}
use Rattle.cbor_view.specs.Shortest.{shortest, shortest_head, array_bytes, map_bytes, tag_bytes}
use Rattle.cbor_view.specs.Reading.{reads, tree_of, tree_or_null}
use Rattle.cbor_view.specs.Parts.{Part, cbor, part_of, parts_at, entries_at, array_after, map_after, items_in, pairs_in, tag_after, tag_in}
use Rattle.cbor_view.proofs.HeadReading.{typed-again}
use Rattle.cbor_view.proofs.ShortestSpelling.{head-spelled, shortest-spelled}
use Rattle.cbor_view.proofs.Splitting.{is-first}
use Rattle.cbor_view.proofs.WholeReading.{spells-reads}

-- ---- one item

-- the bytes spell one item, with so many levels at most
pub record IsPiece (d : ℕ) (bytes : List ℕ) : Type 0 where
  pub item : Tree
  pub spelled : Spelled item bytes
  pub nesting : levels item ≤ d

pub piece-shortest : (d : ℕ) (t : Tree) → Fits t → levels t ≤ d → IsPiece d (shortest t)
piece-shortest d t fits nesting = record { item = t; spelled = shortest-spelled t fits; nesting = nesting }

pub piece-deeper : (d e : ℕ) (bytes : List ℕ) → d ≤ e → IsPiece d bytes → IsPiece e bytes
piece-deeper d e bytes le p = let nesting = p.nesting in record { item = p.item; spelled = p.spelled; nesting = omega arith }

pub reads-shortest : (t : Tree) → Fits t → levels t ≤ 32 → reads (shortest t) ≡ Ok t
reads-shortest t fits nesting = spells-reads (shortest t) t (record { spelled = shortest-spelled t fits; nesting = nesting })

pub tree-shortest : (t : Tree) → Fits t → levels t ≤ 32 → tree_of (shortest t) ≡ t
unfolding tree_of
tree-shortest t fits nesting = ap tree_or_null (reads-shortest t fits nesting)

pub cbor-piece : (bytes : List ℕ) → IsPiece 32 bytes → cbor bytes ≡ Ok (record { at = 0; bytes = bytes })
cbor-piece bytes p = ap (part_of bytes) (spells-reads bytes p.item (record { spelled = p.spelled; nesting = p.nesting }))

-- ---- the pairs of a map

-- each key and each value is one item
abbrev pub ArePieces : ℕ → List (List ℕ × List ℕ) → Type 0
ArePieces d [] = Unit {0}
ArePieces d (e ∷ es) = IsPiece d e.0 × IsPiece d e.1 × ArePieces d es

-- the keys and values as parts, from a place on
abbrev pub entries_from : ℕ → List (List ℕ × List ℕ) → List (Part × Part)
entries_from at [] = []
entries_from at (e ∷ es) = (record { at = at; bytes = e.0 }, record { at = at + length e.0; bytes = e.1 }) ∷ entries_from (at + length e.0 + length e.1) es

abbrev both : List ℕ × List ℕ → List ℕ
both e = e.0 ++ e.1

entries-body : (d : ℕ) (es : List (List ℕ × List ℕ)) (at : ℕ) → ArePieces d es → d ≤ 32 → entries_at (length es) (record { at = at; bytes = flat_map both es }) ≡ entries_from at es
unfolding entries_at
entries-body d [] at p h = refl
entries-body d (e ∷ es) at p h =
    let rest = flat_map both es in
    let k = p.0 in
    let v = p.1 in
    let f = is-first k.item e.0 (e.1 ++ rest) k.spelled (let n = k.nesting in omega arith) in
    let g = is-first v.item e.1 rest v.spelled (let n = v.nesting in omega arith) in
    rw (append_assoc e.0 e.1 rest)
    (rw (f.front_is, f.rest_is, f.size_is) (rw (g.front_is, g.rest_is, g.size_is) (ap (λ x. (record { at = at; bytes = e.0 }, record { at = at + length e.0; bytes = e.1 }) ∷ x) (entries-body d es (at + length e.0 + length e.1) p.2 h))))

-- where the pairs of a map begin
abbrev pub pairs_begin : ℕ → List (List ℕ × List ℕ) → ℕ
pairs_begin at es = at + length (shortest_head 5 (length es))

body-place : (at : ℕ) (front rest : List ℕ) → at + (length (front ++ rest) - length rest) ≡ at + length front
body-place at front rest = omega (arith, length-append front rest)

pub pairs-written : (d : ℕ) (es : List (List ℕ × List ℕ)) (at : ℕ) → ArePieces d es → d ≤ 32 → length es < 2 ^ 32 → pairs_in (record { at = at; bytes = map_bytes es }) ≡ Some (entries_from (pairs_begin at es) es)
pairs-written d es at p h n =
    let front = shortest_head 5 (length es) in
    let rest = flat_map both es in
    let head = typed-again (heads.Map (length es)) front rest (head-spelled 5 (length es) (omega arith)) in
    ap (map_after (record { at = at; bytes = front ++ rest })) head
    ∙ ap (λ place. Some (entries_at (length es) (record { at = place; bytes = rest }))) (body-place at front rest)
    ∙ ap (λ x. Some x) (entries-body d es (at + length front) p h)

-- the tree of such a map
record HasPairs (d : ℕ) (es : List (List ℕ × List ℕ)) : Type 0 where
  pairs : Pairs
  spelled : PairsSpelled pairs (flat_map both es)
  counted : pair_count pairs ≡ length es
  nesting : levels_of_pairs pairs ≤ d

has-pairs : (d : ℕ) (es : List (List ℕ × List ℕ)) → ArePieces d es → HasPairs d es
has-pairs d [] p = record { pairs = no_pair; spelled = refl; counted = refl; nesting = omega arith }
has-pairs d (e ∷ es) p =
    let k = p.0 in
    let v = p.1 in
    let others = has-pairs d es p.2 in
    let rest = flat_map both es in
    record {
      pairs = pair k.item v.item others.pairs;
      spelled = record {
        front = e.0;
        rest = e.1 ++ rest;
        first = k.spelled;
        second = record { front = e.1; rest = rest; first = v.spelled; second = others.spelled; whole = refl };
        whole = append_assoc e.0 e.1 rest;
      };
      counted = ap suc others.counted;
      nesting = let a = k.nesting in let b = v.nesting in let c = others.nesting in omega arith;
    }

pub piece-map : (d : ℕ) (es : List (List ℕ × List ℕ)) → ArePieces d es → length es < 2 ^ 32 → IsPiece (d + 1) (map_bytes es)
piece-map d es p n =
    let all = has-pairs d es p in
    record {
      item = Map all.pairs;
      spelled = (
        (let counted = all.counted in omega arith),
        record {
          front = shortest_head 5 (length es);
          rest = flat_map both es;
          first = rw all.counted (head-spelled 5 (length es) (omega arith));
          second = all.spelled;
          whole = refl;
        },
      );
      nesting = let nesting = all.nesting in omega arith;
    }

-- ---- the items of an array

-- each is one item
abbrev pub AllPieces : ℕ → List (List ℕ) → Type 0
AllPieces d [] = Unit {0}
AllPieces d (part ∷ parts) = IsPiece d part × AllPieces d parts

-- the items as parts, from a place on
abbrev pub parts_from : ℕ → List (List ℕ) → List Part
parts_from at [] = []
parts_from at (part ∷ parts) = (record { at = at; bytes = part }) ∷ parts_from (at + length part) parts

abbrev own : List ℕ → List ℕ
own part = part

parts-body : (d : ℕ) (parts : List (List ℕ)) (at : ℕ) → AllPieces d parts → d ≤ 32 → parts_at (length parts) (record { at = at; bytes = flat_map own parts }) ≡ parts_from at parts
unfolding parts_at
parts-body d [] at p h = refl
parts-body d (part ∷ parts) at p h =
    let rest = flat_map own parts in
    let q = p.0 in
    let f = is-first q.item part rest q.spelled (let n = q.nesting in omega arith) in
    rw (f.front_is, f.rest_is, f.size_is) (ap (λ (x : List Part). (record { at = at; bytes = part }) ∷ x) (parts-body d parts (at + length part) p.1 h))

-- where the items of an array begin
abbrev pub items_begin : ℕ → List (List ℕ) → ℕ
items_begin at parts = at + length (shortest_head 4 (length parts))

pub items-written : (d : ℕ) (parts : List (List ℕ)) (at : ℕ) → AllPieces d parts → d ≤ 32 → length parts < 2 ^ 32 → items_in (record { at = at; bytes = array_bytes parts }) ≡ Some (parts_from (items_begin at parts) parts)
items-written d parts at p h n =
    let front = shortest_head 4 (length parts) in
    let rest = flat_map own parts in
    let head = typed-again (heads.Array (length parts)) front rest (head-spelled 4 (length parts) (omega arith)) in
    ap (array_after (record { at = at; bytes = front ++ rest })) head
    ∙ ap (λ place. Some (parts_at (length parts) (record { at = place; bytes = rest }))) (body-place at front rest)
    ∙ ap (λ (x : List Part). Some x) (parts-body d parts (at + length front) p h)

-- an array is under no tag
pub array-untagged : (parts : List (List ℕ)) (at : ℕ) → length parts < 2 ^ 32 → tag_in (record { at = at; bytes = array_bytes parts }) ≡ None
array-untagged parts at n =
    let front = shortest_head 4 (length parts) in
    let rest = flat_map own parts in
    ap (tag_after (record { at = at; bytes = front ++ rest })) (typed-again (heads.Array (length parts)) front rest (head-spelled 4 (length parts) (omega arith)))

-- the tree of such an array
record HasItems (d : ℕ) (parts : List (List ℕ)) : Type 0 where
  items : Trees
  spelled : AllSpelled items (flat_map own parts)
  counted : count items ≡ length parts
  nesting : levels_of_all items ≤ d

has-items : (d : ℕ) (parts : List (List ℕ)) → AllPieces d parts → HasItems d parts
has-items d [] p = record { items = none; spelled = refl; counted = refl; nesting = omega arith }
has-items d (part ∷ parts) p =
    let q = p.0 in
    let others = has-items d parts p.1 in
    record {
      items = more q.item others.items;
      spelled = record { front = part; rest = flat_map own parts; first = q.spelled; second = others.spelled; whole = refl };
      counted = ap suc others.counted;
      nesting = let a = q.nesting in let b = others.nesting in omega arith;
    }

pub piece-array : (d : ℕ) (parts : List (List ℕ)) → AllPieces d parts → length parts < 2 ^ 32 → IsPiece (d + 1) (array_bytes parts)
piece-array d parts p n =
    let all = has-items d parts p in
    record {
      item = Array all.items;
      spelled = (
        (let counted = all.counted in omega arith),
        record {
          front = shortest_head 4 (length parts);
          rest = flat_map own parts;
          first = rw all.counted (head-spelled 4 (length parts) (omega arith));
          second = all.spelled;
          whole = refl;
        },
      );
      nesting = let nesting = all.nesting in omega arith;
    }

-- ---- a tag

pub tag-written : (n at : ℕ) (inner : List ℕ) → n < 2 ^ 64 → tag_in (record { at = at; bytes = tag_bytes n inner }) ≡ Some (n, record { at = at + length (shortest_head 6 n); bytes = inner })
tag-written n at inner h =
    let front = shortest_head 6 n in
    ap (tag_after (record { at = at; bytes = front ++ inner })) (typed-again (heads.Tag n) front inner (head-spelled 6 n h))
    ∙ ap (λ place. Some (n, record { at = place; bytes = inner })) (body-place at front inner)
