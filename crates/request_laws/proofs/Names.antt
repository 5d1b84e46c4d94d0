-- The names of a namespace that were written are read as they were given.
use Rattle.std.proofs.Common.{◌≡◌, ◌≤◌, ◌+◌, ℕ, suc, Bool, true, false, not, ◌&&◌, ◌||◌, cond, List, [], ◌∷◌, length, Some, refl, sym, ap, ◌∙◌, subst, arith, inl}
use Rattle.std.specs.Prelude.{filter, filter_map, map}
use Rattle.std.specs.List.{AllByRecursion, list_all, list_any}
use Rattle.std.specs.Str.{bytes_eq}
use Rattle.std.proofs.lemmas.Slice.Eq.{bytes_eq-Decides}
use Rattle.cbor_view.specs.Parts.{boolean_in, pairs_in, text_in}
use Rattle.cbor_view.specs.Shortest.{boolean_bytes, map_bytes, text_bytes}
use Rattle.cbor_view.specs.Spelling.{Fits}
use Rattle.cbor_view.specs.Tree.{Simple, Text}
use Rattle.cbor_view.proofs.WrittenParts.{ArePieces, IsPiece, entries_from, pairs_begin, pairs-written, piece-map, piece-shortest, tree-shortest}
use Rattle.doc_request.specs.declared.wish_draft.WishDraft.{WishDraft}
use Rattle.doc_request.specs.Draft as drafts
use Rattle.doc_request.specs.Draft.{AreWishes, IsName, IsWish, is_same_element}
use Rattle.doc_request.specs.Spaces.{are_distinct, element, has_name, is_element}
use Rattle.doc_request.specs.Written.{is_in, name_entry}
use Rattle.request_laws.proofs.Grouping.{filter-all, filter-fewer}
use Rattle.request_laws.proofs.Openers.{Wishes, same}

-- ---- texts and truth values

name-fits : (name : List ℕ) → IsName name → Fits (Text name)
name-fits name is = let short = is.short in (omega arith, is.text)

pub name-piece : (d : ℕ) (name : List ℕ) → IsName name → IsPiece d (text_bytes name)
name-piece d name is = piece-shortest d (Text name) (name-fits name is) (omega arith)

pub name-read : (at : ℕ) (name : List ℕ) → IsName name → text_in (record { at = at; bytes = text_bytes name }) ≡ Some name
name-read at name is = rw (tree-shortest (Text name) (name-fits name is) (omega arith)) refl

truth-piece : (d : ℕ) (b : Bool) → IsPiece d (boolean_bytes b)
truth-piece d false = piece-shortest d (Simple 20) (inl (omega arith)) (omega arith)
truth-piece d true = piece-shortest d (Simple 21) (inl (omega arith)) (omega arith)

truth-read : (at : ℕ) (b : Bool) → boolean_in (record { at = at; bytes = boolean_bytes b }) ≡ Some b
truth-read at false = rw (tree-shortest (Simple 20) (inl (omega arith)) (omega arith)) refl
truth-read at true = rw (tree-shortest (Simple 21) (inl (omega arith)) (omega arith)) refl

-- ---- the entries of a namespace

abbrev pub AreNamed : Wishes → Type 0
AreNamed ws = AllByRecursion IsWish ws

pub names-pieces : (ws : Wishes) → AreNamed ws → ArePieces 0 (map name_entry ws)
names-pieces [] named = tt
names-pieces (w ∷ ws) named = (name-piece 0 w.name named.0.name, truth-piece 0 w.retain, names-pieces ws named.1)

-- all are in the namespace
abbrev pub AllIn : List ℕ → Wishes → Type 0
AllIn ns ws = AllByRecursion (λ w. w.ns ≡ ns) ws

pub elements-read : (ns : List ℕ) (at : ℕ) (ws : Wishes) → AreNamed ws → AllIn ns ws → filter_map (element ns) (entries_from at (map name_entry ws)) ≡ ws
elements-read ns at [] named own = refl
elements-read ns at (w ∷ ws) named own =
    let later = elements-read ns (at + length (text_bytes w.name) + length (boolean_bytes w.retain)) ws named.1 own.1 in
    rw (name-read at w.name named.0.name, truth-read (at + length (text_bytes w.name)) w.retain)
    (ap (λ (x : Wishes). record { ns = ns; name = w.name; retain = w.retain } ∷ x) later
    ∙ ap (λ (n : List ℕ). record { ns = n; name = w.name; retain = w.retain } ∷ ws) (sym own.0))

pub all-elements : (at : ℕ) (ws : Wishes) → AreNamed ws → list_all is_element (entries_from at (map name_entry ws)) ≡ true
all-elements at [] named = refl
all-elements at (w ∷ ws) named =
    rw (name-read at w.name named.0.name, truth-read (at + length (text_bytes w.name)) w.retain)
    (all-elements (at + length (text_bytes w.name) + length (boolean_bytes w.retain)) ws named.1)

abbrev is_named : List ℕ → WishDraft → Bool
is_named name wish = bytes_eq wish.name name

names-any : (name : List ℕ) (at : ℕ) (ws : Wishes) → AreNamed ws → has_name name (entries_from at (map name_entry ws)) ≡ list_any (is_named name) ws
names-any name at [] named = refl
names-any name at (w ∷ ws) named =
    rw (name-read at w.name named.0.name)
    (ap (λ b. bytes_eq w.name name || b) (names-any name (at + length (text_bytes w.name) + length (boolean_bytes w.retain)) ws named.1))

abbrev pub NamesOnce : Wishes → Type 0
NamesOnce [] = Unit {0}
NamesOnce (w ∷ ws) = (list_any (is_named w.name) ws ≡ false) × NamesOnce ws

pub names-distinct : (at : ℕ) (ws : Wishes) → AreNamed ws → NamesOnce ws → are_distinct (entries_from at (map name_entry ws)) ≡ true
names-distinct at [] named once = refl
names-distinct at (w ∷ ws) named once =
    let next = at + length (text_bytes w.name) + length (boolean_bytes w.retain) in
    rw (name-read at w.name named.0.name)
    (rw (names-any w.name next ws named.1) (rw once.0 (names-distinct next ws named.1 once.1)))

-- ---- the wishes of one namespace

pub in-space : (ns : List ℕ) (ws : Wishes) → AllIn ns (filter (is_in ns) ws)
in-space ns [] = tt
in-space ns (w ∷ ws) = go (in-space ns ws) (bytes_eq w.ns ns) refl where
  go : AllIn ns (filter (is_in ns) ws) → (b : Bool) → bytes_eq w.ns ns ≡ b → AllIn ns (cond b (w ∷ filter (is_in ns) ws) (filter (is_in ns) ws))
  go later true e = (same w.ns ns e, later)
  go later false e = later

either : (a b : Bool) → (a || b) ≡ false → (a ≡ false) × (b ≡ false)
either true b e = absurd (cc)
either false b e = (refl, e)

both : (a b : Bool) → (not a && b) ≡ true → (a ≡ false) × (b ≡ true)
both true b e = absurd (cc)
both false b e = (refl, e)

mapped : (a b : List ℕ) → bytes_eq a b ≡ false → bytes_eq b a ≡ false
mapped a b e = go (bytes_eq b a) refl where
  go : (t : Bool) → bytes_eq b a ≡ t → t ≡ false
  go false is = refl
  go true is = let clash : bytes_eq a b ≡ true = (bytes_eq-Decides a b).1 (sym (same b a is)) in absurd (cc)

-- an element that isn't asked for again has a name of its own in its namespace
name-once : (ns : List ℕ) (d : WishDraft) (ws : Wishes) → d.ns ≡ ns → list_any (is_same_element d) ws ≡ false → list_any (is_named d.name) (filter (is_in ns) ws) ≡ false
name-once ns d [] own once = refl
name-once ns d (w ∷ ws) own once = let parts = either (bytes_eq d.ns w.ns && bytes_eq d.name w.name) (list_any (is_same_element d) ws) once in go parts.0 (name-once ns d ws own parts.1) (bytes_eq w.ns ns) refl where
  go : (bytes_eq d.ns w.ns && bytes_eq d.name w.name) ≡ false → list_any (is_named d.name) (filter (is_in ns) ws) ≡ false → (b : Bool) → bytes_eq w.ns ns ≡ b → list_any (is_named d.name) (cond b (w ∷ filter (is_in ns) ws) (filter (is_in ns) ws)) ≡ false
  go first later true e =
      let equal : bytes_eq d.ns w.ns ≡ true = (bytes_eq-Decides d.ns w.ns).1 (own ∙ sym (same w.ns ns e)) in
      let other : bytes_eq d.name w.name ≡ false = subst (λ b. (b && bytes_eq d.name w.name) ≡ false) equal first in
      rw (mapped d.name w.name other) later
  go first later false e = later

pub names-once : (ns : List ℕ) (ws : Wishes) → drafts.are_distinct ws ≡ true → NamesOnce (filter (is_in ns) ws)
names-once ns [] distinct = tt
names-once ns (w ∷ ws) distinct = let parts = both (list_any (is_same_element w) ws) (drafts.are_distinct ws) distinct in go parts.0 (names-once ns ws parts.1) (bytes_eq w.ns ns) refl where
  go : list_any (is_same_element w) ws ≡ false → NamesOnce (filter (is_in ns) ws) → (b : Bool) → bytes_eq w.ns ns ≡ b → NamesOnce (cond b (w ∷ filter (is_in ns) ws) (filter (is_in ns) ws))
  go first later true e = (name-once ns w ws (same w.ns ns e) first, later)
  go first later false e = later

-- ---- its map

pub map-length : {A B : Type 0} (f : A → B) (xs : List A) → length (map f xs) ≡ length xs
map-length f [] = refl
map-length f (x ∷ xs) = ap suc (map-length f xs)

abbrev pub entries_of_space : List ℕ → Wishes → List (List ℕ × List ℕ)
entries_of_space ns ws = map name_entry (filter (is_in ns) ws)

pub few-names : (ns : List ℕ) (ws : Wishes) → AreWishes ws → length (entries_of_space ns ws) ≤ 512
few-names ns ws are = let few = are.few in let kept = filter-fewer (is_in ns) ws in rw (map-length name_entry (filter (is_in ns) ws)) (omega arith)

pub space-named : (ns : List ℕ) (ws : Wishes) → AreWishes ws → AreNamed (filter (is_in ns) ws)
space-named ns ws are = filter-all IsWish (is_in ns) ws are.names

pub space-piece : (ns : List ℕ) (ws : Wishes) → AreWishes ws → IsPiece 1 (map_bytes (entries_of_space ns ws))
space-piece ns ws are = let few = few-names ns ws are in piece-map 0 (entries_of_space ns ws) (names-pieces (filter (is_in ns) ws) (space-named ns ws are)) (omega arith)

pub space-pairs : (at : ℕ) (ns : List ℕ) (ws : Wishes) → AreWishes ws → pairs_in (record { at = at; bytes = map_bytes (entries_of_space ns ws) }) ≡ Some (entries_from (pairs_begin at (entries_of_space ns ws)) (entries_of_space ns ws))
space-pairs at ns ws are = let few = few-names ns ws are in pairs-written 0 (entries_of_space ns ws) at (names-pieces (filter (is_in ns) ws) (space-named ns ws are)) (omega arith) (omega arith)
