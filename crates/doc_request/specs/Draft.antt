-- What a request may ask for, within this project's limits.
use Rattle.std.specs.Prelude.{◌≡◌, ℕ, ◌<◌, ◌≤◌, List, [], ◌∷◌, length, Bool, true, not, ◌&&◌}
use Rattle.std.specs.List.{AllByRecursion, list_any, sum_by}
use Rattle.std.specs.Str.{IsUtf8, bytes_eq}
use Rattle.doc_request.specs.declared.doc_draft.DocDraft.{DocDraft}
use Rattle.doc_request.specs.declared.wish_draft.WishDraft.{WishDraft}

-- the number of all wishes
abbrev pub wish_count : List DocDraft → ℕ
wish_count documents = sum_by (λ document. length document.wishes) documents

-- whether two wishes are for one element
abbrev pub is_same_element : WishDraft → WishDraft → Bool
is_same_element a b = bytes_eq a.ns b.ns && bytes_eq a.name b.name

-- a text of at most 128 bytes
pub record IsName (name : List ℕ) : Type 0 where
  pub text : IsUtf8 name
  pub short : length name ≤ 128

pub record IsWish (wish : WishDraft) : Type 0 where
  pub ns : IsName wish.ns
  pub name : IsName wish.name

-- whether no two wishes are for one element
abbrev pub are_distinct : List WishDraft → Bool
are_distinct [] = true
are_distinct (wish ∷ wishes) = not (list_any (is_same_element wish) wishes) && are_distinct wishes

-- The wishes of a document: at most 512, and no two for one element.
pub record AreWishes (wishes : List WishDraft) : Type 0 where
  pub names : AllByRecursion IsWish wishes
  pub few : length wishes ≤ 512
  pub distinct : are_distinct wishes ≡ true

pub record IsDocument (document : DocDraft) : Type 0 where
  pub doc_type : IsName document.doc_type
  pub wishes : AreWishes document.wishes
  pub some : 0 < length document.wishes

-- A request: 1 to 16 documents, and at most 2,048 wishes in all.
pub record IsRequest (documents : List DocDraft) : Type 0 where
  pub each : AllByRecursion IsDocument documents
  pub some : 0 < length documents
  pub few : length documents ≤ 16
  pub few_wishes : wish_count documents ≤ 2048
