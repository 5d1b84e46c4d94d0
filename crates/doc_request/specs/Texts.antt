-- Texts in an order, of which equal ones follow one another.
use Rattle.std.specs.Prelude.{ℕ, ◌≤◌, length, Bool, true, not, ◌&&◌, List, [], ◌∷◌, Option, Some, None}
use Rattle.std.specs.Str.{bytes_eq}
use Rattle.cbor_view.specs.Parts.{Part, text_in}
use Rattle.doc_request.specs.Spaces.{entries}

-- the key of an entry, where it is a text
abbrev pub key_text : Part × Part → Option (List ℕ)
key_text entry = text_in entry.0

-- whether a text is another one than the last, where there is one
abbrev pub is_other : Option (List ℕ) → List ℕ → Bool
is_other None text = true
is_other (Some last) text = not (bytes_eq last text)

-- whether none is the one before it
abbrev pub are_apart_from : Option (List ℕ) → List (List ℕ) → Bool
are_apart_from last [] = true
are_apart_from last (text ∷ texts) = is_other last text && are_apart_from (Some text) texts

abbrev pub are_apart : List (List ℕ) → Bool
are_apart texts = are_apart_from None texts

-- a namespace of at most 512 names
abbrev pub HasFewNames : Part × Part → Type 0
HasFewNames space = length (entries space.1) ≤ 512
