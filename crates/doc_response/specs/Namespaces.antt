-- Namespaces as they are found, one by one.
use Rattle.std.specs.Prelude.{ℕ, ◌==◌, if◌then◌else◌, List, [], ◌∷◌, ◌++◌, map, filter, length}
use Rattle.std.specs.Borrow.{Bor}
use Rattle.std.specs.Str.{bytes_eq}
use Rattle.doc_response.specs.Answered.{has_text}
use Rattle.doc_response.specs.AnsweredView.{text_seen}

abbrev pub texts : List (Bor (List ℕ)) → List (List ℕ)
texts list = map text_seen list

-- a text more, where it isn't there
abbrev pub added : List ℕ → List (List ℕ) → List (List ℕ)
added text found = if has_text text found then found else found ++ text ∷ []

-- how many of the texts are this one
abbrev pub count_of_text : List ℕ → List (List ℕ) → ℕ
count_of_text text list = length (filter (λ (other : List ℕ). bytes_eq other text) list)

-- how many entries a list takes that is written only where there is something in it
abbrev pub entries_of : ℕ → ℕ
entries_of count = if count == 0 then 0 else 1

-- the bytes of an entry of a map: its key and its value
abbrev pub entry_bytes : List ℕ × List ℕ → List ℕ
entry_bytes entry = entry.0 ++ entry.1
