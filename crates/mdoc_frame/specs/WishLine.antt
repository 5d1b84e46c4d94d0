-- What a line of a wishes file says.
use Rattle.std.specs.Prelude.{ℕ, List, [], ◌∷◌, Option, Some, None, codes, if◌then◌else◌}
use Rattle.std.specs.Str.{bytes_eq}
use Rattle.mdoc_outside.specs.OptionSteps.{◌>>=◌}
use Rattle.mdoc_outside.specs.WordForm.{is_name}
use Rattle.consent.specs.Rule.{read_flag}
use Rattle.mdoc_frame.specs.declared.wish_line.WishLine.{WishLine}
use Rattle.mdoc_frame.specs.declared.wish_line.WishLine.TheVariants.{Document, Want}

-- a name, as a word says it
abbrev pub name_of : List ℕ → Option (List ℕ)
name_of word = if is_name word then Some word else None

-- what is said after a keyword
abbrev pub after_keyword : List ℕ → List ℕ → Option WishLine → Option WishLine
after_keyword keyword word said = if bytes_eq word keyword then said else None

-- `document TYPE`
abbrev pub document_line : List ℕ → List ℕ → Option WishLine
document_line word doc_type = after_keyword (codes "document") word (name_of doc_type >>= λ name. Some (Document name))

-- `want NAMESPACE ELEMENT RETAIN`
abbrev pub want_line : List ℕ → List ℕ → List ℕ → List ℕ → Option WishLine
want_line word ns name retain = after_keyword (codes "want") word (do
  space ← name_of ns
  element ← name_of name
  keep ← read_flag retain
  Some (Want (record { ns = space; name = element; retain = keep })))

-- one of the two
abbrev pub wish_line : List (List ℕ) → Option WishLine
wish_line (word ∷ (doc_type ∷ [])) = document_line word doc_type
wish_line (word ∷ (ns ∷ (name ∷ (retain ∷ [])))) = want_line word ns name retain
wish_line words = None
