-- One rule of the holder: which wishes of which readers it matches, and the line of a rules file that says it.
use Rattle.std.specs.Prelude.{ℕ, List, [], ◌∷◌, Bool, true, false, ◌&&◌, Option, Some, None, is_some, codes, if◌then◌else◌}
use Rattle.std.specs.Str.{bytes_eq}
use Rattle.mdoc_outside.specs.WordForm.{is_name}
use Rattle.mdoc_outside.specs.OptionSteps.{◌>>=◌}
use Rattle.consent.specs.Wish.{Wanted}
use Rattle.consent.specs.declared.rule.Rule.{Rule}
use Rattle.consent.specs.declared.reader_pattern.ReaderPattern.{ReaderPattern}
use Rattle.consent.specs.declared.reader_pattern.ReaderPattern.TheVariants as readers
use Rattle.consent.specs.declared.text_pattern.TextPattern.{TextPattern}
use Rattle.consent.specs.declared.text_pattern.TextPattern.TheVariants as texts

-- whether a text is of this pattern
abbrev pub has_text : TextPattern → List ℕ → Bool
has_text texts.Any text = true
has_text (texts.Exactly name) text = bytes_eq name text

-- whether a reader is of this pattern; an unknown reader has no name
abbrev pub has_reader : ReaderPattern → Option (List ℕ) → Bool
has_reader readers.Any reader = true
has_reader readers.Known reader = is_some reader
has_reader (readers.Named name) None = false
has_reader (readers.Named name) (Some reader) = bytes_eq name reader

-- whether the intent to retain is the one that a rule names, if it names one
abbrev pub has_intent : Option Bool → Bool → Bool
has_intent None retain = true
has_intent (Some true) retain = retain
has_intent (Some false) true = false
has_intent (Some false) false = true

-- whether a rule matches a reader's wish: each of its five fields does
abbrev pub is_match : Option (List ℕ) → Wanted → Rule → Bool
is_match reader wish rule =
    has_reader rule.reader reader && has_text rule.doc_type wish.doc_type && has_text rule.ns wish.ns
    && has_text rule.element wish.name && has_intent rule.retain wish.retain

-- `allow` or `deny`
abbrev pub action_of : List ℕ → Option Bool
action_of word = if bytes_eq word (codes "allow") then Some true else if bytes_eq word (codes "deny") then Some false else None

-- `*` (any reader, known or not), `+` (any known one), or the name of one
abbrev pub readers_of : List ℕ → Option ReaderPattern
readers_of word =
    if bytes_eq word (codes "*") then Some readers.Any else
    if bytes_eq word (codes "+") then Some readers.Known else
    if is_name word then Some (readers.Named word) else None

-- `*`, or the text itself
abbrev pub texts_of : List ℕ → Option TextPattern
texts_of word = if bytes_eq word (codes "*") then Some texts.Any else if is_name word then Some (texts.Exactly word) else None

-- `0` or `1`
abbrev pub read_flag : List ℕ → Option Bool
read_flag word = if bytes_eq word (codes "0") then Some false else if bytes_eq word (codes "1") then Some true else None

-- `*`, `0` or `1`
abbrev pub intent_of : List ℕ → Option (Option Bool)
intent_of word = if bytes_eq word (codes "*") then Some None else read_flag word >>= λ retain. Some (Some retain)

-- The rule that a line says: ACTION READER TYPE NAMESPACE ELEMENT RETAIN.
abbrev pub rule_of : List (List ℕ) → Option Rule
rule_of (action ∷ reader ∷ doc_type ∷ ns ∷ element ∷ retain ∷ []) = do
  allow ← action_of action
  readers ← readers_of reader
  doc_types ← texts_of doc_type
  namespaces ← texts_of ns
  elements ← texts_of element
  intent ← intent_of retain
  Some (record { allow = allow; reader = readers; doc_type = doc_types; ns = namespaces; element = elements; retain = intent })
rule_of words = None
