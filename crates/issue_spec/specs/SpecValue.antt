-- The value of an element of a spec file, as the bytes of CBOR that stand in its item (RFC 8949; of a
-- date RFC 8943).
use Rattle.std.specs.Prelude.{ℕ, nat_le, List, [], ◌∷◌, Bool, false, Option, Some, None, codes, Result, Ok, Err, if◌then◌else◌}
use Rattle.std.specs.Str.{bytes_eq, is_utf8}
use Rattle.cbor_view.specs.Reading.{reads}
use Rattle.cbor_view.specs.Shortest.{text_bytes, tag_bytes, uint_bytes, boolean_bytes, bytes_bytes}
use Rattle.cbor_view.specs.Tree.{Tree, levels}
use Rattle.cbor_view.specs.declared.cbor_fault.CborFault.{CborFault}
use Rattle.mdoc_outside.specs.OptionSteps.{◌>>=◌, where_true}
use Rattle.mdoc_outside.specs.Decimals.{decimal_number}
use Rattle.issue_spec.specs.SpecWords.{truth_of, bytes_of, date_of, after_four_words, after_space}

-- whether bytes spell one item of at most 31 levels of nesting
abbrev pub is_shallow : Result Tree CborFault → Bool
is_shallow (Ok item) = nat_le (levels item) 31
is_shallow (Err fault) = false

abbrev pub is_value : List ℕ → Bool
is_value value = is_shallow (reads value)

-- tag 1004 over the date's text
abbrev pub date_value : List ℕ → Option (List ℕ)
date_value word = date_of word >>= λ date. Some (tag_bytes 1004 (text_bytes date))

abbrev pub uint_value : List ℕ → Option (List ℕ)
uint_value word = decimal_number word >>= λ number. Some (uint_bytes number)

abbrev pub bool_value : List ℕ → Option (List ℕ)
bool_value word = truth_of word >>= λ truth. Some (boolean_bytes truth)

abbrev pub bytes_value : List ℕ → Option (List ℕ)
bytes_value word = bytes_of word >>= λ bytes. Some (bytes_bytes bytes)

-- an item as it is given
abbrev pub cbor_value : List ℕ → Option (List ℕ)
cbor_value word = bytes_of word >>= λ item. where_true (is_value item) item

-- KIND and VALUE where the value is one word
abbrev pub value_of : List ℕ → List ℕ → Option (List ℕ)
value_of kind word =
    if bytes_eq kind (codes "date") then date_value word else
    if bytes_eq kind (codes "uint") then uint_value word else
    if bytes_eq kind (codes "bool") then bool_value word else
    if bytes_eq kind (codes "bytes") then bytes_value word else
    if bytes_eq kind (codes "cbor") then cbor_value word else None

-- `text` and the rest of the line after one space, as UTF-8
abbrev pub text_value : List ℕ → Option (List ℕ)
text_value bytes = do
  said ← after_space (after_four_words bytes)
  where_true (is_utf8 said) (text_bytes said)

abbrev pub one_word : List ℕ → List (List ℕ) → Option (List ℕ)
one_word kind (word ∷ []) = value_of kind word
one_word kind rest = None

-- the value of a line, whose fourth word is the kind and whose further words are `rest`
abbrev pub value_in : List ℕ → List ℕ → List (List ℕ) → Option (List ℕ)
value_in bytes kind rest = if bytes_eq kind (codes "text") then text_value bytes else one_word kind rest
