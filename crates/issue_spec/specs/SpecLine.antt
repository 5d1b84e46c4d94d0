-- What a line of a spec file says by itself.
use Rattle.std.specs.Prelude.{ℕ, ◌^◌, ◌-◌, List, [], ◌∷◌, Bool, true, false, Option, Some, None, ℤ, codes, is_ok, if◌then◌else◌}
use Rattle.std.specs.Str.{bytes_eq}
use Rattle.cert_view.specs.Certificate.{certificate}
use Rattle.cert_view.specs.RootLine as roots
use Rattle.mdl_table.specs.Calendar.{moment_of}
use Rattle.mdoc_outside.specs.Lines.{words}
use Rattle.mdoc_outside.specs.OptionSteps.{◌>>=◌, where_true}
use Rattle.issue_spec.specs.SpecWords.{name_of, number_within}
use Rattle.issue_spec.specs.SpecValue.{value_in}
use Rattle.issue_spec.specs.declared.spec_element.SpecElement.{SpecElement}
use Rattle.issue_spec.specs.declared.spec_header.SpecHeader.{SpecHeader}
use Rattle.issue_spec.specs.declared.spec_header.SpecHeader.TheVariants.{DocType, UsesMac, Copies, Signer, Signed, From, Until, Update}
use Rattle.issue_spec.specs.declared.spec_line.SpecLine.{SpecLine}
use Rattle.issue_spec.specs.declared.spec_line.SpecLine.TheVariants.{Header, Element}
use Rattle.issue_spec.specs.declared.spec_signer.SpecSigner.TheVariants as signers

-- ---- header lines

-- `auth sig` or `auth mac`
abbrev pub uses_mac : List ℕ → Option Bool
uses_mac word = if bytes_eq word (codes "mac") then Some true else if bytes_eq word (codes "sig") then Some false else None

-- `signer new`
abbrev pub is_new : List ℕ → Bool
is_new word = bytes_eq word (codes "new")

abbrev pub new_signer : List ℕ → Option SpecHeader
new_signer word = where_true (is_new word) (Signer signers.New)

-- `signer KEY HEX`: a number of a key, and the certificate of that key, of at most 8,192 bytes
abbrev pub known_signer : List ℕ → List ℕ → Option SpecHeader
known_signer key digits = do
  number ← number_within 0 (2 ^ 32 - 1) key
  bytes ← roots.bytes_of digits
  where_true (is_ok (certificate bytes)) (Signer (signers.Known number bytes))

abbrev pub doc_type_of : List ℕ → Option SpecHeader
doc_type_of word = name_of word >>= λ name. Some (DocType name)

-- the four times
abbrev pub time_of : List ℕ → List ℕ → Option SpecHeader
time_of keyword word =
    if bytes_eq keyword (codes "signed") then (moment_of word >>= λ moment. Some (Signed moment)) else
    if bytes_eq keyword (codes "from") then (moment_of word >>= λ moment. Some (From moment)) else
    if bytes_eq keyword (codes "until") then (moment_of word >>= λ moment. Some (Until moment)) else
    if bytes_eq keyword (codes "update") then (moment_of word >>= λ moment. Some (Update moment)) else None

-- a keyword and a word
abbrev pub header_of : List ℕ → List ℕ → Option SpecHeader
header_of keyword word =
    if bytes_eq keyword (codes "type") then doc_type_of word else
    if bytes_eq keyword (codes "auth") then (uses_mac word >>= λ mac. Some (UsesMac mac)) else
    if bytes_eq keyword (codes "copies") then (number_within 1 64 word >>= λ number. Some (Copies number)) else
    if bytes_eq keyword (codes "signer") then new_signer word else
    time_of keyword word

abbrev pub as_header : Option SpecHeader → Option SpecLine
as_header header = header >>= λ said. Some (Header said)

-- ---- element lines

-- `element NAMESPACE NAME KIND VALUE`
abbrev pub element_of : List ℕ → List ℕ → List ℕ → List ℕ → List (List ℕ) → Option SpecLine
element_of bytes ns name kind rest = do
  space ← name_of ns
  identifier ← name_of name
  value ← value_in bytes kind rest
  Some (Element (record { ns = space; name = identifier; value = value }))

-- ---- a line

abbrev pub signer_line : List ℕ → List ℕ → List ℕ → Option SpecLine
signer_line keyword key digits = if bytes_eq keyword (codes "signer") then as_header (known_signer key digits) else None

abbrev pub element_line : List ℕ → List ℕ → List ℕ → List ℕ → List ℕ → List (List ℕ) → Option SpecLine
element_line bytes keyword ns name kind rest =
    if bytes_eq keyword (codes "element") then element_of bytes ns name kind rest else None

abbrev pub said_by : List ℕ → List (List ℕ) → Option SpecLine
said_by bytes (keyword ∷ (word ∷ [])) = as_header (header_of keyword word)
said_by bytes (keyword ∷ (key ∷ (digits ∷ []))) = signer_line keyword key digits
said_by bytes (keyword ∷ (ns ∷ (name ∷ (kind ∷ rest)))) = element_line bytes keyword ns name kind rest
said_by bytes other = None

-- what the bytes of a line say, if they say something
abbrev pub spec_line : List ℕ → Option SpecLine
spec_line bytes = said_by bytes (words bytes)

-- whether the words are `signer new`
abbrev pub is_new_signer : List (List ℕ) → Bool
is_new_signer (keyword ∷ (word ∷ [])) = if bytes_eq keyword (codes "signer") then is_new word else false
is_new_signer other = false
