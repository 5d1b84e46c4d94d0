-- What the header lines of a spec file say is within its ranges.
use Rattle.std.proofs.Common.{◌≡◌, ℕ, ◌^◌, ◌-◌, Bool, true, false, ◌&&◌, ◌||◌, cond, ℤ, List, [], ◌∷◌, length, Option, Some, None, Result, Ok, Err, refl, subst, sym}
use Rattle.std.specs.Prelude.{IfSome, codes, is_ok, nat_le, not}
use Rattle.std.specs.Int.{is_in_range}
use Rattle.std.specs.Result.{result_ok}
use Rattle.std.specs.Str.{bytes_eq}
use Rattle.hex.specs.Hex.{decode_of}
use Rattle.cert_view.specs.Certificate.{certificate}
use Rattle.cert_view.specs.RootLine as roots
use Rattle.mdl_table.specs.Calendar.{moment_of}
use Rattle.mdl_table.specs.MomentText.{IsInYears}
use Rattle.mdoc_outside.specs.Lines.{Line, words}
use Rattle.mdoc_outside.specs.OptionSteps.{◌>>=◌, where_true}
use Rattle.mdoc_outside.specs.WordForm.{is_name}
use Rattle.issue_spec.specs.SpecChecks.{fails_where, is_early, says_early, is_bad_header}
use Rattle.issue_spec.specs.SpecFacts.{is_signer, is_new}
use Rattle.issue_spec.specs.SpecLine as lines
use Rattle.issue_spec.specs.SpecSoFar.{SoFar, no_headers, is_given, is_empty, with_header}
use Rattle.issue_spec.specs.SpecValue.{value_in}
use Rattle.issue_spec.specs.SpecWords.{name_of, number_within}
use Rattle.mdoc_outside.specs.Decimals.{decimal_number}
use Rattle.issue_spec.specs.declared.spec_header.SpecHeader.{SpecHeader}
use Rattle.issue_spec.specs.declared.spec_header.SpecHeader.TheVariants.{DocType, UsesMac, Copies, Signer, Signed, From, Until, Update}
use Rattle.issue_spec.specs.declared.spec_headers.SpecHeaders.{SpecHeaders}
use Rattle.issue_spec.specs.declared.spec_line.SpecLine.{SpecLine}
use Rattle.issue_spec.specs.declared.spec_line.SpecLine.TheVariants.{Header, Element}
use Rattle.issue_spec.specs.declared.spec_signer.SpecSigner.{SpecSigner}
use Rattle.issue_spec.specs.declared.spec_signer.SpecSigner.TheVariants.{New, Known}
use Rattle.issue_spec.proofs.SpecTimes.{moment_in_years}

-- ---- steps that gave a value

pub bind_some : {A B : Type 0} (o : Option A) (f : A → Option B) (y : B) → (o >>= f) ≡ Some y → (x : A) × (o ≡ Some x) × (f x ≡ Some y)
bind_some None f y e = absurd cc
bind_some (Some x) f y e = (x, refl, e)

abbrev present : {A : Type 0} → A → Option A
present x = Some x

pub same_value : {A : Type 0} (x y : A) → present x ≡ present y → x ≡ y
same_value x y e = cc

pub where_some : {A : Type 0} (b : Bool) (x y : A) → where_true b x ≡ Some y → (b ≡ true) × (x ≡ y)
where_some true x y e = (refl, same_value x y e)
where_some false x y e = absurd cc

-- ---- what a header line says

-- a signer whose certificate is read, and that is new in a file with new certificates alone
abbrev pub IsSigner : Bool → SpecSigner → Type 0
IsSigner new signer = (is_signer signer ≡ true) × (is_new signer ≡ true → new ≡ true)

abbrev pub IsHeader : Bool → SpecHeader → Type 0
IsHeader new (DocType name) = is_name name ≡ true
IsHeader new (UsesMac mac) = Unit {0}
IsHeader new (Copies number) = is_in_range 1 64 number ≡ true
IsHeader new (Signer signer) = IsSigner new signer
IsHeader new (Signed moment) = IsInYears moment
IsHeader new (From moment) = IsInYears moment
IsHeader new (Until moment) = IsInYears moment
IsHeader new (Update moment) = IsInYears moment

abbrev Says : Bool → Option SpecHeader → Type 0
Says new None = Unit {0}
Says new (Some header) = IsHeader new header

says_if : (new b : Bool) (x y : Option SpecHeader) → (b ≡ true → Says new x) → Says new y → Says new (cond b x y)
says_if new true x y first second = first refl
says_if new false x y first second = second

says_then : {A : Type 0} (new : Bool) (o : Option A) (f : A → Option SpecHeader) → ((a : A) → o ≡ Some a → Says new (f a)) → Says new (o >>= f)
says_then new None f all = tt
says_then new (Some a) f all = all a refl

says_where : (new b : Bool) (header : SpecHeader) → (b ≡ true → IsHeader new header) → Says new (where_true b header)
says_where new true header is = is refl
says_where new false header is = tt

name_is : (word name : List ℕ) → name_of word ≡ Some name → is_name name ≡ true
name_is word name e =
    let found = where_some (is_name word) word name e in
    subst (λ (w : List ℕ). is_name w ≡ true) found.1 found.0

number_is : (least most : ℕ) (word : List ℕ) (number : ℕ) → number_within least most word ≡ Some number → is_in_range least most number ≡ true
number_is least most word number e =
    let read = bind_some (decimal_number word) (λ n. where_true (nat_le least n && nat_le n most) n) number e in
    let found = where_some (nat_le least read.0 && nat_le read.0 most) read.0 number read.2 in
    subst (λ (n : ℕ). is_in_range least most n ≡ true) found.1 found.0

bytes_are : (digits bytes : List ℕ) → roots.bytes_of digits ≡ Some bytes → nat_le (length bytes) 8192 ≡ true
bytes_are digits bytes e =
    let read = bind_some (result_ok (decode_of digits)) (λ (b : List ℕ). where_true (nat_le (length b) 8192) b) bytes e in
    let found = where_some (nat_le (length read.0) 8192) read.0 bytes read.2 in
    subst (λ (b : List ℕ). nat_le (length b) 8192 ≡ true) found.1 found.0

signer_is : (number : ℕ) (bytes : List ℕ) → nat_le (length bytes) 8192 ≡ true → is_ok (certificate bytes) ≡ true → is_signer (Known number bytes) ≡ true
signer_is number bytes short read = rw (read, short) refl

known_says : (new : Bool) (key digits : List ℕ) → Says new (lines.known_signer key digits)
known_says new key digits =
    says_then new (number_within 0 (2 ^ 32 - 1) key) _ (λ number n.
    says_then new (roots.bytes_of digits) _ (λ bytes b.
    says_where new (is_ok (certificate bytes)) (Signer (Known number bytes)) (λ read.
    (signer_is number bytes (bytes_are digits bytes b) read, λ never. absurd cc))))

time_says : (new : Bool) (word : List ℕ) (header : ℤ → SpecHeader) → ((m : ℤ) → IsInYears m → IsHeader new (header m)) → Says new (moment_of word >>= λ m. Some (header m))
time_says new word header all = says_then new (moment_of word) (λ m. Some (header m)) (λ m e. all m (moment_in_years word m e))

times_say : (new : Bool) (keyword word : List ℕ) → Says new (lines.time_of keyword word)
times_say new keyword word =
    says_if new (bytes_eq keyword (codes "signed")) _ _ (λ k. time_says new word (λ m. Signed m) (λ m is. is)) (
    says_if new (bytes_eq keyword (codes "from")) _ _ (λ k. time_says new word (λ m. From m) (λ m is. is)) (
    says_if new (bytes_eq keyword (codes "until")) _ _ (λ k. time_says new word (λ m. Until m) (λ m is. is)) (
    says_if new (bytes_eq keyword (codes "update")) _ _ (λ k. time_says new word (λ m. Update m) (λ m is. is)) tt)))

header_says : (new : Bool) (keyword word : List ℕ) → (lines.is_new_signer (keyword ∷ word ∷ []) ≡ true → new ≡ true) → Says new (lines.header_of keyword word)
header_says new keyword word asks =
    says_if new (bytes_eq keyword (codes "type")) _ _ (λ k. says_then new (name_of word) (λ name. Some (DocType name)) (λ name e. name_is word name e)) (
    says_if new (bytes_eq keyword (codes "auth")) _ _ (λ k. says_then new (lines.uses_mac word) (λ mac. Some (UsesMac mac)) (λ mac e. tt)) (
    says_if new (bytes_eq keyword (codes "copies")) _ _ (λ k. says_then new (number_within 1 64 word) (λ number. Some (Copies number)) (λ number e. number_is 1 64 word number e)) (
    says_if new (bytes_eq keyword (codes "signer")) _ _ (λ k. says_where new (lines.is_new word) (Signer New) (λ n. (refl, λ is. asks (rw k n)))) (
    times_say new keyword word))))

-- ---- what a line says

abbrev pub IsSaid : Bool → SpecLine → Type 0
IsSaid new (Header header) = IsHeader new header
IsSaid new (Element e) = Unit {0}

abbrev pub LineSays : Bool → Option SpecLine → Type 0
LineSays new None = Unit {0}
LineSays new (Some said) = IsSaid new said

line_if : (new b : Bool) (x : Option SpecLine) → LineSays new x → LineSays new (cond b x None)
line_if new true x is = is
line_if new false x is = tt

line_header : (new : Bool) (o : Option SpecHeader) → Says new o → LineSays new (lines.as_header o)
line_header new None is = tt
line_header new (Some header) is = is

line_then : {A : Type 0} (new : Bool) (o : Option A) (f : A → Option SpecLine) → ((a : A) → LineSays new (f a)) → LineSays new (o >>= f)
line_then new None f all = tt
line_then new (Some a) f all = all a

words_say : (new : Bool) (bytes : List ℕ) (ws : List (List ℕ)) → (lines.is_new_signer ws ≡ true → new ≡ true) → LineSays new (lines.said_by bytes ws)
words_say new bytes [] asks = tt
words_say new bytes (a ∷ []) asks = tt
words_say new bytes (a ∷ (b ∷ [])) asks = line_header new (lines.header_of a b) (header_says new a b asks)
words_say new bytes (a ∷ (b ∷ (c ∷ []))) asks = line_if new _ _ (line_header new (lines.known_signer b c) (known_says new b c))
words_say new bytes (a ∷ (b ∷ (c ∷ (d ∷ rest)))) asks =
    line_if new _ _ (line_then new (name_of b) _ (λ ns. line_then new (name_of c) _ (λ name. line_then new (value_in bytes d rest) _ (λ value. tt))))

pub line_says : (new : Bool) (bytes : List ℕ) → (lines.is_new_signer (words bytes) ≡ true → new ≡ true) → LineSays new (lines.spec_line bytes)
line_says new bytes asks = words_say new bytes (words bytes) asks

-- ---- all header lines

-- a moment that has a text, and that new certificates can say
abbrev pub IsTime : Bool → ℤ → Type 0
IsTime new moment = IsInYears moment × (new ≡ true → is_early moment ≡ false)

pub record AreHeaders (new : Bool) (h : SpecHeaders) : Type 0 where
  pub doc_type : IfSome h.doc_type (λ name. is_name name ≡ true)
  pub copies : IfSome h.copies (λ number. is_in_range 1 64 number ≡ true)
  pub signer : IfSome h.signer (IsSigner new)
  pub signed : IfSome h.signed (IsTime new)
  pub from : IfSome h.from (IsTime new)
  pub until : IfSome h.until (IsTime new)
  pub update : IfSome h.update (IsTime new)

pub none_are : (new : Bool) → AreHeaders new no_headers
none_are new = record { doc_type = tt; copies = tt; signer = tt; signed = tt; from = tt; until = tt; update = tt }

not_early : (early new : Bool) → (early && new) ≡ false → new ≡ true → early ≡ false
not_early true new bad is = absurd cc
not_early false new bad is = refl

pub one_more_header : (new : Bool) (header : SpecHeader) (h : SpecHeaders) → AreHeaders new h → IsHeader new header →
    (says_early header && new) ≡ false → AreHeaders new (with_header header h)
one_more_header new (DocType name) h all is late =
    record { doc_type = is; copies = all.copies; signer = all.signer; signed = all.signed; from = all.from; until = all.until; update = all.update }
one_more_header new (UsesMac mac) h all is late =
    record { doc_type = all.doc_type; copies = all.copies; signer = all.signer; signed = all.signed; from = all.from; until = all.until; update = all.update }
one_more_header new (Copies number) h all is late =
    record { doc_type = all.doc_type; copies = is; signer = all.signer; signed = all.signed; from = all.from; until = all.until; update = all.update }
one_more_header new (Signer signer) h all is late =
    record { doc_type = all.doc_type; copies = all.copies; signer = is; signed = all.signed; from = all.from; until = all.until; update = all.update }
one_more_header new (Signed moment) h all is late =
    record { doc_type = all.doc_type; copies = all.copies; signer = all.signer; signed = (is, not_early (is_early moment) new late); from = all.from; until = all.until; update = all.update }
one_more_header new (From moment) h all is late =
    record { doc_type = all.doc_type; copies = all.copies; signer = all.signer; signed = all.signed; from = (is, not_early (is_early moment) new late); until = all.until; update = all.update }
one_more_header new (Until moment) h all is late =
    record { doc_type = all.doc_type; copies = all.copies; signer = all.signer; signed = all.signed; from = all.from; until = (is, not_early (is_early moment) new late); update = all.update }
one_more_header new (Update moment) h all is late =
    record { doc_type = all.doc_type; copies = all.copies; signer = all.signer; signed = all.signed; from = all.from; until = all.until; update = (is, not_early (is_early moment) new late) }

-- a header line that isn't bad
pub not_late : (new : Bool) (header : SpecHeader) (so_far : SoFar) → is_bad_header new header so_far ≡ false → (says_early header && new) ≡ false
not_late new header so_far e = last (is_given header so_far.headers) (not (is_empty so_far.elements)) (says_early header && new) e where
  last : (a b c : Bool) → (a || b || c) ≡ false → c ≡ false
  last true b c e = absurd cc
  last false true c e = absurd cc
  last false false c e = e
