-- A spec that was read is within the ranges of all its fields.
use Rattle.std.proofs.Common.{◌≡◌, ℕ, ◌<◌, ◌==◌, Bool, true, false, ◌||◌, ℤ, List, [], ◌∷◌, length, Option, Some, None, Result, Ok, Err, refl, subst, arith}
use Rattle.std.specs.Prelude.{IfSome, max, not}
use Rattle.std.specs.Option.{ForSome}
use Rattle.std.specs.Str.Lines.{lines}
use Rattle.std.proofs.lemmas.Bool.Decides.{nat_tests}
use Rattle.mdoc_outside.specs.Lines.{Line, file_lines, words}
use Rattle.mdoc_outside.specs.WordForm.{is_name}
use Rattle.std.specs.Int.{is_in_range}
use Rattle.mdoc_outside.specs.ResultSteps.{◌>>=◌, or_fault}
use Rattle.mdl_table.specs.MomentText.{IsInYears}
use Rattle.issue_spec.specs.SpecChecks.{fails_where, first_failed, is_early, is_bad_header, element_checks, missing, are_in_order, whole_checks}
use Rattle.issue_spec.specs.SpecEnd.{some_elements, collected, fields_of}
use Rattle.issue_spec.specs.SpecFacts.{IsCopy, IsSpec, is_new}
use Rattle.issue_spec.specs.SpecFile.{unless, with_line, with_lines, has_new_signer, finished, read_on, spec_of}
use Rattle.issue_spec.specs.SpecLine.{spec_line, is_new_signer}
use Rattle.issue_spec.specs.SpecSoFar.{SoFar, nothing, with_header, is_empty}
use Rattle.issue_spec.specs.declared.spec_check.SpecCheck.{SpecCheck}
use Rattle.issue_spec.specs.declared.spec_check.SpecCheck.TheVariants as checks
use Rattle.issue_spec.specs.declared.spec_element.SpecElement.{SpecElement}
use Rattle.issue_spec.specs.declared.spec_fault.SpecFault.{SpecFault}
use Rattle.issue_spec.specs.declared.spec_fault.SpecFault.TheVariants as faults
use Rattle.issue_spec.specs.declared.spec_fields.SpecFields.{SpecFields}
use Rattle.issue_spec.specs.declared.spec_header.SpecHeader.{SpecHeader}
use Rattle.issue_spec.specs.declared.spec_headers.SpecHeaders.{SpecHeaders}
use Rattle.issue_spec.specs.declared.spec_line.SpecLine.{SpecLine}
use Rattle.issue_spec.specs.declared.spec_line.SpecLine.TheVariants.{Header, Element}
use Rattle.issue_spec.proofs.SpecHeaderLemmas.{bind_some, same_value, where_some, LineSays, line_says, IsTime, IsSigner, AreHeaders, none_are, one_more_header, not_late}

-- ---- steps that gave a value

abbrev done : {A : Type 0} → A → Result A SpecFault
done x = Ok x

ok_value : {A : Type 0} (x y : A) → done x ≡ done y → x ≡ y
ok_value x y e = cc

bind_ok : {A B : Type 0} (r : Result A SpecFault) (f : A → Result B SpecFault) (y : B) → (r >>= f) ≡ Ok y → (x : A) × (r ≡ Ok x) × (f x ≡ Ok y)
bind_ok (Ok x) f y e = (x, refl, e)
bind_ok (Err fault) f y e = absurd cc

unless_ok : {A : Type 0} (check : Option SpecCheck) (number : ℕ) (x y : A) → unless check number x ≡ Ok y → (check ≡ None) × (x ≡ y)
unless_ok None number x y e = (refl, ok_value x y e)
unless_ok (Some failed) number x y e = absurd cc

passes : (test : Bool) (failed : SpecCheck) → fails_where test failed ≡ None → test ≡ false
passes true failed e = absurd cc
passes false failed e = refl

-- ---- lines

line_keeps : (new : Bool) (number : ℕ) (said : Option SpecLine) (so_far next : SoFar) → LineSays new said → AreHeaders new so_far.headers →
    with_line new number said so_far ≡ Ok next → AreHeaders new next.headers
line_keeps new number None so_far next is all e = absurd cc
line_keeps new number (Some (Header header)) so_far next is all e =
    let parts = unless_ok (fails_where (is_bad_header new header so_far) checks.Line) number _ next e in
    let late = not_late new header so_far (passes (is_bad_header new header so_far) checks.Line parts.0) in
    subst (λ (n : SoFar). AreHeaders new n.headers) parts.1 (one_more_header new header so_far.headers all is late)
line_keeps new number (Some (Element element)) so_far next is all e =
    let parts = unless_ok (first_failed (element_checks element so_far)) number _ next e in
    subst (λ (n : SoFar). AreHeaders new n.headers) parts.1 all

split : (a b new : Bool) → ((a || b) ≡ true → new ≡ true) → (a ≡ true → new ≡ true) × (b ≡ true → new ≡ true)
split true b new asks = (asks, λ is. asks refl)
split false b new asks = (λ never. absurd cc, asks)

lines_keep : (new : Bool) (so_far end : SoFar) (package_lines : List Line) → (has_new_signer package_lines ≡ true → new ≡ true) → AreHeaders new so_far.headers →
    with_lines new so_far package_lines ≡ Ok end → AreHeaders new end.headers
lines_keep new so_far end [] asks all e = subst (λ (n : SoFar). AreHeaders new n.headers) (ok_value so_far end e) all
lines_keep new so_far end (line ∷ rest) asks all e =
    let step = bind_ok (with_line new line.number (spec_line line.bytes) so_far) (λ next. with_lines new next rest) end e in
    let asked = split (is_new_signer (words line.bytes)) (has_new_signer rest) new asks in
    lines_keep new step.0 end rest asked.1
    (line_keeps new line.number (spec_line line.bytes) so_far step.0 (line_says new line.bytes asked.0) all step.1)
    step.2

-- ---- the end

found : {A : Type 0} (P : A → Type 0) (o : Option A) (x : A) → IfSome o P → o ≡ Some x → P x
found P None x all e = absurd cc
found P (Some y) x all e = subst P (same_value y x e) all

time_only : (new : Bool) (o : Option ℤ) → IfSome o (IsTime new) → ForSome o IsInYears
time_only new o all m e = (found (IsTime new) o m all e).0

not_empty : (elements some : List SpecElement) → some_elements elements ≡ Some some → 0 < length some
not_empty elements some e =
    let is = where_some (not (is_empty elements)) elements some e in
    subst (λ (es : List SpecElement). 0 < length es) is.1 (counted (length elements) is.0) where
      counted : (n : ℕ) → not (n == 0) ≡ true → 0 < n
      counted n h = grind (arith, nat_tests)

collected_is : (new : Bool) (h : SpecHeaders) (elements : List SpecElement) (fields : SpecFields) → AreHeaders new h →
    collected h elements ≡ Some fields → are_in_order fields ≡ true → IsCopy fields.elements → IsSpec fields
collected_is new h elements fields all e order copy =
    let doc_type = bind_some h.doc_type _ fields e in
    let uses_mac = bind_some h.uses_mac _ fields doc_type.2 in
    let copies = bind_some h.copies _ fields uses_mac.2 in
    let signer = bind_some h.signer _ fields copies.2 in
    let signed = bind_some h.signed _ fields signer.2 in
    let from = bind_some h.from _ fields signed.2 in
    let until = bind_some h.until _ fields from.2 in
    let some = bind_some (some_elements elements) _ fields until.2 in
    let is = same_value _ fields some.2 in
    let signs = found (IsSigner new) h.signer signer.0 all.signer signer.1 in
    let begins = found (IsTime new) h.from from.0 all.from from.1 in
    let ends = found (IsTime new) h.until until.0 all.until until.1 in
    subst (λ (f : SpecFields). are_in_order f ≡ true → IsCopy f.elements → IsSpec f) is (λ order copy. record {
      doc_type = found (λ (name : List ℕ). is_name name ≡ true) h.doc_type doc_type.0 all.doc_type doc_type.1;
      copies = found (λ (number : ℕ). is_in_range 1 64 number ≡ true) h.copies copies.0 all.copies copies.1;
      signer = signs.0;
      signed = (found (IsTime new) h.signed signed.0 all.signed signed.1).0;
      from = begins.0;
      until = ends.0;
      update = time_only new h.update all.update;
      order = order;
      late = λ is_new. (begins.1 (signs.1 is_new), ends.1 (signs.1 is_new));
      elements = copy;
      some = not_empty elements some.0 some.1;
    }) order copy

or_fault_ok : {A : Type 0} (fault : SpecFault) (o : Option A) (x : A) → or_fault fault o ≡ Ok x → o ≡ Some x
or_fault_ok fault None x e = absurd cc
or_fault_ok fault (Some y) x e = cc

ordered : (first : Option SpecCheck) (test : Bool) → first_failed (first ∷ fails_where (not test) checks.Order ∷ []) ≡ None → test ≡ true
ordered None true e = refl
ordered None false e = absurd cc
ordered (Some failed) test e = absurd cc

pub spec_is : (text : List ℕ) (fields : SpecFields) → spec_of text ≡ Ok fields → IsCopy fields.elements → IsSpec fields
spec_is text fields e copy =
    let new = has_new_signer (file_lines text) in
    let last = max 1 (length (lines text)) in
    let all = bind_ok (with_lines new nothing (file_lines text)) (finished last) fields e in
    let headers = lines_keep new nothing all.0 (file_lines text) (λ is. is) (none_are new) all.1 in
    let end = bind_ok (or_fault (faults.Form checks.Line last) (fields_of all.0)) (λ f. unless (first_failed (whole_checks f)) 0 f) fields all.2 in
    let whole = unless_ok (first_failed (whole_checks end.0)) 0 end.0 fields end.2 in
    let order = ordered (missing end.0) (are_in_order end.0) whole.0 in
    collected_is new all.0.headers all.0.elements fields headers
    (subst (λ (f : SpecFields). fields_of all.0 ≡ Some f) whole.1 (or_fault_ok _ (fields_of all.0) end.0 end.1))
    (subst (λ (f : SpecFields). are_in_order f ≡ true) whole.1 order) copy
