-- The values of a spec that was read are items of CBOR.
use Rattle.std.proofs.Common.{◌≡◌, ℕ, List, [], ◌∷◌, length, Option, Some, None, Result, Ok, Err, Bool, refl, subst, ◌∙◌}
use Rattle.std.specs.Prelude.{max, not}
use Rattle.std.specs.Str.Lines.{lines}
use Rattle.std.proofs.lemmas.List.Elements.{All-nil}
use Rattle.mdoc_outside.specs.Lines.{Line, file_lines, words}
use Rattle.mdoc_outside.specs.ResultSteps.{◌>>=◌, or_fault}
use Rattle.issue_spec.proofs.SpecHeaderLemmas.{bind_some, same_value, where_some}
use Rattle.issue_spec.specs.SpecChecks.{first_failed, whole_checks}
use Rattle.issue_spec.specs.SpecEnd.{some_elements, fields_of}
use Rattle.issue_spec.specs.SpecFile as files
use Rattle.issue_spec.specs.SpecLine as spec_lines
use Rattle.issue_spec.specs.SpecSoFar.{SoFar, is_empty, nothing}
use Rattle.issue_spec.specs.declared.spec_check.SpecCheck.TheVariants as checks
use Rattle.issue_spec.specs.declared.spec_element.SpecElement.{SpecElement}
use Rattle.issue_spec.specs.declared.spec_fault.SpecFault.{SpecFault}
use Rattle.issue_spec.specs.declared.spec_fault.SpecFault.TheVariants as faults
use Rattle.issue_spec.specs.declared.spec_fields.SpecFields.{SpecFields}
use Rattle.package_laws.proofs.SpecLineItems.{HaveItems, kept, ok-value, unless-ok, words-keep}
use Rattle.package_laws.proofs.SpecValueItems.{IsItem}

then-ok : {A B : Type 0} (r : Result A SpecFault) (f : A → Result B SpecFault) (y : B) → (r >>= f) ≡ Ok y → (x : A) × (r ≡ Ok x) × (f x ≡ Ok y)
then-ok (Ok x) f y e = (x, refl, e)
then-ok (Err fault) f y e = absurd cc

lines-keep : (new : Bool) (so_far end : SoFar) (package_lines : List Line) → HaveItems so_far.elements →
    files.with_lines new so_far package_lines ≡ Ok end → HaveItems end.elements
lines-keep new so_far end [] all e = kept so_far end (ok-value so_far end e) all
lines-keep new so_far end (line ∷ rest) all e =
    let step = then-ok (files.with_line new line.number (spec_lines.spec_line line.bytes) so_far) (λ next. files.with_lines new next rest) end e in
    lines-keep new step.0 end rest (words-keep new line.number line.bytes (words line.bytes) so_far step.0 all step.1) step.2

collected-elements : (so_far : SoFar) (fields : SpecFields) → fields_of so_far ≡ Some fields → so_far.elements ≡ fields.elements
collected-elements so_far fields e =
    let h = so_far.headers in
    let doc_type = bind_some h.doc_type _ fields e in
    let uses_mac = bind_some h.uses_mac _ fields doc_type.2 in
    let copies = bind_some h.copies _ fields uses_mac.2 in
    let signer = bind_some h.signer _ fields copies.2 in
    let signed = bind_some h.signed _ fields signer.2 in
    let from = bind_some h.from _ fields signed.2 in
    let until = bind_some h.until _ fields from.2 in
    let some = bind_some (some_elements so_far.elements) _ fields until.2 in
    let is = same_value _ fields some.2 in
    let own = where_some (not (is_empty so_far.elements)) so_far.elements some.0 some.1 in
    own.1 ∙ subst (λ (f : SpecFields). some.0 ≡ f.elements) is refl

given : {A : Type 0} (fault : SpecFault) (o : Option A) (x : A) → or_fault fault o ≡ Ok x → o ≡ Some x
given fault None x e = absurd cc
given fault (Some y) x e = cc

pub values-are-items : (text : List ℕ) (fields : SpecFields) → files.spec_of text ≡ Ok fields → HaveItems fields.elements
values-are-items text fields e =
    let new = files.has_new_signer (file_lines text) in
    let last = max 1 (length (lines text)) in
    let all = then-ok (files.with_lines new nothing (file_lines text)) (files.finished last) fields e in
    let end = then-ok (or_fault (faults.Form checks.Line last) (fields_of all.0)) (λ f. files.unless (first_failed (whole_checks f)) 0 f) fields all.2 in
    let whole = unless-ok (first_failed (whole_checks end.0)) 0 end.0 fields end.2 in
    let own = collected-elements all.0 end.0 (given _ (fields_of all.0) end.0 end.1) in
    subst (λ (f : SpecFields). HaveItems f.elements) whole
    (subst HaveItems own (lines-keep new nothing all.0 (file_lines text) (All-nil (λ (x : SpecElement). IsItem x.value)) all.1))
