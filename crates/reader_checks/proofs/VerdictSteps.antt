-- A verdict by what is known, and that of the definition.
use Rattle.std.proofs.Common.{◌≡◌, ◌++◌, ◌∷◌, ◌||◌, [], ℕ, List, refl, sym, ap, ◌∙◌, append_assoc}
use Rattle.std.specs.Prelude.{Result, Ok, Err}
use Rattle.std.specs.List.{list_any}
use Rattle.std.proofs.lemmas.List.Folds.{list_any-append}
use Rattle.cbor_view.specs.Parts.{Part}
use Rattle.doc_request.specs.declared.request_draft.RequestDraft.{RequestDraft}
use Rattle.issuer_items.specs.Item.{Item, item}
use Rattle.issuer_items.specs.declared.item_fault.ItemFault.{ItemFault}
use Rattle.mso_digests.specs.Indexed.{IsIndexOf}
use Rattle.mso_digests.specs.declared.index.DigestIndex.{DigestIndex}
use Rattle.mso_digests.specs.Object.{Object}
use Rattle.verdict_model.specs.Elements as model
use Rattle.verdict_model.specs.Elements.{elements_after, is_accepted}
use Rattle.verdict_model.specs.declared.element_verdict.ElementVerdict.{ElementVerdict}
use Rattle.reader_checks.specs.declared.element_names.ElementNames.{ElementNames}
use Rattle.reader_checks.specs.ElementNames.{has_name}
use Rattle.reader_checks.specs.FirstCheck.{HasAccepted, HasRequested, element_verdict, verdict_of}
use Rattle.reader_checks.proofs.NameSets.{or_none}

same_verdict : (request : RequestDraft) (o : Object) (before : List ElementVerdict) (digests : DigestIndex) (requested accepted : ElementNames) →
    IsIndexOf digests o.digests → HasRequested requested request o.doc_type → HasAccepted accepted before → (e : List ℕ × Part) →
    element_verdict digests requested accepted e ≡ model.element_verdict request o before e
same_verdict request o before digests requested accepted index asks had e = go (item e.1.bytes) where
  go : (r : Result Item ItemFault) → verdict_of digests requested accepted e.0 e.1.bytes r ≡ model.verdict_of request o before e.0 e.1.bytes r
  go (Ok it) = rw (index e.0 it.digest_id, asks e.0 it.name, had e.0 it.name) refl
  go (Err fault) = refl

-- the verdicts so far and those on the elements that are left, after one verdict more
pub one_judged : (request : RequestDraft) (o : Object) (before : List ElementVerdict) (digests : DigestIndex) (requested accepted : ElementNames) →
    IsIndexOf digests o.digests → HasRequested requested request o.doc_type → HasAccepted accepted before →
    (e : List ℕ × Part) (left rest : List (List ℕ × Part)) (verdict : ElementVerdict) (verdicts all : List ElementVerdict) →
    left ≡ e ∷ rest → verdict ≡ element_verdict digests requested accepted e → verdicts ≡ before ++ verdict ∷ [] →
    before ++ elements_after request o before left ≡ all → verdicts ++ elements_after request o verdicts rest ≡ all
one_judged request o before digests requested accepted index asks had e left rest verdict verdicts all next is more so_far =
    let own : verdict ≡ model.element_verdict request o before e = is ∙ same_verdict request o before digests requested accepted index asks had e in
    let joined : verdicts ≡ before ++ model.element_verdict request o before e ∷ [] = more ∙ ap (λ (v : ElementVerdict). before ++ v ∷ []) own in
    ap (λ (vs : List ElementVerdict). vs ++ elements_after request o vs rest) joined
    ∙ append_assoc before (model.element_verdict request o before e ∷ []) (elements_after request o (before ++ model.element_verdict request o before e ∷ []) rest)
    ∙ ap (λ (es : List (List ℕ × Part)). before ++ elements_after request o before es) (sym next)
    ∙ so_far

-- the accepted elements are those of the verdicts, after one verdict more
pub one_accepted : (old new : ElementNames) (before verdicts : List ElementVerdict) (verdict : ElementVerdict) → HasAccepted old before →
    ((ns : List ℕ) (name : List ℕ) → has_name new ns name ≡ (has_name old ns name || is_accepted ns name verdict)) → verdicts ≡ before ++ verdict ∷ [] →
    HasAccepted new verdicts
one_accepted old new before verdicts verdict had given more = λ ns name.
    given ns name ∙ ap (λ h. h || is_accepted ns name verdict) (had ns name)
    ∙ sym (list_any-append (is_accepted ns name) before (verdict ∷ []) ∙ ap (λ b. list_any (is_accepted ns name) before || b) (or_none (is_accepted ns name verdict)))
    ∙ ap (λ (vs : List ElementVerdict). list_any (is_accepted ns name) vs) (sym more)
