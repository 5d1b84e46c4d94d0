use Rattle.std.proofs.Common.{Bool, ◌≡◌, ◌++◌, ◌∷◌, ◌+◌, ◌<◌, ℕ, List, suc, drop, length, get_or, not, sym, ◌∙◌, ap, append_assoc, add-one, drop-cons, arith}
use Rattle.std.specs.List.{filter, flat_map}
use Rattle.std.proofs.lemmas.List.{get_or_default}
use Rattle.std.proofs.lemmas.List.Elements.{filter-append}
use Rattle.doc_request.specs.declared.doc_draft.DocDraft.{DocDraft}
use Rattle.verdict_model.specs.Verdict.{is_answered, wanted_in}
use Rattle.verdict_model.specs.declared.named.Named.{Named}
use Rattle.reader_checks.specs.ElementNames.{has_element}
use Rattle.reader_checks.proofs.NameSets.{same_filter}
use Rattle.reader_checks.proofs.answered.unanswered.Goals as goal

-- one document more
more : (test : Named → Bool) (front : List Named) (asked : DocDraft) (rest : List DocDraft)
    → (front ++ filter test (wanted_in asked)) ++ filter test (flat_map wanted_in rest) ≡ front ++ filter test (flat_map wanted_in (asked ∷ rest))
more test front asked rest =
    append_assoc front (filter test (wanted_in asked)) (filter test (flat_map wanted_in rest))
    ∙ ap (λ (own : List Named). front ++ own) (sym (filter-append test (wanted_in asked) (flat_map wanted_in rest)))

next : (docs : List DocDraft) (i : ℕ) (asked : DocDraft) → i < length docs → asked ≡ get_or docs i asked → drop i docs ≡ asked ∷ drop (i + 1) docs
next docs i asked within is = rw (add-one) (drop-cons docs i asked within ∙ ap (λ (own : DocDraft). own ∷ drop (suc i) docs) (sym is))

step : (test : Named → Bool) (docs : List DocDraft) (i : ℕ) (asked : DocDraft) (front new all : List Named)
    → i < length docs → asked ≡ get_or docs i asked → front ++ filter test (flat_map wanted_in (drop i docs)) ≡ all
    → new ≡ front ++ filter test (wanted_in asked) → new ++ filter test (flat_map wanted_in (drop (i + 1) docs)) ≡ all
step test docs i asked front new all within is before added =
    rw added (more test front asked (drop (i + 1) docs)
    ∙ ap (λ (rest : List DocDraft). front ++ filter test (flat_map wanted_in rest)) (sym (next docs i asked within is)) ∙ before)

pub loop-asked-preserved : goal.loop-asked-preserved
loop-asked-preserved c =
    let same = c.as_slice-asked-items.ensures in
    let within : c.loop-asked.asked-index < length c.as_slice-asked-items.result.now = omega arith in
    let is : c.asked-item.result ≡ get_or c.as_slice-asked-items.result.now c.loop-asked.asked-index c.asked-item.result =
    c.asked-item.is ∙ get_or_default c.as_slice-asked-items.result.now c.loop-asked.asked-index _ _ within in
    step (λ (element : Named). not (is_answered c.args.documents.now element)) c.args.request.now.documents c.loop-asked.asked-index c.asked-item.result
    c.loop-asked.missing.items c.put_unanswered.new.missing.items _ (rw same at within) (rw same at is)
    c.loop-asked.invariant
    (c.in_ok-put_unanswered.ensures ∙ ap (λ (own : List Named). c.loop-asked.missing.items ++ own)
    (same_filter (λ (element : Named). not (has_element c.in_ok-answered.answered element)) (λ (element : Named). not (is_answered c.args.documents.now element))
    (λ element. ap not (c.in_ok-answered.ensures element)) (wanted_in c.asked-item.result)))
