use Rattle.std.proofs.Common.{◌≡◌, ◌∙◌, ap, length, map, subst, List, ℕ, Bor, IsPermutation}
use Rattle.arrayvec.proofs.ArrayVecLemmas.{items-with_items}
use Rattle.doc_request.specs.Texts.{are_apart}
use Rattle.doc_request.proofs.SortedTexts.{sorted_texts}
use Rattle.doc_request.proofs.texts.are_distinct.Goals as goal

pub returns : goal.returns
returns c =
    let texts = c.texts_of-texts.result in
    let sorted = c.sort_unstable.new.self in
    let whole : c.as_slice.result.now ≡ sorted = c.as_slice.ensures.value ∙ items-with_items texts sorted (c.sort_unstable.ensures.len ∙ ap length c.deref_mut.ensures.value) in
    let moves : IsPermutation texts.items sorted = subst (λ (xs : List (Bor (List ℕ))). IsPermutation xs sorted) c.deref_mut.ensures.value c.sort_unstable.ensures.permutation in
    c.are_apart.ensures
    ∙ ap (λ (ts : List (Bor (List ℕ))). are_apart (map (λ t. t.now) ts)) whole
    ∙ sorted_texts _ texts.items sorted c.texts_of-texts.ensures moves c.sort_unstable.ensures.sorted
