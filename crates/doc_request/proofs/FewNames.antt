-- Where a document asks for few elements, it has few namespaces, and each of them few names.
use Rattle.std.proofs.Common.{◌≡◌, ◌≤◌, ℕ, suc, Bool, true, not, ◌&&◌, List, [], ◌∷◌, length, Option, Some, None, is_some, refl, ap, arith}
use Rattle.std.specs.Prelude.{filter_map, nat_le}
use Rattle.std.specs.List.{AllByRecursion, list_all}
use Rattle.std.proofs.lemmas.Bool.{and_parts, leb-true}
use Rattle.std.proofs.lemmas.List.{length-append}
use Rattle.cbor_view.specs.Parts.{Part, boolean_in, text_in}
use Rattle.doc_request.specs.Spaces.{element, elements, entries, in_space, is_count, is_element, is_empty, is_space}
use Rattle.doc_request.specs.Texts.{HasFewNames}

-- each entry is an element
each-element : (ns : List ℕ) (es : List (Part × Part)) → list_all is_element es ≡ true → length (filter_map (element ns) es) ≡ length es
each-element ns [] all = refl
each-element ns (e ∷ es) all =
    let parts = and_parts (is_element e) (list_all is_element es) all in
    go (each-element ns es parts.1) (text_in e.0) (boolean_in e.1) refl refl parts.0 where
      go : length (filter_map (element ns) es) ≡ length es → (t : Option (List ℕ)) (b : Option Bool) → text_in e.0 ≡ t → boolean_in e.1 ≡ b → (is_some t && is_some b) ≡ true → length (filter_map (element ns) (e ∷ es)) ≡ suc (length es)
      go later None b et eb is = absurd (cc)
      go later (Some name) None et eb is = absurd (cc)
      go later (Some name) (Some retain) et eb is = rw (et, eb) (ap suc later)

some-entry : (es : List (Part × Part)) → not (is_empty es) ≡ true → 1 ≤ length es
some-entry [] some = absurd (cc)
some-entry (e ∷ es) some = omega arith

-- a namespace in its form has an element for each entry, and has one
record IsCounted (space : Part × Part) : Type 0 where
  each : length (in_space space) ≡ length (entries space.1)
  some : 1 ≤ length (entries space.1)

space-counted : (space : Part × Part) → is_space space ≡ true → IsCounted space
space-counted space is = go (text_in space.0) refl is where
  go : (t : Option (List ℕ)) → text_in space.0 ≡ t → (is_some t && (not (is_empty (entries space.1)) && list_all is_element (entries space.1))) ≡ true → IsCounted space
  go None e is = absurd (cc)
  go (Some ns) e is = let parts = and_parts (not (is_empty (entries space.1))) (list_all is_element (entries space.1)) is in record {
    each = rw e (each-element ns (entries space.1) parts.1);
    some = some-entry (entries space.1) parts.0;
  }

record AreCounted (most : ℕ) (spaces : List (Part × Part)) : Type 0 where
  fewer : length spaces ≤ most
  each : AllByRecursion (λ space. length (entries space.1) ≤ most) spaces

wider : (n m : ℕ) (spaces : List (Part × Part)) → n ≤ m → AllByRecursion (λ space. length (entries space.1) ≤ n) spaces → AllByRecursion (λ space. length (entries space.1) ≤ m) spaces
wider n m [] le all = tt
wider n m (space ∷ spaces) le all = let first = all.0 in (omega arith, wider n m spaces le all.1)

spaces-counted : (spaces : List (Part × Part)) → list_all is_space spaces ≡ true → AreCounted (length (elements spaces)) spaces
spaces-counted [] all = record { fewer = omega arith; each = tt }
spaces-counted (space ∷ spaces) all =
    let parts = and_parts (is_space space) (list_all is_space spaces) all in
    let first = space-counted space parts.0 in
    let rest = spaces-counted spaces parts.1 in
    let each = first.each in
    let some = first.some in
    let fewer = rest.fewer in
    let joined = length-append (in_space space) (elements spaces) in
    record {
      fewer = omega arith;
      each = (omega arith, wider (length (elements spaces)) (length (elements (space ∷ spaces))) spaces (omega arith) rest.each);
    }

few : (n : ℕ) → (nat_le 1 n && nat_le n 512) ≡ true → n ≤ 512
few n count = leb-true n 512 (and_parts (nat_le 1 n) (nat_le n 512) count).1

pub few_spaces : (spaces : List (Part × Part)) → list_all is_space spaces ≡ true → is_count 512 (elements spaces) ≡ true → length spaces ≤ 512
few_spaces spaces all count = let counted = spaces-counted spaces all in let fewer = counted.fewer in let most = few (length (elements spaces)) count in omega arith

pub few_names : (spaces : List (Part × Part)) → list_all is_space spaces ≡ true → is_count 512 (elements spaces) ≡ true → AllByRecursion HasFewNames spaces
few_names spaces all count = let counted = spaces-counted spaces all in wider (length (elements spaces)) 512 spaces (few (length (elements spaces)) count) counted.each
