-- No element is asked for twice in one document.
use Rattle.std.proofs.Common.{◌≡◌, ℕ, List, [], ◌∷◌, ◌++◌, Bool, true, false, not, ◌&&◌, ◌||◌, if◌then◌else◌, Option, Some, None, Result, Ok, Err, refl, sym, ◌∙◌, ap, subst}
use Rattle.std.specs.Prelude.{filter_map, nat_le, unwrap_or}
use Rattle.std.specs.List.{AllByRecursion, cons_option, list_all, list_any}
use Rattle.std.specs.Bool.{Decides}
use Rattle.std.specs.Result.{result_ok}
use Rattle.std.specs.Str.{bytes_eq}
use Rattle.std.proofs.lemmas.Slice.Eq.{bytes_eq-Decides}
use Rattle.mdoc_outside.specs.OptionSteps.{◌>>=◌, unless}
use Rattle.mdoc_outside.specs.declared.key_name.KeyName.TheVariants as keys
use Rattle.cbor_view.specs.Label.{is_words}
use Rattle.cbor_view.specs.Parts.{Part, boolean_in, cbor, text_in, items_in}
use Rattle.cbor_view.specs.declared.cbor_fault.CborFault.{CborFault}
use Rattle.cbor_view.specs.declared.doubled.Doubled as views
use Rattle.cbor_maps.specs.Reading.{any_in, encoded_in, entry, field, map_in, needed, of_kind, optional_field}
use Rattle.cbor_maps.specs.declared.map_fault.MapFault.{MapFault}
use Rattle.doc_request.specs.Asked.{Asked, Document, Documents, asked_in, asked_of, document, document_fault, documents, first_fault, found_part, items_fault, of_cbor, of_documents, of_encoded, of_items_request, of_spaces, of_version, request_fault, requests_in, unless_fault}
use Rattle.doc_request.specs.Checks.{of_field, rank, earlier}
use Rattle.doc_request.specs.Draft.{are_distinct, is_same_element}
use Rattle.doc_request.specs.Spaces as spaces
use Rattle.doc_request.specs.Spaces.{element, elements, elements_of, entries, has_distinct_names, has_name, in_space, is_among, is_count, is_space, spaces_fault}
use Rattle.doc_request.specs.declared.request_fault.RequestFault.{RequestFault}
use Rattle.doc_request.specs.declared.request_fault.RequestFault.TheVariants.{Count, Doubled, Field}
use Rattle.doc_request.specs.declared.wish_draft.WishDraft.{WishDraft}
use Rattle.wallet_answer.specs.Distinct.{AreWishesDistinct}

-- ---- tests

none_of : (a b : Bool) → (a || b) ≡ false → (a ≡ false) × (b ≡ false)
none_of true b is = cc
none_of false b is = (refl, is)

both_of : (a b : Bool) → (a && b) ≡ true → (a ≡ true) × (b ≡ true)
both_of true b is = (refl, is)
both_of false b is = cc

or_none : (a b : Bool) → a ≡ false → b ≡ false → (a || b) ≡ false
or_none true b is also = cc
or_none false b is also = also

and_both : (a b : Bool) → a ≡ true → b ≡ true → (a && b) ≡ true
and_both true b is also = also
and_both false b is also = cc

never : (a b : Bool) → b ≡ false → (a && b) ≡ false
never true b is = is
never false b is = refl

was_not : (a : Bool) → not a ≡ true → a ≡ false
was_not true is = cc
was_not false is = refl

is_not : (a : Bool) → a ≡ false → not a ≡ true
is_not true is = cc
is_not false is = refl

-- texts that differ, whichever stands first
mapped_false : (a b : List ℕ) → bytes_eq a b ≡ false → bytes_eq b a ≡ false
mapped_false a b differs = by (bytes_eq b a) (bytes_eq-Decides b a)
  where
    by : (same : Bool) → Decides same (b ≡ a) → same ≡ false
    by false is = refl
    by true is =
        let decided : Decides (bytes_eq a b) (a ≡ b) = bytes_eq-Decides a b in
        let wrong : bytes_eq a b ≡ true = decided.1 (sym (is.0 refl)) in cc

any_append : {X : Type 0} (p : X → Bool) (xs ys : List X) → list_any p xs ≡ false → list_any p ys ≡ false → list_any p (xs ++ ys) ≡ false
any_append p [] ys none also = also
any_append p (x ∷ xs) ys none also =
    let parts = none_of (p x) (list_any p xs) none in or_none (p x) (list_any p (xs ++ ys)) parts.0 (any_append p xs ys parts.1 also)

-- ---- the elements of a namespace

record IsElement (ns : List ℕ) (entry : Part × Part) (w : WishDraft) : Type 0 where
  of_namespace : w.ns ≡ ns
  is_name : text_in entry.0 ≡ Some w.name

abbrev ns_of : WishDraft → Option WishDraft → List ℕ
ns_of other found = (unwrap_or found other).ns

abbrev name_of : WishDraft → Option WishDraft → List ℕ
name_of other found = (unwrap_or found other).name

element-is : (ns : List ℕ) (entry : Part × Part) (w : WishDraft) → element ns entry ≡ Some w → IsElement ns entry w
element-is ns entry w is = by (text_in entry.0) (boolean_in entry.1) refl is
  where
    by : (name : Option (List ℕ)) (retain : Option Bool) → text_in entry.0 ≡ name
        → (name >>= λ n. retain >>= λ r. Some (record { ns = ns; name = n; retain = r })) ≡ Some w → IsElement ns entry w
    by None retain named made = cc
    by (Some n) None named made = cc
    by (Some n) (Some r) named made = record {
      of_namespace = sym (ap (ns_of w) made);
      is_name = named ∙ ap Some (ap (name_of w) made);
    }

-- none of a namespace's elements has a name that isn't among its names
other_names : (ns : List ℕ) (w : WishDraft) (es : List (Part × Part)) → has_name w.name es ≡ false → list_any (is_same_element w) (filter_map (element ns) es) ≡ false
other_names ns w [] none = refl
other_names ns w (e ∷ es) none =
    let parts = none_of (is_words w.name (text_in e.0)) (has_name w.name es) none in
    by (element ns e) refl parts.0 (other_names ns w es parts.1)
  where
    by : (found : Option WishDraft) → element ns e ≡ found → is_words w.name (text_in e.0) ≡ false → list_any (is_same_element w) (filter_map (element ns) es) ≡ false
        → list_any (is_same_element w) (cons_option found (filter_map (element ns) es)) ≡ false
    by None is differs later = later
    by (Some v) is differs later =
        let of = element-is ns e v is in
        let apart : bytes_eq v.name w.name ≡ false = ap (is_words w.name) (sym of.is_name) ∙ differs in
        or_none (is_same_element w v) _ (never (bytes_eq w.ns v.ns) (bytes_eq w.name v.name) (mapped_false v.name w.name apart)) later

-- and none is of another namespace
other_space : (ns : List ℕ) (w : WishDraft) (es : List (Part × Part)) → bytes_eq ns w.ns ≡ false → list_any (is_same_element w) (filter_map (element ns) es) ≡ false
other_space ns w [] apart = refl
other_space ns w (e ∷ es) apart = by (element ns e) refl (other_space ns w es apart)
  where
    by : (found : Option WishDraft) → element ns e ≡ found → list_any (is_same_element w) (filter_map (element ns) es) ≡ false
        → list_any (is_same_element w) (cons_option found (filter_map (element ns) es)) ≡ false
    by None is later = later
    by (Some v) is later =
        let of = element-is ns e v is in
        let differs : bytes_eq w.ns v.ns ≡ false = ap (λ (text : List ℕ). bytes_eq w.ns text) of.of_namespace ∙ mapped_false ns w.ns apart in
        or_none (is_same_element w v) _ (ap (λ (b : Bool). b && bytes_eq w.name v.name) differs) later

distinct_names : (ns : List ℕ) (es : List (Part × Part)) → spaces.are_distinct es ≡ true → are_distinct (filter_map (element ns) es) ≡ true
distinct_names ns [] distinct = refl
distinct_names ns (e ∷ es) distinct =
    let parts = both_of (not (is_among (text_in e.0) es)) (spaces.are_distinct es) distinct in
    by (element ns e) refl (was_not (is_among (text_in e.0) es) parts.0) (distinct_names ns es parts.1)
  where
    by : (found : Option WishDraft) → element ns e ≡ found → is_among (text_in e.0) es ≡ false → are_distinct (filter_map (element ns) es) ≡ true
        → are_distinct (cons_option found (filter_map (element ns) es)) ≡ true
    by None is apart later = later
    by (Some v) is apart later =
        let of = element-is ns e v is in
        let absent : has_name v.name es ≡ false = ap (λ (o : Option (List ℕ)). is_among o es) (sym of.is_name) ∙ apart in
        and_both _ _ (is_not _ (other_names ns v es absent)) later

-- ---- all namespaces

other_spaces : (w : WishDraft) (ss : List (Part × Part)) → has_name w.ns ss ≡ false → list_any (is_same_element w) (elements ss) ≡ false
other_spaces w [] none = refl
other_spaces w (s ∷ ss) none =
    let parts = none_of (is_words w.ns (text_in s.0)) (has_name w.ns ss) none in
    any_append (is_same_element w) (in_space s) (elements ss) (by (text_in s.0) parts.0) (other_spaces w ss parts.1)
  where
    by : (name : Option (List ℕ)) → is_words w.ns name ≡ false → list_any (is_same_element w) (elements_of name (entries s.1)) ≡ false
    by None apart = refl
    by (Some ns) apart = other_space ns w (entries s.1) apart

-- elements of a namespace before those of others
before_others : (ns : List ℕ) (es : List (Part × Part)) (later : List WishDraft)
    → ((w : WishDraft) → w.ns ≡ ns → list_any (is_same_element w) later ≡ false)
    → are_distinct (filter_map (element ns) es) ≡ true → are_distinct later ≡ true → are_distinct (filter_map (element ns) es ++ later) ≡ true
before_others ns [] later apart own others = others
before_others ns (e ∷ es) later apart own others = by (element ns e) refl own (λ distinct. before_others ns es later apart distinct others)
  where
    by : (found : Option WishDraft) → element ns e ≡ found → are_distinct (cons_option found (filter_map (element ns) es)) ≡ true
        → (are_distinct (filter_map (element ns) es) ≡ true → are_distinct (filter_map (element ns) es ++ later) ≡ true)
        → are_distinct (cons_option found (filter_map (element ns) es) ++ later) ≡ true
    by None is distinct rest = rest distinct
    by (Some v) is distinct rest =
        let parts = both_of (not (list_any (is_same_element v) (filter_map (element ns) es))) _ distinct in
        and_both _ _
        (is_not _ (any_append (is_same_element v) (filter_map (element ns) es) later (was_not _ parts.0) (apart v (element-is ns e v is).of_namespace)))
        (rest parts.1)

distinct_elements : (ss : List (Part × Part)) → spaces.are_distinct ss ≡ true → list_all has_distinct_names ss ≡ true → are_distinct (elements ss) ≡ true
distinct_elements [] distinct each = refl
distinct_elements (s ∷ ss) distinct each =
    let parts = both_of (not (is_among (text_in s.0) ss)) (spaces.are_distinct ss) distinct in
    let names = both_of (has_distinct_names s) (list_all has_distinct_names ss) each in
    by (text_in s.0) (was_not (is_among (text_in s.0) ss) parts.0) names.0 (distinct_elements ss parts.1 names.1)
  where
    by : (name : Option (List ℕ)) → is_among name ss ≡ false → has_distinct_names s ≡ true → are_distinct (elements ss) ≡ true
        → are_distinct (elements_of name (entries s.1) ++ elements ss) ≡ true
    by None apart own others = others
    by (Some ns) apart own others =
        before_others ns (entries s.1) (elements ss)
        (λ w of_ns. other_spaces w ss (ap (λ (text : List ℕ). has_name text ss) of_ns ∙ apart))
        (distinct_names ns (entries s.1) own) others

-- ---- a request

no_choice : {A : Type 0} (b : Bool) (x y : A) → (if b then Some x else Some y) ≡ None → ⊥
no_choice true x y none = cc
no_choice false x y none = cc

no_earlier : (first second : Option RequestFault) → earlier first second ≡ None → (first ≡ None) × (second ≡ None)
no_earlier None second none = (refl, none)
no_earlier (Some fault) None none = cc
no_earlier (Some fault) (Some other) none = absurd (no_choice (nat_le (rank fault) (rank other)) fault other none)

no_fault : (a b c : Bool) (x y z : RequestFault) → (if a then Some x else if b then Some y else if c then None else Some z) ≡ None → c ≡ true
no_fault true b c x y z none = cc
no_fault false true c x y z none = cc
no_fault false false true x y z none = refl
no_fault false false false x y z none = cc

no_space_fault : (ss : List (Part × Part)) → spaces_fault ss ≡ None → are_distinct (elements ss) ≡ true
no_space_fault ss none =
    let both = both_of (spaces.are_distinct ss) (list_all has_distinct_names ss)
    (no_fault (not (list_all is_space ss)) (not (is_count 512 (elements ss))) (spaces.are_distinct ss && list_all has_distinct_names ss) (Field keys.NameSpaces) Count Doubled none) in
    distinct_elements ss both.0 both.1

abbrev IfDistinct : Option Document → Type 0
IfDistinct None = Unit {0}
IfDistinct (Some d) = are_distinct d.wishes ≡ true

-- the map ItemsRequest
items_distinct : (tagged : List ℕ) (auth : Option Part) (items : Part) → items_fault items ≡ None → IfDistinct (of_items_request tagged auth items)
items_distinct tagged auth items none =
    let first = no_earlier (of_field (field keys.DocType text_in items)) _ none in
    let second = no_earlier (of_field (field keys.NameSpaces map_in items)) _ first.1 in
    let third = no_earlier (of_field (optional_field keys.RequestInfo any_in items)) _ second.1 in
    by (field keys.DocType text_in items) (field keys.NameSpaces map_in items) third.1
  where
    by : (doc_type : Result (List ℕ) MapFault) (spaces : Result Part MapFault) → of_spaces spaces ≡ None
        → IfDistinct (result_ok doc_type >>= λ d. result_ok spaces >>= λ s. Some (record { doc_type = d; items = tagged; reader_auth = auth; wishes = elements (entries s) }))
    by (Err fault) spaces fine = tt
    by (Ok d) (Err fault) fine = tt
    by (Ok d) (Ok s) fine = no_space_fault (entries s) fine

-- the map DocRequest, by what is under its key
document_distinct : (r : Part) → document_fault r ≡ None → IfDistinct (document r)
document_distinct r none =
    let first = no_earlier (of_field (field keys.ItemsRequest encoded_in r)) _ none in
    let second = no_earlier (of_field (optional_field keys.ReaderAuth any_in r)) _ first.1 in
    by (entry r keys.ItemsRequest) second.1
  where
    auth : Option Part
    auth = found_part (optional_field keys.ReaderAuth any_in r)

    inside_distinct : (tagged : Part) (items : Result Part CborFault) → of_cbor items ≡ None → IfDistinct (result_ok items >>= of_items_request tagged.bytes auth)
    inside_distinct tagged (Err fault) fine = tt
    inside_distinct tagged (Ok items) fine = items_distinct tagged.bytes auth items fine

    tagged_distinct : (tagged : Part) (inside : Option (List ℕ)) → of_encoded (of_kind keys.ItemsRequest inside) ≡ None
        → IfDistinct (inside >>= λ bytes. result_ok (cbor bytes) >>= of_items_request tagged.bytes auth)
    tagged_distinct tagged None fine = tt
    tagged_distinct tagged (Some bytes) fine = inside_distinct tagged (cbor bytes) fine

    by : (found : Result (Option Part) views.Doubled) → of_encoded (needed keys.ItemsRequest encoded_in found) ≡ None
        → IfDistinct (result_ok (needed keys.ItemsRequest any_in found) >>= λ tagged. encoded_in tagged >>= λ bytes. result_ok (cbor bytes) >>= of_items_request tagged.bytes auth)
    by (Err twice) fine = tt
    by (Ok None) fine = tt
    by (Ok (Some tagged)) fine = tagged_distinct tagged (encoded_in tagged) fine

documents_distinct : (requests : List Part) → first_fault requests ≡ None → AllByRecursion (λ (d : Document). are_distinct d.wishes ≡ true) (documents requests)
documents_distinct [] none = tt
documents_distinct (r ∷ requests) none =
    let parts = no_earlier (document_fault r) (first_fault requests) none in
    by (document r) (document_distinct r parts.0) (documents_distinct requests parts.1)
  where
    by : (found : Option Document) → IfDistinct found → AllByRecursion (λ (d : Document). are_distinct d.wishes ≡ true) (documents requests)
        → AllByRecursion (λ (d : Document). are_distinct d.wishes ≡ true) (cons_option found (documents requests))
    by None is all = all
    by (Some d) is all = (is, all)

request_distinct : (item : Part) → request_fault item ≡ None → AllByRecursion (λ (d : Document). are_distinct d.wishes ≡ true) (documents (requests_in item))
request_distinct item none =
    let first = no_earlier (of_field (field keys.Version text_in item)) _ none in
    let second = no_earlier (of_field (field keys.DocRequests items_in item)) _ first.1 in
    let third = no_earlier (of_version (field keys.Version text_in item)) _ second.1 in
    by (field keys.DocRequests items_in item) third.1
  where
    by : (found : Result (List Part) MapFault) → of_documents found ≡ None
        → AllByRecursion (λ (d : Document). are_distinct d.wishes ≡ true) (documents (unwrap_or (result_ok found) []))
    by (Err fault) fine = tt
    by (Ok requests) fine = documents_distinct requests (no_earlier (unless (is_count 16 requests) Count) (first_fault requests) fine).1

abbrev list_of : Asked → List Document
list_of (Documents ds) = ds
list_of other = []

pub are_wishes_distinct : AreWishesDistinct
are_wishes_distinct text ds is = of_item (cbor text) is
  where
    of_fault : (item : Part) (fault : Option RequestFault) → request_fault item ≡ fault → asked_of (unless_fault fault (documents (requests_in item))) ≡ Documents ds
        → AllByRecursion (λ (d : Document). are_distinct d.wishes ≡ true) ds
    of_fault item (Some fault) none made = cc
    of_fault item None none made =
        subst (λ (list : List Document). AllByRecursion (λ (d : Document). are_distinct d.wishes ≡ true) list) (ap list_of made) (request_distinct item none)

    of_item : (read : Result Part CborFault) → asked_in read ≡ Documents ds → AllByRecursion (λ (d : Document). are_distinct d.wishes ≡ true) ds
    of_item (Err fault) made = cc
    of_item (Ok item) made = of_fault item (request_fault item) refl made
