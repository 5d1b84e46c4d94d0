-- What is wrong with a file, against the store that it spells.
use Rattle.std.proofs.Common.{◌≡◌, ℕ, Bool, true, false, ◌&&◌, ◌==◌, List, [], ◌∷◌, ◌++◌, map, length, filter_map, flat_map, Option, Some, None, Result, Ok, Err, is_ok, refl, sym, ap, ◌∙◌}
use Rattle.std.specs.Prelude.{is_some, is_none, nat_le, option_map}
use Rattle.std.specs.List.{AllByRecursion}
use Rattle.std.proofs.lemmas.List.{length-map, map-append}
use Rattle.cbor_view.specs.declared.cbor_fault.CborFault.{CborFault}
use Rattle.cbor_view.specs.Tree.{Tree}
use Rattle.cbor_view.specs.PartialItem.{PartialItem, whole, front_item, partial_pairs}
use Rattle.cbor_view.specs.Parts.{Part, part_of, cbor, uint_in, items_in, pairs_in}
use Rattle.cbor_view.specs.Reading.{reads}
use Rattle.cbor_view.proofs.PartialLaws.{read-whole}
use Rattle.cbor_view.specs.Spelling.{AreBytes}
use Rattle.cbor_view.proofs.HeadReading.{AreBytes as BytesAre}
use Rattle.cbor_view.proofs.ReadParts.{IsRead, items_read}
use Rattle.mdoc_outside.specs.declared.key_name.KeyName.TheVariants as keys
use Rattle.mdoc_outside.specs.declared.limit_name.LimitName.TheVariants as limits
use Rattle.mdoc_outside.specs.OptionSteps.{◌>>=◌, where_true, each}
use Rattle.mdoc_outside.specs.ListSteps.{unless}
use Rattle.doc_store.specs.Fields.{field_of, are_distinct}
use Rattle.doc_store.specs.Item.{if_spelled}
use Rattle.doc_store.specs.declared.first_fault.Fault.{Fault}
use Rattle.doc_store.specs.declared.store_check.StoreCheck.TheVariants as checks
use Rattle.doc_store.specs.Store.{Document, Store, name_in, within, document, store}
use Rattle.doc_store.specs.Faults.{fault, if_kind, Entries, entries_or_none, with_text, values_of, repeats, beyond, document_faults, doc_types, version_faults, documents_faults, form_faults, cbor_fault, faults, store_fault}
use Rattle.doc_store.proofs.CleanLaw.{is_clean, and_false, and_true, clean_first, clean_joined, and_same, clean_unless, clean_beyond, some_where, clean_each}
use Rattle.doc_store.proofs.DistinctLaw.{texts_of, clean_repeats}
use Rattle.doc_store.proofs.KeyLaw.{partial_entries, FieldTest, all_hold, clean_map, no_field, value_in, field_value, value_seen}
use Rattle.doc_store.proofs.SpaceLaw.{name_is_text, few_enough}
use Rattle.doc_store.proofs.CopyLaw.{some_then, some_last}
use Rattle.doc_store.proofs.DocumentLaw.{after_type, document_values, type_stays, clean_document}

-- ---- the version

abbrev first_version : ℕ → Option ℕ
first_version n = where_true (n == 1) n

clean_version : (p : Part) → is_clean (version_faults (whole p)) ≡ is_some (uint_in p >>= first_version)
clean_version p = go (uint_in p) where
  go : (o : Option ℕ) →
      is_clean (if_kind (fault (checks.Field keys.Version) (whole p) ∷ []) (λ (n : ℕ). unless (n == 1) (fault checks.Version (whole p))) o) ≡ is_some (o >>= first_version)
  go None = refl
  go (Some n) = clean_unless (n == 1) (fault checks.Version (whole p)) ∙ sym (some_where (n == 1) n)

-- ---- the types of the documents

abbrev text_at : Part → List ℕ → List ℕ × PartialItem
text_at p text = (text, whole p)

-- the type of a document stands there once
type_seen : (p : Part) (d : Document) → document p ≡ Some d → texts_of (doc_types (whole p)) ≡ d.doc_type ∷ []
type_seen p d is = by_pairs (pairs_in p) refl where
  named : (value : Part) (o : Option (List ℕ)) → name_in value ≡ o → (o >>= λ doc_type. after_type p doc_type) ≡ Some d →
      texts_of (filter_map with_text (whole value ∷ [])) ≡ d.doc_type ∷ []
  named value None n e = cc
  named value (Some doc_type) n e =
      let one : with_text (whole value) ≡ Some (text_at value doc_type) = ap (option_map (text_at value)) (name_is_text value doc_type n) in
      rw one (ap (λ (text : List ℕ). text ∷ []) (type_stays p doc_type d e))

  by_field : (entries : List (Part × Part)) (o : Option Part) → pairs_in p ≡ Some entries → value_in keys.DocType p ≡ o →
      ((o >>= name_in) >>= λ doc_type. after_type p doc_type) ≡ Some d → texts_of (doc_types (whole p)) ≡ d.doc_type ∷ []
  by_field entries None pairs found e = cc
  by_field entries (Some value) pairs found e =
      let seen : partial_pairs (whole p) ≡ Some (partial_entries entries) = ap (option_map partial_entries) pairs in
      ap (λ (o : Option Entries). texts_of (filter_map with_text (values_of keys.DocType (entries_or_none o)))) seen
      ∙ ap (λ (gs : List PartialItem). texts_of (filter_map with_text gs)) (value_seen keys.DocType p entries value pairs found)
      ∙ named value (name_in value) refl e

  by_pairs : (o : Option (List (Part × Part))) → pairs_in p ≡ o → texts_of (doc_types (whole p)) ≡ d.doc_type ∷ []
  by_pairs None pairs =
      let none : document p ≡ None = document_values p ∙ ap (λ (o : Option Part). (o >>= name_in) >>= λ doc_type. after_type p doc_type) (no_field keys.DocType p pairs) in
      cc
  by_pairs (Some entries) pairs = by_field entries (value_in keys.DocType p) pairs refl (sym (document_values p) ∙ is)

abbrev types_of : Store → List (List ℕ)
types_of documents = map (λ (d : Document). d.doc_type) documents

types_seen : (parts : List Part) (documents : Store) → each document parts ≡ Some documents → texts_of (flat_map doc_types (map whole parts)) ≡ types_of documents
types_seen [] documents is = let same : [] ≡ documents = cc in ap types_of same
types_seen (p ∷ parts) documents is = go (document p) refl (each document parts) (types_seen parts) is where
  go : (o : Option Document) → document p ≡ o → (rest : Option Store) →
      ((others : Store) → rest ≡ Some others → texts_of (flat_map doc_types (map whole parts)) ≡ types_of others) →
      (o >>= λ y. rest >>= λ ys. Some (y ∷ ys)) ≡ Some documents → texts_of (flat_map doc_types (map whole (p ∷ parts))) ≡ types_of documents
  go None one rest known e = cc
  go (Some d) one None known e = cc
  go (Some d) one (Some others) known e =
      let same : d ∷ others ≡ documents = cc in
      let text : List ℕ × PartialItem → List ℕ = λ x. x.0 in
      map-append text (doc_types (whole p)) (flat_map doc_types (map whole parts))
      ∙ ap (λ (one : List (List ℕ)). one ++ texts_of (flat_map doc_types (map whole parts))) (type_seen p d one)
      ∙ ap (λ (rest : List (List ℕ)). d.doc_type ∷ rest) (known others refl) ∙ ap types_of same

-- ---- the documents

abbrev distinct_types : Store → Option Store
distinct_types documents = where_true (are_distinct (types_of documents)) documents

abbrev documents_of : Option Part → Option Store
documents_of o = (((o >>= items_in) >>= within 0 16) >>= each document) >>= distinct_types

abbrev faults_of_documents : List PartialItem → List Fault
faults_of_documents gs = flat_map document_faults gs ++ repeats (flat_map doc_types gs) ++ beyond limits.Documents 16 gs

types_test : (parts : List Part) (o : Option Store) → each document parts ≡ o →
    (is_some o && are_distinct (texts_of (flat_map doc_types (map whole parts)))) ≡ is_some (o >>= distinct_types)
types_test parts None is = refl
types_test parts (Some documents) is = ap are_distinct (types_seen parts documents is) ∙ sym (some_where (are_distinct (types_of documents)) documents)

few_documents : (parts : List Part) (few : Bool) →
    ((is_some (each document parts) && are_distinct (texts_of (flat_map doc_types (map whole parts)))) && few) ≡ is_some ((where_true few parts >>= each document) >>= distinct_types)
few_documents parts false = and_false _
few_documents parts true = and_true _ ∙ types_test parts (each document parts) refl

clean_parts : (parts : List Part) → AllByRecursion IsRead parts →
    is_clean (faults_of_documents (map whole parts)) ≡ is_some ((within 0 16 parts >>= each document) >>= distinct_types)
clean_parts parts read =
    let each_faults = flat_map document_faults (map whole parts) in
    let doubled = repeats (flat_map doc_types (map whole parts)) in
    clean_joined (each_faults ++ doubled) (beyond limits.Documents 16 (map whole parts))
    ∙ and_same _ _ _ _
    (clean_joined each_faults doubled
    ∙ and_same _ _ _ _ (clean_each IsRead whole document_faults document clean_document parts read) (clean_repeats (flat_map doc_types (map whole parts))))
    (clean_beyond limits.Documents 16 (map whole parts) ∙ ap (λ (n : ℕ). nat_le n 16) (length-map parts whole) ∙ sym (few_enough 16 parts))
    ∙ few_documents parts (nat_le 0 (length parts) && nat_le (length parts) 16)

clean_documents : (p : Part) → IsRead p → is_clean (documents_faults (whole p)) ≡ is_some (documents_of (Some p))
clean_documents p read = go (items_in p) refl where
  go : (o : Option (List Part)) → items_in p ≡ o →
      is_clean (if_kind (fault (checks.Field keys.Documents) (whole p) ∷ []) faults_of_documents (option_map (map whole) o))
      ≡ is_some (((o >>= within 0 16) >>= each document) >>= distinct_types)
  go None is = refl
  go (Some parts) is = clean_parts parts (items_read p parts read is)

-- ---- the file

abbrev version_field : FieldTest
version_field = record { key = record { name = keys.Version; value = version_faults }; test = λ value. is_some (uint_in value >>= first_version); law = λ value read. clean_version value }

abbrev documents_field : FieldTest
documents_field = record { key = record { name = keys.Documents; value = documents_faults }; test = λ value. is_some (documents_of (Some value)); law = clean_documents }

abbrev store_by_values : Part → Option Store
store_by_values p = ((value_in keys.Version p >>= uint_in) >>= first_version) >>= λ version. documents_of (value_in keys.Documents p)

some_store : (p : Part) → is_some (store_by_values p) ≡ all_hold p (version_field ∷ documents_field ∷ [])
some_store p =
    some_then (λ (o : Option Part). (o >>= uint_in) >>= first_version) (value_in keys.Version p) (λ version. documents_of (value_in keys.Documents p)) (all_hold p (documents_field ∷ [])) refl
    (λ version. some_last documents_of (value_in keys.Documents p) refl)

clean_form : (p : Part) → IsRead p → is_clean (form_faults (whole p)) ≡ is_some (store_by_values p)
clean_form p read = clean_map version_field (documents_field ∷ []) p read ∙ sym (some_store p)

store_values : (bytes : List ℕ) → store bytes ≡ (if_spelled (cbor bytes) >>= store_by_values)
unfolding store
store_values bytes = go (cbor bytes) where
  go : (r : Result Part CborFault) →
      (if_spelled r >>= λ file. (field_of keys.Version uint_in file >>= first_version) >>= λ version. ((field_of keys.Documents items_in file >>= within 0 16) >>= each document) >>= distinct_types)
      ≡ (if_spelled r >>= store_by_values)
  go (Err fault) = refl
  go (Ok file) = rw (field_value keys.Version uint_in file, field_value keys.Documents items_in file) refl

clean_file : (bytes : List ℕ) → BytesAre bytes → (is_clean (cbor_fault (reads bytes)) && is_clean (form_faults (front_item bytes))) ≡ is_some (if_spelled (cbor bytes) >>= store_by_values)
clean_file bytes are = go (reads bytes) refl where
  go : (r : Result Tree CborFault) → reads bytes ≡ r → (is_clean (cbor_fault r) && is_clean (form_faults (front_item bytes))) ≡ is_some (if_spelled (part_of bytes r) >>= store_by_values)
  go (Err f) read = refl
  go (Ok tree) read =
      let file : Part = record { at = 0; bytes = bytes } in
      ap (λ (g : PartialItem). is_clean (form_faults g)) (read-whole bytes tree read) ∙ clean_form file (record { are = are; ok = ap is_ok read })

-- nothing is wrong with a file exactly where it spells a store
pub store_iff_no_fault : (bytes : List ℕ) → AreBytes bytes → is_none (store_fault bytes) ≡ is_some (store bytes)
store_iff_no_fault bytes are =
    clean_first (faults bytes) ∙ clean_joined (cbor_fault (reads bytes)) (form_faults (front_item bytes)) ∙ clean_file bytes (record { each = are })
    ∙ sym (ap (λ (o : Option Store). is_some o) (store_values bytes))

-- a file without a fault is a store
pub without_fault : (bytes : List ℕ) → AreBytes bytes → store_fault bytes ≡ None → is_some (store bytes) ≡ true
without_fault bytes are none = sym (store_iff_no_fault bytes are) ∙ ap (λ (o : Option Fault). is_none o) none

-- and one that has a fault is none
pub with_fault : (bytes : List ℕ) (f : Fault) → AreBytes bytes → store_fault bytes ≡ Some f → store bytes ≡ None
with_fault bytes f are some = go (store bytes) (sym (store_iff_no_fault bytes are) ∙ ap (λ (o : Option Fault). is_none o) some) where
  go : (o : Option Store) → is_some o ≡ false → o ≡ None
  go None none = refl
  go (Some documents) none = cc
