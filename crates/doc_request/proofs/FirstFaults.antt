-- The first of some faults.
use Rattle.std.proofs.Common.{◌≡◌, ℕ, suc, ◌≤◌, Bool, true, false, ◌&&◌, cond, List, [], ◌∷◌, length, Option, Some, None, Result, Ok, Err, refl, sym, ap, arith}
use Rattle.std.specs.Prelude.{nat_le}
use Rattle.std.specs.List.{cons_option}
use Rattle.std.proofs.lemmas.Bool.{leb-true}
use Rattle.mdoc_outside.specs.declared.key_name.KeyName.TheVariants as keys
use Rattle.mdoc_outside.specs.OptionSteps.{unless}
use Rattle.cbor_view.specs.Parts.{Part, items_in, text_in}
use Rattle.cbor_view.specs.Reading.{Gives}
use Rattle.cbor_maps.specs.declared.map_fault.MapFault.{MapFault}
use Rattle.cbor_maps.specs.declared.map_fault.MapFault.TheVariants as maps
use Rattle.cbor_maps.specs.Reading.{field}
use Rattle.doc_request.specs.declared.request_fault.RequestFault.{RequestFault}
use Rattle.doc_request.specs.declared.request_fault.RequestFault.TheVariants.{Count}
use Rattle.doc_request.specs.Asked.{Document, document, documents, document_fault, first_fault, of_documents, of_version, request_fault}
use Rattle.doc_request.specs.Checks.{rank, earlier, of_field}
use Rattle.doc_request.specs.Spaces.{is_count}

le-trans : (a b c : ℕ) → nat_le a b ≡ true → nat_le b c ≡ true → nat_le a c ≡ true
le-trans a b c one other = grind arith

le-not : (a b c : ℕ) → nat_le a b ≡ false → nat_le b c ≡ false → nat_le a c ≡ false
le-not a b c one other = grind arith

three : (f g h : RequestFault) (fg gh fh : Bool) → nat_le (rank f) (rank g) ≡ fg → nat_le (rank g) (rank h) ≡ gh → nat_le (rank f) (rank h) ≡ fh →
    earlier (cond fg (Some f) (Some g)) (Some h) ≡ earlier (Some f) (cond gh (Some g) (Some h))
three f g h true true fh efg egh efh = rw (efg, le-trans (rank f) (rank g) (rank h) efg egh) refl
three f g h true false fh efg egh efh = refl
three f g h false true fh efg egh efh = rw (efg, egh) refl
three f g h false false fh efg egh efh = rw (egh, le-not (rank f) (rank g) (rank h) efg egh) refl

pub earlier-assoc : (a b c : Option RequestFault) → earlier (earlier a b) c ≡ earlier a (earlier b c)
earlier-assoc None b c = refl
earlier-assoc (Some f) None c = refl
earlier-assoc (Some f) (Some g) None = alone (nat_le (rank f) (rank g)) where
  alone : (b : Bool) → earlier (cond b (Some f) (Some g)) None ≡ cond b (Some f) (Some g)
  alone true = refl
  alone false = refl
earlier-assoc (Some f) (Some g) (Some h) = three f g h (nat_le (rank f) (rank g)) (nat_le (rank g) (rank h)) (nat_le (rank f) (rank h)) refl refl refl

-- one more
pub one-more : (found : Option RequestFault) (request : Part) (requests : List Part) →
    earlier (earlier found (document_fault request)) (first_fault requests) ≡ earlier found (first_fault (request ∷ requests))
one-more found request requests = earlier-assoc found (document_fault request) (first_fault requests)

-- where nothing is wrong, nothing is wrong with either
pub neither : (a b : Option RequestFault) → earlier a b ≡ None → (a ≡ None) × (b ≡ None)
neither None b e = (refl, e)
neither (Some f) None e = absurd cc
neither (Some f) (Some g) e = either (nat_le (rank f) (rank g)) e where
  either : (b : Bool) → cond b (Some f) (Some g) ≡ None → (Some f ≡ None) × (Some g ≡ None)
  either true e = absurd cc
  either false e = absurd cc

-- what is wrong with a field that was read is what the definition says
pub of_field-gives : {A B : Type 0} (view : A → B) (read : Result A MapFault) (defined : Result B MapFault) → Gives view read defined → of_field read ≡ of_field defined
of_field-gives view (Ok value) defined gives = ap of_field (sym gives)
of_field-gives view (Err (maps.Field name)) defined gives = ap of_field (sym gives)
of_field-gives view (Err (maps.Doubled name)) defined gives = ap of_field (sym gives)

-- three checks, and four
pub three_checks : (r s a b c x y z : Option RequestFault) → r ≡ earlier a s → s ≡ earlier b c → a ≡ x → b ≡ y → c ≡ z → r ≡ earlier x (earlier y z)
three_checks r s a b c x y z first second one two three = rw (first, second, one, two, three) refl

pub four_checks : (r s t a b c d w x y z : Option RequestFault) → r ≡ earlier a s → s ≡ earlier b t → t ≡ earlier c d →
    a ≡ w → b ≡ x → c ≡ y → d ≡ z → r ≡ earlier w (earlier x (earlier y z))
four_checks r s t a b c d w x y z first second third one two three four = rw (first, second, third, one, two, three, four) refl

-- where nothing is wrong there are documents, and few
abbrev pub IsSound : Result (List Part) MapFault → Type 0
IsSound (Ok requests) = length requests ≤ 16
IsSound (Err fault) = ⊥

unless-none : (b : Bool) (fault : RequestFault) → unless b fault ≡ None → b ≡ true
unless-none true fault e = refl
unless-none false fault e = absurd cc

few : (a b : Bool) → (a && b) ≡ true → b ≡ true
few true b e = e
few false b e = absurd cc

sound-cases : (r : Result (List Part) MapFault) → of_field r ≡ None → of_documents r ≡ None → IsSound r
sound-cases (Err (maps.Field name)) e d = absurd cc
sound-cases (Err (maps.Doubled name)) e d = absurd cc
sound-cases (Ok requests) e d =
    let parts = neither (unless (is_count 16 requests) Count) (first_fault requests) d in
    let counted = unless-none (is_count 16 requests) Count parts.0 in
    leb-true (length requests) 16 (few (nat_le 1 (length requests)) (nat_le (length requests) 16) counted)

pub sound : (item : Part) → request_fault item ≡ None → IsSound (field keys.DocRequests items_in item)
sound item e =
    let version = neither (of_field (field keys.Version text_in item)) _ e in
    let requests = neither (of_field (field keys.DocRequests items_in item)) _ version.1 in
    let documents = neither (of_version (field keys.Version text_in item)) _ requests.1 in
    sound-cases (field keys.DocRequests items_in item) requests.0 documents.1

-- the documents are no more than the requests
pub documents_few : (requests : List Part) → length (documents requests) ≤ length requests
documents_few [] = omega arith
documents_few (request ∷ requests) = either (document request) (documents_few requests) where
  either : (o : Option Document) → length (documents requests) ≤ length requests → length (cons_option o (documents requests)) ≤ suc (length requests)
  either None fewer = omega (arith, fewer)
  either (Some d) fewer = omega (arith, fewer)
