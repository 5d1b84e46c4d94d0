-- The parts of an element lie in it, each at its place.
use Rattle.std.proofs.Common.{◌≡◌, ℕ, ◌+◌, refl, sym, ap, ◌∙◌, subst, arith, List, [], ◌∷◌, ◌++◌, append_assoc, append-nil, length, length-append, drop, Contains, slice_get, Result, Ok, Err}
use Rattle.std.specs.List.{AllByRecursion}
use Rattle.std.proofs.lemmas.List.Elements.{All-from_recursion, All-contains}
use Rattle.der_view.specs.declared.der_fault.DerFault.{DerFault}
use Rattle.der_view.specs.Element as elements
use Rattle.der_view.specs.Element.{length_bytes, element, IsElement}
use Rattle.der_view.specs.Parts.{Part, behind, AreParts, body_part, parts_of}
use Rattle.der_view.specs.Reading.{body_of}
use Rattle.der_view.proofs.Lengths.{AreBytes}
use Rattle.der_view.proofs.Listing.{parts-are}
use Rattle.cert_view.specs.Certificate.{Fields, certificate}
use Rattle.cert_view.specs.Written.{concatenated}
use Rattle.cert_view.proofs.WrittenParts.{place, placed, after_head, parts-in}
use Rattle.certificate_laws.specs.IsCertificate.{IsCertificate}
use Rattle.certificate_laws.specs.MadeOf.{IsMadeOf}
use Rattle.certificate_laws.specs.PartsLie.{LiesIn, whole_part, FieldsLie}
use Rattle.certificate_laws.proofs.Made.{body-of, body-bytes, elems, parts-each}
use Rattle.certificate_laws.proofs.Whole.{certificate-sound}

abbrev Lies : Part → Result Part DerFault → Type 0
Lies all (Ok q) = LiesIn all q
Lies all (Err f) = Unit {0}

lie-each : (all : Part) (ps : List (Result Part DerFault)) (r : Part) → AreParts r ps → LiesIn all r → AllByRecursion (Lies all) ps
lie-each all [] r are stands_in = tt
lie-each all ((Err f) ∷ []) r are stands_in = (tt, tt)
lie-each all ((Err f) ∷ (p ∷ ps)) r are stands_in = absurd are
lie-each all ((Ok q) ∷ ps) r are stands_in =
    let first = are.0 in
    let rest = drop (length q.bytes) r.bytes in
    let joined : all.bytes ≡ stands_in.before ++ (q.bytes ++ (rest ++ stands_in.after)) =
    stands_in.whole ∙ ap (λ (x : List ℕ). stands_in.before ++ (x ++ stands_in.after)) first.whole ∙ ap (λ (x : List ℕ). stands_in.before ++ x) (append_assoc q.bytes rest stands_in.after) in
    let others : LiesIn all (behind (length q.bytes) r) = record {
      before = stands_in.before ++ q.bytes;
      after = stands_in.after;
      whole = joined ∙ sym (append_assoc stands_in.before q.bytes (rest ++ stands_in.after));
      place = (let p = stands_in.place in omega (arith, p, length-append stands_in.before q.bytes));
    } in
    (record { before = stands_in.before; after = rest ++ stands_in.after; whole = joined; place = first.place ∙ stands_in.place }, lie-each all ps (behind (length q.bytes) r) are.1 others)

-- the body follows the tag and the length
body-lies : (all p : Part) (tag : ℕ) (body : List ℕ) → IsElement p.bytes tag body → LiesIn all p → LiesIn all (body_part p)
body-lies all p tag body is stands_in =
    let head : List ℕ = tag ∷ length_bytes (length body) in
    let same : body_of p.bytes ≡ body = body-of p.bytes tag body is in
    let spelled : p.bytes ≡ head ++ body_of p.bytes = is.spelled ∙ ap (λ (x : List ℕ). head ++ x) (sym same) in
    let size : length p.bytes ≡ length head + length (body_of p.bytes) = ap length spelled ∙ length-append head (body_of p.bytes) in
    record {
      before = stands_in.before ++ head;
      after = stands_in.after;
      whole = stands_in.whole ∙ ap (λ (x : List ℕ). stands_in.before ++ (x ++ stands_in.after)) spelled
          ∙ ap (λ (x : List ℕ). stands_in.before ++ x) (append_assoc head (body_of p.bytes) stands_in.after)
          ∙ sym (append_assoc stands_in.before head (body_of p.bytes ++ stands_in.after));
      place = (let q = stands_in.place in omega (arith, q, size, length-append stands_in.before head));
    }

each-lies : (all p : Part) (tag : ℕ) (body : List ℕ) → AreBytes p.bytes → IsElement p.bytes tag body → LiesIn all p → AllByRecursion (Lies all) (parts_of p)
each-lies all p tag body are is stands_in =
    let own : AreBytes (body_of p.bytes) = subst AreBytes (sym (body-of p.bytes tag body is)) (body-bytes p.bytes tag body is are) in
    lie-each all (parts_of p) (body_part p) (parts-are (body_part p) own) (body-lies all p tag body is stands_in)

pub parts-lie : (all p q : Part) (tag : ℕ) (body : List ℕ) → elements.AreBytes p.bytes → IsElement p.bytes tag body → LiesIn all p → Contains (parts_of p) (Ok q) → LiesIn all q
parts-lie all p q tag body are is stands_in among =
    let found : Result Part DerFault = Ok q in
    All-contains (Lies all) (parts_of p) found (All-from_recursion (Lies all) (parts_of p) (each-lies all p tag body (record { each = are }) is stands_in)) among

-- ---- a certificate

row-is : (tag at : ℕ) (parts : List (List ℕ)) (bytes : List ℕ) → IsMadeOf tag parts bytes → parts_of (place at bytes) ≡ placed (after_head at tag (concatenated parts)) parts
row-is tag at parts bytes whole = ap (λ (x : List ℕ). parts_of (place at x)) whole.is.spelled ∙ parts-in at tag parts whole.is.is_tag (elems parts whole.each)

row-lies : (all : Part) (tag at : ℕ) (parts : List (List ℕ)) (bytes : List ℕ) → AreBytes bytes → IsMadeOf tag parts bytes → LiesIn all (place at bytes) → AllByRecursion (Lies all) (placed (after_head at tag (concatenated parts)) parts)
row-lies all tag at parts bytes are whole stands_in =
    subst (AllByRecursion (Lies all)) (row-is tag at parts bytes whole) (each-lies all (place at bytes) tag (concatenated parts) are whole.is stands_in)

whole-lies : (bytes : List ℕ) → LiesIn (whole_part bytes) (place 0 bytes)
whole-lies bytes = record { before = []; after = []; whole = sym (append-nil bytes); place = refl }

fields-lie-of : (bytes : List ℕ) (fields : Fields) → AreBytes bytes → IsCertificate bytes fields → FieldsLie bytes fields
fields-lie-of bytes fields are is =
    let t = is.tbs_certificate in
    let outer = fields.message ∷ is.signature_algorithm ∷ is.signature_value ∷ [] in
    let first = after_head 0 0x30 (concatenated outer) in
    let outer_lie = row-lies (whole_part bytes) 0x30 0 outer bytes are is.whole (whole-lies bytes) in
    let own = parts-each 0x30 outer bytes is.whole are in
    let rest = t.issuer_unique_id ++ (t.subject_unique_id ++ t.extensions) in
    let inner = t.version ∷ t.serial_number ∷ t.signature ∷ fields.tbs.issuer ∷ t.validity ∷ fields.tbs.subject ∷ t.subject_public_key_info ∷ rest in
    let second = after_head first 0x30 (concatenated inner) in
    let inner_lie = row-lies (whole_part bytes) 0x30 first inner fields.message own.0.are t.whole outer_lie.0 in
    let issuer_at = second + length t.version + length t.serial_number + length t.signature in
    let subject_at = issuer_at + length fields.tbs.issuer + length t.validity in
    record {
      message = place first fields.message;
      issuer = place issuer_at fields.tbs.issuer;
      subject = place subject_at fields.tbs.subject;
      first = ap (λ (ps : List (Result Part DerFault)). slice_get ps 0) (row-is 0x30 0 outer bytes is.whole);
      fourth = ap (λ (ps : List (Result Part DerFault)). slice_get ps 3) (row-is 0x30 first inner fields.message t.whole);
      sixth = ap (λ (ps : List (Result Part DerFault)). slice_get ps 5) (row-is 0x30 first inner fields.message t.whole);
      message_bytes = refl;
      issuer_bytes = refl;
      subject_bytes = refl;
      message_lies = outer_lie.0;
      issuer_lies = inner_lie.1.1.1.0;
      subject_lies = inner_lie.1.1.1.1.1.0;
    }

pub fields-lie : (bytes : List ℕ) (fields : Fields) → elements.AreBytes bytes → certificate bytes ≡ Ok fields → FieldsLie bytes fields
fields-lie bytes fields are e =
    let own : AreBytes bytes = record { each = are } in
    fields-lie-of bytes fields own (certificate-sound bytes fields own e)
