-- What was issued is a store within the limits of the form, with objects that were made from the items of their copies.
use Rattle.std.proofs.Common.{◌≡◌, ◌+◌, ◌<◌, ◌≤◌, ◌^◌, ◌++◌, ◌&&◌, ℕ, suc, Bool, true, false, cond, List, [], ◌∷◌, length, map, Option, Result, Ok, Err, refl, ap, subst, ◌∙◌, arith}
use Rattle.std.specs.Prelude.{nat_le, nat_lt}
use Rattle.std.specs.List.{All, AllByRecursion}
use Rattle.std.proofs.lemmas.Bool.{leb-true}
use Rattle.std.proofs.lemmas.Bool.Decides.{nat_tests}
use Rattle.std.proofs.lemmas.List.Elements.{All-from_recursion, recursion_from_All}
use Rattle.issuing.specs.Signers.{signer_of}
use Rattle.issuing.specs.declared.signer.Signer.{Signer}
use Rattle.doc_store.specs.Store.{Copy, store}
use Rattle.issuing.specs.declared.issue_fault.IssueFault.{IssueFault}
use Rattle.issuing.specs.declared.issue_fault.IssueFault.TheVariants.{Limit}
use Rattle.issuing.specs.Copies.{copies, issued_copy}
use Rattle.issuing.proofs.ElementLemmas.{name_short}
use Rattle.issuing.specs.IssuedItems.{items_of, object_draft, payload}
use Rattle.issue_spec.proofs.SpecForms.{name_is_text}
use Rattle.issue_spec.specs.SpecFacts.{IsSpec}
use Rattle.issue_spec.specs.SpecFile.{spec_of}
use Rattle.issue_spec.specs.declared.spec_element.SpecElement.{SpecElement}
use Rattle.issue_spec.specs.declared.spec_fields.SpecFields.{SpecFields}
use Rattle.key_device.specs.HasLine.{HasLine}
use Rattle.key_device.specs.Plan.{Walks, of_other}
use Rattle.key_device.specs.declared.exchange.Exchange.{Exchange}
use Rattle.mdoc_outside.specs.declared.limit_name.LimitName.TheVariants.{PackageBytes}
use Rattle.mso_digests.specs.Written.{drafted}
use Rattle.issuing.specs.Package.{issued_package, package_bytes, with_copies, with_signer, within_limit}
use Rattle.issuing.specs.declared.issued.Issued.{Issued}
use Rattle.store_write.proofs.WrittenRead.{written-read}
use Rattle.store_write.specs.Storable.{IsCopy, IsDocument, IsStore, copy_by_namespace}
use Rattle.store_write.specs.Written.{copy_bytes, store_bytes}
use Rattle.package_laws.specs.IssuedCopies.{AreIssuedSigned, ArePlannedSigned, IsSigned}
use Rattle.package_laws.specs.IssuedStores.{IsCopyOf, IsIssuedStore, IsPlannedStore, document_of}
use Rattle.package_laws.proofs.CopiesStored.{copy-stored, signature-of-four, signature-spelled}
use Rattle.package_laws.proofs.CopyParts.{IsMade, copies-made}
use Rattle.package_laws.proofs.ItemsOfSpec.{AreItemsOf, items-are}
use Rattle.package_laws.proofs.ObjectsSigned.{object-made, object-read, signature-read}
use Rattle.package_laws.proofs.Regrouped.{made-regrouped}
use Rattle.package_laws.proofs.PlanParts.{AreLines, bound, done-walk, lines-after, lines-front, same-value}
use Rattle.package_laws.proofs.SpecItems.{values-are-items}
use Rattle.package_laws.proofs.SpecLineItems.{HaveItems}
use Rattle.package_laws.proofs.WrittenLengths.{auth-shorter, chain-shorter, copies-short, payload-shorter}

-- ---- a copy

-- what the laws say of a copy that is written as these bytes
pub record IsWhole (spec : SpecFields) (bytes : List ℕ) : Type 0 where
  pub copy : Copy
  pub bytes_are : bytes ≡ copy_bytes copy
  pub stored : IsCopy copy
  pub own : IsCopyOf spec copy
  pub signed : IsSigned spec copy

copy-whole : (spec : SpecFields) (signer : Signer) (bytes : List ℕ) → IsSpec spec → HaveItems spec.elements → length bytes ≤ 16_777_216 → IsMade spec signer bytes → IsWhole spec bytes
copy-whole spec signer bytes is items short m =
    let copy : Copy = issued_copy spec signer m.made m.salts m.signature in
    let most = is.elements.few in
    let few : length {A = SpecElement} [] + length spec.elements ≤ 512 = omega (arith, most) in
    let all : AreItemsOf spec.elements (items_of spec.elements m.salts) = items-are [] spec.elements m.salts few is.elements.each items is.elements.short m.sized m.one_each in
    let own = payload spec m.made.public m.salts in
    let whole : length (copy_bytes copy) ≤ 16_777_216 = subst (λ (x : List ℕ). length x ≤ 16_777_216) m.bytes_are short in
    let auth = auth-shorter copy in
    let chain_short : length signer.certificate < 2 ^ 32 = omega (arith, whole, auth, chain-shorter signer.certificate own m.signature) in
    let own_short : length own < 2 ^ 32 = omega (arith, whole, auth, payload-shorter signer.certificate own m.signature) in
    record {
      copy = copy;
      bytes_are = m.bytes_are;
      stored = copy-stored copy (items_of spec.elements m.salts) spec.elements is.elements all refl m.key.0
          (signature-spelled signer.certificate own m.signature chain_short own_short m.signature_size)
          (signature-of-four signer.certificate own m.signature chain_short own_short m.signature_size);
      own = record { salts = m.salts; one_each = m.one_each; sized = All-from_recursion (λ (s : List ℕ). length s ≡ 32) m.salts m.sized; items = refl; used = refl };
      signed = record {
        signed = _;
        signature = signature-read signer.certificate own m.signature chain_short own_short m.signature_size;
        payload = own;
        has_payload = refl;
        says = drafted (object_draft spec m.made.public m.salts);
        is_object = object-read spec m.made.public m.salts is all m.key.1 own_short;
        made_from = object-made spec m.made.public m.salts all;
        doc_type = refl;
        signed_at = refl;
        from = refl;
        until = refl;
      };
    }

-- ---- all copies

record AreWhole (spec : SpecFields) (written : List (List ℕ)) : Type 0 where
  copies : List Copy
  count : length copies ≡ length written
  bytes_are : written ≡ map copy_bytes copies
  stored : AllByRecursion IsCopy copies
  own : AllByRecursion (IsCopyOf spec) copies
  signed : AllByRecursion (IsSigned spec) copies

all-whole : (spec : SpecFields) (signer : Signer) (written : List (List ℕ)) → IsSpec spec → HaveItems spec.elements → AllByRecursion (λ (c : List ℕ). length c ≤ 16_777_216) written → AllByRecursion (IsMade spec signer) written → AreWhole spec written
all-whole spec signer [] is items short made = record { copies = []; count = refl; bytes_are = refl; stored = tt; own = tt; signed = tt }
all-whole spec signer (bytes ∷ written) is items short made =
    let one = copy-whole spec signer bytes is items short.0 made.0 in
    let rest = all-whole spec signer written is items short.1 made.1 in
    record {
      copies = one.copy ∷ rest.copies;
      count = ap suc rest.count;
      bytes_are = ap (λ (x : List ℕ). x ∷ written) one.bytes_are ∙ ap (λ (x : List (List ℕ)). copy_bytes one.copy ∷ x) rest.bytes_are;
      stored = (one.stored, rest.stored);
      own = (one.own, rest.own);
      signed = (one.signed, rest.signed);
    }

-- ---- the package

abbrev issued-as : Issued → Result Issued IssueFault
issued-as issued = Ok issued

record IsWithin (issued : Issued) (bytes : List ℕ) : Type 0 where
  same : issued.package ≡ bytes
  short : length bytes ≤ 16_777_216

within : (root : Option (List ℕ)) (bytes : List ℕ) (issued : Issued) → issued-as issued ≡ within_limit root bytes → IsWithin issued bytes
within root bytes issued e = go (nat_lt 16_777_216 (length bytes)) refl e where
  go : (b : Bool) → nat_lt 16_777_216 (length bytes) ≡ b → issued-as issued ≡ cond b (Err (Limit PackageBytes (length bytes))) (issued-as (record { «package» = bytes; root = root })) → IsWithin issued bytes
  go true is e = absurd cc
  go false is e = record { same = ap (λ (i : Issued). i.package) (same-value issued (record { «package» = bytes; root = root }) e); short = grind (arith, nat_tests) }

both-parts : (a b : Bool) → (a && b) ≡ true → (a ≡ true) × (b ≡ true)
both-parts true b h = (refl, h)
both-parts false b h = absurd cc

-- what all laws follow from
record IsPackaged (spec : SpecFields) (bytes : List ℕ) : Type 0 where
  copies : List Copy
  count : length copies ≡ spec.copies
  written : bytes ≡ store_bytes (document_of spec copies ∷ [])
  stored : AllByRecursion IsCopy copies
  own : AllByRecursion (IsCopyOf spec) copies
  signed : AllByRecursion (IsSigned spec) copies

written-as : (spec : SpecFields) (copies : List Copy) (written : List (List ℕ)) (bytes : List ℕ) → bytes ≡ package_bytes spec written → written ≡ map copy_bytes copies → bytes ≡ store_bytes (document_of spec copies ∷ [])
written-as spec copies written bytes one same = one ∙ ap (package_bytes spec) same

packaged : (text : List ℕ) (spec : SpecFields) (issued : Issued) (es os : List Exchange) (ws : List ℕ) → spec_of text ≡ Ok spec → IsSpec spec → AreLines es → AreLines os
    → Walks (issued_package spec) es os ws (Ok issued) → IsPackaged spec issued.package
unfolding issued_package
packaged text spec issued es os ws read is own others walk =
    let one = bound (of_other (signer_of spec)) (with_signer spec) es os ws issued walk in
    let signer = one.value in
    let own_lines = lines-after one.e one.e' (subst AreLines one.es_is own) in
    let other_lines = lines-after one.o one.o' (subst AreLines one.os_is others) in
    let two = bound (copies spec signer) (with_copies spec signer.root) one.e' one.o' one.w' issued one.second in
    let written = two.value in
    let made = copies-made spec signer two.e two.o two.w written (lines-front two.e two.e' (subst AreLines two.es_is own_lines)) (lines-front two.o two.o' (subst AreLines two.os_is other_lines)) two.first in
    let bytes = package_bytes spec written in
    let fits = within signer.root bytes issued (done-walk (within_limit signer.root bytes) (Ok issued) two.e' two.o' two.w' two.second) in
    let all = all-whole spec signer written is (values-are-items text spec read) (copies-short spec written 16_777_216 fits.short) made.all in
    let count : length all.copies ≡ spec.copies = ◌∙◌ {a = length all.copies} all.count made.number in
    let same = written-as spec all.copies written issued.package fits.same all.bytes_are in
    record {
      copies = all.copies;
      count = count;
      written = same;
      stored = all.stored;
      own = all.own;
      signed = all.signed;
    }

document-stored : (spec : SpecFields) (all : List Copy) → IsSpec spec → length all ≡ spec.copies → AllByRecursion IsCopy all → IsStore (document_of spec all ∷ [])
document-stored spec all is count stored =
    let range = both-parts (nat_le 1 spec.copies) (nat_le spec.copies 64) is.copies in
    let least = leb-true 1 spec.copies range.0 in
    let most = leb-true spec.copies 64 range.1 in
    let document : IsDocument (document_of spec all) = record {
      doc_type = record { short = name_short spec.doc_type is.doc_type; utf8 = name_is_text spec.doc_type is.doc_type };
      some = omega (arith, count, least);
      few = omega (arith, count, most);
      copies = stored;
    } in
    record { few = omega arith; distinct = refl; each = (document, tt) }

-- ---- copies as they are read

signed-read : (spec : SpecFields) (copies : List Copy) → AllByRecursion (IsSigned spec) copies → AllByRecursion (IsSigned spec) (map copy_by_namespace copies)
signed-read spec [] all = tt
signed-read spec (c ∷ copies) all = let own = all.0 in (
  record {
    signed = own.signed;
    signature = own.signature;
    payload = own.payload;
    has_payload = own.has_payload;
    says = own.says;
    is_object = own.is_object;
    made_from = made-regrouped own.says c.items own.made_from;
    doc_type = own.doc_type;
    signed_at = own.signed_at;
    from = own.from;
    until = own.until;
  },
  signed-read spec copies all.1,
)

-- ---- the laws

pub planned-store : IsPlannedStore
planned-store text spec issued es os ws read is own others walk =
    let all = packaged text spec issued es os ws read is (recursion_from_All HasLine es own) (recursion_from_All HasLine os others) walk in
    let storable = document-stored spec all.copies is all.count all.stored in
    record {
      copies = all.copies;
      count = all.count;
      each = all.own;
      written = all.written;
      storable = storable;
      read = ap store all.written ∙ written-read (document_of spec all.copies ∷ []) storable;
    }

pub planned-signed : ArePlannedSigned
planned-signed text spec issued es os ws read is own others walk =
    let all = packaged text spec issued es os ws read is (recursion_from_All HasLine es own) (recursion_from_All HasLine os others) walk in
    record { copies = all.copies; written = all.written; each = all.signed; read = signed-read spec all.copies all.signed }

gained : (old new more : List Exchange) → new ≡ old ++ more → All HasLine new → All HasLine more
gained old new more same all = All-from_recursion HasLine more (lines-after old more (recursion_from_All HasLine (old ++ more) (subst (λ (x : List Exchange). All HasLine x) same all)))

pub issued-store : IsIssuedStore
issued-store text spec issued holder issuer holder' issuer' dealt dealt' read is own others follows =
    planned-store text spec issued follows.gained follows.gained_other follows.words read is
    (gained holder holder' follows.gained follows.joined own) (gained issuer issuer' follows.gained_other follows.joined_other others) follows.fits

pub issued-signed : AreIssuedSigned
issued-signed text spec issued holder issuer holder' issuer' dealt dealt' read is own others follows =
    planned-signed text spec issued follows.gained follows.gained_other follows.words read is
    (gained holder holder' follows.gained follows.joined own) (gained issuer issuer' follows.gained_other follows.joined_other others) follows.fits
