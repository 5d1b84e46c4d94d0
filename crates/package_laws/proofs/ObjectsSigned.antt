-- The issuer's signature of a copy has the object that was made from the items of the copy.
use Rattle.std.proofs.Common.{◌≡◌, ◌<◌, ◌^◌, ℕ, List, [], length, Some, Ok, arith}
use Rattle.cose_msgs.proofs.WrittenMessages.{sign1-read}
use Rattle.cose_msgs.specs.Message.{sign1}
use Rattle.cose_msgs.specs.Written.{IsReadAs, es256, sign1_bytes}
use Rattle.issuing.proofs.ElementLemmas.{name_short}
use Rattle.issuing.proofs.ItemLemmas.{once_after}
use Rattle.issuing.proofs.ObjectLemmas.{update_is}
use Rattle.issuing.specs.IssuedItems.{entries_of, items_of, object_draft, payload, raw_items}
use Rattle.issue_spec.proofs.SpecForms.{name_is_text}
use Rattle.issue_spec.specs.SpecFacts.{IsSpec}
use Rattle.issue_spec.specs.declared.spec_fields.SpecFields.{SpecFields}
use Rattle.key_device.specs.HasLine.{IsPoint}
use Rattle.key_device.specs.declared.point.Point.{Point}
use Rattle.mso_digests.proofs.MadeFromItems.{covers-items, lists-items}
use Rattle.mso_digests.proofs.WrittenObject.{object-written}
use Rattle.mso_digests.specs.MadeFrom.{MadeFrom}
use Rattle.mso_digests.specs.Object.{object}
use Rattle.mso_digests.specs.Written.{drafted}
use Rattle.package_laws.proofs.ItemsOfSpec.{AreItemsOf, entries-length, entries-spelled, raw_items-digests}
use Rattle.package_laws.proofs.WrittenLengths.{object-shorter}

pub object-read : (spec : SpecFields) (key : Point) (salts : List (List ℕ)) → IsSpec spec → AreItemsOf spec.elements (items_of spec.elements salts) → IsPoint key → length (payload spec key salts) < 2 ^ 32
    → object (payload spec key salts) ≡ Ok (drafted (object_draft spec key salts))
object-read spec key salts is all point short =
    let draft = object_draft spec key salts in
    let items = items_of spec.elements salts in
    let x = point.x in
    let y = point.y in
    let most = is.elements.few in
    let own = name_short spec.doc_type is.doc_type in
    object-written draft (record {
      digests = record { fit = entries-spelled spec.elements items all; once = once_after [] spec.elements salts; few = omega (arith, most, entries-length spec.elements items all) };
      key = record { x = x.count; y = y.count };
      years = record { signed = is.signed; from = is.from; until = is.until; update = update_is spec.update is.update };
      doc_short = omega (arith, own);
      doc_text = name_is_text spec.doc_type is.doc_type;
      short = omega (arith, short, object-shorter draft);
    })

pub object-made : (spec : SpecFields) (key : Point) (salts : List (List ℕ)) → AreItemsOf spec.elements (items_of spec.elements salts) → MadeFrom (drafted (object_draft spec key salts)) (raw_items (items_of spec.elements salts))
object-made spec key salts all =
    let items = items_of spec.elements salts in
    let are = raw_items-digests spec.elements items all in
    record { lists = lists-items (entries_of items) (raw_items items) are; covers = covers-items (entries_of items) (raw_items items) are }

pub signature-read : (chain own signature : List ℕ) → length chain < 2 ^ 32 → length own < 2 ^ 32 → length signature ≡ 64
    → IsReadAs sign1 (sign1_bytes (Some chain) (Some own) signature) (record { protected = es256; chain = Some chain; payload = Some own; signature = signature })
signature-read chain own signature chain_short own_short size =
    sign1-read (Some chain) (Some own) signature (record { chain_short = chain_short; payload_short = own_short; signature_length = size })
