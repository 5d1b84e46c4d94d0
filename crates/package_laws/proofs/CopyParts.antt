-- What a copy is that the plan of issuing comes to: made of a device key, of a salt for each element, and of a signature.
use Rattle.std.proofs.Common.{◌≡◌, ◌<◌, ◌^◌, ℕ, List, [], ◌∷◌, ◌++◌, length, Result, Ok, sym, ap, subst, ◌∙◌}
use Rattle.std.specs.List.{AllByRecursion}
use Rattle.issuing.specs.declared.signer.Signer.{Signer}
use Rattle.key_device.specs.Questions.{by_fresh, by_sign, fresh, signed}
use Rattle.issuing.specs.Questions.{salt, salt_of, salts}
use Rattle.issuing.specs.declared.issue_fault.IssueFault.{IssueFault}
use Rattle.issuing.specs.declared.issue_fault.IssueFault.TheVariants.{Device}
use Rattle.issuing.specs.Copies.{copies, copy, issued_copy, message, signed_copy, with_key, with_salts, with_signature}
use Rattle.issue_spec.specs.declared.spec_fields.SpecFields.{SpecFields}
use Rattle.key_device.specs.HasLine.{IsPoint, IsTold}
use Rattle.key_device.specs.Plan.{Walks}
use Rattle.key_device.specs.declared.exchange.Exchange.{Exchange}
use Rattle.key_device.specs.declared.made.Made.{Made}
use Rattle.key_device.specs.declared.told.Told.{Told}
use Rattle.key_device.specs.declared.told.Told.TheVariants as tells
use Rattle.store_write.specs.Written.{copy_bytes}
use Rattle.package_laws.proofs.PlanParts.{AllCame, AreLines, bound, done-walk, lines-after, lines-front, same-value, swapped, times-came}

-- ---- a question for a key, and one for a signature

abbrev made-key : Made → Result Made IssueFault
made-key made = Ok made

told-key : (told : Told) (made : Made) → IsTold told → made-key made ≡ by_fresh Device told → IsTold (tells.Made made)
told-key (tells.Made own) made is same = subst (λ (m : Made). IsTold (tells.Made m)) (sym (same-value made own same)) is
told-key (tells.Secret secret) made is same = absurd cc
told-key tells.Refused made is same = absurd cc
told-key (tells.Signature signature) made is same = absurd cc
told-key tells.Yes made is same = absurd cc
told-key tells.No made is same = absurd cc
told-key tells.Failed made is same = absurd cc

key-told : (es os : List Exchange) (ws : List ℕ) (made : Made) → AreLines es → Walks (fresh Device) es os ws (Ok made) → IsTold (tells.Made made)
key-told [] os ws made lines walk = absurd walk
key-told (e ∷ es) os ws made lines walk =
    let line = lines.0 in
    told-key e.told made line.told (done-walk (by_fresh Device e.told) (Ok made) es os ws walk.1)

abbrev own-signature : List ℕ → Result (List ℕ) IssueFault
own-signature signature = Ok signature

told-signature : (told : Told) (signature : List ℕ) → IsTold told → own-signature signature ≡ by_sign Device told → length signature ≡ 64
told-signature (tells.Made made) signature is same = absurd cc
told-signature (tells.Secret secret) signature is same = absurd cc
told-signature tells.Refused signature is same = absurd cc
told-signature (tells.Signature own) signature is same = ap (λ (s : List ℕ). length s) (same-value signature own same) ∙ is.count
told-signature tells.Yes signature is same = absurd cc
told-signature tells.No signature is same = absurd cc
told-signature tells.Failed signature is same = absurd cc

signature-told : (key : ℕ) (text : List ℕ) (es os : List Exchange) (ws : List ℕ) (signature : List ℕ) → AreLines es → Walks (signed Device key text) es os ws (Ok signature) → length signature ≡ 64
signature-told key text [] os ws signature lines walk = absurd walk
signature-told key text (e ∷ es) os ws signature lines walk =
    let line = lines.0 in
    told-signature e.told signature line.told (done-walk (by_sign Device e.told) (Ok signature) es os ws walk.1)

-- ---- salts

abbrev own-salt : List ℕ → Result (List ℕ) IssueFault
own-salt s = Ok s

salt-size : (es os : List Exchange) (ws : List ℕ) (s : List ℕ) → AreLines es → AreLines os → Walks salt es os ws (Ok s) → length s ≡ 32
unfolding salt
salt-size es os [] s own others walk = absurd walk
salt-size es os (a ∷ []) s own others walk = absurd walk
salt-size es os (a ∷ (b ∷ [])) s own others walk = absurd walk
salt-size es os (a ∷ (b ∷ (c ∷ []))) s own others walk = absurd walk
salt-size es os (a ∷ (b ∷ (c ∷ (d ∷ ws)))) s own others walk =
    ap (λ (x : List ℕ). length x) (same-value s (salt_of a b c d) (done-walk (own-salt (salt_of a b c d)) (Ok s) es os ws walk))

-- ---- a copy

pub record IsMade (fields : SpecFields) (signer : Signer) (bytes : List ℕ) : Type 0 where
  pub made : Made
  pub key : (made.key < 2 ^ 32) × IsPoint made.public
  pub salts : List (List ℕ)
  pub one_each : length salts ≡ length fields.elements
  pub sized : AllByRecursion (λ (s : List ℕ). length s ≡ 32) salts
  pub signature : List ℕ
  pub signature_size : length signature ≡ 64
  pub bytes_are : bytes ≡ copy_bytes (issued_copy fields signer made salts signature)

copy-made : (fields : SpecFields) (signer : Signer) (es os : List Exchange) (ws : List ℕ) (bytes : List ℕ)
    → AreLines es → AreLines os → Walks (copy fields signer) es os ws (Ok bytes) → IsMade fields signer bytes
unfolding copy salts
copy-made fields signer es os ws bytes own others walk =
    let one = bound (fresh Device) (with_key fields signer) es os ws bytes walk in
    let made = one.value in
    let own_lines = subst AreLines one.es_is own in
    let other_lines = subst AreLines one.os_is others in
    let two = bound (salts (length fields.elements)) (with_salts fields signer made) one.e' one.o' one.w' bytes one.second in
    let drawn = two.value in
    let own_after = subst AreLines two.es_is (lines-after one.e one.e' own_lines) in
    let other_after = subst AreLines two.os_is (lines-after one.o one.o' other_lines) in
    let sizes = times-came salt (λ (s : List ℕ). length s ≡ 32) salt-size (length fields.elements) two.e two.o two.w drawn (lines-front two.e two.e' own_after) (lines-front two.o two.o' other_after) two.first in
    let other_rest = lines-after two.o two.o' other_after in
    let mapped = swapped (signed_copy fields signer made drawn) two.e' two.o' two.w' (Ok bytes) two.second in
    let three = bound (signed Device signer.key (message fields made.public drawn)) (with_signature fields signer made drawn) two.o' two.e' two.w' bytes mapped in
    let signature = three.value in
    let three_lines : AreLines (three.e ++ three.e') = subst AreLines {y = three.e ++ three.e'} three.es_is other_rest in
    record {
      made = made;
      key = key-told one.e one.o one.w made (lines-front one.e one.e' own_lines) one.first;
      salts = drawn;
      one_each = sizes.number;
      sized = sizes.all;
      signature = signature;
      signature_size = signature-told signer.key (message fields made.public drawn) three.e three.o three.w signature (lines-front three.e three.e' three_lines) three.first;
      bytes_are = same-value bytes (copy_bytes (issued_copy fields signer made drawn signature)) (done-walk (Ok (copy_bytes (issued_copy fields signer made drawn signature))) (Ok bytes) three.e' three.o' three.w' three.second);
    }

pub copies-made : (fields : SpecFields) (signer : Signer) (es os : List Exchange) (ws : List ℕ) (written : List (List ℕ))
    → AreLines es → AreLines os → Walks (copies fields signer) es os ws (Ok written) → AllCame (IsMade fields signer) fields.copies written
unfolding copies
copies-made fields signer es os ws written own others walk =
    times-came (copy fields signer) (IsMade fields signer) (copy-made fields signer) fields.copies es os ws written own others walk
