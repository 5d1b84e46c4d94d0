-- What an accepted document rests on.
use Rattle.std.proofs.Common.{◌≡◌, ◌⊎◌, inl, inr, ℕ, ℤ, List, [], ◌∷◌, ◌++◌, Bool, true, false, if◌then◌else◌, Option, Some, None, Result, Ok, Err, refl, sym, ◌∙◌, ap, subst, append-nil}
use Rattle.std.specs.Result.{result_ok}
use Rattle.std.specs.Str.{bytes_eq}
use Rattle.cbor_view.specs.Parts.{Part}
use Rattle.cert_view.specs.Certificate.{Fields, certificate}
use Rattle.cert_view.specs.Root.{listed}
use Rattle.cert_view.specs.declared.cert_fault.CertFault.{CertFault}
use Rattle.cert_view.specs.declared.root.Root.{Root}
use Rattle.cose_msgs.specs.Message.{Signed, Authenticated}
use Rattle.cose_msgs.specs.Structures.{signed_structure}
use Rattle.key_device.specs.Questions.{by_verify, verified}
use Rattle.root_trust.specs.Confirming.{confirmed_by, confirming_root, root_confirms}
use Rattle.doc_response.specs.Response.{Document}
use Rattle.key_device.specs.Plan.{Plan, Done, Then, Other, Draw, bind, Walks}
use Rattle.key_device.specs.PlanSteps.{unless_fault, ◌>>=◌, first_yes, unless_yes}
use Rattle.key_device.specs.declared.ask.Ask.{Ask}
use Rattle.key_device.specs.declared.device_fault.DeviceFault.{DeviceFault}
use Rattle.key_device.specs.declared.exchange.Exchange.{Exchange}
use Rattle.key_device.specs.declared.point.Point.{Point}
use Rattle.key_device.specs.declared.told.Told.{Told}
use Rattle.key_device.specs.declared.told.Told.TheVariants as tells
use Rattle.key_device.specs.declared.device_fault.DeviceFault.TheVariants.{Failed}
use Rattle.mso_digests.specs.Object.{Object, object}
use Rattle.mso_digests.specs.declared.mso_fault.MsoFault.{MsoFault}
use Rattle.verdict_model.specs.Documents.{JudgeContext, and_shown, document_checks}
use Rattle.verdict_model.specs.Elements.{is_type_requested}
use Rattle.verdict_model.specs.IssuerStatement.{IssuerStatement, Signer, device_key, issued, issuer_auth, object_of, signer_certificate, signer_of, timely, trusted_signer, with_key}
use Rattle.root_trust.specs.Names.{has_named_root}
use Rattle.verdict_model.specs.Shown.{DeviceProof, BySignature, ByMac, SessionBinding, by_agreement, code_of, device_proof, payload_of, shown, shown_by}
use Rattle.verdict_model.specs.Soundness.{AreAcceptedSound, Confirms, Holds, IsSound, ShowsByMac, ShowsBySignature, Trusts}
use Rattle.verdict_model.specs.Steps.{Stop, Refused, Unanswered, asked_of_device, check_that, needed, or_unanswered}
use Rattle.verdict_model.specs.declared.doc_check.DocCheck.{DocCheck}
use Rattle.verdict_model.specs.declared.doc_check.DocCheck.TheVariants as checks

-- ---- walks over one device, in parts

record Parted {A B : Type 0} (p : Plan A) (f : A → Plan B) (es : List Exchange) (b : B) : Type 0 where
  middle : A
  front : List Exchange
  back : List Exchange
  joined : es ≡ front ++ back
  before : Walks p front [] [] middle
  after : Walks (f middle) back [] [] b

parted : {A B : Type 0} (p : Plan A) (f : A → Plan B) (es : List Exchange) (b : B) → Walks (bind p f) es [] [] b → Parted p f es b
parted (Done a) f es b walk = record { middle = a; front = []; back = es; joined = refl; before = refl; after = walk }
parted (Then ask next) f [] b walk = absurd walk
parted (Then ask next) f (e ∷ es) b walk =
    let rest = parted (next e.told) f es b walk.1 in
    record { middle = rest.middle; front = e ∷ rest.front; back = rest.back; joined = ap (λ (xs : List Exchange). e ∷ xs) rest.joined; before = (walk.0, rest.before); after = rest.after }
parted (Other ask next) f es b walk = absurd walk
parted (Draw next) f es b walk = absurd walk

-- an outcome without a question
abbrev value_of : {A E : Type 0} → A → Result A E → A
value_of other (Ok value) = value
value_of other (Err fault) = other

abbrev done : (A E : Type 0) → A → Plan (Result A E)
done A E a = Done (Ok a)

same_outcome : (A E : Type 0) (one other : A) (es : List Exchange) → Walks (done A E one) es [] [] (Ok other) → one ≡ other
same_outcome A E one other [] walk = sym (ap (value_of one) walk)
same_outcome A E one other (e ∷ es) walk = absurd walk

record Stepped {A B E : Type 0} (p : Plan (Result A E)) (f : A → Plan (Result B E)) (es : List Exchange) (b : B) : Type 0 where
  value : A
  front : List Exchange
  back : List Exchange
  joined : es ≡ front ++ back
  before : Walks p front [] [] (Ok value)
  after : Walks (f value) back [] [] (Ok b)

of_middle : {A B E : Type 0} (p : Plan (Result A E)) (f : A → Plan (Result B E)) (es front back : List Exchange) (b : B) (middle : Result A E)
    → es ≡ front ++ back → Walks p front [] [] middle → Walks (unless_fault f middle) back [] [] (Ok b) → Stepped p f es b
of_middle p f es front back b (Ok a) joined before after = record { value = a; front = front; back = back; joined = joined; before = before; after = after }
of_middle p f es front [] b (Err stop) joined before after = cc
of_middle p f es front (e ∷ back) b (Err stop) joined before after = absurd after

stepped : {A B E : Type 0} (p : Plan (Result A E)) (f : A → Plan (Result B E)) (es : List Exchange) (b : B)
    → Walks (p >>= f) es [] [] (Ok b) → Stepped p f es b
stepped p f es b walk =
    let parts = parted p (unless_fault f) es (Ok b) walk in
    of_middle p f es parts.front parts.back b parts.middle parts.joined parts.before parts.after

-- ---- what a check that holds says

holds_then : (check : DocCheck) (test : Bool) (es : List Exchange) (u : Unit {0}) → Walks (check_that check test) es [] [] (Ok u) → test ≡ true
holds_then check true es u walk = refl
holds_then check false [] u walk = cc
holds_then check false (e ∷ es) u walk = absurd walk

is_there : {A : Type 0} (check : DocCheck) (found : Option A) (es : List Exchange) (a : A) → Walks (needed check found) es [] [] (Ok a) → found ≡ Some a
is_there {A} check (Some value) es a walk = ap Some (same_outcome A Stop value a es walk)
is_there check None [] a walk = cc
is_there check None (e ∷ es) a walk = absurd walk

-- a question to the device, whose answer isn't a fault
from_device : {A : Type 0} (plan : Plan (Result A DeviceFault)) (es : List Exchange) (a : A)
    → Walks (asked_of_device plan) es [] [] (Ok a) → Walks plan es [] [] (Ok a)
from_device {A} plan es a walk =
    let parts = parted plan (λ (outcome : Result A DeviceFault). Done (or_unanswered outcome)) es (Ok a) walk in
    of_outcome parts.front parts.back parts.middle parts.joined parts.before parts.after
  where
    of_outcome : (front back : List Exchange) (outcome : Result A DeviceFault) → es ≡ front ++ back → Walks plan front [] [] outcome
        → Walks (Done (or_unanswered outcome)) back [] [] (Ok a) → Walks plan es [] [] (Ok a)
    of_outcome front [] (Ok value) joined before after =
        subst (λ (xs : List Exchange). Walks plan xs [] [] (Ok a)) (sym (joined ∙ append-nil front))
        (subst (λ (x : A). Walks plan front [] [] (Ok x)) (same_outcome A Stop value a [] after) before)
    of_outcome front (e ∷ back) outcome joined before after = absurd after
    of_outcome front [] (Err fault) joined before after = cc

-- ---- what a talk holds

in_front : (ask : Ask) (told : Told) (front back : List Exchange) → Holds front ask told → Holds (front ++ back) ask told
in_front ask told [] back some = absurd some
in_front ask told (e ∷ front) back (inl is) = inl is
in_front ask told (e ∷ front) back (inr some) = inr (in_front ask told front back some)

in_back : (ask : Ask) (told : Told) (front back : List Exchange) → Holds back ask told → Holds (front ++ back) ask told
in_back ask told [] back some = some
in_back ask told (e ∷ front) back some = inr (in_back ask told front back some)

from_front : (ask : Ask) (told : Told) (es front back : List Exchange) → es ≡ front ++ back → Holds front ask told → Holds es ask told
from_front ask told es front back joined some = subst (λ (xs : List Exchange). Holds xs ask told) (sym joined) (in_front ask told front back some)

from_back : (ask : Ask) (told : Told) (es front back : List Exchange) → es ≡ front ++ back → Holds back ask told → Holds es ask told
from_back ask told es front back joined some = subst (λ (xs : List Exchange). Holds xs ask told) (sym joined) (in_back ask told front back some)

-- a signature that is confirmed
yes_of : (told : Told) → by_verify Failed told ≡ Ok true → told ≡ tells.Yes
yes_of (tells.Made made) is = cc
yes_of (tells.Secret secret) is = cc
yes_of tells.Refused is = cc
yes_of (tells.Signature pair) is = cc
yes_of tells.Yes is = refl
yes_of tells.No is = cc
yes_of tells.Failed is = cc

confirmed : (key : Point) (message signature : List ℕ) (es : List Exchange) → Walks (verified Failed key message signature) es [] [] (Ok true)
    → Confirms es key message signature
confirmed key message signature [] walk = absurd walk
confirmed key message signature (e ∷ []) walk = inl (walk.0, yes_of e.told (sym walk.1))
confirmed key message signature (e ∷ (next ∷ es)) walk = absurd walk.1

-- ---- the root that confirms a certificate

no_outcome : (es : List Exchange) → Walks (done Bool DeviceFault false) es [] [] (Ok true) → ⊥
no_outcome [] walk = cc
no_outcome (e ∷ es) walk = walk

none_found : (es : List Exchange) (root : Root) → Walks (done (Option Root) DeviceFault None) es [] [] (Ok (Some root)) → ⊥
none_found [] root walk = cc
none_found (e ∷ es) root walk = walk

-- the same talk, longer
trusts_front : (es front back : List Exchange) (roots : List Root) (cert : Fields) → es ≡ front ++ back → Trusts front roots cert → Trusts es roots cert
trusts_front es front back roots cert joined t =
    record { root = t.root; trusted = t.trusted; fields = t.fields; reads = t.reads; named = t.named; confirmed = from_front _ _ es front back joined t.confirmed }

trusts_back : (es front back : List Exchange) (roots : List Root) (cert : Fields) → es ≡ front ++ back → Trusts back roots cert → Trusts es roots cert
trusts_back es front back roots cert joined t =
    record { root = t.root; trusted = t.trusted; fields = t.fields; reads = t.reads; named = t.named; confirmed = from_back _ _ es front back joined t.confirmed }

-- a root that says yes
says_yes : (cert : Fields) (root : Root) (roots : List Root) (read : Result Fields CertFault) (es : List Exchange) → certificate (listed root).bytes ≡ read
    → Walks (confirmed_by cert read) es [] [] (Ok true) → Trusts es (root ∷ roots) cert
says_yes cert root roots (Ok fields) es is walk = by_name (bytes_eq fields.tbs.subject cert.tbs.issuer) refl walk
  where
    by_name : (named : Bool) → bytes_eq fields.tbs.subject cert.tbs.issuer ≡ named
        → Walks (if named then verified Failed fields.tbs.key cert.message cert.signature else Done (Ok false)) es [] [] (Ok true) → Trusts es (root ∷ roots) cert
    by_name true named said =
        record { root = root; trusted = inl refl; fields = fields; reads = is; named = named; confirmed = confirmed fields.tbs.key cert.message cert.signature es said }
    by_name false named said = absurd (no_outcome es said)
says_yes cert root roots (Err fault) es is walk = absurd (no_outcome es walk)

found_root : (cert : Fields) (roots : List Root) (es : List Exchange) (root : Root)
    → Walks (first_yes (root_confirms cert) roots) es [] [] (Ok (Some root)) → Trusts es roots cert
found_root cert [] es root walk = absurd (none_found es root walk)
found_root cert (first ∷ roots) es root walk =
    let step = stepped (root_confirms cert first) (unless_yes first (first_yes (root_confirms cert) roots)) es (Some root) walk in
    by_answer step.front step.back step.value step.joined step.before step.after (found_root cert roots step.back root)
  where
    more : (t : Trusts es roots cert) → Trusts es (first ∷ roots) cert
    more t = record { root = t.root; trusted = inr t.trusted; fields = t.fields; reads = t.reads; named = t.named; confirmed = t.confirmed }

    by_answer : (front back : List Exchange) (yes : Bool) → es ≡ front ++ back → Walks (root_confirms cert first) front [] [] (Ok yes)
        → Walks (unless_yes first (first_yes (root_confirms cert) roots) yes) back [] [] (Ok (Some root))
        → (Walks (first_yes (root_confirms cert) roots) back [] [] (Ok (Some root)) → Trusts back roots cert)
        → Trusts es (first ∷ roots) cert
    by_answer front back true joined before after later =
        trusts_front es front back (first ∷ roots) cert joined (says_yes cert first roots (certificate (listed first).bytes) front refl before)
    by_answer front back false joined before after later =
        more (trusts_back es front back roots cert joined (later after))

-- ---- the signer

trusts_of : (roots : List Root) (moment : ℤ) (cert : Fields) (es : List Exchange) (u : Unit {0})
    → Walks (trusted_signer roots moment cert) es [] [] (Ok u) → Trusts es roots cert
unfolding confirming_root
trusts_of roots moment cert es u walk =
    let named = stepped (check_that checks.CertUntrusted (has_named_root cert roots)) _ es u walk in
    let root = stepped (asked_of_device (confirming_root cert roots)) _ named.back u named.after in
    let some = stepped (needed checks.CertSignature root.value) _ root.back u root.after in
    let found = subst (λ (outcome : Option Root). Walks (confirming_root cert roots) root.front [] [] (Ok outcome))
    (is_there checks.CertSignature root.value some.front some.value some.before)
    (from_device (confirming_root cert roots) root.front root.value root.before) in
    trusts_back es named.front named.back roots cert named.joined
    (trusts_front named.back root.front root.back roots cert root.joined (found_root cert roots root.front some.value found))

record IsSigner (roots : List Root) (item : Part) (es : List Exchange) (signer : Signer) : Type 0 where
  auth : issuer_auth item ≡ Some signer.auth
  cert : signer_certificate signer.auth ≡ Some signer.cert
  trusts : Trusts es roots signer.cert

is_signer : (roots : List Root) (moment : ℤ) (item : Part) (es : List Exchange) (signer : Signer)
    → Walks (signer_of roots moment item) es [] [] (Ok signer) → IsSigner roots item es signer
is_signer roots moment item es signer walk =
    let auth = stepped (needed checks.IssuerAuthForm (issuer_auth item)) _ es signer walk in
    let cert = stepped (needed checks.CertForm (signer_certificate auth.value)) _ auth.back signer auth.after in
    let trusted = stepped (trusted_signer roots moment cert.value) _ cert.back signer cert.after in
    subst (IsSigner roots item es) (same_outcome Signer Stop (record { auth = auth.value; cert = cert.value }) signer trusted.back trusted.after)
    (record {
      auth = is_there checks.IssuerAuthForm (issuer_auth item) auth.front auth.value auth.before;
      cert = is_there checks.CertForm (signer_certificate auth.value) cert.front cert.value cert.before;
      trusts = trusts_back es auth.front auth.back roots cert.value auth.joined
          (trusts_back auth.back cert.front cert.back roots cert.value cert.joined
          (trusts_front cert.back trusted.front trusted.back roots cert.value trusted.joined
          (trusts_of roots moment cert.value trusted.front trusted.value trusted.before)));
    })

-- ---- the object

abbrev issuer_message : Signer → List ℕ
issuer_message signer = signed_structure signer.auth.signed.protected signer.auth.payload

record IsObject (signer : Signer) (es : List Exchange) (o : Object) : Type 0 where
  signed : Confirms es signer.cert.tbs.key (issuer_message signer) signer.auth.signed.signature
  payload : object signer.auth.payload ≡ Ok o

object_is : (read : Result Object MsoFault) (o : Object) → result_ok read ≡ Some o → read ≡ Ok o
object_is (Ok own) o is = ap (λ (found : Option Object). or_else found) is
  where
    or_else : Option Object → Result Object MsoFault
    or_else (Some found) = Ok found
    or_else None = Ok own
object_is (Err fault) o is = cc

is_object : (moment : ℤ) (doc_type : List ℕ) (signer : Signer) (es : List Exchange) (o : Object)
    → Walks (object_of moment doc_type signer) es [] [] (Ok o) → IsObject signer es o
is_object moment doc_type signer es o walk =
    let asked = verified Failed signer.cert.tbs.key (issuer_message signer) signer.auth.signed.signature in
    let yes = stepped (asked_of_device asked) _ es o walk in
    let true_of = stepped (check_that checks.IssuerSignature yes.value) _ yes.back o yes.after in
    let read = stepped (needed checks.MsoForm (result_ok (object signer.auth.payload))) _ true_of.back o true_of.after in
    let typed = stepped (check_that checks.DocTypeDiffers (bytes_eq read.value.doc_type doc_type)) _ read.back o read.after in
    let in_time = stepped (timely signer.cert moment read.value) _ typed.back o typed.after in
    subst (IsObject signer es) (same_outcome Object Stop read.value o in_time.back in_time.after)
    (record {
      signed = from_front _ _ es yes.front yes.back yes.joined
          (confirmed signer.cert.tbs.key (issuer_message signer) signer.auth.signed.signature yes.front
          (subst (λ (answer : Bool). Walks asked yes.front [] [] (Ok answer))
          (holds_then checks.IssuerSignature yes.value true_of.front true_of.value true_of.before)
          (from_device asked yes.front yes.value yes.before)));
      payload = object_is (object signer.auth.payload) read.value (is_there checks.MsoForm (result_ok (object signer.auth.payload)) read.front read.value read.before);
    })

-- ---- what the issuer says

record IsIssued (roots : List Root) (item : Part) (es : List Exchange) (said : IssuerStatement) : Type 0 where
  signer : Signer
  auth : issuer_auth item ≡ Some signer.auth
  cert : signer_certificate signer.auth ≡ Some signer.cert
  trusts : Trusts es roots signer.cert
  signed : Confirms es signer.cert.tbs.key (issuer_message signer) signer.auth.signed.signature
  payload : object signer.auth.payload ≡ Ok said.object
  key : device_key said.object ≡ Some said.key

is_issued : (roots : List Root) (moment : ℤ) (doc_type : List ℕ) (item : Part) (es : List Exchange) (said : IssuerStatement)
    → Walks (issued roots moment doc_type item) es [] [] (Ok said) → IsIssued roots item es said
unfolding issued
is_issued roots moment doc_type item es said walk =
    let whole = stepped (signer_of roots moment item >>= object_of moment doc_type) with_key es said walk in
    let signer = stepped (signer_of roots moment item) (object_of moment doc_type) whole.front whole.value whole.before in
    let key = stepped (needed checks.DeviceKeyForm (device_key whole.value)) _ whole.back said whole.after in
    let by = is_signer roots moment item signer.front signer.value signer.before in
    let of_object = is_object moment doc_type signer.value signer.back whole.value signer.after in
    subst (IsIssued roots item es) (same_outcome IssuerStatement Stop (record { object = whole.value; key = key.value }) said key.back key.after)
    (record {
      signer = signer.value;
      auth = by.auth;
      cert = by.cert;
      trusts = trusts_front es whole.front whole.back roots signer.value.cert whole.joined
          (trusts_front whole.front signer.front signer.back roots signer.value.cert signer.joined by.trusts);
      signed = from_front _ _ es whole.front whole.back whole.joined (from_back _ _ whole.front signer.front signer.back signer.joined of_object.signed);
      payload = of_object.payload;
      key = is_there checks.DeviceKeyForm (device_key whole.value) key.front key.value key.before;
    })

-- ---- the device

-- what was told of the device key and the reader's own
record Agreed (session : SessionBinding) (payload : List ℕ) (code : Authenticated) (told : Told) : Type 0 where
  secret : List ℕ
  was : told ≡ tells.Secret secret
  same : bytes_eq code.tag (code_of session payload code.protected secret) ≡ true

abbrev stopped : Stop → Plan (Result (Unit {0}) Stop)
stopped stop = Done (Err stop)

stopped_never : (stop : Stop) (es : List Exchange) (u : Unit {0}) → Walks (stopped stop) es [] [] (Ok u) → ⊥
stopped_never stop [] u walk = cc
stopped_never stop (e ∷ es) u walk = walk

agreed : (session : SessionBinding) (payload : List ℕ) (code : Authenticated) (told : Told) (es : List Exchange) (u : Unit {0})
    → Walks (by_agreement session payload code told) es [] [] (Ok u) → Agreed session payload code told
agreed session payload code (tells.Secret secret) es u walk =
    record {
      secret = secret;
      was = refl;
      same = holds_then (checks.DeviceMac code.tag (code_of session payload code.protected secret)) (bytes_eq code.tag (code_of session payload code.protected secret)) es u walk;
    }
agreed session payload code tells.Refused es u walk = absurd (stopped_never (Refused checks.DeviceKeyRefused) es u walk)
agreed session payload code (tells.Made made) es u walk = absurd (stopped_never Unanswered es u walk)
agreed session payload code (tells.Signature pair) es u walk = absurd (stopped_never Unanswered es u walk)
agreed session payload code tells.Yes es u walk = absurd (stopped_never Unanswered es u walk)
agreed session payload code tells.No es u walk = absurd (stopped_never Unanswered es u walk)
agreed session payload code tells.Failed es u walk = absurd (stopped_never Unanswered es u walk)

by_signature : (s : JudgeContext) (d : Document) (key : Point) (signed : Signed) (es : List Exchange) (u : Unit {0})
    → device_proof d.device_auth ≡ Some (BySignature signed)
    → Walks (shown_by s.session key (payload_of s.session d) (BySignature signed)) es [] [] (Ok u) → ShowsBySignature es s d key
by_signature s d key signed es u is walk =
    let asked = verified Failed key (signed_structure signed.protected (payload_of s.session d)) signed.signature in
    let yes = stepped (asked_of_device asked) _ es u walk in
    record {
      signed = signed;
      proof = is;
      confirmed = from_front _ _ es yes.front yes.back yes.joined
          (confirmed key (signed_structure signed.protected (payload_of s.session d)) signed.signature yes.front
          (subst (λ (answer : Bool). Walks asked yes.front [] [] (Ok answer))
          (holds_then checks.DeviceSignature yes.value yes.back u yes.after)
          (from_device asked yes.front yes.value yes.before)));
    }

by_mac : (s : JudgeContext) (d : Document) (key : Point) (code : Authenticated) (es : List Exchange) (u : Unit {0})
    → device_proof d.device_auth ≡ Some (ByMac code)
    → Walks (shown_by s.session key (payload_of s.session d) (ByMac code)) es [] [] (Ok u) → ShowsByMac es s d key
by_mac s d key code [] u is walk = absurd walk
by_mac s d key code (e ∷ es) u is walk =
    let agreement = agreed s.session (payload_of s.session d) code e.told es u walk.1 in
    record { code = code; proof = is; secret = agreement.secret; agreed = inl (walk.0, agreement.was); same = agreement.same }

shown_as : (s : JudgeContext) (d : Document) (key : Point) (proof : DeviceProof) (es : List Exchange) (u : Unit {0})
    → device_proof d.device_auth ≡ Some proof → Walks (shown_by s.session key (payload_of s.session d) proof) es [] [] (Ok u)
    → ShowsBySignature es s d key ⊎ ShowsByMac es s d key
shown_as s d key (BySignature signed) es u is walk = inl (by_signature s d key signed es u is walk)
shown_as s d key (ByMac code) es u is walk = inr (by_mac s d key code es u is walk)

-- the same talk, longer
shown_longer : (s : JudgeContext) (d : Document) (key : Point) (es front back : List Exchange) → es ≡ front ++ back
    → ShowsBySignature back s d key ⊎ ShowsByMac back s d key → ShowsBySignature es s d key ⊎ ShowsByMac es s d key
shown_longer s d key es front back joined (inl by) =
    inl (record { signed = by.signed; proof = by.proof; confirmed = from_back _ _ es front back joined by.confirmed })
shown_longer s d key es front back joined (inr by) =
    inr (record { code = by.code; proof = by.proof; secret = by.secret; agreed = from_back _ _ es front back joined by.agreed; same = by.same })

shown_before : (s : JudgeContext) (d : Document) (key : Point) (es front back : List Exchange) → es ≡ front ++ back
    → ShowsBySignature front s d key ⊎ ShowsByMac front s d key → ShowsBySignature es s d key ⊎ ShowsByMac es s d key
shown_before s d key es front back joined (inl by) =
    inl (record { signed = by.signed; proof = by.proof; confirmed = from_front _ _ es front back joined by.confirmed })
shown_before s d key es front back joined (inr by) =
    inr (record { code = by.code; proof = by.proof; secret = by.secret; agreed = from_front _ _ es front back joined by.agreed; same = by.same })

is_shown : (s : JudgeContext) (d : Document) (key : Point) (es : List Exchange) (u : Unit {0})
    → Walks (shown s.session key d) es [] [] (Ok u) → ShowsBySignature es s d key ⊎ ShowsByMac es s d key
unfolding shown
is_shown s d key es u walk =
    let proof = stepped (needed checks.DeviceAuthForm (device_proof d.device_auth)) _ es u walk in
    shown_longer s d key es proof.front proof.back proof.joined
    (shown_as s d key proof.value proof.back u (is_there checks.DeviceAuthForm (device_proof d.device_auth) proof.front proof.value proof.before) proof.after)

-- ---- the document

pub are_accepted_sound : AreAcceptedSound
unfolding document_checks
are_accepted_sound s d talk said walk =
    let wanted = stepped (check_that checks.DocNotRequested (is_type_requested s.request d.doc_type)) _ talk said walk in
    let own = stepped (issued s.roots s.moment d.doc_type d.issuer_auth) (and_shown s d) wanted.back said wanted.after in
    let device = stepped (shown s.session own.value.key d) _ own.back said own.after in
    let by = is_issued s.roots s.moment d.doc_type d.issuer_auth own.front own.value own.before in
    subst (IsSound s d talk) (same_outcome IssuerStatement Stop own.value said device.back device.after)
    (record {
      requested = holds_then checks.DocNotRequested (is_type_requested s.request d.doc_type) wanted.front wanted.value wanted.before;
      signer = by.signer;
      auth = by.auth;
      cert = by.cert;
      trusts = trusts_back talk wanted.front wanted.back s.roots by.signer.cert wanted.joined
          (trusts_front wanted.back own.front own.back s.roots by.signer.cert own.joined by.trusts);
      signed = from_back _ _ talk wanted.front wanted.back wanted.joined (from_front _ _ wanted.back own.front own.back own.joined by.signed);
      payload = by.payload;
      key = by.key;
      shown = shown_longer s d own.value.key talk wanted.front wanted.back wanted.joined
          (shown_longer s d own.value.key wanted.back own.front own.back own.joined
          (shown_before s d own.value.key own.back device.front device.back device.joined
          (is_shown s d own.value.key device.front device.value device.before)));
    })
