-- A document is refused by the first check of the list that fails.
use Rattle.std.proofs.Common.{◌≡◌, List, [], ◌∷◌, Bool, Option, Some, None, Result, Ok, Err, refl, sym, ◌∙◌, ap, subst}
use Rattle.std.specs.Prelude.{int_le, is_some, option_map}
use Rattle.std.specs.Result.{result_ok}
use Rattle.std.specs.Str.{bytes_eq}
use Rattle.mdoc_outside.specs.OptionSteps.{◌>>=◌ as ◌>>?◌, unless}
use Rattle.cert_view.specs.Certificate.{Fields}
use Rattle.cert_view.specs.declared.root.Root.{Root}
use Rattle.cose_msgs.specs.Message.{Authenticated}
use Rattle.cose_msgs.specs.Structures.{signed_structure}
use Rattle.root_trust.specs.Validity.{are_valid, is_valid}
use Rattle.root_trust.specs.Confirming.{confirming_root}
use Rattle.key_device.specs.Questions.{verified}
use Rattle.doc_response.specs.Response.{Document}
use Rattle.key_device.specs.Plan.{Plan, Done, Then, Other, Draw, bind, Walks}
use Rattle.key_device.specs.PlanSteps.{◌>>=◌}
use Rattle.key_device.specs.declared.device_fault.DeviceFault.{DeviceFault}
use Rattle.key_device.specs.declared.exchange.Exchange.{Exchange}
use Rattle.key_device.specs.declared.told.Told.{Told}
use Rattle.key_device.specs.declared.told.Told.TheVariants as tells
use Rattle.key_device.specs.declared.device_fault.DeviceFault.TheVariants.{Failed}
use Rattle.mso_digests.specs.Object.{Object, object}
use Rattle.verdict_model.specs.Documents.{JudgeContext, and_shown, doc_verdict, document_checks, judged_document}
use Rattle.verdict_model.specs.Elements.{is_type_requested}
use Rattle.verdict_model.specs.IssuerStatement.{IssuerStatement, IssuerAuth, Signer, device_key, issued, issuer_auth, object_of, signer_certificate, signer_of, timely, trusted_signer, with_key}
use Rattle.root_trust.specs.Names.{has_named_root}
use Rattle.verdict_model.specs.Shown.{DeviceProof, BySignature, ByMac, by_agreement, code_of, device_proof, payload_of, shown, shown_by}
use Rattle.verdict_model.specs.Steps.{Stop, Refused, Unanswered, asked_of_device, check_that, needed}
use Rattle.verdict_model.specs.declared.doc_check.DocCheck.{DocCheck}
use Rattle.verdict_model.specs.declared.doc_check.DocCheck.TheVariants as checks
use Rattle.verdict_model.specs.declared.doc_verdict.DocVerdict.{DocVerdict}
use Rattle.verdict_laws.specs.Conditions.{AreAcceptedWhereAllHold, AreRefusedByFirstFailure, failures, unless_shown}
use Rattle.verdict_laws.specs.Found.{confirmed, first_told, is_yes, named_roots, next_told}
use Rattle.verdict_laws.proofs.Lists.{all_hold, first_failure, first_of, is_first, none_first}
use Rattle.verdict_laws.proofs.Roots.{searched}
use Rattle.verdict_laws.proofs.Walks.{Agrees, answered, checked, passed, refused, regrouped, there, unanswered}

-- ---- that the device shows the document

abbrev last : IssuerStatement → Unit {0} → Plan (Result IssuerStatement Stop)
last said u = Done (Ok said)

accepted : (said : IssuerStatement) (es : List Exchange) (outcome : Result IssuerStatement Stop) → Walks (last said tt) es [] [] outcome → Agrees [] outcome
accepted said [] outcome walk = subst (Agrees []) (sym walk) (record { says = refl })
accepted said (e ∷ es) outcome walk = absurd walk

mac_stage : (s : JudgeContext) (d : Document) (said : IssuerStatement) (code : Authenticated) (told : Told) (es : List Exchange) (outcome : Result IssuerStatement Stop)
    → Walks (by_agreement s.session (payload_of s.session d) code told >>= last said) es [] [] outcome
    → Agrees (unless_shown s d (Some told) (ByMac code) ∷ []) outcome
mac_stage s d said code (tells.Made made) es outcome walk = unanswered _ es outcome walk
mac_stage s d said code (tells.Secret secret) es outcome walk =
    let made = code_of s.session (payload_of s.session d) code.protected secret in
    checked (checks.DeviceMac code.tag made) (bytes_eq code.tag made) (last said) es outcome [] walk (accepted said es outcome)
mac_stage s d said code tells.Refused es outcome walk = refused checks.DeviceKeyRefused _ es outcome refl walk
mac_stage s d said code (tells.Signature pair) es outcome walk = unanswered _ es outcome walk
mac_stage s d said code tells.Yes es outcome walk = unanswered _ es outcome walk
mac_stage s d said code tells.No es outcome walk = unanswered _ es outcome walk
mac_stage s d said code tells.Failed es outcome walk = unanswered _ es outcome walk

proof_stage : (s : JudgeContext) (d : Document) (said : IssuerStatement) (proof : DeviceProof) (es : List Exchange) (outcome : Result IssuerStatement Stop)
    → Walks (shown_by s.session said.key (payload_of s.session d) proof >>= last said) es [] [] outcome
    → Agrees (unless_shown s d (first_told es) proof ∷ []) outcome
proof_stage s d said (BySignature signed) [] outcome walk = absurd walk
proof_stage s d said (BySignature signed) (e ∷ es) outcome walk =
    answered (λ (confirms : Bool). check_that checks.DeviceSignature confirms >>= last said) e.told es outcome _
    (regrouped (asked_of_device (verified Failed said.key (signed_structure signed.protected (payload_of s.session d)) signed.signature))
    (λ (confirms : Bool). check_that checks.DeviceSignature confirms) (last said) (e ∷ es) outcome walk).1
    (λ next. checked checks.DeviceSignature (is_yes (Some e.told)) (last said) es outcome [] next (accepted said es outcome))
proof_stage s d said (ByMac code) [] outcome walk = absurd walk
proof_stage s d said (ByMac code) (e ∷ es) outcome walk = mac_stage s d said code e.told es outcome walk.1

abbrev proof_list : JudgeContext → Document → Option DeviceProof → Option Told → List (Option DocCheck)
proof_list s d proof told = unless (is_some proof) checks.DeviceAuthForm ∷ (proof >>? unless_shown s d told) ∷ []

form_stage : (s : JudgeContext) (d : Document) (said : IssuerStatement) (proof : Option DeviceProof) (es : List Exchange) (outcome : Result IssuerStatement Stop)
    → Walks ((needed checks.DeviceAuthForm proof >>= shown_by s.session said.key (payload_of s.session d)) >>= last said) es [] [] outcome
    → Agrees (proof_list s d proof (first_told es)) outcome
form_stage s d said (Some proof) es outcome walk = passed _ outcome (proof_stage s d said proof es outcome walk)
form_stage s d said None es outcome walk = refused checks.DeviceAuthForm _ es outcome refl walk

shown_stage : (s : JudgeContext) (d : Document) (said : IssuerStatement) (es : List Exchange) (outcome : Result IssuerStatement Stop)
    → Walks (and_shown s d said) es [] [] outcome → Agrees (proof_list s d (device_proof d.device_auth) (first_told es)) outcome
unfolding shown
shown_stage s d said es outcome walk = form_stage s d said (device_proof d.device_auth) es outcome walk

-- ---- the object

abbrev to_key : JudgeContext → Document → Object → Plan (Result IssuerStatement Stop)
to_key s d o = with_key o >>= and_shown s d

abbrev key_list : JudgeContext → Document → Object → Option Told → List (Option DocCheck)
key_list s d o told = unless (is_some (device_key o)) checks.DeviceKeyForm ∷ proof_list s d (device_proof d.device_auth) told

key_stage : (s : JudgeContext) (d : Document) (o : Object) (es : List Exchange) (outcome : Result IssuerStatement Stop)
    → Walks (to_key s d o) es [] [] outcome → Agrees (key_list s d o (first_told es)) outcome
key_stage s d o es outcome walk =
    there checks.DeviceKeyForm (device_key o) _ es outcome _ (regrouped (needed checks.DeviceKeyForm (device_key o)) _ (and_shown s d) es outcome walk)
    (λ key is next. shown_stage s d (record { object = o; key = key }) es outcome next)

abbrev in_time_list : JudgeContext → Document → Fields → Object → Option Told → List (Option DocCheck)
in_time_list s d cert o told =
    unless (is_valid o.signed cert) (checks.SignedTime o.signed cert.tbs.not_before)
    ∷ unless (int_le o.from s.moment) (checks.NotYetValid o.from s.moment)
    ∷ unless (int_le s.moment o.until) (checks.Expired o.until s.moment)
    ∷ key_list s d o told

abbrev then_key : JudgeContext → Document → Object → Unit {0} → Plan (Result IssuerStatement Stop)
then_key s d o u = to_key s d o

time_stage : (s : JudgeContext) (d : Document) (cert : Fields) (o : Object) (es : List Exchange) (outcome : Result IssuerStatement Stop)
    → Walks (timely cert s.moment o >>= then_key s d o) es [] [] outcome → Agrees (in_time_list s d cert o (first_told es)) outcome
time_stage s d cert o es outcome walk =
    let signed = check_that (checks.SignedTime o.signed cert.tbs.not_before) (is_valid o.signed cert) in
    let begun = check_that (checks.NotYetValid o.from s.moment) (int_le o.from s.moment) in
    let ended = check_that (checks.Expired o.until s.moment) (int_le s.moment o.until) in
    checked (checks.SignedTime o.signed cert.tbs.not_before) (is_valid o.signed cert) _ es outcome _
    (regrouped signed (λ (u : Unit {0}). begun >>= λ (v : Unit {0}). ended) (then_key s d o) es outcome walk)
    (λ next. checked (checks.NotYetValid o.from s.moment) (int_le o.from s.moment) _ es outcome _
    (regrouped begun (λ (v : Unit {0}). ended) (then_key s d o) es outcome next)
    (λ last_one. checked (checks.Expired o.until s.moment) (int_le s.moment o.until) (then_key s d o) es outcome _ last_one
    (key_stage s d o es outcome)))

-- what is looked at of an object after its signature
abbrev of_type : JudgeContext → Document → Fields → Object → Plan (Result Object Stop)
of_type s d cert o =
    check_that checks.DocTypeDiffers (bytes_eq o.doc_type d.doc_type) >>= λ typed.
    timely cert s.moment o >>= λ in_time.
    Done (Ok o)

type_stage : (s : JudgeContext) (d : Document) (cert : Fields) (o : Object) (es : List Exchange) (outcome : Result IssuerStatement Stop)
    → Walks (of_type s d cert o >>= to_key s d) es [] [] outcome
    → Agrees (unless (bytes_eq o.doc_type d.doc_type) checks.DocTypeDiffers ∷ in_time_list s d cert o (first_told es)) outcome
type_stage s d cert o es outcome walk =
    checked checks.DocTypeDiffers (bytes_eq o.doc_type d.doc_type) _ es outcome _
    (regrouped (check_that checks.DocTypeDiffers (bytes_eq o.doc_type d.doc_type)) (λ (u : Unit {0}). timely cert s.moment o >>= λ (v : Unit {0}). Done (Ok o)) (to_key s d) es outcome walk)
    (λ next. time_stage s d cert o es outcome (regrouped (timely cert s.moment o) (λ (v : Unit {0}). Done (Ok o)) (to_key s d) es outcome next))

abbrev mso_list : JudgeContext → Document → Option Fields → Option Object → Option Told → List (Option DocCheck)
mso_list s d cert found told =
    unless (is_some found) checks.MsoForm
    ∷ (found >>? λ o. unless (bytes_eq o.doc_type d.doc_type) checks.DocTypeDiffers)
    ∷ (found >>? λ o. cert >>? λ own. unless (is_valid o.signed own) (checks.SignedTime o.signed own.tbs.not_before))
    ∷ (found >>? λ o. unless (int_le o.from s.moment) (checks.NotYetValid o.from s.moment))
    ∷ (found >>? λ o. unless (int_le s.moment o.until) (checks.Expired o.until s.moment))
    ∷ unless (is_some (found >>? device_key)) checks.DeviceKeyForm
    ∷ proof_list s d (device_proof d.device_auth) told

mso_stage : (s : JudgeContext) (d : Document) (cert : Fields) (found : Option Object) (es : List Exchange) (outcome : Result IssuerStatement Stop)
    → Walks ((needed checks.MsoForm found >>= of_type s d cert) >>= to_key s d) es [] [] outcome
    → Agrees (mso_list s d (Some cert) found (first_told es)) outcome
mso_stage s d cert (Some o) es outcome walk = passed _ outcome (type_stage s d cert o es outcome walk)
mso_stage s d cert None es outcome walk = refused checks.MsoForm _ es outcome refl walk

abbrev to_object : JudgeContext → Document → Signer → Plan (Result IssuerStatement Stop)
to_object s d signer = object_of s.moment d.doc_type signer >>= to_key s d

abbrev signed_list : JudgeContext → Document → Option Fields → Option Object → Option Told → Option Told → List (Option DocCheck)
signed_list s d cert found of_object of_device = unless (is_yes of_object) checks.IssuerSignature ∷ mso_list s d cert found of_device

abbrev after_signature : JudgeContext → Document → Signer → Bool → Plan (Result Object Stop)
after_signature s d signer confirms = check_that checks.IssuerSignature confirms >>= λ held. needed checks.MsoForm (result_ok (object signer.auth.payload)) >>= of_type s d signer.cert

object_stage : (s : JudgeContext) (d : Document) (signer : Signer) (es : List Exchange) (outcome : Result IssuerStatement Stop)
    → Walks (to_object s d signer) es [] [] outcome
    → Agrees (signed_list s d (Some signer.cert) (result_ok (object signer.auth.payload)) (first_told es) (next_told es)) outcome
object_stage s d signer [] outcome walk = absurd walk
object_stage s d signer (e ∷ es) outcome walk =
    let asked = asked_of_device (verified Failed signer.cert.tbs.key (signed_structure signer.auth.signed.protected signer.auth.payload) signer.auth.signed.signature) in
    let next = regrouped asked (after_signature s d signer) (to_key s d) (e ∷ es) outcome walk in
    answered (λ (confirms : Bool). after_signature s d signer confirms >>= to_key s d) e.told es outcome _ next.1
    (λ said. checked checks.IssuerSignature (is_yes (Some e.told)) _ es outcome _
    (regrouped (check_that checks.IssuerSignature (is_yes (Some e.told))) (λ (u : Unit {0}). needed checks.MsoForm (result_ok (object signer.auth.payload)) >>= of_type s d signer.cert) (to_key s d) es outcome said)
    (mso_stage s d signer.cert (result_ok (object signer.auth.payload)) es outcome))

-- ---- the signer

abbrev root_in : Option (Root × List Exchange) → Option Root
root_in at = option_map (λ (found : Root × List Exchange). found.0) at

abbrev root_list : JudgeContext → Document → Option Fields → Option Object → Option (Root × List Exchange) → List (Option DocCheck)
root_list s d cert o at =
    unless (is_some (root_in at)) checks.CertSignature
    ∷ (cert >>? λ own. root_in at >>? λ root. unless (are_valid s.moment own root) checks.CertTime)
    ∷ (cert >>? λ own. unless own.tbs.signs_documents checks.KeyUse)
    ∷ signed_list s d cert o (at >>? λ found. first_told found.1) (at >>? λ found. next_told found.1)

abbrev then_object : JudgeContext → Document → Signer → Unit {0} → Plan (Result IssuerStatement Stop)
then_object s d signer u = to_object s d signer

abbrev under_root : JudgeContext → Fields → Root → Plan (Result (Unit {0}) Stop)
under_root s cert root = check_that checks.CertTime (are_valid s.moment cert root) >>= λ in_time. check_that checks.KeyUse cert.tbs.signs_documents

root_stage : (s : JudgeContext) (d : Document) (signer : Signer) (root : Root) (es : List Exchange) (outcome : Result IssuerStatement Stop)
    → Walks (under_root s signer.cert root >>= then_object s d signer) es [] [] outcome
    → Agrees (root_list s d (Some signer.cert) (result_ok (object signer.auth.payload)) (Some (root, es))) outcome
root_stage s d signer root es outcome walk =
    passed _ outcome
    (checked checks.CertTime (are_valid s.moment signer.cert root) _ es outcome _
    (regrouped (check_that checks.CertTime (are_valid s.moment signer.cert root)) (λ (u : Unit {0}). check_that checks.KeyUse signer.cert.tbs.signs_documents) (then_object s d signer) es outcome walk)
    (λ next. checked checks.KeyUse signer.cert.tbs.signs_documents (then_object s d signer) es outcome _ next (object_stage s d signer es outcome)))

abbrev found_root : JudgeContext → Fields → Option Root → Plan (Result (Unit {0}) Stop)
found_root s cert found = needed checks.CertSignature found >>= under_root s cert

trusted_stage : (s : JudgeContext) (d : Document) (signer : Signer) (talk : List Exchange) (outcome : Result IssuerStatement Stop)
    → Walks (trusted_signer s.roots s.moment signer.cert >>= then_object s d signer) talk [] [] outcome
    → Agrees (unless (has_named_root signer.cert s.roots) checks.CertUntrusted
    ∷ root_list s d (Some signer.cert) (result_ok (object signer.auth.payload)) (confirmed (named_roots s.roots signer.cert) talk)) outcome
unfolding confirming_root
trusted_stage s d signer talk outcome walk =
    let asked = asked_of_device (confirming_root signer.cert s.roots) in
    let o = result_ok (object signer.auth.payload) in
    let at = confirmed (named_roots s.roots signer.cert) talk in
    checked checks.CertUntrusted (has_named_root signer.cert s.roots) _ talk outcome _
    (regrouped (check_that checks.CertUntrusted (has_named_root signer.cert s.roots)) (λ (u : Unit {0}). asked >>= found_root s signer.cert) (then_object s d signer) talk outcome walk)
    (λ next. searched s.roots signer.cert (λ (found : Option Root). found_root s signer.cert found >>= then_object s d signer) talk outcome (root_list s d (Some signer.cert) o at)
    (regrouped asked (found_root s signer.cert) (then_object s d signer) talk outcome next) (
      (λ root rest is said. subst (λ own. Agrees (root_list s d (Some signer.cert) o own) outcome) (sym is) (root_stage s d signer root rest outcome said)),
      (λ rest is said. subst (λ own. Agrees (root_list s d (Some signer.cert) o own) outcome) (sym is) (refused checks.CertSignature _ rest outcome refl said)),
    ))

abbrev cert_list : JudgeContext → Document → List Exchange → Option Object → Option Fields → List (Option DocCheck)
cert_list s d talk o cert =
    unless (is_some cert) checks.CertForm
    ∷ (cert >>? λ own. unless (has_named_root own s.roots) checks.CertUntrusted)
    ∷ root_list s d cert o (cert >>? λ own. confirmed (named_roots s.roots own) talk)

abbrev signer_with : JudgeContext → IssuerAuth → Fields → Plan (Result Signer Stop)
signer_with s auth cert = trusted_signer s.roots s.moment cert >>= λ trusted. Done (Ok (record { auth = auth; cert = cert }))

cert_stage : (s : JudgeContext) (d : Document) (auth : IssuerAuth) (cert : Option Fields) (talk : List Exchange) (outcome : Result IssuerStatement Stop)
    → Walks ((needed checks.CertForm cert >>= signer_with s auth) >>= to_object s d) talk [] [] outcome
    → Agrees (cert_list s d talk (result_ok (object auth.payload)) cert) outcome
cert_stage s d auth (Some cert) talk outcome walk =
    passed _ outcome (trusted_stage s d (record { auth = auth; cert = cert }) talk outcome
    (regrouped (trusted_signer s.roots s.moment cert) (λ (u : Unit {0}). Done (Ok (record { auth = auth; cert = cert }))) (to_object s d) talk outcome walk))
cert_stage s d auth None talk outcome walk = refused checks.CertForm _ talk outcome refl walk

abbrev auth_list : JudgeContext → Document → List Exchange → Option IssuerAuth → List (Option DocCheck)
auth_list s d talk auth =
    unless (is_some auth) checks.IssuerAuthForm
    ∷ cert_list s d talk (auth >>? λ own. result_ok (object own.payload)) (auth >>? signer_certificate)

abbrev with_certificate : JudgeContext → IssuerAuth → Plan (Result Signer Stop)
with_certificate s auth = needed checks.CertForm (signer_certificate auth) >>= signer_with s auth

auth_stage : (s : JudgeContext) (d : Document) (auth : Option IssuerAuth) (talk : List Exchange) (outcome : Result IssuerStatement Stop)
    → Walks ((needed checks.IssuerAuthForm auth >>= with_certificate s) >>= to_object s d) talk [] [] outcome
    → Agrees (auth_list s d talk auth) outcome
auth_stage s d (Some auth) talk outcome walk = passed _ outcome (cert_stage s d auth (signer_certificate auth) talk outcome walk)
auth_stage s d None talk outcome walk = refused checks.IssuerAuthForm _ talk outcome refl walk

issued_stage : (s : JudgeContext) (d : Document) (talk : List Exchange) (outcome : Result IssuerStatement Stop)
    → Walks (issued s.roots s.moment d.doc_type d.issuer_auth >>= and_shown s d) talk [] [] outcome
    → Agrees (auth_list s d talk (issuer_auth d.issuer_auth)) outcome
unfolding issued
issued_stage s d talk outcome walk =
    let signer = signer_of s.roots s.moment d.issuer_auth in
    let said = object_of s.moment d.doc_type in
    auth_stage s d (issuer_auth d.issuer_auth) talk outcome
    (regrouped signer said (to_key s d) talk outcome (regrouped (signer >>= said) with_key (and_shown s d) talk outcome walk))

pub checks_agree : (s : JudgeContext) (d : Document) (talk : List Exchange) (outcome : Result IssuerStatement Stop)
    → Walks (document_checks s d) talk [] [] outcome → Agrees (failures s d talk) outcome
unfolding document_checks
checks_agree s d talk outcome walk =
    checked checks.DocNotRequested (is_type_requested s.request d.doc_type) _ talk outcome _ walk (issued_stage s d talk outcome)

-- ---- the verdict

abbrev answers : DocVerdict → Result DocVerdict DeviceFault
answers verdict = Ok verdict

refused_in : (one other : DocVerdict) → answers one ≡ answers other → one.refused ≡ other.refused
refused_in one other same = ap (λ (verdict : DocVerdict). verdict.refused) (one_other one other same)
  where
    one_other : (one other : DocVerdict) → answers one ≡ answers other → one ≡ other
    one_other one other same = cc

by_outcome : (s : JudgeContext) (d : Document) (list : List (Option DocCheck)) (outcome : Result IssuerStatement Stop) (verdict : DocVerdict)
    → Agrees list outcome → answers verdict ≡ doc_verdict s d outcome → verdict.refused ≡ first_failure list
by_outcome s d list (Ok said) verdict agrees is = refused_in verdict _ is ∙ sym agrees.says
by_outcome s d list (Err (Refused check)) verdict agrees is = refused_in verdict _ is ∙ sym agrees.says
by_outcome s d list (Err Unanswered) verdict agrees is = cc

record Turned (s : JudgeContext) (d : Document) (plan : Plan (Result IssuerStatement Stop)) (talk : List Exchange) (verdict : DocVerdict) : Type 0 where
  outcome : Result IssuerStatement Stop
  walk : Walks plan talk [] [] outcome
  is : answers verdict ≡ doc_verdict s d outcome

mapped_from : (s : JudgeContext) (d : Document) (plan : Plan (Result IssuerStatement Stop)) (talk : List Exchange) (verdict : DocVerdict)
    → Walks (bind plan (λ outcome. Done (doc_verdict s d outcome))) talk [] [] (Ok verdict) → Turned s d plan talk verdict
mapped_from s d (Done outcome) [] verdict walk = record { outcome = outcome; walk = refl; is = walk }
mapped_from s d (Done outcome) (e ∷ talk) verdict walk = absurd walk
mapped_from s d (Then ask next) [] verdict walk = absurd walk
mapped_from s d (Then ask next) (e ∷ talk) verdict walk =
    let rest = mapped_from s d (next e.told) talk verdict walk.1 in
    record { outcome = rest.outcome; walk = (walk.0, rest.walk); is = rest.is }
mapped_from s d (Other ask next) talk verdict walk = absurd walk
mapped_from s d (Draw next) talk verdict walk = absurd walk

refused_is : (s : JudgeContext) (d : Document) (talk : List Exchange) (verdict : DocVerdict)
    → Walks (judged_document s d) talk [] [] (Ok verdict) → verdict.refused ≡ first_failure (failures s d talk)
unfolding judged_document
refused_is s d talk verdict walk =
    let mapped = mapped_from s d (document_checks s d) talk verdict walk in
    by_outcome s d (failures s d talk) mapped.outcome verdict (checks_agree s d talk mapped.outcome mapped.walk) mapped.is

pub are_refused_by_first_failure : AreRefusedByFirstFailure
are_refused_by_first_failure s d talk verdict check walk =
    let is = refused_is s d talk verdict walk in (
      (λ refusal. is_first check (failures s d talk) (sym is ∙ refusal)),
      (λ first. is ∙ ap first_failure first.at ∙ first_of check first.before first.behind first.holding),
    )

pub are_accepted_where_all_hold : AreAcceptedWhereAllHold
are_accepted_where_all_hold s d talk verdict walk =
    let is = refused_is s d talk verdict walk in (
      (λ accepts. all_hold (failures s d talk) (sym is ∙ accepts)),
      (λ holding. is ∙ none_first (failures s d talk) holding),
    )
