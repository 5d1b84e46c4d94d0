-- The search for the root that confirms a certificate.
use Rattle.std.proofs.Common.{◌≡◌, List, [], ◌∷◌, Bool, true, false, if◌then◌else◌, Option, Some, None, Result, Ok, Err, refl}
use Rattle.std.specs.Str.{bytes_eq}
use Rattle.cert_view.specs.Certificate.{Fields, certificate}
use Rattle.cert_view.specs.Root.{listed}
use Rattle.cert_view.specs.declared.cert_fault.CertFault.{CertFault}
use Rattle.cert_view.specs.declared.root.Root.{Root}
use Rattle.key_device.specs.Questions.{by_verify, verified}
use Rattle.root_trust.specs.Confirming.{confirmed_by, root_confirms}
use Rattle.key_device.specs.Plan.{Plan, Done, Walks}
use Rattle.key_device.specs.PlanSteps.{◌>>=◌, first_yes, unless_fault, unless_yes}
use Rattle.key_device.specs.declared.exchange.Exchange.{Exchange}
use Rattle.key_device.specs.declared.told.Told.{Told}
use Rattle.key_device.specs.declared.told.Told.TheVariants as tells
use Rattle.key_device.specs.declared.device_fault.DeviceFault.TheVariants.{Failed}
use Rattle.verdict_model.specs.IssuerStatement.{IssuerStatement}
use Rattle.root_trust.specs.Names.{is_named}
use Rattle.verdict_model.specs.Steps.{Stop, asked_of_device}
use Rattle.verdict_model.specs.declared.doc_check.DocCheck.{DocCheck}
use Rattle.verdict_laws.specs.Found.{confirmed, is_yes, named_roots}
use Rattle.verdict_laws.proofs.Walks.{Agrees, unanswered}

-- how a walk goes on after the search
abbrev pub GoesOn : (Option Root → Plan (Result IssuerStatement Stop)) → Option (Root × List Exchange) → Result IssuerStatement Stop → List (Option DocCheck) → Type 0
GoesOn f at outcome list =
    ((root : Root) (rest : List Exchange) → at ≡ Some (root, rest) → Walks (f (Some root)) rest [] [] outcome → Agrees list outcome)
    × ((rest : List Exchange) → at ≡ None → Walks (f None) rest [] [] outcome → Agrees list outcome)

-- after what was told of a root
by_told : (root : Root) (roots : List Root) (cert : Fields) (f : Option Root → Plan (Result IssuerStatement Stop)) (told : Told) (es : List Exchange) (outcome : Result IssuerStatement Stop) (list : List (Option DocCheck))
    → Walks (asked_of_device (unless_fault (unless_yes root (first_yes (root_confirms cert) roots)) (by_verify Failed told)) >>= f) es [] [] outcome
    → GoesOn f (if is_yes (Some told) then Some (root, es) else confirmed (named_roots roots cert) es) outcome list
    → (Walks (asked_of_device (first_yes (root_confirms cert) roots) >>= f) es [] [] outcome → GoesOn f (confirmed (named_roots roots cert) es) outcome list → Agrees list outcome)
    → Agrees list outcome
by_told root roots cert f (tells.Made made) es outcome list walk go again = unanswered list es outcome walk
by_told root roots cert f (tells.Secret secret) es outcome list walk go again = unanswered list es outcome walk
by_told root roots cert f tells.Refused es outcome list walk go again = unanswered list es outcome walk
by_told root roots cert f (tells.Signature pair) es outcome list walk go again = unanswered list es outcome walk
by_told root roots cert f tells.Yes es outcome list walk go again = go.0 root es refl walk
by_told root roots cert f tells.No es outcome list walk go again = again walk go
by_told root roots cert f tells.Failed es outcome list walk go again = unanswered list es outcome walk

-- a root of the name is asked about, another one isn't
by_name : (root : Root) (roots : List Root) (cert fields : Fields) (f : Option Root → Plan (Result IssuerStatement Stop)) (named : Bool) (es : List Exchange) (outcome : Result IssuerStatement Stop) (list : List (Option DocCheck))
    → Walks (asked_of_device ((if named then verified Failed fields.tbs.key cert.message cert.signature else Done (Ok false)) >>= unless_yes root (first_yes (root_confirms cert) roots)) >>= f) es [] [] outcome
    → GoesOn f (confirmed (if named then root ∷ named_roots roots cert else named_roots roots cert) es) outcome list
    → ((rest : List Exchange) → Walks (asked_of_device (first_yes (root_confirms cert) roots) >>= f) rest [] [] outcome → GoesOn f (confirmed (named_roots roots cert) rest) outcome list → Agrees list outcome)
    → Agrees list outcome
by_name root roots cert fields f false es outcome list walk go again = again es walk go
by_name root roots cert fields f true [] outcome list walk go again = absurd walk
by_name root roots cert fields f true (e ∷ es) outcome list walk go again = by_told root roots cert f e.told es outcome list walk.1 go (again es)

by_read : (root : Root) (roots : List Root) (cert : Fields) (f : Option Root → Plan (Result IssuerStatement Stop)) (read : Result Fields CertFault) (es : List Exchange) (outcome : Result IssuerStatement Stop) (list : List (Option DocCheck))
    → Walks (asked_of_device (confirmed_by cert read >>= unless_yes root (first_yes (root_confirms cert) roots)) >>= f) es [] [] outcome
    → GoesOn f (confirmed (if is_named cert read then root ∷ named_roots roots cert else named_roots roots cert) es) outcome list
    → ((rest : List Exchange) → Walks (asked_of_device (first_yes (root_confirms cert) roots) >>= f) rest [] [] outcome → GoesOn f (confirmed (named_roots roots cert) rest) outcome list → Agrees list outcome)
    → Agrees list outcome
by_read root roots cert f (Ok fields) es outcome list walk go again = by_name root roots cert fields f (bytes_eq fields.tbs.subject cert.tbs.issuer) es outcome list walk go again
by_read root roots cert f (Err fault) es outcome list walk go again = again es walk go

pub searched : (roots : List Root) (cert : Fields) (f : Option Root → Plan (Result IssuerStatement Stop)) (es : List Exchange) (outcome : Result IssuerStatement Stop) (list : List (Option DocCheck))
    → Walks (asked_of_device (first_yes (root_confirms cert) roots) >>= f) es [] [] outcome
    → GoesOn f (confirmed (named_roots roots cert) es) outcome list → Agrees list outcome
searched [] cert f es outcome list walk go = go.1 es refl walk
searched (root ∷ roots) cert f es outcome list walk go =
    by_read root roots cert f (certificate (listed root).bytes) es outcome list walk go (λ (rest : List Exchange). searched roots cert f rest outcome list)
