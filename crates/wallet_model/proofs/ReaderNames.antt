-- A reader that is known has the name of a trusted root.
use Rattle.std.proofs.Common.{◌≡◌, ℕ, ℤ, List, [], ◌∷◌, Bool, true, false, ◌||◌, if◌then◌else◌, Option, Some, None, Result, Ok, Err, refl}
use Rattle.std.specs.List.{AllByRecursion, list_any}
use Rattle.std.specs.Bool.{Decides}
use Rattle.std.specs.Str.{bytes_eq}
use Rattle.std.proofs.lemmas.Slice.Eq.{bytes_eq-Decides}
use Rattle.cert_view.specs.Root.{listed}
use Rattle.cert_view.specs.declared.root.Root.{Root}
use Rattle.doc_request.specs.Asked.{Document}
use Rattle.doc_request.specs.Known.{Authentication, authentication_of, known, known_as, known_by, known_under, name_if, reader_signed, signed_under, under_root}
use Rattle.root_trust.specs.Validity.{are_valid}
use Rattle.root_trust.specs.Confirming.{confirming_root, root_confirms}
use Rattle.key_device.specs.Plan.{Plan, Done}
use Rattle.key_device.specs.PlanSteps.{first_yes, unless_yes}
use Rattle.key_device.specs.declared.device_fault.DeviceFault.{DeviceFault}
use Rattle.wallet_model.specs.Agreement.{has_name, is_reader}
use Rattle.wallet_model.specs.Answer.{known_readers}
use Rattle.wallet_model.specs.Setup.{Setup}
use Rattle.wallet_model.proofs.Always.{Always, Anything, OfValue, always_anything, always_step, always_weaker}

same_bytes : (text : List ℕ) → bytes_eq text text ≡ true
same_bytes text = let decided : Decides (bytes_eq text text) (text ≡ text) = bytes_eq-Decides text text in decided.1 refl

or_second : (a b : Bool) → b ≡ true → (a || b) ≡ true
or_second true b is = refl
or_second false b is = is

or_first : (a b : Bool) → a ≡ true → (a || b) ≡ true
or_first true b is = refl
or_first false b is = cc

-- a root that was found is one of the list
abbrev IsAmong : List Root → Option Root → Type 0
IsAmong roots None = Unit {0}
IsAmong roots (Some root) = list_any (has_name (listed root).name) roots ≡ true

one_more : (root : Root) (roots : List Root) (found : Option Root) → IsAmong roots found → IsAmong (root ∷ roots) found
one_more root roots None among = tt
one_more root roots (Some other) among = or_second (has_name (listed other).name root) _ among

one_more_result : (root : Root) (roots : List Root) (found : Result (Option Root) DeviceFault)
    → OfValue (IsAmong roots) found → OfValue (IsAmong (root ∷ roots)) found
one_more_result root roots (Ok found) among = one_more root roots found among
one_more_result root roots (Err fault) among = tt

any_value : {A E : Type 0} (r : Result A E) → Anything r → OfValue Anything r
any_value (Ok value) any = tt
any_value (Err fault) any = tt

pub always_value : {A E : Type 0} (p : Plan (Result A E)) → Always (OfValue Anything) p
always_value p = always_weaker Anything (OfValue Anything) p any_value (always_anything p)

found_among : (says : Root → Plan (Result Bool DeviceFault)) (roots : List Root) → Always (OfValue (IsAmong roots)) (first_yes says roots)
found_among says [] = tt
found_among says (root ∷ roots) =
    always_step Anything (IsAmong (root ∷ roots)) (says root) (unless_yes root (first_yes says roots)) (always_value (says root)) (λ yes any. both (found_among says roots) yes)
  where
    both : Always (OfValue (IsAmong roots)) (first_yes says roots) → (yes : Bool)
        → Always (OfValue (IsAmong (root ∷ roots))) (unless_yes root (first_yes says roots) yes)
    both later true = or_first (has_name (listed root).name root) _ (same_bytes (listed root).name)
    both later false = always_weaker (OfValue (IsAmong roots)) (OfValue (IsAmong (root ∷ roots))) (first_yes says roots) (one_more_result root roots) later

abbrev pub IsReader : List Root → Option (List ℕ) → Type 0
IsReader roots reader = is_reader roots reader ≡ true

under_signature : (own : Authentication) (root : Root) (roots : List Root) (transcript items : List ℕ)
    → IsAmong roots (Some root) → Always (OfValue (IsReader roots)) (signed_under own root transcript items)
unfolding signed_under
under_signature own root roots transcript items among =
    always_step Anything (IsReader roots) (reader_signed own transcript items) (λ yes. Done (Ok (name_if (listed root).name yes))) (always_value (reader_signed own transcript items)) (λ yes any. both yes)
  where
    both : (yes : Bool) → IsReader roots (name_if (listed root).name yes)
    both true = among
    both false = refl

under_validity : (own : Authentication) (root : Root) (roots : List Root) (transcript items : List ℕ) (moment : ℤ)
    → IsAmong roots (Some root) → Always (OfValue (IsReader roots)) (known_under own transcript items moment root)
unfolding known_under
under_validity own root roots transcript items moment among = both (are_valid moment own.cert root)
  where
    both : (valid : Bool) → Always (OfValue (IsReader roots)) (if valid then signed_under own root transcript items else Done (Ok None))
    both true = under_signature own root roots transcript items among
    both false = refl

known_reader : (own : Authentication) (transcript items : List ℕ) (roots : List Root) (moment : ℤ)
    → Always (OfValue (IsReader roots)) (known_as own transcript items roots moment)
unfolding known_as confirming_root
known_reader own transcript items roots moment =
    always_step (IsAmong roots) (IsReader roots) (first_yes (root_confirms own.cert) roots) (under_root own transcript items moment) (found_among (root_confirms own.cert) roots) both
  where
    both : (found : Option Root) → IsAmong roots found → Always (OfValue (IsReader roots)) (under_root own transcript items moment found)
    both None among = refl
    both (Some root) among = under_validity own root roots transcript items moment among

pub is_known : (document : Document) (transcript : List ℕ) (roots : List Root) (moment : ℤ)
    → Always (OfValue (IsReader roots)) (known document transcript roots moment)
unfolding known
is_known document transcript roots moment = both (authentication_of document)
  where
    both : (own : Option Authentication) → Always (OfValue (IsReader roots)) (known_by own transcript document.items roots moment)
    both None = refl
    both (Some own) = known_reader own transcript document.items roots moment

-- and so has each of the documents' readers
pub are_known : (W : Setup) (transcript : List ℕ) (documents : List Document)
    → Always (OfValue (AllByRecursion (IsReader W.readers))) (known_readers W transcript documents)
are_known W transcript [] = tt
are_known W transcript (document ∷ documents) =
    always_step (IsReader W.readers) All (known document transcript W.readers W.moment) _ (is_known document transcript W.readers W.moment)
    (λ reader is. always_step All All (known_readers W transcript documents) _ (are_known W transcript documents) (λ readers are. (is, are)))
  where
    All : List (Option (List ℕ)) → Type 0
    All readers = AllByRecursion (IsReader W.readers) readers
