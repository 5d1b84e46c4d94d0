-- What an accepted element rests on.
use Rattle.std.proofs.Common.{◌≡◌, ◌⊎◌, inl, inr, ℕ, ◌==◌, List, [], ◌∷◌, Bool, true, false, not, ◌&&◌, if◌then◌else◌, Option, Some, None, unwrap_or, Result, Ok, Err, refl, sym, ◌∙◌, ap}
use Rattle.std.specs.List.{list_any, AllByRecursion}
use Rattle.std.specs.Str.{bytes_eq}
use Rattle.std.specs.Bool.{Decides}
use Rattle.std.proofs.lemmas.Bool.Decides.{Decides-eqb}
use Rattle.std.proofs.lemmas.Slice.Eq.{bytes_eq-Decides}
use Rattle.mdoc_outside.specs.OptionSteps.{unless}
use Rattle.doc_request.specs.declared.request_draft.RequestDraft.{RequestDraft}
use Rattle.issuer_items.specs.Item.{Item, item}
use Rattle.issuer_items.specs.declared.item_fault.ItemFault.{ItemFault}
use Rattle.mso_digests.specs.Digests.{Digest, digest_at}
use Rattle.mso_digests.specs.MadeFrom.{IsDigestOf, Lists, Placed, SomeOf}
use Rattle.mso_digests.specs.Object.{Object}
use Rattle.sha2.specs.Sha256.{sha256}
use Rattle.verdict_model.specs.Elements.{check_of, digest_check, if_differs, is_accepted, is_requested, or_next, verdict_of}
use Rattle.verdict_model.specs.Laws.{AreAcceptedRequested, AreAcceptedSigned, Collides, IsAccepted, IsItem, WasAsked}
use Rattle.verdict_model.specs.declared.element_check.ElementCheck.{ElementCheck}
use Rattle.verdict_model.specs.declared.element_check.ElementCheck.TheVariants as checks
use Rattle.verdict_model.specs.declared.element_verdict.ElementVerdict.{ElementVerdict}

-- both of two checks hold where none of them fails
both_hold : (first second : Option ElementCheck) → or_next first second ≡ None → (first ≡ None) × (second ≡ None)
both_hold None second none = (refl, none)
both_hold (Some check) second none = cc

holds : (test : Bool) (check : ElementCheck) → unless test check ≡ None → test ≡ true
holds true check none = refl
holds false check none = cc

was_not : (test : Bool) → not test ≡ true → test ≡ false
was_not true is = cc
was_not false is = refl

-- what the checks of an item say where none fails
record Checked (request : RequestDraft) (o : Object) (before : List ElementVerdict) (ns raw : List ℕ) (it : Item) : Type 0 where
  digest : digest_check (sha256 raw) (digest_at ns it.digest_id o.digests) ≡ None
  once : list_any (is_accepted ns it.name) before ≡ false
  requested : is_requested request o.doc_type ns it.name ≡ true

checked : (request : RequestDraft) (o : Object) (before : List ElementVerdict) (ns raw : List ℕ) (it : Item)
    → check_of request o before ns raw it ≡ None → Checked request o before ns raw it
checked request o before ns raw it none =
    let first = both_hold (digest_check (sha256 raw) (digest_at ns it.digest_id o.digests)) _ none in
    let second = both_hold (unless (not (list_any (is_accepted ns it.name) before)) checks.Repeated) _ first.1 in
    record {
      digest = first.0;
      once = was_not (list_any (is_accepted ns it.name) before) (holds _ checks.Repeated second.0);
      requested = holds _ checks.NotRequested second.1;
    }

requested_of : (request : RequestDraft) (o : Object) (before : List ElementVerdict) (ns raw : List ℕ) (read : Result Item ItemFault)
    → (verdict_of request o before ns raw read).refused ≡ None → WasAsked request o before (verdict_of request o before ns raw read)
requested_of request o before ns raw (Ok it) none =
    let it_is = checked request o before ns raw it none in record { requested = it_is.requested; once = it_is.once }
requested_of request o before ns raw (Err fault) none = cc

pub are_accepted_requested : AreAcceptedRequested
are_accepted_requested request o before element none = requested_of request o before element.0 element.1.bytes (item element.1.bytes) none

-- the digest of the object is that of the item, where the check of both holds
is_same : (same : Bool) (kept made : List ℕ) → Decides same (kept ≡ made) → if_differs same kept made ≡ None → kept ≡ made
is_same true kept made is none = is.0 refl
is_same false kept made is none = cc

is_made : (made : List ℕ) (kept : Option (List ℕ)) → digest_check made kept ≡ None → kept ≡ Some made
is_made made None none = cc
is_made made (Some kept) none = ap Some (is_same (bytes_eq kept made) kept made (bytes_eq-Decides kept made) none)

-- the digest that was found under a namespace and a digest identifier, of which something holds that holds of each
record FoundDigest (P : Digest → Type 0) (ns : List ℕ) (number : ℕ) (made : List ℕ) : Type 0 where
  entry : Digest
  holds_of : P entry
  of_namespace : entry.namespace ≡ ns
  of_number : entry.number ≡ number
  of_digest : entry.digest ≡ made

found_here : (P : Digest → Type 0) (ns : List ℕ) (number : ℕ) (d : Digest) (ds : List Digest) (made : List ℕ) (same_ns same_number : Bool)
    → Decides same_ns (d.namespace ≡ ns) → Decides same_number (d.number ≡ number) → P d
    → (digest_at ns number ds ≡ Some made → FoundDigest P ns number made)
    → (if same_ns && same_number then Some d.digest else digest_at ns number ds) ≡ Some made → FoundDigest P ns number made
found_here P ns number d ds made true true is_ns is_number of_d later is =
    record { entry = d; holds_of = of_d; of_namespace = is_ns.0 refl; of_number = is_number.0 refl; of_digest = some_same is }
  where
    some_same : Some d.digest ≡ Some made → d.digest ≡ made
    some_same same = ap (λ (found : Option (List ℕ)). unwrap_or found []) same
found_here P ns number d ds made true false is_ns is_number of_d later is = later is
found_here P ns number d ds made false same_number is_ns is_number of_d later is = later is

found : (P : Digest → Type 0) (ns : List ℕ) (number : ℕ) (ds : List Digest) (made : List ℕ)
    → AllByRecursion P ds → digest_at ns number ds ≡ Some made → FoundDigest P ns number made
found P ns number [] made each is = cc
found P ns number (d ∷ ds) made each is =
    found_here P ns number d ds made (bytes_eq d.namespace ns) (d.number == number)
    (bytes_eq-Decides d.namespace ns) (Decides-eqb d.number number) each.0 (found P ns number ds made each.1) is

differs_where : (one other : List ℕ) → Decides false (one ≡ other) → one ≡ other → ⊥
differs_where one other is same = false_is_true (is.1 same)
  where
    false_is_true : false ≡ true → ⊥
    false_is_true wrong = cc

-- the item of that digest is this one, or another one with the same digest
one_settled : (ns raw : List ℕ) (number : ℕ) (d : Digest) (placed : Placed) (same : Bool) → Decides same (placed.1 ≡ raw)
    → d.namespace ≡ ns → d.number ≡ number → d.digest ≡ sha256 raw → IsDigestOf d placed
    → IsItem ns raw placed ⊎ Collides ns raw number placed
one_settled ns raw number d placed true is of_ns of_number of_digest is_of = inl (record { namespace = sym is_of.namespace ∙ of_ns; same = is.0 refl })
one_settled ns raw number d placed false is of_ns of_number of_digest is_of =
    inr (record { it = is_of.it; is_item = is_of.is_item; namespace = sym is_of.namespace ∙ of_ns; number = sym is_of.number ∙ of_number; differs = differs_where placed.1 raw is; digest = sym is_of.digest ∙ of_digest })

first_of : {A : Type 0} (P Q : A → Type 0) (x : A) (xs : List A) → P x ⊎ Q x → SomeOf P (x ∷ xs) ⊎ SomeOf Q (x ∷ xs)
first_of P Q x xs (inl is) = inl (inl is)
first_of P Q x xs (inr is) = inr (inl is)

later_of : {A : Type 0} (P Q : A → Type 0) (x : A) (xs : List A) → SomeOf P xs ⊎ SomeOf Q xs → SomeOf P (x ∷ xs) ⊎ SomeOf Q (x ∷ xs)
later_of P Q x xs (inl is) = inl (inr is)
later_of P Q x xs (inr is) = inr (inr is)

settled : (ns raw : List ℕ) (number : ℕ) (d : Digest) (items : List Placed)
    → d.namespace ≡ ns → d.number ≡ number → d.digest ≡ sha256 raw → SomeOf (IsDigestOf d) items
    → SomeOf (IsItem ns raw) items ⊎ SomeOf (Collides ns raw number) items
settled ns raw number d [] of_ns of_number of_digest some = absurd some
settled ns raw number d (placed ∷ items) of_ns of_number of_digest (inl is) =
    first_of (IsItem ns raw) (Collides ns raw number) placed items (one_settled ns raw number d placed (bytes_eq placed.1 raw) (bytes_eq-Decides placed.1 raw) of_ns of_number of_digest is)
settled ns raw number d (placed ∷ items) of_ns of_number of_digest (inr some) =
    later_of (IsItem ns raw) (Collides ns raw number) placed items (settled ns raw number d items of_ns of_number of_digest some)

signed_of : (request : RequestDraft) (o : Object) (before : List ElementVerdict) (ns raw : List ℕ) (items : List Placed) (read : Result Item ItemFault)
    → item raw ≡ read → Lists o.digests items → (verdict_of request o before ns raw read).refused ≡ None → IsAccepted ns raw items
signed_of request o before ns raw items (Ok it) is lists none =
    let checks_hold = checked request o before ns raw it none in
    let at = found (λ (d : Digest). SomeOf (IsDigestOf d) items) ns it.digest_id o.digests (sha256 raw) lists
    (is_made (sha256 raw) (digest_at ns it.digest_id o.digests) checks_hold.digest) in
    record { it = it; is_item = is; signed = settled ns raw it.digest_id at.entry items at.of_namespace at.of_number at.of_digest at.holds_of }
signed_of request o before ns raw items (Err fault) is lists none = cc

pub are_accepted_signed : AreAcceptedSigned
are_accepted_signed request o before element items lists none =
    signed_of request o before element.0 element.1.bytes items (item element.1.bytes) refl lists none
