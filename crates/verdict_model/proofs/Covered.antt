-- The items of an accepted copy have their digests in the object.
use Rattle.std.proofs.Common.{◌≡◌, inl, inr, ℕ, ◌==◌, List, [], ◌∷◌, Bool, true, false, ◌&&◌, if◌then◌else◌, Option, Some, None, Result, Ok, Err, refl, ◌∙◌}
use Rattle.std.specs.Str.{bytes_eq}
use Rattle.std.proofs.lemmas.Bool.{and_parts}
use Rattle.std.proofs.lemmas.Bool.Decides.{Decides-eqb}
use Rattle.std.proofs.lemmas.Slice.Eq.{bytes_eq-Decides}
use Rattle.issuer_items.specs.Item.{Item, item}
use Rattle.issuer_items.specs.declared.item_fault.ItemFault.{ItemFault}
use Rattle.mso_digests.specs.Digests.{Digest, digest_at}
use Rattle.mso_digests.specs.MadeFrom.{Covers, IsDigestOf, SomeOf}
use Rattle.mso_digests.specs.Object.{Object}
use Rattle.verdict_model.specs.Checked.{Failure, item_check, items_check, named, or_rest}
use Rattle.sha2.specs.Sha256.{sha256}
use Rattle.verdict_model.specs.Elements.{digest_check, if_differs}
use Rattle.verdict_model.specs.declared.element_check.ElementCheck.{ElementCheck}
use Rattle.verdict_model.specs.declared.named.Named.{Named}

-- the digest that is found is one of the object's
found-digest : (ns : List ℕ) (raw : List ℕ) (it : Item) (ds : List Digest) (kept : List ℕ) → item raw ≡ Ok it → digest_at ns it.digest_id ds ≡ Some kept → kept ≡ sha256 raw →
    SomeOf (λ d. IsDigestOf d (ns, raw)) ds
found-digest ns raw it [] kept read found same = absurd (cc)
found-digest ns raw it (d ∷ ds) kept read found same = go (bytes_eq d.namespace ns && d.number == it.digest_id) refl found (λ rest. found-digest ns raw it ds kept read rest same) where
  go : (b : Bool) → (bytes_eq d.namespace ns && d.number == it.digest_id) ≡ b → (if b then Some d.digest else digest_at ns it.digest_id ds) ≡ Some kept →
      (digest_at ns it.digest_id ds ≡ Some kept → SomeOf (λ d. IsDigestOf d (ns, raw)) ds) → SomeOf (λ d. IsDigestOf d (ns, raw)) (d ∷ ds)
  go true is e rest =
      let both = and_parts (bytes_eq d.namespace ns) (d.number == it.digest_id) is in
      let own : d.digest ≡ kept = cc in
      inl (record {
        it = it;
        is_item = read;
        namespace = (bytes_eq-Decides d.namespace ns).0 both.0;
        number = (Decides-eqb d.number it.digest_id).0 both.1;
        digest = own ∙ same;
      })
  go false is e rest = inr (rest e)

-- where the check of a digest holds, the object's is that of the item
check-holds : (ns raw : List ℕ) (it : Item) (ds : List Digest) → item raw ≡ Ok it → digest_check (sha256 raw) (digest_at ns it.digest_id ds) ≡ None → SomeOf (λ d. IsDigestOf d (ns, raw)) ds
check-holds ns raw it ds read e = go (digest_at ns it.digest_id ds) refl e where
  by_test : (b : Bool) (kept : List ℕ) → bytes_eq kept (sha256 raw) ≡ b → digest_at ns it.digest_id ds ≡ Some kept → if_differs b kept (sha256 raw) ≡ None → SomeOf (λ d. IsDigestOf d (ns, raw)) ds
  by_test true kept is found none = found-digest ns raw it ds kept read found ((bytes_eq-Decides kept (sha256 raw)).0 is)
  by_test false kept is found none = absurd (cc)

  go : (o : Option (List ℕ)) → digest_at ns it.digest_id ds ≡ o → digest_check (sha256 raw) o ≡ None → SomeOf (λ d. IsDigestOf d (ns, raw)) ds
  go None found none = absurd (cc)
  go (Some kept) found none = by_test (bytes_eq kept (sha256 raw)) kept refl found none

record Holds (check : Option ElementCheck) (rest : Result (Unit {0}) Failure) : Type 0 where
  none : check ≡ None
  after : rest ≡ Ok tt

no-failure : (element : Named) (check : Option ElementCheck) (rest : Result (Unit {0}) Failure) → or_rest element check rest ≡ Ok tt → Holds check rest
no-failure element None rest e = record { none = refl; after = e }
no-failure element (Some check) rest e = absurd (cc)

pub is-covered : (o : Object) (doc_type : List ℕ) (items : List (List ℕ × List ℕ)) → items_check o doc_type items ≡ Ok tt → Covers o.digests items
is-covered o doc_type [] e = tt
is-covered o doc_type ((ns, raw) ∷ items) e = go (item raw) refl e (is-covered o doc_type items) where
  go : (r : Result Item ItemFault) → item raw ≡ r → item_check o doc_type (ns, raw) r (items_check o doc_type items) ≡ Ok tt → (items_check o doc_type items ≡ Ok tt → Covers o.digests items) → Covers o.digests ((ns, raw) ∷ items)
  go (Err fault) read e rest = absurd (cc)
  go (Ok it) read e rest =
      let held = no-failure (named doc_type ns it.name) (digest_check (sha256 raw) (digest_at ns it.digest_id o.digests)) (items_check o doc_type items) e in
      (check-holds ns raw it o.digests read held.none, rest held.after)
