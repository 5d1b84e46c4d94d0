-- Texts that stand a second time, against texts of which no two are equal.
use Rattle.std.proofs.Common.{◌≡◌, ℕ, Bool, true, false, cond, not, ◌&&◌, List, [], ◌∷◌, map, refl, ◌∙◌}
use Rattle.std.specs.List.{list_any}
use Rattle.std.specs.Str.{bytes_eq}
use Rattle.cbor_view.specs.PartialItem.{PartialItem}
use Rattle.doc_store.specs.Fields.{are_distinct}
use Rattle.doc_store.specs.declared.store_check.StoreCheck.TheVariants as checks
use Rattle.doc_store.specs.Faults.{fault, repeats_after, repeats}
use Rattle.doc_store.proofs.CleanLaw.{is_clean}
use Rattle.doc_store.proofs.NameSets.{are_new, new_from_none}

abbrev pub texts_of : List (List ℕ × PartialItem) → List (List ℕ)
texts_of xs = map (λ (x : List ℕ × PartialItem). x.0) xs

repeats-clean : (seen : List (List ℕ)) (xs : List (List ℕ × PartialItem)) → is_clean (repeats_after seen xs) ≡ are_new seen (texts_of xs)
repeats-clean seen [] = refl
repeats-clean seen (x ∷ xs) = go (list_any (bytes_eq x.0) seen) (repeats-clean (x.0 ∷ seen) xs) where
  go : (b : Bool) → is_clean (repeats_after (x.0 ∷ seen) xs) ≡ are_new (x.0 ∷ seen) (texts_of xs) →
      is_clean (cond b (fault checks.Doubled x.1 ∷ []) (repeats_after (x.0 ∷ seen) xs)) ≡ (not b && are_new (x.0 ∷ seen) (texts_of xs))
  go true rest = refl
  go false rest = rest

-- nothing stands a second time exactly where no two are equal
pub clean_repeats : (xs : List (List ℕ × PartialItem)) → is_clean (repeats xs) ≡ are_distinct (texts_of xs)
clean_repeats xs = repeats-clean [] xs ∙ new_from_none (texts_of xs)
