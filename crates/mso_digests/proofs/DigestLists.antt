-- The walks over a map of digests and the list of them.
use Rattle.std.proofs.Common.{◌≡◌, ℕ, ◌==◌, ◌&&◌, if◌then◌else◌, Bool, true, false, List, [], ◌∷◌, ◌++◌, length, Option, Some, None, refl, ◌∙◌}
use Rattle.std.specs.Option.{option_or}
use Rattle.std.specs.List.{list_all}
use Rattle.std.specs.Str.{bytes_eq}
use Rattle.cbor_view.specs.Label.{entries_or_none}
use Rattle.cbor_view.specs.Parts.{Part, pairs_in, uint_in, bytes_in, text_in}
use Rattle.mso_digests.specs.Digests.{Digest, digest_of, digests_under, digests_of, digests_from, have_length, digest_at}
use Rattle.mso_digests.specs.Nested.{chosen, under_number, of_namespace, under_namespace, is_length, has_length, of_lengths, has_lengths}

-- ---- lengths

all-joined : {A : Type 0} (test : A → Bool) (xs ys : List A) → list_all test (xs ++ ys) ≡ list_all test xs && list_all test ys
all-joined test [] ys = refl
all-joined test (x ∷ xs) ys = rw (all-joined test xs ys) (elim (test x) as (λ b. (b && (list_all test xs && list_all test ys)) ≡ ((b && list_all test xs) && list_all test ys)) [
  | true ↦ refl
  | false ↦ refl
])

one-length : (namespace : List ℕ) (number : Option ℕ) (digest : Option (List ℕ)) → have_length (digest_of namespace number digest) ≡ is_length number digest
one-length namespace None digest = refl
one-length namespace (Some number) None = refl
one-length namespace (Some number) (Some digest) = elim (length digest == 32) as (λ b. (b && true) ≡ b) [
  | true ↦ refl
  | false ↦ refl
]

under-lengths : (namespace : List ℕ) (es : List (Part × Part)) → have_length (digests_under namespace es) ≡ list_all has_length es
under-lengths namespace [] = refl
under-lengths namespace (e ∷ es) =
    all-joined _ (digest_of namespace (uint_in e.0) (bytes_in e.1)) (digests_under namespace es)
    ∙ rw (one-length namespace (uint_in e.0) (bytes_in e.1), under-lengths namespace es) refl

of-lengths : (name : Option (List ℕ)) (value : Part) → have_length (digests_of name value) ≡ of_lengths name value
of-lengths None value = refl
of-lengths (Some namespace) value = under-lengths namespace (entries_or_none (pairs_in value))

pub all_lengths : (es : List (Part × Part)) → have_length (digests_from es) ≡ list_all has_lengths es
all_lengths [] = refl
all_lengths (e ∷ es) =
    all-joined _ (digests_of (text_in e.0) e.1) (digests_from es)
    ∙ rw (of-lengths (text_in e.0) e.1, all_lengths es) refl

-- ---- the digest of an item

first-joined : (namespace : List ℕ) (number : ℕ) (ds es : List Digest) → digest_at namespace number (ds ++ es) ≡ option_or (digest_at namespace number ds) (digest_at namespace number es)
first-joined namespace number [] es = refl
first-joined namespace number (d ∷ ds) es = rw (first-joined namespace number ds es) (elim (bytes_eq d.namespace namespace && d.number == number) as (λ b. (if b then Some d.digest else option_or (digest_at namespace number ds) (digest_at namespace number es)) ≡ option_or (if b then Some d.digest else digest_at namespace number ds) (digest_at namespace number es)) [
  | true ↦ refl
  | false ↦ refl
])

one-digest : (own namespace : List ℕ) (number : ℕ) (n : Option ℕ) (d : Option (List ℕ)) (later : Option (List ℕ)) → bytes_eq own namespace ≡ true → option_or (digest_at namespace number (digest_of own n d)) later ≡ chosen number n d later
one-digest own namespace number None d later e = refl
one-digest own namespace number (Some n) None later e = refl
one-digest own namespace number (Some n) (Some d) later e = rw e (elim (n == number) as (λ b. option_or (if true && b then Some d else None) later ≡ (if b then Some d else later)) [
  | true ↦ refl
  | false ↦ refl
])

no-digest : (own namespace : List ℕ) (number : ℕ) (n : Option ℕ) (d : Option (List ℕ)) → bytes_eq own namespace ≡ false → digest_at namespace number (digest_of own n d) ≡ None
no-digest own namespace number None d e = refl
no-digest own namespace number (Some n) None e = refl
no-digest own namespace number (Some n) (Some d) e = rw e refl

under-own : (own namespace : List ℕ) (number : ℕ) (es : List (Part × Part)) → bytes_eq own namespace ≡ true → digest_at namespace number (digests_under own es) ≡ under_number number es
under-own own namespace number [] e = refl
under-own own namespace number (x ∷ xs) e =
    first-joined namespace number (digest_of own (uint_in x.0) (bytes_in x.1)) (digests_under own xs)
    ∙ rw (under-own own namespace number xs e) (one-digest own namespace number (uint_in x.0) (bytes_in x.1) (under_number number xs) e)

under-other : (own namespace : List ℕ) (number : ℕ) (es : List (Part × Part)) → bytes_eq own namespace ≡ false → digest_at namespace number (digests_under own es) ≡ None
under-other own namespace number [] e = refl
under-other own namespace number (x ∷ xs) e =
    first-joined namespace number (digest_of own (uint_in x.0) (bytes_in x.1)) (digests_under own xs)
    ∙ rw (no-digest own namespace number (uint_in x.0) (bytes_in x.1) e) (under-other own namespace number xs e)

of-namespace : (namespace : List ℕ) (number : ℕ) (name : Option (List ℕ)) (value : Part) → digest_at namespace number (digests_of name value) ≡ of_namespace namespace number name value
of-namespace namespace number None value = refl
of-namespace namespace number (Some own) value = go (bytes_eq own namespace) refl where
  go : (b : Bool) → bytes_eq own namespace ≡ b → digest_at namespace number (digests_under own (entries_or_none (pairs_in value))) ≡ (if b then under_number number (entries_or_none (pairs_in value)) else None)
  go true e = under-own own namespace number (entries_or_none (pairs_in value)) e
  go false e = under-other own namespace number (entries_or_none (pairs_in value)) e

pub digest_listed : (namespace : List ℕ) (number : ℕ) (es : List (Part × Part)) → digest_at namespace number (digests_from es) ≡ under_namespace namespace number es
digest_listed namespace number [] = refl
digest_listed namespace number (e ∷ es) =
    first-joined namespace number (digests_of (text_in e.0) e.1) (digests_from es)
    ∙ rw (of-namespace namespace number (text_in e.0) e.1, digest_listed namespace number es) refl
