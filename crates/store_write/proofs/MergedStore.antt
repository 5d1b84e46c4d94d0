-- A merged store of few documents is one that is read.
use Rattle.std.proofs.Common.{◌≡◌, ◌≤◌, ℕ, Bool, true, false, ◌&&◌, ◌||◌, not, cond, List, [], ◌∷◌, ◌++◌, length, map, Option, Some, None, Result, Ok, Err, refl, sym, ap, ◌∙◌, subst}
use Rattle.std.specs.Prelude.{filter, is_none, is_some, unwrap_or, IfOk}
use Rattle.std.specs.List.{AllByRecursion, list_any}
use Rattle.std.specs.Str.{bytes_eq}
use Rattle.std.proofs.lemmas.Slice.Eq.{bytes_eq-Decides}
use Rattle.cbor_view.specs.Spelling.{AreBytes}
use Rattle.doc_store.specs.Fields.{are_distinct}
use Rattle.doc_store.specs.Held.{document_found, is_of_type}
use Rattle.doc_store.specs.Store.{Document, Store, store}
use Rattle.store_write.specs.Storable.{IsDocument, IsStore, document_by_namespace, by_namespace}
use Rattle.store_write.proofs.ReadAgain.{read-again}
use Rattle.store_write.proofs.WrittenRead.{written-read}
use Rattle.store_write.specs.Answers.{Merges}
use Rattle.store_write.specs.Merged.{documents_of, is_new, merged, merged_files, newest}
use Rattle.store_write.specs.declared.merge_fault.MergeFault.{MergeFault}
use Rattle.store_write.specs.declared.merge_fault.MergeFault.TheVariants.{Documents, Bytes, Memory}
use Rattle.store_write.specs.Written.{store_bytes}

abbrev type_of : Document → List ℕ
type_of d = d.doc_type

abbrev types : Store → List (List ℕ)
types documents = map type_of documents

-- ---- what is found

found-type : (documents : Store) (t : List ℕ) (d : Document) → document_found documents t ≡ Some d → d.doc_type ≡ t
found-type [] t d e = absurd (cc)
found-type (x ∷ documents) t d e = go (is_of_type t x) refl (found-type documents t d) e where
  go : (b : Bool) → is_of_type t x ≡ b → (document_found documents t ≡ Some d → d.doc_type ≡ t) → cond b (Some x) (document_found documents t) ≡ Some d → d.doc_type ≡ t
  go true is rest e =
      let same : x ≡ d = cc in
      sym (ap type_of same) ∙ (bytes_eq-Decides x.doc_type t).0 is
  go false is rest e = rest e

found-all : (P : Document → Type 0) (documents : Store) (t : List ℕ) (d : Document) → AllByRecursion P documents → document_found documents t ≡ Some d → P d
found-all P [] t d all e = absurd (cc)
found-all P (x ∷ documents) t d all e = go (is_of_type t x) (found-all P documents t d all.1) e where
  go : (b : Bool) → (document_found documents t ≡ Some d → P d) → cond b (Some x) (document_found documents t) ≡ Some d → P d
  go true rest e = let same : x ≡ d = cc in subst P same all.0
  go false rest e = rest e

newest-type : (received : Store) (own : Document) → (newest received own).doc_type ≡ own.doc_type
newest-type received own = go (document_found received own.doc_type) refl where
  go : (o : Option Document) → document_found received own.doc_type ≡ o → (unwrap_or o own).doc_type ≡ own.doc_type
  go None is = refl
  go (Some d) is = found-type received own.doc_type d is

newest-all : (P : Document → Type 0) (received : Store) (own : Document) → AllByRecursion P received → P own → P (newest received own)
newest-all P received own all is = go (document_found received own.doc_type) refl where
  go : (o : Option Document) → document_found received own.doc_type ≡ o → P (unwrap_or o own)
  go None found = is
  go (Some d) found = found-all P received own.doc_type d all found

-- ---- what holds of each

all-both : (P : Document → Type 0) (one other : Store) → AllByRecursion P one → AllByRecursion P other → AllByRecursion P (one ++ other)
all-both P [] other all rest = rest
all-both P (d ∷ one) other all rest = (all.0, all-both P one other all.1 rest)

all-newest : (P : Document → Type 0) (received own : Store) → AllByRecursion P received → AllByRecursion P own → AllByRecursion P (map (newest received) own)
all-newest P received [] all are = tt
all-newest P received (d ∷ own) all are = (newest-all P received d all are.0, all-newest P received own all are.1)

all-kept : (P : Document → Type 0) (q : Document → Bool) (documents : Store) → AllByRecursion P documents → AllByRecursion P (filter q documents)
all-kept P q [] all = tt
all-kept P q (d ∷ documents) all = go (q d) (all-kept P q documents all.1) where
  go : (b : Bool) → AllByRecursion P (filter q documents) → AllByRecursion P (cond b (d ∷ filter q documents) (filter q documents))
  go true rest = (all.0, rest)
  go false rest = rest

all-merged : (P : Document → Type 0) (own received : Store) → AllByRecursion P own → AllByRecursion P received → AllByRecursion P (merged own received)
unfolding merged
all-merged P own received all are = all-both P (map (newest received) own) (filter (is_new own) received) (all-newest P received own are all) (all-kept P (is_new own) received are)

-- ---- types that are distinct

abbrev lacks : List ℕ → Store → Type 0
lacks t documents = list_any (bytes_eq t) (types documents) ≡ false

lacks-kept : (t : List ℕ) (q : Document → Bool) (documents : Store) → lacks t documents → lacks t (filter q documents)
lacks-kept t q [] e = refl
lacks-kept t q (d ∷ documents) e = go (bytes_eq t d.doc_type) (q d) refl e (lacks-kept t q documents) where
  go : (b c : Bool) → bytes_eq t d.doc_type ≡ b → (b || list_any (bytes_eq t) (types documents)) ≡ false → (lacks t documents → lacks t (filter q documents)) → lacks t (cond c (d ∷ filter q documents) (filter q documents))
  go true c is e rest = absurd (cc)
  go false true is e rest = rw is (rest e)
  go false false is e rest = rest e

distinct-kept : (q : Document → Bool) (documents : Store) → are_distinct (types documents) ≡ true → are_distinct (types (filter q documents)) ≡ true
distinct-kept q [] e = refl
distinct-kept q (d ∷ documents) e = go (list_any (bytes_eq d.doc_type) (types documents)) (q d) refl e (distinct-kept q documents) where
  go : (b c : Bool) → list_any (bytes_eq d.doc_type) (types documents) ≡ b → (not b && are_distinct (types documents)) ≡ true → (are_distinct (types documents) ≡ true → are_distinct (types (filter q documents)) ≡ true) →
      are_distinct (types (cond c (d ∷ filter q documents) (filter q documents))) ≡ true
  go true c is e rest = absurd (cc)
  go false true is e rest = rw (lacks-kept d.doc_type q documents is) (rest e)
  go false false is e rest = rest e

-- a document whose type is new has none of the types
abbrev IsOther : Store → Document → Type 0
IsOther own x = (d : Document) → is_new own d ≡ true → bytes_eq x.doc_type d.doc_type ≡ false

fewer : (x : Document) (own : Store) (d : Document) → is_new (x ∷ own) d ≡ true → (bytes_eq x.doc_type d.doc_type ≡ false) × (is_new own d ≡ true)
fewer x own d e = go (is_of_type d.doc_type x) refl e where
  go : (b : Bool) → is_of_type d.doc_type x ≡ b → is_none (cond b (Some x) (document_found own d.doc_type)) ≡ true → (bytes_eq x.doc_type d.doc_type ≡ false) × (is_new own d ≡ true)
  go true is e = absurd (cc)
  go false is e = (is, e)

others-more : (x : Document) (own all : Store) → AllByRecursion (IsOther own) all → AllByRecursion (IsOther (x ∷ own)) all
others-more x own [] are = tt
others-more x own (y ∷ all) are = (λ d new. are.0 d (fewer x own d new).1, others-more x own all are.1)

all-other : (own : Store) → AllByRecursion (IsOther own) own
all-other [] = tt
all-other (x ∷ own) = (λ d new. (fewer x own d new).0, others-more x own own (all-other own))

new-lacks : (own received : Store) (x : Document) → IsOther own x → lacks x.doc_type (filter (is_new own) received)
new-lacks own [] x other = refl
new-lacks own (d ∷ received) x other = go (is_new own d) refl (new-lacks own received x other) where
  go : (b : Bool) → is_new own d ≡ b → lacks x.doc_type (filter (is_new own) received) → lacks x.doc_type (cond b (d ∷ filter (is_new own) received) (filter (is_new own) received))
  go true new rest = rw (other d new) rest
  go false new rest = rest

any-both : (p : List ℕ → Bool) (xs ys : List (List ℕ)) → list_any p xs ≡ false → list_any p ys ≡ false → list_any p (xs ++ ys) ≡ false
any-both p [] ys e rest = rest
any-both p (x ∷ xs) ys e rest = go (p x) refl e (any-both p xs ys) where
  go : (b : Bool) → p x ≡ b → (b || list_any p xs) ≡ false → (list_any p xs ≡ false → list_any p ys ≡ false → list_any p (xs ++ ys) ≡ false) → list_any p (x ∷ (xs ++ ys)) ≡ false
  go true is e more = absurd (cc)
  go false is e more = rw is (more e rest)

distinct-both : (own new : Store) → are_distinct (types own) ≡ true → are_distinct (types new) ≡ true → AllByRecursion (λ (x : Document). lacks x.doc_type new) own → are_distinct (types own ++ types new) ≡ true
distinct-both [] new e more lack = more
distinct-both (d ∷ own) new e more lack = go (list_any (bytes_eq d.doc_type) (types own)) refl e (λ rest. distinct-both own new rest more lack.1) where
  go : (b : Bool) → list_any (bytes_eq d.doc_type) (types own) ≡ b → (not b && are_distinct (types own)) ≡ true → (are_distinct (types own) ≡ true → are_distinct (types own ++ types new) ≡ true) → are_distinct (d.doc_type ∷ (types own ++ types new)) ≡ true
  go true is e rest = absurd (cc)
  go false is e rest = rw (any-both (bytes_eq d.doc_type) (types own) (types new) is lack.0) (rest e)

all-lack : (own received all : Store) → AllByRecursion (IsOther own) all → AllByRecursion (λ (x : Document). lacks x.doc_type (filter (is_new own) received)) all
all-lack own received [] are = tt
all-lack own received (x ∷ all) are = (new-lacks own received x are.0, all-lack own received all are.1)

types-both : (one other : Store) → types (one ++ other) ≡ types one ++ types other
types-both [] other = refl
types-both (d ∷ one) other = ap (λ (x : List (List ℕ)). d.doc_type ∷ x) (types-both one other)

types-newest : (received own : Store) → types (map (newest received) own) ≡ types own
types-newest received [] = refl
types-newest received (d ∷ own) = ap (λ (x : List ℕ). x ∷ types (map (newest received) own)) (newest-type received d) ∙ ap (λ (x : List (List ℕ)). d.doc_type ∷ x) (types-newest received own)

distinct-merged : (own received : Store) → are_distinct (types own) ≡ true → are_distinct (types received) ≡ true → are_distinct (types (merged own received)) ≡ true
unfolding merged
distinct-merged own received e more =
    ap are_distinct (types-both (map (newest received) own) (filter (is_new own) received) ∙ ap (λ (x : List (List ℕ)). x ++ types (filter (is_new own) received)) (types-newest received own))
    ∙ distinct-both own (filter (is_new own) received) e (distinct-kept (is_new own) received more) (all-lack own received own (all-other own))

-- ---- the merged store

record IsOwn (d : Document) : Type 0 where
  is : IsDocument d
  same : document_by_namespace d ≡ d

own-each : (documents : Store) → AllByRecursion IsDocument documents → by_namespace documents ≡ documents → AllByRecursion IsOwn documents
own-each [] are same = tt
own-each (d ∷ documents) are same =
    let first : document_by_namespace d ≡ d = cc in
    let rest : by_namespace documents ≡ documents = cc in
    (record { is = are.0; same = first }, own-each documents are.1 rest)

each-is : (documents : Store) → AllByRecursion IsOwn documents → AllByRecursion IsDocument documents
each-is [] all = tt
each-is (d ∷ documents) all = let one = all.0 in (one.is, each-is documents all.1)

each-same : (documents : Store) → AllByRecursion IsOwn documents → by_namespace documents ≡ documents
each-same [] all = refl
each-same (d ∷ documents) all = let one = all.0 in ap (λ (x : Document). x ∷ by_namespace documents) one.same ∙ ap (λ (x : Store). d ∷ x) (each-same documents all.1)

merged-read : (own received : Store) → IsStore own × (by_namespace own ≡ own) → IsStore received × (by_namespace received ≡ received) → length (merged own received) ≤ 16 → store (store_bytes (merged own received)) ≡ Some (merged own received)
merged-read own received first second few =
    let one = first.0 in
    let other = second.0 in
    let all = all-merged IsOwn own received (own-each own one.each first.1) (own-each received other.each second.1) in
    written-read (merged own received) (record { few = few; distinct = distinct-merged own received one.distinct other.distinct; each = each-is (merged own received) all })
    ∙ ap (λ (x : Store). Some x) (each-same (merged own received) all)

spelled : (bytes : List ℕ) → is_some (store bytes) ≡ true → store bytes ≡ Some (documents_of bytes)
spelled bytes is = go (store bytes) is where
  go : (o : Option Store) → is_some o ≡ true → o ≡ Some (unwrap_or o [])
  go (Some documents) e = refl
  go None e = absurd (cc)

pub files-read : (own received : List ℕ) → AreBytes own → AreBytes received → is_some (store own) ≡ true → is_some (store received) ≡ true →
    length (merged_files own received) ≤ 16 → store (store_bytes (merged_files own received)) ≡ Some (merged_files own received)
files-read own received are others is other few =
    merged-read (documents_of own) (documents_of received) (read-again own (documents_of own) are (spelled own is)) (read-again received (documents_of received) others (spelled received other)) few

-- what is answered is read as the merged store
pub answer-read : (documents : Store) (r : Result (List ℕ) MergeFault) → Merges documents r → (length documents ≤ 16 → store (store_bytes documents) ≡ Some documents) → IfOk r (λ bytes. store bytes ≡ Some documents)
answer-read documents (Ok bytes) m read = ap store m.0 ∙ read m.1
answer-read documents (Err (Documents n)) m read = tt
answer-read documents (Err (Bytes n)) m read = tt
answer-read documents (Err Memory) m read = tt
