-- What is chosen can be answered: each of its items is an issuer-signed item, and no element is missing twice.
use Rattle.std.proofs.Common.{◌≡◌, ℕ, ◌<◌, suc, zero, List, [], ◌∷◌, length, map, take, get_or, Bool, true, false, cond, Option, Some, None, Result, Ok, Err, IsOk, refl, subst, arith}
use Rattle.std.specs.Prelude.{◌&&◌, ◌||◌, IfSome, filter, find, is_some, not, option_map}
use Rattle.std.specs.List.{AllByRecursion, cons_option, list_any}
use Rattle.std.specs.Str.{bytes_eq}
use Rattle.mdoc_outside.specs.OptionSteps.{◌>>=◌}
use Rattle.consent.specs.Rules.{approved}
use Rattle.consent.specs.Wish.{Wanted}
use Rattle.consent.specs.declared.rule.Rule.{Rule}
use Rattle.doc_request.specs.Asked.{Document}
use Rattle.doc_request.specs.Draft.{are_distinct, is_same_element}
use Rattle.doc_request.specs.declared.wish_draft.WishDraft.{WishDraft}
use Rattle.doc_response.specs.Draft.{is_element}
use Rattle.doc_store.specs.Held.{held, is_item, is_named}
use Rattle.doc_store.specs.Item.{if_item, item}
use Rattle.doc_store.specs.Store.{Copy}
use Rattle.issuer_items.specs.Item as items
use Rattle.issuer_items.specs.declared.item_fault.ItemFault.{ItemFault}
use Rattle.wallet_model.specs.Released.{ReleasedDocument, ReleasedItem, ShownCopy, choice, choice_of, choice_with, choices, is_refused, item_of, name_of, named, refused, released, selections, shown_copy, wish_for, wishes_of}
use Rattle.wallet_model.specs.Setup.{Setup}
use Rattle.wallet_answer.specs.Documents.{AreFresh, IsIssued}

pub record IsAnswered (choice : ReleasedDocument) : Type 0 where
  pub items : AllByRecursion IsIssued choice.answered.items
  pub missing : AreFresh choice.answered.missing

-- ---- the items

second : (a b : Bool) → a && b ≡ true → b ≡ true
second true b is = is
second false b is = cc

is_read : (name : List ℕ) (found : Option items.Item) → is_named name found ≡ true → is_some found ≡ true
is_read name None is = cc
is_read name (Some read) is = refl

result_is : (r : Result items.Item ItemFault) → is_some (if_item r) ≡ true → IsOk r
result_is (Ok it) is = refl
result_is (Err fault) is = cc

item_is : (raw : List ℕ) → is_some (item raw) ≡ true → IsOk (items.item raw)
unfolding item
item_is raw is = result_is (items.item raw) is

found_issued : (ns name raw : List ℕ) (stored : List (List ℕ × List ℕ))
    → option_map (λ (s : List ℕ × List ℕ). s.1) (find (is_item ns name) stored) ≡ Some raw → IsOk (items.item raw)
found_issued ns name raw [] is = absurd (cc)
found_issued ns name raw (s ∷ stored) is = by (is_item ns name s) refl (found_issued ns name raw stored) is
  where
    by : (test : Bool) → is_item ns name s ≡ test
        → (option_map (λ (x : List ℕ × List ℕ). x.1) (find (is_item ns name) stored) ≡ Some raw → IsOk (items.item raw))
        → option_map (λ (x : List ℕ × List ℕ). x.1) (cond test (Some s) (find (is_item ns name) stored)) ≡ Some raw → IsOk (items.item raw)
    by true test later found =
        let same : s.1 ≡ raw = cc in
        subst (λ (bytes : List ℕ). IsOk (items.item bytes)) same
        (item_is s.1 (is_read name (item s.1) (second (bytes_eq s.0 ns) (is_named name (item s.1)) test)))
    by false test later found = later found

-- an item that a copy holds is an issuer-signed item
held_issued : (copy : Copy) (ns name raw : List ℕ) → held copy ns name ≡ Some raw → IsOk (items.item raw)
held_issued copy ns name raw is = found_issued ns name raw copy.items is

released_issued : (rules : List Rule) (reader : Option (List ℕ)) (copy : Copy) (wishes : List Wanted)
    → AllByRecursion (λ (released : ReleasedItem). IsOk (items.item released.raw)) (released rules reader copy wishes)
released_issued rules reader copy [] = tt
released_issued rules reader copy (wish ∷ wishes) =
    by (approved rules reader wish) (held copy wish.ns wish.name) refl (released_issued rules reader copy wishes)
  where
    by : (allowed : Bool) (found : Option (List ℕ)) → held copy wish.ns wish.name ≡ found
        → AllByRecursion (λ (released : ReleasedItem). IsOk (items.item released.raw)) (released rules reader copy wishes)
        → AllByRecursion (λ (released : ReleasedItem). IsOk (items.item released.raw)) (cons_option (option_map (named wish) (cond allowed found None)) (released rules reader copy wishes))
    by false found is later = later
    by true None is later = later
    by true (Some raw) is later = (held_issued copy wish.ns wish.name raw is, later)

all_issued : (list : List ReleasedItem) → AllByRecursion (λ (released : ReleasedItem). IsOk (items.item released.raw)) list → AllByRecursion IsIssued (map item_of list)
all_issued [] all = tt
all_issued (one ∷ list) all = (all.0, all_issued list all.1)

-- ---- the elements that are missing

-- an element is another one than a later one
abbrev Differs : List ℕ × List ℕ → List ℕ × List ℕ → Type 0
Differs one later = is_element later.0 later.1 one ≡ false

abbrev AreApart : List (List ℕ × List ℕ) → Type 0
AreApart [] = Unit {0}
AreApart (one ∷ others) = AllByRecursion (Differs one) others × AreApart others

differs_at : (one : List ℕ × List ℕ) (others : List (List ℕ × List ℕ)) (i : ℕ) (d : List ℕ × List ℕ)
    → AllByRecursion (Differs one) others → i < length others → Differs one (get_or others i d)
differs_at one [] i d all within = absurd (omega arith)
differs_at one (x ∷ others) zero d all within = all.0
differs_at one (x ∷ others) (suc i) d all within = differs_at one others i d all.1 (omega arith)

neither : (a b : Bool) → a ≡ false → b ≡ false → a || b ≡ false
neither true b one other = one
neither false b one other = other

fresh : (list : List (List ℕ × List ℕ)) → AreApart list → AreFresh list
fresh [] apart i d within = absurd (omega arith)
fresh (one ∷ others) apart zero d within = refl
fresh (one ∷ others) apart (suc i) d within =
    let inside : i < length others = omega (arith, within) in
    neither (is_element (get_or others i d).0 (get_or others i d).1 one) (list_any (is_element (get_or others i d).0 (get_or others i d).1) (take i others))
    (differs_at one others i d apart.0 inside) (fresh others apart.1 i d inside)

either_false : (a b : Bool) → a || b ≡ false → (a ≡ false) × (b ≡ false)
either_false true b is = cc
either_false false b is = (refl, is)

both_true : (a b : Bool) → not a && b ≡ true → (a ≡ false) × (b ≡ true)
both_true true b is = cc
both_true false b is = (refl, is)

module _ (rules : List Rule) (reader : Option (List ℕ)) (copy : Copy) (doc_type : List ℕ) where
  abbrev missing_of : List WishDraft → List (List ℕ × List ℕ)
  missing_of wishes = refused rules reader copy (map (wish_for doc_type) wishes)

  missing_differ : (wish : WishDraft) (wishes : List WishDraft) → list_any (is_same_element wish) wishes ≡ false → AllByRecursion (Differs (wish.ns, wish.name)) (missing_of wishes)
  missing_differ wish [] none = tt
  missing_differ wish (other ∷ wishes) none =
      let each = either_false (is_same_element wish other) (list_any (is_same_element wish) wishes) none in
      by (is_refused rules reader copy (wish_for doc_type other)) each.0 (missing_differ wish wishes each.1)
    where
      by : (test : Bool) → is_same_element wish other ≡ false → AllByRecursion (Differs (wish.ns, wish.name)) (missing_of wishes)
          → AllByRecursion (Differs (wish.ns, wish.name))
          (map name_of (cond test (wish_for doc_type other ∷ filter (is_refused rules reader copy) (map (wish_for doc_type) wishes)) (filter (is_refused rules reader copy) (map (wish_for doc_type) wishes))))
      by true differs later = (differs, later)
      by false differs later = later

  missing_apart : (wishes : List WishDraft) → are_distinct wishes ≡ true → AreApart (missing_of wishes)
  missing_apart [] distinct = tt
  missing_apart (wish ∷ wishes) distinct =
      let each = both_true (list_any (is_same_element wish) wishes) (are_distinct wishes) distinct in
      by (is_refused rules reader copy (wish_for doc_type wish)) (missing_differ wish wishes each.0) (missing_apart wishes each.1)
    where
      by : (test : Bool) → AllByRecursion (Differs (wish.ns, wish.name)) (missing_of wishes) → AreApart (missing_of wishes)
          → AreApart (map name_of (cond test (wish_for doc_type wish ∷ filter (is_refused rules reader copy) (map (wish_for doc_type) wishes)) (filter (is_refused rules reader copy) (map (wish_for doc_type) wishes))))
      by true differs later = (differs, later)
      by false differs later = later

-- ---- what is chosen

with_answered : (doc_type : List ℕ) (shown : ShownCopy) (missing : List (List ℕ × List ℕ)) (list : List ReleasedItem)
    → AreFresh missing → AllByRecursion IsIssued (map item_of list) → IfSome (choice_with doc_type shown missing list) IsAnswered
with_answered doc_type shown missing [] fresh issued = tt
with_answered doc_type shown missing (one ∷ list) fresh issued = record { items = issued; missing = fresh }

choice_answered : (W : Setup) (reader : Option (List ℕ)) (asked : Document) → are_distinct asked.wishes ≡ true → IfSome (choice W reader asked) IsAnswered
choice_answered W reader asked distinct = by (shown_copy W asked.doc_type)
  where
    by : (found : Option ShownCopy) → IfSome (found >>= choice_of W.rules reader asked) IsAnswered
    by None = tt
    by (Some shown) =
        with_answered asked.doc_type shown (refused W.rules reader shown.copy (wishes_of asked)) (released W.rules reader shown.copy (wishes_of asked))
        (fresh (refused W.rules reader shown.copy (wishes_of asked)) (missing_apart W.rules reader shown.copy asked.doc_type asked.wishes distinct))
        (all_issued (released W.rules reader shown.copy (wishes_of asked)) (released_issued W.rules reader shown.copy (wishes_of asked)))

pub all_answered : (W : Setup) (documents : List Document) (readers : List (Option (List ℕ)))
    → AllByRecursion (λ (document : Document). are_distinct document.wishes ≡ true) documents → AllByRecursion IsAnswered (choices (selections W documents readers))
all_answered W [] readers distinct = tt
all_answered W (asked ∷ others) [] distinct = tt
all_answered W (asked ∷ others) (reader ∷ readers) distinct =
    by (choice W reader asked) (choice_answered W reader asked distinct.0) (all_answered W others readers distinct.1)
  where
    by : (found : Option ReleasedDocument) → IfSome found IsAnswered → AllByRecursion IsAnswered (choices (selections W others readers))
        → AllByRecursion IsAnswered (cons_option found (choices (selections W others readers)))
    by None one later = later
    by (Some c) one later = (one, later)
