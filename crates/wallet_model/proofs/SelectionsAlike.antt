-- What two wallets release whose stores agree.
use Rattle.std.proofs.Common.{◌≡◌, inl, inr, ℕ, List, [], ◌∷◌, Bool, true, false, ◌&&◌, cond, map, Option, Some, None, refl, sym, ◌∙◌, ap}
use Rattle.std.specs.Prelude.{filter, is_none, is_some, option_map, unwrap_or}
use Rattle.std.specs.List.{AllByRecursion, cons_option, flat_map, list_all}
use Rattle.std.specs.Bool.{Decides}
use Rattle.std.specs.Str.{bytes_eq}
use Rattle.std.proofs.lemmas.List.Folds.{list_all-append}
use Rattle.std.proofs.lemmas.Slice.Eq.{bytes_eq-Decides}
use Rattle.consent.specs.Rules.{approved}
use Rattle.consent.specs.Wish.{Wanted}
use Rattle.consent.specs.declared.rule.Rule.{Rule}
use Rattle.doc_request.specs.Asked.{Document}
use Rattle.doc_request.specs.declared.wish_draft.WishDraft.{WishDraft}
use Rattle.doc_store.specs.Held.{document_place, held, item_at, place_at}
use Rattle.doc_store.specs.Store.{Copy, Store}
use Rattle.mdoc_outside.specs.OptionSteps.{◌>>=◌}
use Rattle.wallet_model.specs.Agreement.{CopyFrame, HoldAlike, copy_frame, frame}
use Rattle.wallet_model.specs.Answer.{places_of}
use Rattle.wallet_model.specs.Released.{ReleasedDocument, ReleasedItem, Selection, ShownCopy, choice, choice_of, choice_with, choices, is_refused, item_for, item_of, name_of, named, place_in, refused, released, released_for, selection, selections, stored_place, wish_for, wishes_of}
use Rattle.wallet_model.specs.Setup.{Setup, with_store}
use Rattle.wallet_model.specs.declared.released_at.ReleasedAt.{ReleasedAt}
use Rattle.wallet_model.proofs.ReaderNames.{IsReader}
use Rattle.wallet_model.proofs.ShownAlike.{ShowAlike, ShowBoth, show_alike}

-- ---- equal items, as a test

abbrev pub are_same : Option (List ℕ) → Option (List ℕ) → Bool
are_same None None = true
are_same (Some one) (Some other) = bytes_eq one other
are_same one other = false

same_items : (one other : Option (List ℕ)) → are_same one other ≡ true → one ≡ other
same_items None None same = refl
same_items (Some one) (Some other) same = let decided : Decides (bytes_eq one other) (one ≡ other) = bytes_eq-Decides one other in ap Some (decided.0 same)
same_items None (Some other) same = cc
same_items (Some one) None same = cc

pub items_same : (one other : Option (List ℕ)) → one ≡ other → are_same one other ≡ true
items_same None None same = refl
items_same (Some one) (Some other) same = let decided : Decides (bytes_eq one other) (one ≡ other) = bytes_eq-Decides one other in decided.1 cc
items_same None (Some other) same = cc
items_same (Some one) None same = cc

-- whether both stores have the same item at the place of one that was released
abbrev pub is_same_at : Setup → Store → ReleasedAt → Bool
is_same_at W other at = are_same (item_at W.store (stored_place W at)) (item_at other (stored_place W at))

pub both_parts : (a b : Bool) → (a && b) ≡ true → (a ≡ true) × (b ≡ true)
both_parts true b is = (refl, is)
both_parts false b is = cc

-- ---- one wish

-- What a wish is answered with: both hold it or neither does, where it is allowed, and then the same, where it is released.
one_wish : (allowed : Bool) (one other : Option (List ℕ)) → (allowed ≡ true → is_some one ≡ is_some other)
    → (is_some (cond allowed one None) ≡ true → are_same one other ≡ true) → cond allowed other None ≡ cond allowed one None
one_wish false one other alike same = refl
one_wish true None None alike same = refl
one_wish true None (Some other) alike same = let wrong : false ≡ true = alike refl in cc
one_wish true (Some one) other alike same = sym (same_items (Some one) other (same refl))

-- ---- the wishes of a document

-- the two copies, and how they are alike at a wish
record Copies (rules : List Rule) (reader : Option (List ℕ)) (document : ℕ) (doc_type : List ℕ) (one other : Copy) (within : ReleasedAt → Bool) : Type 0 where
  alike : (wish : Wanted) → wish.doc_type ≡ doc_type → approved rules reader wish ≡ true → is_some (held one wish.ns wish.name) ≡ is_some (held other wish.ns wish.name)
  bound : (ns name : List ℕ) → within (record { document = document; ns = ns; name = name }) ≡ are_same (held one ns name) (held other ns name)

abbrev AreSame : List Rule → Option (List ℕ) → Copy → Copy → List Wanted → Type 0
AreSame rules reader one other wishes = AllByRecursion (λ (wish : Wanted). item_for rules reader other wish ≡ item_for rules reader one wish) wishes

abbrev all_places : ℕ → List ReleasedItem → List ReleasedAt
all_places document items = map (place_in document) items

-- an item that is released, or isn't, before others
parted : (within : ReleasedAt → Bool) (document : ℕ) (wish : Wanted) (found : Option (List ℕ)) (more : List ReleasedItem)
    → list_all within (all_places document (cons_option (option_map (named wish) found) more)) ≡ true
    → (is_some found ≡ true → within (record { document = document; ns = wish.ns; name = wish.name }) ≡ true) × (list_all within (all_places document more) ≡ true)
parted within document wish None more fits = (λ wrong. cc, fits)
parted within document wish (Some raw) more fits =
    let both = both_parts (within (record { document = document; ns = wish.ns; name = wish.name })) (list_all within (all_places document more)) fits in
    (λ is. both.0, both.1)

each_wish : (rules : List Rule) (reader : Option (List ℕ)) (document : ℕ) (doc_type : List ℕ) (one other : Copy) (within : ReleasedAt → Bool)
    → Copies rules reader document doc_type one other within → (wishes : List WishDraft)
    → list_all within (all_places document (released rules reader one (map (wish_for doc_type) wishes))) ≡ true
    → AreSame rules reader one other (map (wish_for doc_type) wishes)
each_wish rules reader document doc_type one other within copies [] fits = tt
each_wish rules reader document doc_type one other within copies (draft ∷ wishes) fits =
    let wish : Wanted = wish_for doc_type draft in
    let parts = parted within document wish (item_for rules reader one wish) (released rules reader one (map (wish_for doc_type) wishes)) fits in (
      one_wish (approved rules reader wish) (held one wish.ns wish.name) (held other wish.ns wish.name) (copies.alike wish refl)
          (λ is. sym (copies.bound wish.ns wish.name) ∙ parts.0 is),
      each_wish rules reader document doc_type one other within copies wishes parts.1,
    )

released_same : (rules : List Rule) (reader : Option (List ℕ)) (one other : Copy) (wishes : List Wanted)
    → AreSame rules reader one other wishes → released rules reader other wishes ≡ released rules reader one wishes
released_same rules reader one other [] same = refl
released_same rules reader one other (wish ∷ wishes) same =
    ap (λ (found : Option (List ℕ)). cons_option (option_map (named wish) found) (released rules reader other wishes)) same.0
    ∙ ap (λ (items : List ReleasedItem). cons_option (released_for rules reader one wish) items) (released_same rules reader one other wishes same.1)

filter_same : (rules : List Rule) (reader : Option (List ℕ)) (one other : Copy) (wishes : List Wanted)
    → AreSame rules reader one other wishes → filter (is_refused rules reader other) wishes ≡ filter (is_refused rules reader one) wishes
filter_same rules reader one other [] same = refl
filter_same rules reader one other (wish ∷ wishes) same =
    ap (λ (found : Option (List ℕ)). cond (is_none found) (wish ∷ filter (is_refused rules reader other) wishes) (filter (is_refused rules reader other) wishes)) same.0
    ∙ ap (λ (others : List Wanted). cond (is_refused rules reader one wish) (wish ∷ others) others) (filter_same rules reader one other wishes same.1)

-- ---- a document

abbrev places_in : Option ReleasedDocument → List ReleasedAt
places_in None = []
places_in (Some choice) = choice.places

-- the places of what is released are those of the items
places_with : (doc_type : List ℕ) (shown : ShownCopy) (missing : List (List ℕ × List ℕ)) (items : List ReleasedItem)
    → places_in (choice_with doc_type shown missing items) ≡ all_places shown.document items
places_with doc_type shown missing [] = refl
places_with doc_type shown missing (item ∷ items) = refl

-- what is chosen of two copies that are alike but for their items, with equal items released and equal names missing
abbrev choice_parts : List ℕ → ℕ → Bool → CopyFrame → List (List ℕ × List ℕ) → List ReleasedItem → Option ReleasedDocument
choice_parts doc_type document uses_mac copy missing [] = None
choice_parts doc_type document uses_mac copy missing (item ∷ items) = Some (record {
  key = copy.key;
  uses_mac = uses_mac;
  issuer_auth = copy.issuer_auth;
  answered = record { doc_type = doc_type; items = map item_of (item ∷ items); missing = missing };
  places = map (place_in document) (item ∷ items);
})

in_parts : (doc_type : List ℕ) (shown : ShownCopy) (missing : List (List ℕ × List ℕ)) (items : List ReleasedItem)
    → choice_with doc_type shown missing items ≡ choice_parts doc_type shown.document shown.uses_mac (copy_frame shown.copy) missing items
in_parts doc_type shown missing [] = refl
in_parts doc_type shown missing (item ∷ items) = refl

-- that both stores hold alike what may be released to a reader, and are equal at the places released
pub record Agreeing (W : Setup) (other : Store) : Type 0 where
  pub frames : map frame W.store ≡ map frame other
  pub alike : HoldAlike W.store other W.rules W.readers

copies_of : (W : Setup) (other : Store) (doc_type : List ℕ) (reader : Option (List ℕ)) → Agreeing W other → IsReader W.readers reader
    → (both : ShowBoth W other doc_type)
    → Copies W.rules reader both.first.document doc_type both.first.copy both.second.copy (is_same_at W other)
copies_of W other doc_type reader agree is both = record {
  alike = λ wish of_type is_allowed.
      sym (ap (λ (o : Option (List ℕ)). is_some o) (both.held_first wish.ns wish.name))
      ∙ agree.alike wish reader both.first.document both.place (ap (λ (text : List ℕ). document_place W.store text) of_type ∙ both.is_place) is is_allowed
      ∙ ap (λ (o : Option (List ℕ)). is_some o) (both.held_second wish.ns wish.name);
  bound = λ ns name.
      ap (λ (copy : Option ℕ). are_same (item_at W.store (place_at both.first.document (unwrap_or copy 0) ns name)) (item_at other (place_at both.first.document (unwrap_or copy 0) ns name))) both.is_choice
      ∙ ap (λ (one : Option (List ℕ)). are_same one (item_at other (place_at both.first.document both.place ns name))) (both.held_first ns name)
      ∙ ap (λ (two : Option (List ℕ)). are_same (held both.first.copy ns name) two) (both.held_second ns name);
}

choice_same : (W : Setup) (other : Store) (reader : Option (List ℕ)) (asked : Document) → Agreeing W other → IsReader W.readers reader
    → list_all (is_same_at W other) (places_in (choice W reader asked)) ≡ true
    → ShowAlike W other asked.doc_type → choice (with_store W other) reader asked ≡ choice W reader asked
choice_same W other reader asked agree is fits (inl neither) =
    ap (λ (o : Option ShownCopy). o >>= choice_of W.rules reader asked) neither.is_second
    ∙ sym (ap (λ (o : Option ShownCopy). o >>= choice_of W.rules reader asked) neither.is_first)
choice_same W other reader asked agree is fits (inr both) =
    let copies = copies_of W other asked.doc_type reader agree is both in
    let within : list_all (is_same_at W other) (all_places both.first.document (released W.rules reader both.first.copy (wishes_of asked))) ≡ true =
    ap (list_all (is_same_at W other)) (sym (places_with asked.doc_type both.first (refused W.rules reader both.first.copy (wishes_of asked)) (released W.rules reader both.first.copy (wishes_of asked))))
    ∙ ap (λ (o : Option ShownCopy). list_all (is_same_at W other) (places_in (o >>= choice_of W.rules reader asked))) (sym both.is_first)
    ∙ fits in
    let same = each_wish W.rules reader both.first.document asked.doc_type both.first.copy both.second.copy (is_same_at W other) copies asked.wishes within in
    ap (λ (o : Option ShownCopy). o >>= choice_of W.rules reader asked) both.is_second
    ∙ in_parts asked.doc_type both.second _ _
    ∙ ap (λ (document : ℕ). choice_parts asked.doc_type document both.second.uses_mac (copy_frame both.second.copy) (refused W.rules reader both.second.copy (wishes_of asked)) (released W.rules reader both.second.copy (wishes_of asked))) both.same_document
    ∙ ap (λ (uses_mac : Bool). choice_parts asked.doc_type both.first.document uses_mac (copy_frame both.second.copy) (refused W.rules reader both.second.copy (wishes_of asked)) (released W.rules reader both.second.copy (wishes_of asked))) both.same_mac
    ∙ ap (λ (copy : CopyFrame). choice_parts asked.doc_type both.first.document both.first.uses_mac copy (refused W.rules reader both.second.copy (wishes_of asked)) (released W.rules reader both.second.copy (wishes_of asked))) both.same_copy
    ∙ ap (λ (wishes : List Wanted). choice_parts asked.doc_type both.first.document both.first.uses_mac (copy_frame both.first.copy) (map name_of wishes) (released W.rules reader both.second.copy (wishes_of asked)))
    (filter_same W.rules reader both.first.copy both.second.copy (wishes_of asked) same)
    ∙ ap (λ (items : List ReleasedItem). choice_parts asked.doc_type both.first.document both.first.uses_mac (copy_frame both.first.copy) (refused W.rules reader both.first.copy (wishes_of asked)) items)
    (released_same W.rules reader both.first.copy both.second.copy (wishes_of asked) same)
    ∙ sym (in_parts asked.doc_type both.first _ _)
    ∙ sym (ap (λ (o : Option ShownCopy). o >>= choice_of W.rules reader asked) both.is_first)

-- ---- all documents

-- the places of a selection before those of others
first_places : (s : Selection) (list : List Selection) (within : ReleasedAt → Bool) → list_all within (places_of (s ∷ list)) ≡ true
    → (list_all within (places_in s.choice) ≡ true) × (list_all within (places_of list) ≡ true)
first_places s list within fits = go s.choice fits
  where
    go : (found : Option ReleasedDocument) → list_all within (flat_map (λ (c : ReleasedDocument). c.places) (cons_option found (choices list))) ≡ true
        → (list_all within (places_in found) ≡ true) × (list_all within (places_of list) ≡ true)
    go None is = (refl, is)
    go (Some found) is = both_parts _ _ (sym (list_all-append within found.places (places_of list)) ∙ is)

pub selections_same : (W : Setup) (other : Store) (documents : List Document) (readers : List (Option (List ℕ)))
    → Agreeing W other → AllByRecursion (IsReader W.readers) readers → list_all (is_same_at W other) (places_of (selections W documents readers)) ≡ true
    → selections (with_store W other) documents readers ≡ selections W documents readers
selections_same W other [] readers agree are fits = refl
selections_same W other (asked ∷ documents) [] agree are fits = refl
selections_same W other (asked ∷ documents) (reader ∷ readers) agree are fits =
    let parts = first_places (selection W asked reader) (selections W documents readers) (is_same_at W other) fits in
    ap (λ (found : Option ReleasedDocument). record { doc_type = asked.doc_type; choice = found } ∷ selections (with_store W other) documents readers)
    (choice_same W other reader asked agree are.0 parts.0 (show_alike W other asked.doc_type agree.frames))
    ∙ ap (λ (list : List Selection). selection W asked reader ∷ list) (selections_same W other documents readers agree are.1 parts.1)
