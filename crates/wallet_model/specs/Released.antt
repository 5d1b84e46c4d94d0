-- What a wallet releases of the documents that are asked for (ISO/IEC 18013-5, 8.3.2.1.2.2): the items of those wishes
-- that the holder's rules allow and that the copy to show holds.
use Rattle.std.specs.Prelude.{ℕ, List, [], ◌∷◌, map, filter, filter_map, Bool, Option, Some, None, is_none, option_map, slice_get, unwrap_or, if◌then◌else◌}
use Rattle.mdoc_outside.specs.OptionSteps.{◌>>=◌}
use Rattle.consent.specs.Rules.{approved}
use Rattle.consent.specs.Wish.{Wanted}
use Rattle.consent.specs.declared.rule.Rule.{Rule}
use Rattle.doc_request.specs.Asked.{Document}
use Rattle.doc_request.specs.declared.wish_draft.WishDraft.{WishDraft}
use Rattle.doc_response.specs.Answered.{Answered}
use Rattle.doc_store.specs.Held.{Place, document_place, held, place_at}
use Rattle.doc_store.specs.Store.{Copy}
use Rattle.wallet_model.specs.declared.released_at.ReleasedAt.{ReleasedAt}
use Rattle.wallet_model.specs.Setup.{Setup}

-- The copy of a document type that is shown: the place of its document in the store, whether that is authenticated by a
-- MAC, and the copy.
pub record ShownCopy : Type 0 where
  pub document : ℕ
  pub uses_mac : Bool
  pub copy : Copy

abbrev pub shown_copy : Setup → List ℕ → Option ShownCopy
shown_copy W doc_type = do
  at ← document_place W.store doc_type
  document ← slice_get W.store at
  place ← slice_get W.choice at
  copy ← slice_get document.copies place
  Some (record { document = at; uses_mac = document.uses_mac; copy = copy })

-- the wishes of a document that is asked for, in the order asked
abbrev pub wish_for : List ℕ → WishDraft → Wanted
wish_for doc_type wish = record { doc_type = doc_type; ns = wish.ns; name = wish.name; retain = wish.retain }

abbrev pub wishes_of : Document → List Wanted
wishes_of asked = map (wish_for asked.doc_type) asked.wishes

-- the item of a wish, where the rules allow it to the reader and the copy holds it
abbrev pub item_for : List Rule → Option (List ℕ) → Copy → Wanted → Option (List ℕ)
item_for rules reader copy wish = if approved rules reader wish then held copy wish.ns wish.name else None

-- An item that is released, as it is stored, with its namespace and its name.
pub record ReleasedItem : Type 0 where
  pub ns : List ℕ
  pub name : List ℕ
  pub raw : List ℕ

abbrev pub named : Wanted → List ℕ → ReleasedItem
named wish raw = record { ns = wish.ns; name = wish.name; raw = raw }

abbrev pub released_for : List Rule → Option (List ℕ) → Copy → Wanted → Option ReleasedItem
released_for rules reader copy wish = option_map (named wish) (item_for rules reader copy wish)

-- The released items, in the order asked.
abbrev pub released : List Rule → Option (List ℕ) → Copy → List Wanted → List ReleasedItem
released rules reader copy wishes = filter_map (released_for rules reader copy) wishes

-- The names of the others. Whether a wish is denied or its element isn't held makes no difference.
abbrev pub is_refused : List Rule → Option (List ℕ) → Copy → Wanted → Bool
is_refused rules reader copy wish = is_none (item_for rules reader copy wish)

abbrev pub name_of : Wanted → List ℕ × List ℕ
name_of wish = (wish.ns, wish.name)

abbrev pub refused : List Rule → Option (List ℕ) → Copy → List Wanted → List (List ℕ × List ℕ)
refused rules reader copy wishes = map name_of (filter (is_refused rules reader copy) wishes)

-- A document of which something is released: the number of its device key, how it is authenticated, the issuer's signature
-- as it is stored, what is answered, and the places of the released items.
pub record ReleasedDocument : Type 0 where
  pub key : ℕ
  pub uses_mac : Bool
  pub issuer_auth : List ℕ
  pub answered : Answered
  pub places : List ReleasedAt

abbrev pub item_of : ReleasedItem → List ℕ × List ℕ
item_of item = (item.ns, item.raw)

abbrev pub place_in : ℕ → ReleasedItem → ReleasedAt
place_in document item = record { document = document; ns = item.ns; name = item.name }

abbrev pub choice_with : List ℕ → ShownCopy → List (List ℕ × List ℕ) → List ReleasedItem → Option ReleasedDocument
choice_with doc_type shown missing [] = None
choice_with doc_type shown missing (item ∷ items) = Some (record {
  key = shown.copy.key;
  uses_mac = shown.uses_mac;
  issuer_auth = shown.copy.issuer_auth;
  answered = record { doc_type = doc_type; items = map item_of (item ∷ items); missing = missing };
  places = map (place_in shown.document) (item ∷ items);
})

abbrev pub choice_of : List Rule → Option (List ℕ) → Document → ShownCopy → Option ReleasedDocument
choice_of rules reader asked shown =
    choice_with asked.doc_type shown (refused rules reader shown.copy (wishes_of asked)) (released rules reader shown.copy (wishes_of asked))

abbrev pub choice : Setup → Option (List ℕ) → Document → Option ReleasedDocument
choice W reader asked = shown_copy W asked.doc_type >>= choice_of W.rules reader asked

-- Each document that is asked for, by who asks for it: what is released of it, if something is.
pub record Selection : Type 0 where
  pub doc_type : List ℕ
  pub choice : Option ReleasedDocument

abbrev pub selection : Setup → Document → Option (List ℕ) → Selection
selection W asked reader = record { doc_type = asked.doc_type; choice = choice W reader asked }

abbrev pub selections : Setup → List Document → List (Option (List ℕ)) → List Selection
selections W (asked ∷ others) (reader ∷ readers) = selection W asked reader ∷ selections W others readers
selections W others readers = []

-- the documents of which something is released, and the types of those of which nothing is
abbrev pub choices : List Selection → List ReleasedDocument
choices list = filter_map (λ (s : Selection). s.choice) list

abbrev pub types_of_nothing : List Selection → List (List ℕ)
types_of_nothing list = map (λ (s : Selection). s.doc_type) (filter (λ (s : Selection). is_none s.choice) list)

-- the place, in the store, of an item that was released: of its document the copy that is shown
abbrev pub stored_place : Setup → ReleasedAt → Place
stored_place W at = place_at at.document (unwrap_or (slice_get W.choice at.document) 0) at.ns at.name
