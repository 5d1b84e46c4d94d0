-- What the calls put together has a spelling.
use Rattle.std.proofs.Common.{◌≡◌, ◌≤◌, ◌==◌, ℕ, Bool, true, false, if◌then◌else◌, List, [], ◌∷◌, ◌++◌, Option, Some, None, Result, Ok, Err, IsOk, refl, sym, ap, ◌∙◌, arith}
use Rattle.std.specs.Prelude.{option_and_then}
use Rattle.std.specs.List.{AllByRecursion}
use Rattle.std.proofs.lemmas.List.{append-nil}
use Rattle.mdoc_outside.specs.ResultSteps.{◌>>=◌}
use Rattle.cbor_view.specs.declared.cbor_fault.CborFault.{CborFault}
use Rattle.cbor_view.specs.Parts.{Part, bytes_in, part_of, tag_in, under}
use Rattle.cbor_view.specs.PartialSpelling.{IsMadeOf}
use Rattle.cbor_view.specs.Reading.{reads, tree_of, tree_or_null}
use Rattle.cbor_view.specs.Spelling.{AreBytes}
use Rattle.cbor_view.specs.Tree.{Tree, Array, Bytes, Float, Map, Negative, Simple, Tag, Text, Unsigned, bytes_of, levels}
use Rattle.cbor_view.proofs.PartsInRow.{tag-made}
use Rattle.cbor_view.proofs.Splitting.{is-read}
use Rattle.cbor_view.proofs.WholeReading.{reads-spells, spells-reads}
use Rattle.cbor_maps.specs.Reading.{encoded_in, tagged_string}
use Rattle.cbor_maps.specs.WrittenReads.{SpellsItem}
use Rattle.cbor_maps.proofs.Within.{given}
use Rattle.issuer_items.specs.declared.item_fault.ItemFault.TheVariants.{NotTagged}
use Rattle.issuer_items.specs.Item.{item}
use Rattle.doc_response.specs.Answered.{Answered}
use Rattle.doc_response.specs.Draft.{Document, and_item, and_missing, last_changed}
use Rattle.response_laws.specs.Calls.{DocumentKeeps, IsIssuerAuth, IsRead, ItemKeeps, MissingKeeps, NothingKeeps}
use Rattle.response_laws.specs.Writable.{IsDocument}

-- ---- the issuer's signature

issuer-item : (bytes : List ℕ) → IsIssuerAuth bytes → SpellsItem 28 bytes
issuer-item bytes is = record {
  item = tree_of bytes;
  spells = reads-spells bytes (tree_of bytes) (record { each = is.are_bytes }) (is-read bytes is.item);
  nesting = is.nesting;
}

-- ---- an issuer-signed item, which is a string of bytes under a tag

no-levels : (t : Tree) (b : List ℕ) → bytes_of t ≡ Some b → levels t ≤ 0
no-levels (Bytes own) b is = omega arith
no-levels (Unsigned n) b is = absurd cc
no-levels (Negative n) b is = absurd cc
no-levels (Text text) b is = absurd cc
no-levels (Array ts) b is = absurd cc
no-levels (Map ps) b is = absurd cc
no-levels (Tag n t) b is = absurd cc
no-levels (Simple n) b is = absurd cc
no-levels (Float width n) b is = absurd cc

-- the string under its tag
record HasString (p : Part) (b : List ℕ) : Type 0 where
  number : ℕ
  inner : Part
  tag : tag_in p ≡ Some (number, inner)
  string : bytes_in inner ≡ Some b

has-string : (p : Part) (b : List ℕ) → encoded_in p ≡ Some b → HasString p b
has-string p b is = go (tag_in p) refl is where
  choose : (m : ℕ) (q : Part) → tag_in p ≡ Some (m, q) → (t : Bool) → option_and_then bytes_in (if t then Some q else None) ≡ Some b → HasString p b
  choose m q tag true is = record { number = m; inner = q; tag = tag; string = is }
  choose m q tag false is = absurd cc

  go : (o : Option (ℕ × Part)) → tag_in p ≡ o → option_and_then bytes_in (option_and_then (under 24) o) ≡ Some b → HasString p b
  go None tag is = absurd cc
  go (Some (m, q)) tag is = choose m q tag (m == 24) is

tree-is : (bytes : List ℕ) (t : Tree) → reads bytes ≡ Ok t → tree_of bytes ≡ t
unfolding tree_of
tree-is bytes t is = ap tree_or_null is

made-item : (raw : List ℕ) (n : ℕ) (q : Part) (b : List ℕ) → IsMadeOf 6 n (q ∷ []) (record { at = 0; bytes = raw }) → bytes_in q ≡ Some b → SpellsItem 25 raw
made-item raw n q b made is =
    let first = made.row.first in
    let nesting = first.nesting in
    let inner = spells-reads q.bytes first.tree (record { spelled = first.spelled; nesting = omega arith }) in
    let flat = no-levels first.tree b (ap bytes_of (sym (tree-is q.bytes first.tree inner)) ∙ is) in
    let nothing : made.row.mid.bytes ≡ [] = ap (λ (p : Part). p.bytes) (sym made.row.others) ∙ made.next in
    record {
      item = Tag n first.tree;
      spells = record {
        spelled = record {
          front = made.head;
          rest = q.bytes;
          first = made.spelled;
          second = first.spelled;
          whole = made.bytes ∙ ap (λ (x : List ℕ). made.head ++ x) (first.bytes ∙ ap (λ (x : List ℕ). q.bytes ++ x) nothing ∙ append-nil q.bytes);
        };
        nesting = omega arith;
      };
      nesting = omega arith;
    }

string-item : (raw b : List ℕ) → AreBytes raw → (r : Result Tree CborFault) → reads raw ≡ r → tagged_string NotTagged (part_of raw r) ≡ Ok b → SpellsItem 25 raw
string-item raw b are (Err fault) read is = absurd cc
string-item raw b are (Ok t) read is =
    let whole : Part = record { at = 0; bytes = raw } in
    let spells = reads-spells raw t (record { each = are }) read in
    let has = has-string whole b (given _ (encoded_in whole) b is) in
    made-item raw has.number has.inner b (tag-made t whole has.inner has.number spells.spelled spells.nesting has.tag) has.string

first-ok : {A B E : Type 0} (r : Result A E) (next : A → Result B E) → IsOk (r >>= next) → (value : A) × (r ≡ Ok value)
first-ok (Ok value) next ok = (value, refl)
first-ok (Err fault) next ok = absurd cc

raw-item : (raw : List ℕ) → IsRead raw → SpellsItem 25 raw
unfolding item
raw-item raw is =
    let string = first-ok (tagged_string NotTagged (part_of raw (reads raw))) _ is.item in
    string-item raw string.0 is.are_bytes (reads raw) refl string.1

-- ---- the last document

last-keeps : (change : Answered → Answered) → ((d : Document) → IsDocument d → IsDocument (record { answered = change d.answered; issuer_auth = d.issuer_auth; auth = d.auth })) →
    (documents : List Document) → AllByRecursion IsDocument documents → AllByRecursion IsDocument (last_changed change documents)
last-keeps change keeps [] all = tt
last-keeps change keeps (d ∷ []) all = (keeps d all.0, tt)
last-keeps change keeps (d ∷ (e ∷ documents)) all = (all.0, last-keeps change keeps (e ∷ documents) all.1)

all-more : {A : Type 0} (P : A → Type 0) (xs : List A) (x : A) → AllByRecursion P xs → P x → AllByRecursion P (xs ++ x ∷ [])
all-more P [] x all is = (is, tt)
all-more P (y ∷ xs) x all is = (all.0, all-more P xs x all.1 is)

pub document-keeps : DocumentKeeps
document-keeps draft doc_type issuer_auth auth is text signed shown = record {
  documents = all-more IsDocument draft.documents (record { answered = record { doc_type = doc_type; items = []; missing = [] }; issuer_auth = issuer_auth; auth = auth }) is.documents
      (record { doc_type = text; items = tt; missing = tt; issuer_auth = issuer-item issuer_auth signed; auth = shown });
  nothing = is.nothing;
}

pub item-keeps : ItemKeeps
item-keeps draft ns raw is text read = record {
  documents = last-keeps (and_item ns raw) (λ (d : Document) (own : IsDocument d). record {
    doc_type = own.doc_type;
    items = all-more _ d.answered.items (ns, raw) own.items (text, raw-item raw read);
    missing = own.missing;
    issuer_auth = own.issuer_auth;
    auth = own.auth;
  }) draft.documents is.documents;
  nothing = is.nothing;
}

pub missing-keeps : MissingKeeps
missing-keeps draft ns name is text other = record {
  documents = last-keeps (and_missing ns name) (λ (d : Document) (own : IsDocument d). record {
    doc_type = own.doc_type;
    items = own.items;
    missing = all-more _ d.answered.missing (ns, name) own.missing (text, other);
    issuer_auth = own.issuer_auth;
    auth = own.auth;
  }) draft.documents is.documents;
  nothing = is.nothing;
}

pub nothing-keeps : NothingKeeps
nothing-keeps draft doc_type is text = record {
  documents = is.documents;
  nothing = all-more _ draft.nothing doc_type is.nothing text;
}
