-- What is read of a map is a part of it.
use Rattle.std.proofs.Common.{◌≡◌, ℕ, List, [], ◌∷◌, ◌++◌, ◌==◌, if◌then◌else◌, Bool, true, false, Option, Some, None, Result, Ok, Err, refl, sym, ap, ◌∙◌, subst, option_map, option_and_then}
use Rattle.std.proofs.lemmas.List.{append_assoc, append-nil}
use Rattle.mdoc_outside.specs.declared.key_name.KeyName.{KeyName}
use Rattle.mdoc_outside.specs.KeyName.{key_text}
use Rattle.mdoc_outside.specs.ResultSteps.{◌>>=◌, or_fault}
use Rattle.cbor_view.specs.declared.doubled.Doubled as views
use Rattle.cbor_view.specs.Label.{Words}
use Rattle.cbor_view.specs.Opening.{EndsWith}
use Rattle.cbor_view.specs.Parts.{Part, AllLieIn, LiesIn, bytes_in, text_in, items_in, pairs_in, tag_in, tagged, under}
use Rattle.cbor_view.proofs.Contents.{entry-lies, items-lie, tagged-lies, bytes-end, text-end}
use Rattle.cbor_view.proofs.Places.{within-within}
use Rattle.cbor_maps.specs.Reading.{entry, needed, of_kind, field, map_in, encoded_in}
use Rattle.cbor_maps.specs.Contents.{IsPart}

pub part-within : (a b c : List ℕ) → IsPart a b → IsPart b c → IsPart a c
part-within a b c f g = record {
  before = f.before ++ g.before;
  after = g.after ++ f.after;
  whole = f.whole ∙ ap (λ (x : List ℕ). f.before ++ (x ++ f.after)) g.whole
      ∙ ap (λ (x : List ℕ). f.before ++ x) (append_assoc g.before (c ++ g.after) f.after ∙ ap (λ (x : List ℕ). g.before ++ x) (append_assoc c g.after f.after))
      ∙ sym (append_assoc f.before g.before (c ++ (g.after ++ f.after)));
}

pub lies-part : (p q : Part) → LiesIn p q → IsPart p.bytes q.bytes
lies-part p q l = record { before = l.before; after = l.after; whole = l.whole }

pub ends-part : (all bytes : List ℕ) → EndsWith all bytes → IsPart all bytes
ends-part all bytes e = record { before = e.front; after = []; whole = e.whole ∙ ap (λ (x : List ℕ). e.front ++ x) (sym (append-nil bytes)) }

-- ---- what is under a name

pub under-lies : (map p : Part) (name : KeyName) → entry map name ≡ Ok (Some p) → LiesIn map p
unfolding entry
under-lies map p name e = entry-lies map p (Words (key_text name)) e

-- a field that was read is a value of its kind under the name
pub record IsField {A : Type 0} (name : KeyName) (kind : Part → Option A) (map : Part) (value : A) : Type 0 where
  pub item : Part
  pub under : entry map name ≡ Ok (Some item)
  pub is : kind item ≡ Some value

pub field-read : {A : Type 0} (name : KeyName) (kind : Part → Option A) (map : Part) (value : A) → field name kind map ≡ Ok value → IsField name kind map value
field-read {A} name kind map value e = go (entry map name) refl e where
  by_kind : (p : Part) → entry map name ≡ Ok (Some p) → (o : Option A) → kind p ≡ o → of_kind name o ≡ Ok value → IsField name kind map value
  by_kind p under None is e = absurd (cc)
  by_kind p under (Some v) is e = record { item = p; under = under; is = is ∙ (cc) }

  go : (r : Result (Option Part) views.Doubled) → entry map name ≡ r → needed name kind r ≡ Ok value → IsField name kind map value
  go (Err twice) under e = absurd (cc)
  go (Ok None) under e = absurd (cc)
  go (Ok (Some p)) under e = by_kind p under (kind p) refl e

in-value : (map p : Part) (name : KeyName) (b : List ℕ) → entry map name ≡ Ok (Some p) → IsPart p.bytes b → IsPart map.bytes b
in-value map p name b under part = part-within map.bytes p.bytes b (lies-part map p (under-lies map p name under)) part

pub bytes-under : (map p : Part) (name : KeyName) (b : List ℕ) → entry map name ≡ Ok (Some p) → bytes_in p ≡ Some b → IsPart map.bytes b
bytes-under map p name b under is = in-value map p name b under (ends-part p.bytes b (bytes-end p b is))

pub text-under : (map p : Part) (name : KeyName) (b : List ℕ) → entry map name ≡ Ok (Some p) → text_in p ≡ Some b → IsPart map.bytes b
text-under map p name b under is = in-value map p name b under (ends-part p.bytes b (text-end p b is))

pub items-under : (map p : Part) (name : KeyName) (parts : List Part) → entry map name ≡ Ok (Some p) → items_in p ≡ Some parts → AllLieIn map parts
items-under map p name parts under is = go parts (items-lie p parts is) where
  go : (ps : List Part) → AllLieIn p ps → AllLieIn map ps
  go [] lie = tt
  go (q ∷ qs) lie = (within-within map p q (under-lies map p name under) lie.0, go qs lie.1)

pub map-under : (map p q : Part) (name : KeyName) → entry map name ≡ Ok (Some p) → map_in p ≡ Some q → LiesIn map q
map-under map p q name under is = go (pairs_in p) is where
  go : (o : Option (List (Part × Part))) → option_map (λ entries. p) o ≡ Some q → LiesIn map q
  go None e = absurd (cc)
  go (Some entries) e = let same : p ≡ q = cc in subst (LiesIn map) same (under-lies map p name under)

pub tagged-part : (n : ℕ) (p : Part) (b : List ℕ) → option_and_then bytes_in (tagged n p) ≡ Some b → IsPart p.bytes b
tagged-part n p b is = go (tag_in p) refl is where
  choose : (m : ℕ) (q : Part) → tag_in p ≡ Some (m, q) → (t : Bool) → option_and_then bytes_in (if t then Some q else None) ≡ Some b → IsPart p.bytes b
  choose m q tag true e = part-within p.bytes q.bytes b (lies-part p q (tagged-lies p q m tag)) (ends-part q.bytes b (bytes-end q b e))
  choose m q tag false e = absurd (cc)

  go : (o : Option (ℕ × Part)) → tag_in p ≡ o → option_and_then bytes_in (option_and_then (under n) o) ≡ Some b → IsPart p.bytes b
  go None tag e = absurd (cc)
  go (Some (m, q)) tag e = choose m q tag (m == n) e

pub encoded-under : (map p : Part) (name : KeyName) (b : List ℕ) → entry map name ≡ Ok (Some p) → encoded_in p ≡ Some b → IsPart map.bytes b
encoded-under map p name b under is = in-value map p name b under (tagged-part 24 p b is)

-- ---- steps that succeed

-- a step that gave a value, and what came after it
pub record Step {A B E : Type 0} (r : Result A E) (next : A → Result B E) (y : B) : Type 0 where
  pub value : A
  pub is : r ≡ Ok value
  pub after : next value ≡ Ok y

pub step : {A B E : Type 0} (r : Result A E) (next : A → Result B E) (y : B) → (r >>= next) ≡ Ok y → Step r next y
step (Ok x) next y e = record { value = x; is = refl; after = e }
step (Err d) next y e = absurd (cc)

pub given : {A E : Type 0} (fault : E) (o : Option A) (x : A) → or_fault fault o ≡ Ok x → o ≡ Some x
given fault None x e = absurd (cc)
given fault (Some y) x e = cc
