-- What a spec's element gives to its item.
use Rattle.std.proofs.Common.{◌≡◌, refl, ap, Bool, true, false, ◌&&◌, ◌≤◌, ℕ, List, Result, Ok, Err}
use Rattle.std.specs.Prelude.{IsUtf8}
use Rattle.std.proofs.lemmas.Bool.{leb-true}
use Rattle.cbor_view.specs.Parts.{Part, cbor}
use Rattle.cbor_view.specs.Reading.{reads}
use Rattle.cbor_view.specs.Tree.{Tree, levels}
use Rattle.cbor_view.specs.declared.cbor_fault.CborFault.{CborFault}
use Rattle.issue_spec.proofs.SpecForms.{name_is_text}
use Rattle.issue_spec.specs.SpecFacts.{is_element}
use Rattle.issue_spec.specs.SpecValue.{is_shallow, is_value}
use Rattle.issue_spec.specs.declared.spec_element.SpecElement.{SpecElement}
use Rattle.mdoc_outside.specs.WordForm.{is_name, is_word}
use Rattle.std.specs.Prelude.{length, nat_le}

both : (a b : Bool) → (a && b) ≡ true → (a ≡ true) × (b ≡ true)
both true b h = (refl, h)
both false b h = absurd cc

pub record Checked (e : SpecElement) : Type 0 where
  pub ns : is_name e.ns ≡ true
  pub name : is_name e.name ≡ true
  pub value : is_value e.value ≡ true

pub checked : (e : SpecElement) → is_element e ≡ true → Checked e
checked e is =
    let names = both (is_name e.ns && is_name e.name) (is_value e.value) is in
    let each = both (is_name e.ns) (is_name e.name) names.0 in
    record { ns = each.0; name = each.1; value = names.1 }

pub ns_text : (e : SpecElement) → is_element e ≡ true → IsUtf8 e.ns
ns_text e is = let c : Checked e = checked e is in name_is_text e.ns c.ns

pub name_text : (e : SpecElement) → is_element e ≡ true → IsUtf8 e.name
name_text e is = let c : Checked e = checked e is in name_is_text e.name c.name

pub name_short : (name : List ℕ) → is_name name ≡ true → length name ≤ 128
name_short name is = leb-true (length name) 128 (both (is_word name) (nat_le (length name) 128) is).1

shallow : (r : Result Tree CborFault) (item : Tree) → r ≡ Ok item → is_shallow r ≡ true → levels item ≤ 31
shallow (Ok other) item is h = let e : other ≡ item = cc in rw (← e) (leb-true (levels other) 31 h)
shallow (Err fault) item is h = absurd cc

pub value_nesting : (e : SpecElement) (item : Tree) → is_element e ≡ true → reads e.value ≡ Ok item → levels item ≤ 31
value_nesting e item is read = let c : Checked e = checked e is in shallow (reads e.value) item read c.value

unread : (r : Result Tree CborFault) (fault : CborFault) → r ≡ Err fault → is_shallow r ≡ true → ⊥
unread (Ok item) fault is h = cc
unread (Err other) fault is h = cc

pub value_is_read : (e : SpecElement) (fault : CborFault) → is_element e ≡ true → reads e.value ≡ Err fault → ⊥
value_is_read e fault is read = let c : Checked e = checked e is in unread (reads e.value) fault read c.value

pub record Read (value : List ℕ) : Type 0 where
  pub item : Tree
  pub is_read : reads value ≡ Ok item
  pub nesting : levels item ≤ 31

read_by : (value : List ℕ) (r : Result Tree CborFault) → reads value ≡ r → is_shallow r ≡ true → Read value
read_by value (Ok item) is h = record { item = item; is_read = is; nesting = leb-true (levels item) 31 h }
read_by value (Err fault) is h = absurd cc

pub value_read : (e : SpecElement) → is_element e ≡ true → Read e.value
value_read e is = let c : Checked e = checked e is in read_by e.value (reads e.value) refl c.value

abbrev read_as : Part → Result Part CborFault
read_as p = Ok p

abbrev refused : CborFault → Result Part CborFault
refused fault = Err fault

part_by : (value : List ℕ) (r : Result Tree CborFault) (p : Part) → reads value ≡ r → cbor value ≡ Ok p → p.bytes ≡ value
part_by value (Ok item) p is read =
    let e : read_as (record { at = 0; bytes = value }) ≡ read_as p = rw is at read in
    let same : p ≡ record { at = 0; bytes = value } = cc in
    ap (λ (q : Part). q.bytes) same
part_by value (Err fault) p is read = let e : refused fault ≡ read_as p = rw is at read in absurd cc

pub part_bytes : (value : List ℕ) (p : Part) → cbor value ≡ Ok p → p.bytes ≡ value
part_bytes value p read = part_by value (reads value) p refl read
