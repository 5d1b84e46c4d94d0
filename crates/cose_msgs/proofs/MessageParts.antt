-- What is read of a message is a part of its bytes.
use Rattle.std.proofs.Common.{◌≡◌, ◌==◌, if◌then◌else◌, ℕ, Bool, true, false, List, [], ◌∷◌, Option, Some, None, Result, Ok, Err, refl, ap, ◌∙◌, subst, option_map, IfOk, IfSome, option_and_then, pos}
use Rattle.std.specs.Prelude.{unwrap_or}
use Rattle.std.specs.List.{list_all}
use Rattle.mdoc_outside.specs.ResultSteps.{◌>>=◌, or_fault}
use Rattle.cbor_view.specs.declared.doubled.Doubled.{Doubled}
use Rattle.cbor_view.specs.Label.{Number}
use Rattle.cbor_view.specs.Parts.{Part, LiesIn, AllLieIn, tree_in, tag_in, under, items_in, pairs_in, bytes_in}
use Rattle.cbor_view.specs.Reading.{Gives}
use Rattle.cbor_view.specs.Tree.{is_null}
use Rattle.cbor_view.proofs.Contents.{entry-lies, items-lie, tagged-lies, bytes-end}
use Rattle.cbor_maps.specs.Contents.{IsPart}
use Rattle.cbor_maps.specs.Labels.{labelled}
use Rattle.cbor_maps.specs.Reading.{map_in}
use Rattle.cbor_maps.proofs.Within.{part-within, lies-part, ends-part, step, given}
use Rattle.cose_msgs.specs.declared.cose_fault.CoseFault.{CoseFault}
use Rattle.cose_msgs.specs.declared.cose_fault.CoseFault.TheVariants.{Shape}
use Rattle.cose_msgs.specs.declared.message.Message as read
use Rattle.cose_msgs.specs.Headers.{is_bytes, if_all, first_of, bytes_or, first_certificate, certificate_in, chain_in}
use Rattle.cose_msgs.specs.Message.{Message, bytes_or_null, of_four, of_items, of_array, untagged, message_of}
use Rattle.cose_msgs.specs.MessageView.{message, HasParts}

-- ---- the four items of a message

string-part : (all p : Part) (b : List ℕ) → LiesIn all p → bytes_in p ≡ Some b → IsPart all.bytes b
string-part all p b stands_in is = part-within all.bytes p.bytes b (lies-part all p stands_in) (ends-part p.bytes b (bytes-end p b is))

map-is : (p q : Part) → map_in p ≡ Some q → p ≡ q
map-is p q is = go (pairs_in p) is where
  go : (o : Option (List (Part × Part))) → option_map (λ entries. p) o ≡ Some q → p ≡ q
  go None e = absurd (cc)
  go (Some entries) e = cc

payload-part : (all p : Part) (o : Option (List ℕ)) → LiesIn all p → bytes_or_null p ≡ Some o → IfSome o (IsPart all.bytes)
payload-part all p o stands_in is = by_null (is_null (tree_in p)) is where
  by_bytes : (b : Option (List ℕ)) → bytes_in p ≡ b → option_map (λ (x : List ℕ). Some x) b ≡ Some o → IfSome o (IsPart all.bytes)
  by_bytes None read e = absurd (cc)
  by_bytes (Some b) read e = let same : Some b ≡ o = cc in subst (λ (x : Option (List ℕ)). IfSome x (IsPart all.bytes)) same (string-part all p b stands_in read)

  by_null : (n : Bool) → (if n then Some None else option_map (λ (x : List ℕ). Some x) (bytes_in p)) ≡ Some o → IfSome o (IsPart all.bytes)
  by_null true e = let same : None ≡ o = cc in subst (λ (x : Option (List ℕ)). IfSome x (IsPart all.bytes)) same tt
  by_null false e = by_bytes (bytes_in p) refl e

abbrev with_last : List ℕ → Part → Option (List ℕ) → List ℕ → Result Message CoseFault
with_last protected unprotected payload last = Ok (record { protected = protected; unprotected = unprotected; payload = payload; last = last })

abbrev from_payload : Part → List ℕ → Part → Option (List ℕ) → Result Message CoseFault
from_payload fourth protected unprotected payload = or_fault Shape (bytes_in fourth) >>= with_last protected unprotected payload

abbrev from_map : Part → Part → List ℕ → Part → Result Message CoseFault
from_map third fourth protected unprotected = or_fault Shape (bytes_or_null third) >>= from_payload fourth protected unprotected

abbrev from_protected : Part → Part → Part → List ℕ → Result Message CoseFault
from_protected second third fourth protected = or_fault Shape (map_in second) >>= from_map third fourth protected

four-have : (all a b c d : Part) (m : Message) → LiesIn all a → LiesIn all b → LiesIn all c → LiesIn all d → of_four a b c d ≡ Ok m → HasParts all.bytes m
four-have all a b c d m in_a in_b in_c in_d e =
    let p = step (or_fault Shape (bytes_in a)) (from_protected b c d) m e in
    let u = step (or_fault Shape (map_in b)) (from_map c d p.value) m p.after in
    let o = step (or_fault Shape (bytes_or_null c)) (from_payload d p.value u.value) m u.after in
    let l = step (or_fault Shape (bytes_in d)) (with_last p.value u.value o.value) m o.after in
    let same : record { protected = p.value; unprotected = u.value; payload = o.value; last = l.value } ≡ m = (let e = l.after in cc) in
    let own : b ≡ u.value = map-is b u.value (given Shape (map_in b) u.value u.is) in
    subst (HasParts all.bytes) same (record {
      protected = string-part all a p.value in_a (given Shape (bytes_in a) p.value p.is);
      unprotected = subst (λ (x : Part). IsPart all.bytes x.bytes) own (lies-part all b in_b);
      payload = payload-part all c o.value in_c (given Shape (bytes_or_null c) o.value o.is);
      last = string-part all d l.value in_d (given Shape (bytes_in d) l.value l.is);
    })

items-have : (all : Part) (parts : List Part) (m : Message) → AllLieIn all parts → of_items parts ≡ Ok m → HasParts all.bytes m
items-have all (a ∷ b ∷ c ∷ d ∷ []) m lie e = four-have all a b c d m lie.0 lie.1.0 lie.1.1.0 lie.1.1.1.0 e
items-have all [] m lie e = absurd (cc)
items-have all (a ∷ []) m lie e = absurd (cc)
items-have all (a ∷ b ∷ []) m lie e = absurd (cc)
items-have all (a ∷ b ∷ c ∷ []) m lie e = absurd (cc)
items-have all (a ∷ b ∷ c ∷ d ∷ f ∷ gs) m lie e = absurd (cc)

untagged-part : (tag : ℕ) (p : Part) → IsPart p.bytes (untagged tag p).bytes
untagged-part tag p = go (tag_in p) refl where
  own : IsPart p.bytes p.bytes
  own = ends-part p.bytes p.bytes (record { front = []; whole = refl })

  choose : (b : Bool) (q : Part) → IsPart p.bytes q.bytes → IsPart p.bytes (unwrap_or (if b then Some q else None) p).bytes
  choose true q part = part
  choose false q part = own

  go : (o : Option (ℕ × Part)) → tag_in p ≡ o → IsPart p.bytes (unwrap_or (option_and_then (under tag) o) p).bytes
  go None is = own
  go (Some (n, q)) is = choose (n == tag) q (lies-part p q (tagged-lies p q n is))

parts-have : (raw bytes : List ℕ) (m : Message) → IsPart raw bytes → HasParts bytes m → HasParts raw m
parts-have raw bytes m part has = record {
  protected = part-within raw bytes m.protected part has.protected;
  unprotected = part-within raw bytes m.unprotected.bytes part has.unprotected;
  payload = go m.payload has.payload;
  last = part-within raw bytes m.last part has.last;
} where
  go : (o : Option (List ℕ)) → IfSome o (IsPart bytes) → IfSome o (IsPart raw)
  go None is = tt
  go (Some b) is = part-within raw bytes b part is

message-has : (tag : ℕ) (p : Part) (m : Message) → message_of tag p ≡ Ok m → HasParts p.bytes m
message-has tag p m e = parts-have p.bytes (untagged tag p).bytes m (untagged-part tag p) (go (items_in (untagged tag p)) refl e) where
  go : (o : Option (List Part)) → items_in (untagged tag p) ≡ o → of_array o ≡ Ok m → HasParts (untagged tag p).bytes m
  go None is e = absurd (cc)
  go (Some parts) is e = items-have (untagged tag p) parts m (items-lie (untagged tag p) parts is) e

pub message-gives : (tag : ℕ) (p : Part) (r : Result read.Message CoseFault) → Gives message r (message_of tag p) → IfOk r (λ m. HasParts p.bytes (message m))
message-gives tag p (Ok m) e = message-has tag p (message m) e
message-gives tag p (Err fault) e = tt

-- ---- the chain

first-part : (all : Part) (parts : List Part) (b : List ℕ) → AllLieIn all parts → first_of (Some parts) ≡ Some b → IsPart all.bytes b
first-part all [] b lie e = absurd (cc)
first-part all (p ∷ ps) b lie e = go (list_all is_bytes ps) e where
  go : (t : Bool) → if_all t (bytes_in p) ≡ Some b → IsPart all.bytes b
  go true e = string-part all p b lie.0 e
  go false e = absurd (cc)

certificate-part : (all p : Part) (b : List ℕ) → LiesIn all p → first_certificate p ≡ Some b → IsPart all.bytes b
certificate-part all p b stands_in e = by_bytes (bytes_in p) refl e where
  by_items : (o : Option (List Part)) → items_in p ≡ o → first_of o ≡ Some b → IsPart all.bytes b
  by_items None is e = absurd (cc)
  by_items (Some parts) is e = part-within all.bytes p.bytes b (lies-part all p stands_in) (first-part p parts b (items-lie p parts is) e)

  by_bytes : (o : Option (List ℕ)) → bytes_in p ≡ o → bytes_or o (first_of (items_in p)) ≡ Some b → IsPart all.bytes b
  by_bytes None is e = by_items (items_in p) refl e
  by_bytes (Some c) is e = let same : c ≡ b = cc in string-part all p b stands_in (is ∙ ap (λ (x : List ℕ). Some x) same)

chain-some : (map : Part) (b : List ℕ) → chain_in map ≡ Some b → IsPart map.bytes b
unfolding labelled
chain-some map b e = go (labelled map (pos 33)) refl e where
  go : (r : Result (Option Part) Doubled) → labelled map (pos 33) ≡ r → certificate_in r ≡ Some b → IsPart map.bytes b
  go (Ok (Some p)) is e = certificate-part map p b (entry-lies map p (Number (pos 33)) is) e
  go (Ok None) is e = absurd (cc)
  go (Err twice) is e = absurd (cc)

pub chain-part : (raw : List ℕ) (map : Part) (o : Option (List ℕ)) → IsPart raw map.bytes → chain_in map ≡ o → IfSome o (IsPart raw)
chain-part raw map None part is = tt
chain-part raw map (Some b) part is = part-within raw map.bytes b part (chain-some map b is)
