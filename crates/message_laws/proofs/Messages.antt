-- What is read of a message lies where its item does.
use Rattle.std.proofs.Common.{◌≡◌, inl, inr, ◌==◌, if◌then◌else◌, ℕ, Bool, true, false, length, List, [], ◌∷◌, Option, Some, None, Result, Ok, Err, refl, ap, ◌∙◌, subst, option_map, IfSome, option_and_then, ℤ, pos, negsuc}
use Rattle.std.specs.Prelude.{unwrap_or}
use Rattle.std.specs.List.{list_all}
use Rattle.mdoc_outside.specs.ResultSteps.{◌>>=◌, or_fault}
use Rattle.cbor_view.specs.declared.doubled.Doubled.{Doubled}
use Rattle.cbor_view.specs.Label.{Number}
use Rattle.cbor_view.specs.Parts.{Part, LiesIn, AllLieIn, tree_in, tag_in, under, items_in, pairs_in, bytes_in}
use Rattle.cbor_view.specs.Tree.{is_null}
use Rattle.cbor_view.proofs.Contents.{entry-lies, items-lie, tagged-lies}
use Rattle.cbor_view.proofs.Places.{within-within}
use Rattle.cbor_maps.specs.Labels.{labelled}
use Rattle.cbor_maps.specs.Reading.{map_in}
use Rattle.cbor_maps.proofs.Within.{step, given}
use Rattle.cose_msgs.specs.declared.cose_fault.CoseFault.{CoseFault}
use Rattle.cose_msgs.specs.declared.cose_fault.CoseFault.TheVariants.{Shape, Algorithm, TagLength, SignatureLength}
use Rattle.cose_msgs.specs.Headers.{is_bytes, if_all, first_of, bytes_or, first_certificate, certificate_in, chain_in, has_algorithm}
use Rattle.cose_msgs.specs.Message.{Authenticated, Message, Signed, bytes_or_null, headers_of, mac0, message_of, of_array, of_four, of_items, sign1, untagged}
use Rattle.cose_msgs.specs.Steps.{check, of_length}
use Rattle.message_laws.specs.MessageLies.{ArrayLies, CertificateLies, CodeLies, SignatureLies}
use Rattle.message_laws.specs.StringLies.{StringLies}
use Rattle.message_laws.proofs.Strings.{bytes-lie, self-lies}

-- ---- the four items of a message

pub map-is : (p q : Part) → map_in p ≡ Some q → p ≡ q
map-is p q is = go (pairs_in p) is where
  go : (o : Option (List (Part × Part))) → option_map (λ entries. p) o ≡ Some q → p ≡ q
  go None e = absurd (cc)
  go (Some entries) e = cc

payload-lies : (all p : Part) (o : Option (List ℕ)) → LiesIn all p → bytes_or_null p ≡ Some o → IfSome o (StringLies bytes_in all p)
payload-lies all p o stands_in is = by_null (is_null (tree_in p)) is where
  by_bytes : (b : Option (List ℕ)) → bytes_in p ≡ b → option_map (λ (x : List ℕ). Some x) b ≡ Some o → IfSome o (StringLies bytes_in all p)
  by_bytes None read e = absurd (cc)
  by_bytes (Some b) read e = let same : Some b ≡ o = cc in subst (λ (x : Option (List ℕ)). IfSome x (StringLies bytes_in all p)) same (bytes-lie all p b stands_in read)

  by_null : (n : Bool) → (if n then Some None else option_map (λ (x : List ℕ). Some x) (bytes_in p)) ≡ Some o → IfSome o (StringLies bytes_in all p)
  by_null true e = let same : None ≡ o = cc in subst (λ (x : Option (List ℕ)). IfSome x (StringLies bytes_in all p)) same tt
  by_null false e = by_bytes (bytes_in p) refl e

-- the items, and what the message says of them
record FourLie (all a b c d : Part) (m : Message) : Type 0 where
  protected : StringLies bytes_in all a m.protected
  unprotected : b ≡ m.unprotected
  payload : IfSome m.payload (StringLies bytes_in all c)
  last : StringLies bytes_in all d m.last

abbrev with_last : List ℕ → Part → Option (List ℕ) → List ℕ → Result Message CoseFault
with_last protected unprotected payload last = Ok (record { protected = protected; unprotected = unprotected; payload = payload; last = last })

abbrev from_payload : Part → List ℕ → Part → Option (List ℕ) → Result Message CoseFault
from_payload fourth protected unprotected payload = or_fault Shape (bytes_in fourth) >>= with_last protected unprotected payload

abbrev from_map : Part → Part → List ℕ → Part → Result Message CoseFault
from_map third fourth protected unprotected = or_fault Shape (bytes_or_null third) >>= from_payload fourth protected unprotected

abbrev from_protected : Part → Part → Part → List ℕ → Result Message CoseFault
from_protected second third fourth protected = or_fault Shape (map_in second) >>= from_map third fourth protected

four-lie : (all a b c d : Part) (m : Message) → LiesIn all a → LiesIn all c → LiesIn all d → of_four a b c d ≡ Ok m → FourLie all a b c d m
four-lie all a b c d m in_a in_c in_d e =
    let p = step (or_fault Shape (bytes_in a)) (from_protected b c d) m e in
    let u = step (or_fault Shape (map_in b)) (from_map c d p.value) m p.after in
    let o = step (or_fault Shape (bytes_or_null c)) (from_payload d p.value u.value) m u.after in
    let l = step (or_fault Shape (bytes_in d)) (with_last p.value u.value o.value) m o.after in
    let same : record { protected = p.value; unprotected = u.value; payload = o.value; last = l.value } ≡ m = (let e = l.after in cc) in
    subst (FourLie all a b c d) same (record {
      protected = bytes-lie all a p.value in_a (given Shape (bytes_in a) p.value p.is);
      unprotected = map-is b u.value (given Shape (map_in b) u.value u.is);
      payload = payload-lies all c o.value in_c (given Shape (bytes_or_null c) o.value o.is);
      last = bytes-lie all d l.value in_d (given Shape (bytes_in d) l.value l.is);
    })

-- the array, and what the message says of its items
record MessageLies (tag : ℕ) (all item : Part) (m : Message) : Type 0 where
  parts : ArrayLies tag all item m.protected m.payload m.last
  unprotected : parts.second ≡ m.unprotected

array-lies : (tag : ℕ) (all item : Part) (parts : List Part) (m : Message) → items_in (untagged tag item) ≡ Some parts → AllLieIn all parts → of_items parts ≡ Ok m → MessageLies tag all item m
array-lies tag all item (a ∷ b ∷ c ∷ d ∷ []) m is lie e =
    let four = four-lie all a b c d m lie.0 lie.1.1.0 lie.1.1.1.0 e in
    record {
      parts = record {
        first = a;
        second = b;
        third = c;
        fourth = d;
        array = is;
        protected_lies = four.protected;
        unprotected_lies = lie.1.0;
        payload_lies = four.payload;
        last_lies = four.last;
      };
      unprotected = four.unprotected;
    }
array-lies tag all item [] m is lie e = absurd (cc)
array-lies tag all item (a ∷ []) m is lie e = absurd (cc)
array-lies tag all item (a ∷ b ∷ []) m is lie e = absurd (cc)
array-lies tag all item (a ∷ b ∷ c ∷ []) m is lie e = absurd (cc)
array-lies tag all item (a ∷ b ∷ c ∷ d ∷ f ∷ gs) m is lie e = absurd (cc)

untagged-lies : (tag : ℕ) (p : Part) → LiesIn p (untagged tag p)
untagged-lies tag p = go (tag_in p) refl where
  choose : (b : Bool) (q : Part) → LiesIn p q → LiesIn p (unwrap_or (if b then Some q else None) p)
  choose true q stands_in = stands_in
  choose false q stands_in = self-lies p

  go : (o : Option (ℕ × Part)) → tag_in p ≡ o → LiesIn p (unwrap_or (option_and_then (under tag) o) p)
  go None is = self-lies p
  go (Some (n, q)) is = choose (n == tag) q (tagged-lies p q n is)

each-within : (all p : Part) (parts : List Part) → LiesIn all p → AllLieIn p parts → AllLieIn all parts
each-within all p [] stands_in each = tt
each-within all p (q ∷ qs) stands_in each = (within-within all p q stands_in each.0, each-within all p qs stands_in each.1)

message-lies : (tag : ℕ) (all item : Part) (m : Message) → LiesIn all item → message_of tag item ≡ Ok m → MessageLies tag all item m
message-lies tag all item m stands_in e = go (items_in (untagged tag item)) refl e where
  go : (o : Option (List Part)) → items_in (untagged tag item) ≡ o → of_array o ≡ Ok m → MessageLies tag all item m
  go None is e = absurd (cc)
  go (Some parts) is e =
      let inner = within-within all item (untagged tag item) stands_in (untagged-lies tag item) in
      array-lies tag all item parts m is (each-within all (untagged tag item) parts inner (items-lie (untagged tag item) parts is)) e

-- ---- the certificate of a signature

first-lies : (all map value : Part) (parts : List Part) (b : List ℕ) → labelled map (pos 33) ≡ Ok (Some value) → items_in value ≡ Some parts → AllLieIn all parts → first_of (Some parts) ≡ Some b → CertificateLies all map b
first-lies all map value [] b under is lie e = absurd (cc)
first-lies all map value (p ∷ ps) b under is lie e = go (list_all is_bytes ps) e where
  go : (t : Bool) → if_all t (bytes_in p) ≡ Some b → CertificateLies all map b
  go true e = record { value = value; item = p; under = under; first = inr (ps, is); stands_in = bytes-lie all p b lie.0 e }
  go false e = absurd (cc)

value-lies : (all map value : Part) (b : List ℕ) → labelled map (pos 33) ≡ Ok (Some value) → LiesIn all value → first_certificate value ≡ Some b → CertificateLies all map b
value-lies all map value b under stands_in e = by_bytes (bytes_in value) refl e where
  by_items : (o : Option (List Part)) → items_in value ≡ o → first_of o ≡ Some b → CertificateLies all map b
  by_items None is e = absurd (cc)
  by_items (Some parts) is e = first-lies all map value parts b under is (each-within all value parts stands_in (items-lie value parts is)) e

  by_bytes : (o : Option (List ℕ)) → bytes_in value ≡ o → bytes_or o (first_of (items_in value)) ≡ Some b → CertificateLies all map b
  by_bytes None is e = by_items (items_in value) refl e
  by_bytes (Some c) is e =
      let same : c ≡ b = cc in
      record { value = value; item = value; under = under; first = inl refl; stands_in = bytes-lie all value b stands_in (is ∙ ap (λ (x : List ℕ). Some x) same) }

pub label-lies : (map value : Part) (n : ℤ) → labelled map n ≡ Ok (Some value) → LiesIn map value
unfolding labelled
label-lies map value n is = entry-lies map value (Number n) is

chain-lies : (all map : Part) (o : Option (List ℕ)) → LiesIn all map → chain_in map ≡ o → IfSome o (CertificateLies all map)
chain-lies all map None stands_in e = tt
chain-lies all map (Some b) stands_in e = go (labelled map (pos 33)) refl e where
  go : (r : Result (Option Part) Doubled) → labelled map (pos 33) ≡ r → certificate_in r ≡ Some b → CertificateLies all map b
  go (Ok (Some value)) is e = value-lies all map value b is (within-within all map value stands_in (label-lies map value (pos 33) is)) e
  go (Ok None) is e = absurd (cc)
  go (Err twice) is e = absurd (cc)

-- ---- signatures and codes

pub of-length : (n : ℕ) (b c : List ℕ) → of_length n (Some b) ≡ Some c → b ≡ c
of-length n b c e = go (length b == n) e where
  go : (t : Bool) → (if t then Some b else None) ≡ Some c → b ≡ c
  go true e = cc
  go false e = absurd (cc)

abbrev with_signature : Message → List ℕ → Result Signed CoseFault
with_signature m signature = Ok (record { protected = m.protected; chain = chain_in m.unprotected; payload = m.payload; signature = signature })

abbrev from_algorithm : Message → Unit {0} → Result Signed CoseFault
from_algorithm m algorithm = or_fault SignatureLength (of_length 64 (Some m.last)) >>= with_signature m

abbrev from_header : Message → Part → Result Signed CoseFault
from_header m header = check Algorithm (has_algorithm (negsuc 6) header) >>= from_algorithm m

abbrev from_message : Message → Result Signed CoseFault
from_message m = headers_of m >>= from_header m

-- the signature that a message is
abbrev signed_by : Message → List ℕ → Signed
signed_by m signature = record { protected = m.protected; chain = chain_in m.unprotected; payload = m.payload; signature = signature }

signed-lies : (all item : Part) (m : Message) (signature : List ℕ) → MessageLies 18 all item m → m.last ≡ signature → SignatureLies all item (signed_by m signature)
signed-lies all item m signature read last = subst (λ (b : List ℕ). SignatureLies all item (signed_by m b)) last (record {
  parts = read.parts;
  chain = chain-lies all read.parts.second (chain_in m.unprotected) read.parts.unprotected_lies (ap chain_in read.unprotected);
})

pub signature-lies : (all item : Part) (s : Signed) → LiesIn all item → sign1 item ≡ Ok s → SignatureLies all item s
signature-lies all item s stands_in e =
    let m = step (message_of 18 item) from_message s e in
    let h = step (headers_of m.value) (from_header m.value) s m.after in
    let a = step (check Algorithm (has_algorithm (negsuc 6) h.value)) (from_algorithm m.value) s h.after in
    let l = step (or_fault SignatureLength (of_length 64 (Some m.value.last))) (with_signature m.value) s a.after in
    let own : m.value.last ≡ l.value = of-length 64 m.value.last l.value (given SignatureLength (of_length 64 (Some m.value.last)) l.value l.is) in
    let same : signed_by m.value l.value ≡ s = (let e = l.after in cc) in
    subst (SignatureLies all item) same (signed-lies all item m.value l.value (message-lies 18 all item m.value stands_in m.is) own)

abbrev with_tag : Message → List ℕ → Result Authenticated CoseFault
with_tag m tag = Ok (record { protected = m.protected; payload = m.payload; tag = tag })

abbrev from_code : Message → Unit {0} → Result Authenticated CoseFault
from_code m algorithm = or_fault TagLength (of_length 32 (Some m.last)) >>= with_tag m

abbrev from_code_header : Message → Part → Result Authenticated CoseFault
from_code_header m header = check Algorithm (has_algorithm (pos 5) header) >>= from_code m

abbrev from_code_message : Message → Result Authenticated CoseFault
from_code_message m = headers_of m >>= from_code_header m

pub code-lies : (all item : Part) (code : Authenticated) → LiesIn all item → mac0 item ≡ Ok code → CodeLies all item code
code-lies all item code stands_in e =
    let m = step (message_of 17 item) from_code_message code e in
    let h = step (headers_of m.value) (from_code_header m.value) code m.after in
    let a = step (check Algorithm (has_algorithm (pos 5) h.value)) (from_code m.value) code h.after in
    let l = step (or_fault TagLength (of_length 32 (Some m.value.last))) (with_tag m.value) code a.after in
    let own : m.value.last ≡ l.value = of-length 32 m.value.last l.value (given TagLength (of_length 32 (Some m.value.last)) l.value l.is) in
    let same : record { protected = m.value.protected; payload = m.value.payload; tag = l.value } ≡ code = (let e = l.after in cc) in
    let read = message-lies 17 all item m.value stands_in m.is in
    subst (CodeLies all item) same (subst (ArrayLies 17 all item m.value.protected m.value.payload) own read.parts)
