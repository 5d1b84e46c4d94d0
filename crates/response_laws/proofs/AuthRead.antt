-- The device's authentication that was written is read as it was given.
use Rattle.std.proofs.Common.{◌≡◌, ◌&&◌, ◌+◌, ◌<◌, ◌^◌, ℕ, ℤ, pos, negsuc, true, false, not, List, [], ◌∷◌, length, Option, Some, None, Ok, refl, ap, ◌∙◌, arith, eq-eqb, inl}
use Rattle.mdoc_outside.specs.declared.key_name.KeyName.TheVariants as keys
use Rattle.cbor_view.specs.Label.{Label, entries_or_none}
use Rattle.cbor_view.specs.Parts.{Part, pairs_in}
use Rattle.cbor_view.specs.Shortest.{array_bytes, bytes_bytes, int_bytes, null_bytes}
use Rattle.cbor_view.specs.Tree.{Bytes, Negative, Simple, Unsigned}
use Rattle.cbor_view.proofs.WrittenParts.{AllPieces, IsPiece, array-untagged, cbor-piece, items-written, items_begin, piece-array, piece-shortest, tree-shortest}
use Rattle.cbor_maps.specs.Labels.{LabelledFields, label_bytes, labelled, labelled_map, labelled_values}
use Rattle.cbor_maps.specs.Reading.{map_in}
use Rattle.cbor_maps.specs.Writing.{map_head, named_map, with_values}
use Rattle.cbor_maps.specs.WrittenReads.{AreItems, AreLabelled, SpellsItem}
use Rattle.cbor_maps.proofs.LabelledMaps.{map-labelled, no-label, pairs-labelled, piece-labelled, piece-of-fields, under-label}
use Rattle.cbor_maps.proofs.WrittenMaps.{under, under-none}
use Rattle.cose_msgs.specs.Headers.{are_distinct, chain_in, has_algorithm, has_distinct_labels, has_label, label_in, protected_map}
use Rattle.cose_msgs.specs.Message.{bytes_or_null, mac0, message_of, sign1}
use Rattle.cose_msgs.specs.Written.{chain_map, es256, hmac256, mac0_bytes, sign1_bytes}
use Rattle.doc_response.specs.declared.device_auth.DeviceAuth.{DeviceAuth}
use Rattle.doc_response.specs.declared.device_auth.DeviceAuth.TheVariants.{Signature, Mac}
use Rattle.doc_response.specs.Written.{auth_fields}
use Rattle.response_laws.specs.ReadBack.{HasAuth}
use Rattle.response_laws.specs.Writable.{IsAuth}
use Rattle.response_laws.proofs.NamedMaps.{item, key-piece, named-is-map, named-piece}

-- ---- the protected maps

abbrev algorithm_field : ℤ → LabelledFields
algorithm_field number = (pos 1, Some (int_bytes number)) ∷ []

leaf : (bytes : List ℕ) → IsPiece 0 bytes → SpellsItem 31 bytes
leaf bytes p = item 0 bytes (omega arith) p

record IsProtected (number : ℤ) (bytes : List ℕ) : Type 0 where
  map : protected_map bytes ≡ Ok (record { at = 0; bytes = bytes })
  distinct : has_distinct_labels (record { at = 0; bytes = bytes }) ≡ true
  algorithm : has_algorithm number (record { at = 0; bytes = bytes }) ≡ true
  short : length bytes < 2 ^ 32

no-later : (label : Option Label) → has_label label [] ≡ false
no-later None = refl
no-later (Some label) = refl

one-distinct : (map key value : Part) → pairs_in map ≡ Some ((key, value) ∷ []) → has_distinct_labels map ≡ true
one-distinct map key value e = ap (λ (o : Option (List (Part × Part))). are_distinct (entries_or_none o)) e ∙ ap (λ b. not b && true) (no-later (label_in key))

none-distinct : (map : Part) → pairs_in map ≡ Some [] → has_distinct_labels map ≡ true
none-distinct map e = ap (λ (o : Option (List (Part × Part))). are_distinct (entries_or_none o)) e

es256-fields : AreLabelled (labelled_values (algorithm_field (negsuc 6)))
es256-fields = (omega arith, leaf (int_bytes (negsuc 6)) (piece-shortest 0 (Negative 6) (omega arith) (omega arith)), tt)

hmac256-fields : AreLabelled (labelled_values (algorithm_field (pos 5)))
hmac256-fields = (omega arith, leaf (int_bytes (pos 5)) (piece-shortest 0 (Unsigned 5) (omega arith) (omega arith)), tt)

es256-short : length es256 < 2 ^ 32
unfolding es256 map_head label_bytes
es256-short = omega arith

hmac256-short : length hmac256 < 2 ^ 32
unfolding hmac256 map_head label_bytes
hmac256-short = omega arith

es256-protected : IsProtected (negsuc 6) es256
unfolding es256
es256-protected =
    let fields = algorithm_field (negsuc 6) in
    let v = under-label 0 fields (pos 1) (int_bytes (negsuc 6)) es256-fields (omega arith) refl in
    record {
      map = rw (cbor-piece (labelled_map fields) (piece-labelled fields es256-fields (omega arith))) (rw (map-labelled 0 fields es256-fields (omega arith)) refl);
      distinct = one-distinct (record { at = 0; bytes = labelled_map fields }) _ _ (pairs-labelled 0 fields es256-fields (omega arith));
      algorithm = rw v.is (rw (tree-shortest (Negative 6) (omega arith) (omega arith)) refl);
      short = es256-short;
    }

hmac256-protected : IsProtected (pos 5) hmac256
unfolding hmac256
hmac256-protected =
    let fields = algorithm_field (pos 5) in
    let v = under-label 0 fields (pos 1) (int_bytes (pos 5)) hmac256-fields (omega arith) refl in
    record {
      map = rw (cbor-piece (labelled_map fields) (piece-labelled fields hmac256-fields (omega arith))) (rw (map-labelled 0 fields hmac256-fields (omega arith)) refl);
      distinct = one-distinct (record { at = 0; bytes = labelled_map fields }) _ _ (pairs-labelled 0 fields hmac256-fields (omega arith));
      algorithm = rw v.is (rw (tree-shortest (Unsigned 5) (omega arith) (omega arith)) refl);
      short = hmac256-short;
    }

-- ---- the unprotected map, which is empty

abbrev no_fields : LabelledFields
no_fields = (pos 33, None) ∷ []

empty-piece : IsPiece 1 (chain_map None)
unfolding chain_map
empty-piece = piece-of-fields 0 no_fields tt (omega arith)

empty-is-map : (at : ℕ) → map_in (record { at = at; bytes = chain_map None }) ≡ Some (record { at = at; bytes = chain_map None })
unfolding chain_map
empty-is-map at = map-labelled at no_fields tt (omega arith)

empty-distinct : (at : ℕ) → has_distinct_labels (record { at = at; bytes = chain_map None }) ≡ true
unfolding chain_map
empty-distinct at = none-distinct (record { at = at; bytes = labelled_map no_fields }) (pairs-labelled at no_fields tt (omega arith))

no-chain : (at : ℕ) → labelled (record { at = at; bytes = chain_map None }) (pos 33) ≡ Ok None
unfolding chain_map
no-chain at = no-label at no_fields (pos 33) tt (omega arith) refl

empty-chain : (at : ℕ) → chain_in (record { at = at; bytes = chain_map None }) ≡ None
empty-chain at = rw (no-chain at) refl

-- ---- the messages, whose payload is detached

null-read : (at : ℕ) → bytes_or_null (record { at = at; bytes = null_bytes }) ≡ Some None
null-read at = rw (tree-shortest (Simple 22) (inl (omega arith)) (omega arith)) refl

abbrev message_parts : List ℕ → List ℕ → List (List ℕ)
message_parts protected last = bytes_bytes protected ∷ chain_map None ∷ null_bytes ∷ bytes_bytes last ∷ []

message-pieces : (protected last : List ℕ) → length protected < 2 ^ 32 → length last < 2 ^ 32 → AllPieces 1 (message_parts protected last)
message-pieces protected last short few = (
  piece-shortest 1 (Bytes protected) short (omega arith),
  (empty-piece, (piece-shortest 1 (Simple 22) (inl (omega arith)) (omega arith), (piece-shortest 1 (Bytes last) few (omega arith), tt))),
)

-- where its unprotected map begins
abbrev map_begins : ℕ → List ℕ → List ℕ → ℕ
map_begins at protected last = items_begin at (message_parts protected last) + length (bytes_bytes protected)

message-read : (tag at : ℕ) (protected last : List ℕ) → length protected < 2 ^ 32 → length last < 2 ^ 32 →
    message_of tag (record { at = at; bytes = array_bytes (message_parts protected last) })
    ≡ Ok (record { protected = protected; unprotected = record { at = map_begins at protected last; bytes = chain_map None }; payload = None; last = last })
message-read tag at protected last short few =
    rw (array-untagged (message_parts protected last) at (omega arith))
    (rw (items-written 1 (message_parts protected last) at (message-pieces protected last short few) (omega arith) (omega arith))
    (rw (tree-shortest (Bytes protected) short (omega arith))
    (rw (empty-is-map _)
    (rw (null-read _)
    (rw (tree-shortest (Bytes last) few (omega arith)) refl)))))

sign1-at : (at : ℕ) (signature : List ℕ) → length signature ≡ 64 →
    sign1 (record { at = at; bytes = sign1_bytes None None signature }) ≡ Ok (record { protected = es256; chain = None; payload = None; signature = signature })
unfolding sign1_bytes
sign1-at at signature n =
    let p = es256-protected in
    rw (message-read 18 at es256 signature es256-short (omega arith))
    (rw p.map (rw (p.distinct, empty-distinct _) (rw p.algorithm
    (rw (eq-eqb (length signature) 64 n) (rw (empty-chain _) refl)))))

mac0-at : (at : ℕ) (tag : List ℕ) → length tag ≡ 32 →
    mac0 (record { at = at; bytes = mac0_bytes tag }) ≡ Ok (record { protected = hmac256; payload = None; tag = tag })
unfolding mac0_bytes
mac0-at at tag n =
    let p = hmac256-protected in
    rw (message-read 17 at hmac256 tag hmac256-short (omega arith))
    (rw p.map (rw (p.distinct, empty-distinct _) (rw p.algorithm
    (rw (eq-eqb (length tag) 32 n) refl))))

sign1-piece : (signature : List ℕ) → length signature ≡ 64 → IsPiece 2 (sign1_bytes None None signature)
unfolding sign1_bytes
sign1-piece signature n = piece-array 1 (message_parts es256 signature) (message-pieces es256 signature es256-short (omega arith)) (omega arith)

mac0-piece : (tag : List ℕ) → length tag ≡ 32 → IsPiece 2 (mac0_bytes tag)
unfolding mac0_bytes
mac0-piece tag n = piece-array 1 (message_parts hmac256 tag) (message-pieces hmac256 tag hmac256-short (omega arith)) (omega arith)

-- ---- the map of the authentication

pub auth-piece : (auth : DeviceAuth) → IsAuth auth → IsPiece 3 (named_map (auth_fields auth))
auth-piece (Signature signature) n = named-piece 2 (auth_fields (Signature signature)) (key-piece 2 keys.DeviceSignature (omega arith) refl, sign1-piece signature n, tt) (omega arith)
auth-piece (Mac tag) n = named-piece 2 (auth_fields (Mac tag)) (key-piece 2 keys.DeviceMac (omega arith) refl, mac0-piece tag n, tt) (omega arith)

pub auth-is-map : (at : ℕ) (auth : DeviceAuth) → IsAuth auth → map_in (record { at = at; bytes = named_map (auth_fields auth) }) ≡ Some (record { at = at; bytes = named_map (auth_fields auth) })
auth-is-map at (Signature signature) n = named-is-map 2 at (auth_fields (Signature signature)) (key-piece 2 keys.DeviceSignature (omega arith) refl, sign1-piece signature n, tt) (omega arith) (omega arith)
auth-is-map at (Mac tag) n = named-is-map 2 at (auth_fields (Mac tag)) (key-piece 2 keys.DeviceMac (omega arith) refl, mac0-piece tag n, tt) (omega arith) (omega arith)

pub has-auth : (at : ℕ) (auth : DeviceAuth) → IsAuth auth → HasAuth (record { at = at; bytes = named_map (auth_fields auth) }) auth
has-auth at (Signature signature) n =
    let fields = auth_fields (Signature signature) in
    let are : AreItems (with_values fields) = (item 2 (sign1_bytes None None signature) (omega arith) (sign1-piece signature n), tt) in
    let u = under at fields keys.DeviceSignature (sign1_bytes None None signature) are (omega arith) refl in
    let other = under-none at fields keys.DeviceMac are (omega arith) refl in
    record {
      item = record { at = u.at; bytes = sign1_bytes None None signature };
      is = rw u.is refl;
      alone = rw other refl;
      signed = sign1-at u.at signature n;
    }
has-auth at (Mac tag) n =
    let fields = auth_fields (Mac tag) in
    let are : AreItems (with_values fields) = (item 2 (mac0_bytes tag) (omega arith) (mac0-piece tag n), tt) in
    let u = under at fields keys.DeviceMac (mac0_bytes tag) are (omega arith) refl in
    let other = under-none at fields keys.DeviceSignature are (omega arith) refl in
    record {
      item = record { at = u.at; bytes = mac0_bytes tag };
      is = rw u.is refl;
      alone = rw other refl;
      authenticated = mac0-at u.at tag n;
    }
