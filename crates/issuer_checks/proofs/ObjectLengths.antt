-- Each digest of an object that was read has the length of one of SHA-256.
use Rattle.std.proofs.Common.{◌≡◌, ℕ, List, Bool, true, false, Result, Ok, Err, refl, subst}
use Rattle.mdoc_outside.specs.ResultSteps.{◌>>=◌}
use Rattle.cbor_maps.specs.Reading.{map_fault, tagged_string, spelled_item}
use Rattle.cbor_view.specs.Parts.{Part, cbor}
use Rattle.cose_msgs.specs.Steps.{check}
use Rattle.mso_digests.specs.Digests.{digests_in, have_length}
use Rattle.mso_digests.specs.Object.{Contents, Object, contents_of, distinct_keys, is_sha256, is_version, moments_of, object, object_of_map, object_with}
use Rattle.mso_digests.specs.declared.mso_fault.MsoFault.{MsoFault}
use Rattle.mso_digests.specs.declared.mso_fault.MsoFault.TheVariants as faults

-- a step of several that come to a value
record Passed {A B E : Type 0} (first : Result A E) (next : A → Result B E) (b : B) : Type 0 where
  value : A
  is : first ≡ Ok value
  rest : next value ≡ Ok b

passed : {A B E : Type 0} (first : Result A E) (next : A → Result B E) (b : B) → (first >>= next) ≡ Ok b → Passed first next b
passed (Ok value) next b is = record { value = value; is = refl; rest = is }
passed (Err fault) next b is = absurd (cc)

holds : {E : Type 0} (fault : E) (test : Bool) (u : Unit {0}) → check fault test ≡ Ok u → test ≡ true
holds fault true u is = refl
holds fault false u is = cc

abbrev ok : (A E : Type 0) → A → Result A E
ok A E value = Ok value

same : (A E : Type 0) (one other : A) → ok A E one ≡ ok A E other → one ≡ other
same A E one other is = cc

lengths_with : (c : Contents) (o : Object) → object_with c ≡ Ok o → have_length o.digests ≡ true
lengths_with c o is =
    let version = passed (check faults.Version (is_version c.version)) _ o is in
    let algorithm = passed (check faults.Algorithm (is_sha256 c.algorithm)) _ o version.rest in
    let lengths = passed (check faults.DigestLength (have_length (digests_in c.digests))) _ o algorithm.rest in
    let moments = passed (moments_of c.validity) _ o lengths.rest in
    subst (λ (own : Object). have_length own.digests ≡ true) (same Object MsoFault _ o moments.rest) (holds faults.DigestLength (have_length (digests_in c.digests)) lengths.value lengths.is)

lengths_of_map : (map : Part) (o : Object) → object_of_map map ≡ Ok o → have_length o.digests ≡ true
lengths_of_map map o is =
    let distinct = passed (map_fault faults.Doubled faults.Field (distinct_keys map)) _ o is in
    let contents = passed (map_fault faults.Doubled faults.Field (contents_of map)) _ o distinct.rest in
    lengths_with contents.value o contents.rest

pub lengths_read : (payload : List ℕ) (o : Object) → object payload ≡ Ok o → have_length o.digests ≡ true
unfolding object
lengths_read payload o is =
    let inside = passed (tagged_string faults.Cbor (cbor payload)) _ o is in
    let map = passed (spelled_item (λ other. faults.Cbor) (cbor inside.value)) _ o inside.rest in
    lengths_of_map map.value o map.rest
