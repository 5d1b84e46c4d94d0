-- The walk over the pairs of a map.
use Rattle.std.proofs.Common.{◌≡◌, ◌≢◌, ℕ, zero, suc, ◌+◌, ◌<◌, ◌≤◌, List, [], ◌∷◌, length, get_or, set, Some, None, Ok, refl, ap, ◌∙◌, arith, below_more, bytes_eq, true, false}
use Rattle.std.proofs.lemmas.List.{get_or_default, get_or-set_same, get_or-set_other}
use Rattle.cbor_view.specs.declared.view.View.{View}
use Rattle.cbor_view.specs.Label.{only_of, entries_or_none}
use Rattle.cbor_view.specs.Parts.{Part, pairs_in}
use Rattle.mdoc_outside.specs.declared.key_name.KeyName.{KeyName}
use Rattle.mdoc_outside.specs.KeyName.{key_text}
use Rattle.cbor_maps.specs.declared.found.Found.{Found}
use Rattle.cbor_maps.specs.declared.found.Found.TheVariants.{Missing}
use Rattle.cbor_maps.specs.Reading.{entry}
use Rattle.cbor_maps.specs.Found.{added, found_at, name_at, noted, values_under}

-- nothing was found before the walk
pub all-missing : (i : ℕ) → found_at (Missing ∷ Missing ∷ Missing ∷ Missing ∷ Missing ∷ Missing ∷ Missing ∷ Missing ∷ []) i ≡ Missing
all-missing zero = refl
all-missing (suc zero) = refl
all-missing (suc (suc zero)) = refl
all-missing (suc (suc (suc zero))) = refl
all-missing (suc (suc (suc (suc zero)))) = refl
all-missing (suc (suc (suc (suc (suc zero))))) = refl
all-missing (suc (suc (suc (suc (suc (suc zero)))))) = refl
all-missing (suc (suc (suc (suc (suc (suc (suc zero))))))) = refl
all-missing (suc (suc (suc (suc (suc (suc (suc (suc i)))))))) = refl

pub entry-none : (map : Part) (name : KeyName) → pairs_in map ≡ None → entry map name ≡ Ok None
unfolding entry
entry-none map name e = ap (λ o. only_of (values_under name (entries_or_none o))) e

pub entry-pairs : (map : Part) (name : KeyName) (es : List (Part × Part)) → pairs_in map ≡ Some es → entry map name ≡ only_of (values_under name es)
unfolding entry
entry-pairs map name es e = ap (λ o. only_of (values_under name (entries_or_none o))) e

-- one name more is noted
pub record NotedUpTo (place : ℕ) (names : List KeyName) (key : List ℕ) (value : View) (old now : List Found) : Type 0 where
  pub done : (i : ℕ) → i < place → found_at now i ≡ noted (name_at names i) key value (found_at old i)
  pub left : (i : ℕ) → place ≤ i → found_at now i ≡ found_at old i

pub noted-more : (place : ℕ) (names : List KeyName) (key : List ℕ) (value : View) (old now : List Found) (x y d : Found) → NotedUpTo place names key value old now → place < length now → x ≡ noted (name_at names place) key value y → y ≡ get_or now place d → NotedUpTo (place + 1) names key value old (set now place x)
noted-more place names key value old now x y d before within is was =
    let same : y ≡ found_at old place = was ∙ get_or_default now place d Missing within ∙ before.left place (omega arith) in
    record {
      done = below_more _ _
          (λ i h. let other : i ≢ place = omega arith in get_or-set_other now place i x Missing other ∙ before.done i h)
          (get_or-set_same now place x Missing within ∙ is ∙ ap (noted (name_at names place) key value) same);
      left = λ i h. let other : i ≢ place = omega arith in get_or-set_other now place i x Missing other ∙ before.left i (omega arith);
    }

-- a pair under another key changes nothing, and one under the name adds its value
pub noted-same : (name : KeyName) (key : List ℕ) (value : View) (found : Found) → bytes_eq key (key_text name) ≡ false → found ≡ noted name key value found
noted-same name key value found e = rw e refl

pub noted-hit : (name : KeyName) (key : List ℕ) (value : View) (found : Found) → bytes_eq key (key_text name) ≡ true → added found value ≡ noted name key value found
noted-hit name key value found e = rw e refl

pub noted-missed : (place : ℕ) (names : List KeyName) (key : List ℕ) (value : View) (old now : List Found) → NotedUpTo place names key value old now → bytes_eq key (key_text (name_at names place)) ≡ false → NotedUpTo (place + 1) names key value old now
noted-missed place names key value old now before e =
    record {
      done = below_more _ _ before.done (before.left place (omega arith) ∙ noted-same (name_at names place) key value (found_at old place) e);
      left = λ i h. before.left i (omega arith);
    }
