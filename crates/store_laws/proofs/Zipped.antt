-- What is read of each of a list, beside what it is read of.
use Rattle.std.proofs.Common.{◌≡◌, List, [], ◌∷◌, map, Option, Some, subst}
use Rattle.std.specs.List.{AllByRecursion, AllZip}
use Rattle.mdoc_outside.specs.OptionSteps.{each}
use Rattle.store_write.proofs.StoredFields.{step}

pub each-zip : {A B : Type 0} (f : A → Option B) (P : A → Type 0) (R : A → B → Type 0) → ((x : A) (y : B) → P x → f x ≡ Some y → R x y) →
    (xs : List A) (ys : List B) → AllByRecursion P xs → each f xs ≡ Some ys → AllZip R xs ys
each-zip f P R known [] ys all e = let same : [] ≡ ys = cc in subst (AllZip R []) same tt
each-zip {A} {B} f P R known (x ∷ xs) ys all e =
    let one = step (f x) _ ys e in
    let rest = step (each f xs) _ ys one.after in
    let same : one.value ∷ rest.value ≡ ys = cc in
    subst (AllZip R (x ∷ xs)) same (known x one.value all.0 one.is, each-zip f P R known xs rest.value all.1 rest.is)

pub zip-seen : {A B C : Type 0} (R : A → C → Type 0) (view : B → C) (xs : List A) (ys : List B) → AllZip (λ x y. R x (view y)) xs ys → AllZip R xs (map view ys)
zip-seen R view [] [] all = tt
zip-seen R view [] (y ∷ ys) all = absurd all
zip-seen R view (x ∷ xs) [] all = absurd all
zip-seen R view (x ∷ xs) (y ∷ ys) all = (all.0, zip-seen R view xs ys all.1)
