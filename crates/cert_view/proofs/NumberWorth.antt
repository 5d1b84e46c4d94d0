-- What the bytes of numbers are worth.
use Rattle.std.proofs.Common.{◌≡◌, ℕ, zero, suc, ◌-◌, ◌≤◌, ◌==◌, Bool, true, false, cond, List, [], ◌∷◌, ◌++◌, length, Option, Some, None, refl, sym, ap, ◌∙◌, arith, length-append}
use Rattle.std.specs.Prelude.{nat_lt, nat_le, replicate}
use Rattle.std.proofs.lemmas.Bool.{eqb-true, leb-true}
use Rattle.std.proofs.lemmas.List.{length-replicate}
use Rattle.mdoc_outside.specs.OptionSteps.{◌>>=◌}
use Rattle.cert_view.specs.Integers.{after_zero, digits, in_32, number_of, worth}

abbrev present : List ℕ → Option (List ℕ)
present x = Some x

same_value : (x y : List ℕ) → present x ≡ present y → x ≡ y
same_value x y e = cc

bind_some : (o : Option (List ℕ)) (f : List ℕ → Option (List ℕ)) (y : List ℕ) → (o >>= f) ≡ Some y → (x : List ℕ) × (o ≡ Some x) × (f x ≡ Some y)
bind_some None f y e = absurd cc
bind_some (Some x) f y e = (x, refl, e)

-- ---- the digits of a number

after-worth : (bytes found : List ℕ) → after_zero bytes ≡ Some found → worth found ≡ worth bytes
after-worth [] found is = ap worth (sym (same_value [] found is))
after-worth (b ∷ bytes) found is = go (nat_lt b 128) is where
  go : (low : Bool) → cond low None (present (b ∷ bytes)) ≡ Some found → worth found ≡ worth (b ∷ bytes)
  go true is = absurd cc
  go false is = ap worth (sym (same_value (b ∷ bytes) found is))

zero-worth : (b : ℕ) (bytes : List ℕ) → b ≡ 0 → worth (b ∷ bytes) ≡ worth bytes
zero-worth b bytes none = rw none (omega arith)

digits-worth : (body found : List ℕ) → digits body ≡ Some found → worth found ≡ worth body
digits-worth [] found is = absurd cc
digits-worth (b ∷ bytes) found is = go (b == 0) (nat_lt b 128) refl is where
  go : (none low : Bool) → (b == 0) ≡ none → cond none (after_zero bytes) (cond low (present (b ∷ bytes)) None) ≡ Some found → worth found ≡ worth (b ∷ bytes)
  go true low none is = after-worth bytes found is ∙ sym (zero-worth b bytes (eqb-true b 0 none))
  go false true none is = ap worth (sym (same_value (b ∷ bytes) found is))
  go false false none is = absurd cc

-- ---- zeros in front

padded-worth : (count : ℕ) (bytes : List ℕ) → worth (replicate count 0 ++ bytes) ≡ worth bytes
padded-worth zero bytes = refl
padded-worth (suc count) bytes = zero-worth 0 (replicate count 0 ++ bytes) refl ∙ padded-worth count bytes

abbrev padded : List ℕ → List ℕ
padded bytes = replicate (32 - length bytes) 0 ++ bytes

fits-32 : (bytes found : List ℕ) → in_32 bytes ≡ Some found → (length bytes ≤ 32) × (padded bytes ≡ found)
fits-32 bytes found is = go (nat_le (length bytes) 32) refl is where
  go : (few : Bool) → nat_le (length bytes) 32 ≡ few → cond few (present (padded bytes)) None ≡ Some found → (length bytes ≤ 32) × (padded bytes ≡ found)
  go true few is = (leb-true (length bytes) 32 few, same_value (padded bytes) found is)
  go false few is = absurd cc

-- ---- both

pub number-worth : (body bytes : List ℕ) → number_of body ≡ Some bytes → worth bytes ≡ worth body
unfolding number_of
number-worth body bytes is =
    let steps = bind_some (digits body) in_32 bytes is in
    let fits = fits-32 steps.0 bytes steps.2 in
    ap worth (sym fits.1) ∙ padded-worth (32 - length steps.0) steps.0 ∙ digits-worth body steps.0 steps.1

pub number-length : (body bytes : List ℕ) → number_of body ≡ Some bytes → length bytes ≡ 32
unfolding number_of
number-length body bytes is =
    let steps = bind_some (digits body) in_32 bytes is in
    let fits = fits-32 steps.0 bytes steps.2 in
    ap length (sym fits.1) ∙ omega (arith, fits.0, length-append (replicate (32 - length steps.0) 0) steps.0, length-replicate {A = ℕ} (32 - length steps.0) 0)
