-- Which numbers of words say no exchange.
use Rattle.std.proofs.Common.{◌≡◌, ◌<◌, ◌≤◌, ℕ, List, [], ◌∷◌, None, length, refl, arith}
use Rattle.key_device.specs.TapeLine.{exchange_of}

pub none_of_few : (ws : List (List ℕ)) → length ws < 3 → exchange_of ws ≡ None
unfolding exchange_of
none_of_few [] few = refl
none_of_few (a ∷ []) few = refl
none_of_few (a ∷ b ∷ []) few = refl
none_of_few (a ∷ b ∷ c ∷ ws) few = absurd (omega arith)

pub none_of_four : (ws : List (List ℕ)) → 4 ≤ length ws → length ws < 5 → exchange_of ws ≡ None
unfolding exchange_of
none_of_four [] low high = absurd (omega arith)
none_of_four (a ∷ []) low high = absurd (omega arith)
none_of_four (a ∷ b ∷ []) low high = absurd (omega arith)
none_of_four (a ∷ b ∷ c ∷ []) low high = absurd (omega arith)
none_of_four (a ∷ b ∷ c ∷ d ∷ []) low high = refl
none_of_four (a ∷ b ∷ c ∷ d ∷ e ∷ ws) low high = absurd (omega arith)

pub none_of_many : (ws : List (List ℕ)) → 8 ≤ length ws → exchange_of ws ≡ None
unfolding exchange_of
none_of_many [] low = absurd (omega arith)
none_of_many (a ∷ []) low = absurd (omega arith)
none_of_many (a ∷ b ∷ []) low = absurd (omega arith)
none_of_many (a ∷ b ∷ c ∷ []) low = absurd (omega arith)
none_of_many (a ∷ b ∷ c ∷ d ∷ []) low = absurd (omega arith)
none_of_many (a ∷ b ∷ c ∷ d ∷ e ∷ []) low = absurd (omega arith)
none_of_many (a ∷ b ∷ c ∷ d ∷ e ∷ f ∷ []) low = absurd (omega arith)
none_of_many (a ∷ b ∷ c ∷ d ∷ e ∷ f ∷ g ∷ []) low = absurd (omega arith)
none_of_many (a ∷ b ∷ c ∷ d ∷ e ∷ f ∷ g ∷ h ∷ ws) low = refl
