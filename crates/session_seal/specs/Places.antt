-- What an end seals (ISO/IEC 18013-5, 9.1.1.5): each end numbers the messages that it seals from 1 on, and the place of
-- a message is its number in the list of that end's sealed messages.
use Rattle.std.specs.Prelude.{ℕ, List, [], ◌∷◌, ◌++◌, Option}
use Rattle.std.specs.Int.{w32, to_be_bytes}
use Rattle.mdoc_outside.specs.declared.end.End.{End}
use Rattle.mdoc_outside.specs.declared.end.End.TheVariants.{Wallet, Reader}
use Rattle.aes_gcm.specs.Sealing.{sealed, opened}

-- the identifier of an end, 8 bytes
abbrev pub identifier : End → List ℕ
identifier Reader = 0 ∷ 0 ∷ 0 ∷ 0 ∷ 0 ∷ 0 ∷ 0 ∷ 0 ∷ []
identifier Wallet = 0 ∷ 0 ∷ 0 ∷ 0 ∷ 0 ∷ 0 ∷ 0 ∷ 1 ∷ []

-- the IV of the message at that place of an end's messages: the identifier, and the place in 4 bytes
unfoldable pub iv : End → ℕ → List ℕ
iv end place = identifier end ++ to_be_bytes w32 place

-- the ciphertext of a text and its tag
unfoldable pub sealed_text : List ℕ → List ℕ → List ℕ → List ℕ
sealed_text key iv text = (sealed key iv text).0 ++ (sealed key iv text).1

-- what an end seals at a place, and what the other one opens there
abbrev pub sealed_at : List ℕ → End → ℕ → List ℕ → List ℕ
sealed_at key end place text = sealed_text key (iv end place) text

abbrev pub opened_at : List ℕ → End → ℕ → List ℕ → Option (List ℕ)
opened_at key end place bytes = opened key (iv end place) bytes
