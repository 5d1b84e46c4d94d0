-- What is chosen, document by document.
use Rattle.std.specs.Prelude.{ℕ, List, ◌∷◌, Option, Some, None}
use Rattle.wallet_model.specs.Released.{ReleasedDocument}

-- the type of a document of which nothing is released, before others
abbrev pub if_nothing : Option ReleasedDocument → List ℕ → List (List ℕ) → List (List ℕ)
if_nothing None doc_type types = doc_type ∷ types
if_nothing (Some found) doc_type types = types
