-- The places of what is released of documents.
use Rattle.std.specs.Prelude.{List}
use Rattle.std.specs.List.{flat_map}
use Rattle.wallet_model.specs.Released.{ReleasedDocument}
use Rattle.wallet_model.specs.declared.released_at.ReleasedAt.{ReleasedAt}

abbrev pub places_in : List ReleasedDocument → List ReleasedAt
places_in choices = flat_map (λ (choice : ReleasedDocument). choice.places) choices
