-- What the items of an accepted copy rest on.
use Rattle.std.specs.Prelude.{◌≡◌, ℕ, List, Ok}
use Rattle.mso_digests.specs.MadeFrom.{Covers}
use Rattle.mso_digests.specs.Object.{Object}
use Rattle.verdict_model.specs.Checked.{items_check}

-- A law: where no check of an item fails, the object has the digest of each.
abbrev pub IsCovered : Type 0
IsCovered = (o : Object) (doc_type : List ℕ) (items : List (List ℕ × List ℕ)) → items_check o doc_type items ≡ Ok tt → Covers o.digests items
