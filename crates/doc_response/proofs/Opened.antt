-- A namespace is opened.
use Rattle.std.proofs.Common.{◌≡◌, ℕ, List, Some, refl}
use Rattle.cbor_view.specs.Parts.{Part, text_in, items_in}
use Rattle.doc_response.specs.Response.{spread}
use Rattle.doc_response.specs.ResponseView.{beside, namespace_or_none}

pub opened : (name list : Part) (own : List ℕ) (items : List Part) → text_in name ≡ Some own → items_in list ≡ Some items → beside own items ≡ spread (namespace_or_none (name, list))
opened name list own items text array = rw text (rw array refl)
