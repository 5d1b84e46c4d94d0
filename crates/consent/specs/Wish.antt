-- What a reader asks for: one element of a document, and whether it means to keep it (ISO/IEC 18013-5, 8.3.2.1.2.1).
use Rattle.std.specs.Prelude.{ℕ, List, Bool}
use Rattle.consent.specs.declared.wish.Wish.{Wish}

pub record Wanted : Type 0 where
  pub doc_type : List ℕ
  pub ns : List ℕ
  pub name : List ℕ
  pub retain : Bool

-- a wish without where its texts lie in memory
abbrev pub wanted : Wish → Wanted
wanted wish = record { doc_type = wish.doc_type.now; ns = wish.ns.now; name = wish.name.now; retain = wish.retain }
