use Rattle.std.proofs.Common.{◌≡◌, ◌||◌, ℕ, List, drop}
use Rattle.std.specs.List.{list_any}
use Rattle.verdict_model.specs.Elements.{wants}
use Rattle.reader_checks.specs.ElementNames.{has_name}
use Rattle.reader_checks.proofs.requested.requested_elements.Given as goal

-- the elements so far, and those of the documents that are left, are all
abbrev pub invariant-loop-asked : goal.invariant-loop-asked
invariant-loop-asked l = (ns : List ℕ) (name : List ℕ) →
    (has_name l.names ns name || list_any (wants l.doc_type ns name) (drop l.asked-index l.request.documents)) ≡ list_any (wants l.doc_type ns name) l.request.documents
