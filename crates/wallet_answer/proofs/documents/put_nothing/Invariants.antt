use Rattle.std.proofs.Common.{◌≡◌, map, take}
use Rattle.wallet_answer.specs.Texts.{name_seen}
use Rattle.wallet_answer.specs.Documents.{with_types}
use Rattle.wallet_answer.proofs.documents.put_nothing.Given as goal

-- the types so far
abbrev pub invariant-loop-doc_type : goal.invariant-loop-doc_type
invariant-loop-doc_type l = l.draft ≡ with_types (map name_seen (take l.doc_type-index l.types)) l.fn.draft
