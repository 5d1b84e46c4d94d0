use Rattle.std.proofs.Common.{◌≡◌, drop, map}
use Rattle.std.specs.Option.{option_copied}
use Rattle.doc_request.specs.Texts.{are_apart, are_apart_from}
use Rattle.doc_request.proofs.texts.are_apart.Given as goal

-- the texts that are left tell what all of them tell
abbrev pub invariant-loop-text : goal.invariant-loop-text
invariant-loop-text l = are_apart_from (option_copied l.last) (map (λ t. t.now) (drop l.text-index l.texts)) ≡ are_apart (map (λ t. t.now) l.texts)
