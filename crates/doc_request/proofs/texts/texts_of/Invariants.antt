use Rattle.std.proofs.Common.{◌≡◌, ◌+◌, ◌≤◌, ◌++◌, length, map}
use Rattle.std.specs.Prelude.{filter_map}
use Rattle.arrayvec.specs.ArrayVec.{array_vec_len}
use Rattle.cbor_view.specs.Pairs.{pairs_left}
use Rattle.doc_request.specs.Texts.{key_text}
use Rattle.doc_request.proofs.texts.texts_of.Given as goal

-- the texts so far, and those that are left, are all
abbrev pub invariant-loop-key : goal.invariant-loop-key
invariant-loop-key l =
    (goal.iterator-loop-key).can_next l.key-iterator ×
    (goal.iterator-loop-key).is_finite l.key-iterator ×
    (map (λ t. t.now) l.texts.items ++ filter_map key_text (pairs_left l.key-iterator) ≡ filter_map key_text (pairs_left l.fn.entries)) ×
    (array_vec_len l.texts + length (pairs_left l.key-iterator) ≤ 512)
