use Rattle.std.proofs.Common.{◌≡◌, ◌+◌, ◌≤◌, length}
use Rattle.doc_request.specs.Views.{elements_left}
use Rattle.doc_request.proofs.spaces.is_count.Given as goal

-- those counted and those left are all
abbrev pub invariant-loop-element : goal.invariant-loop-element
invariant-loop-element l =
    (goal.iterator-loop-element).can_next l._element-iterator ×
    (goal.iterator-loop-element).is_finite l._element-iterator ×
    (l.count + length (elements_left l._element-iterator) ≡ length (elements_left l.fn.elements)) ×
    (l.count ≤ 512)
