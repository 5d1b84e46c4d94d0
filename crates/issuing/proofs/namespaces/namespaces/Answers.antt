use Rattle.std.proofs.Common.{◌≡◌, arith, subst, sym, true}
use Rattle.issue_spec.specs.SpecFacts.{is_element}
use Rattle.issue_spec.specs.declared.spec_element.SpecElement.{SpecElement}
use Rattle.issuing.proofs.namespaces.namespaces.Goals as goal

pub namespace_of-requires : goal.namespace_of-requires
namespace_of-requires c =
    subst (λ (e : SpecElement). is_element e ≡ true) (sym c.element-item.is) (c.requires c.loop-element.element-index c.element-item.result (omega arith))
