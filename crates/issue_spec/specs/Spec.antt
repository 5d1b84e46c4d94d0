-- What contracts see of a spec.
use Rattle.issue_spec.specs.declared.spec.Spec.{Spec}
use Rattle.issue_spec.specs.declared.spec_fields.SpecFields.{SpecFields}

abbrev pub fields : Spec → SpecFields
fields spec = spec.fields
