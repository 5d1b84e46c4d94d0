use Rattle.verdict_model.proofs.Covered.{is-covered}
use Rattle.verdict_model.proofs.package_laws.accepted_copy_is_covered.Goals as goal

pub returns : goal.returns
returns c = is-covered
