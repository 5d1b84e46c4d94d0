use Rattle.cert_view.proofs.NumberWorth.{number-worth, number-length}
use Rattle.cert_view.proofs.laws.integer_value_is_kept.Goals as goal

pub returns-clause-worth : goal.returns-clause-worth
returns-clause-worth c = number-worth

pub returns-clause-size : goal.returns-clause-size
returns-clause-size c = number-length
