use Rattle.cert_view.proofs.UtcYears.{utc_first, utc_last}
use Rattle.cert_view.proofs.laws.utc_time_is_of_its_years.Goals as goal

pub returns-clause-first : goal.returns-clause-first
returns-clause-first c = utc_first

pub returns-clause-last : goal.returns-clause-last
returns-clause-last c = utc_last
