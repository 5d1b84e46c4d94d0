use Rattle.cbor_view.proofs.ShortestSpelling.{shortest-least}
use Rattle.cbor_view.proofs.laws.shortest_least.Goals as goal

pub returns-clause-fits : goal.returns-clause-fits
returns-clause-fits c = λ bytes t s. (shortest-least t bytes s.spelled).fits

pub returns-clause-least : goal.returns-clause-least
returns-clause-least c = λ bytes t s. (shortest-least t bytes s.spelled).least
