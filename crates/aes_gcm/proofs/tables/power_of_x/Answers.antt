use Rattle.std.proofs.Common.{◌∙◌, arith, ap}
use Rattle.aes_gcm.specs.Field.{power_of_x}
use Rattle.aes_gcm.specs.declared.tables.TheConstants.{POWERS_OF_X}
use Rattle.aes_gcm.proofs.Entries.{at_all, power_values}
use Rattle.aes_gcm.proofs.tables.power_of_x.Goals as goal

pub returns : goal.returns
returns c =
    c.at.ensures ∙ at_all power_of_x 0 POWERS_OF_X.values c.args.n power_values c.requires
    ∙ ap power_of_x (omega arith)
