use Rattle.std.proofs.Common.{◌∙◌, arith, ap}
use Rattle.aes_gcm.specs.Field.{sbox}
use Rattle.aes_gcm.specs.declared.tables.TheConstants.{SBOX}
use Rattle.aes_gcm.proofs.Entries.{at_all, sbox_values}
use Rattle.aes_gcm.proofs.tables.sbox.Goals as goal

pub returns : goal.returns
returns c =
    c.at.ensures ∙ at_all sbox 0 SBOX.values c.args.byte sbox_values (omega arith)
    ∙ ap sbox (omega arith)
