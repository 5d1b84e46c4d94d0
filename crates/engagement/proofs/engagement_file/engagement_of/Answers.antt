use Rattle.engagement.proofs.TextLemmas.{of-none}
use Rattle.engagement.proofs.engagement_file.engagement_of.Goals as goal

pub returns-in-Err : goal.returns-in-Err
returns-in-Err c = let broken = c.in-Err.ensures in of-none c.args.text.now c.in-Ok.bytes c.in-Err.field-0 c.in-Ok.ensures (rw (← c.as_slice.ensures) broken.exact)
