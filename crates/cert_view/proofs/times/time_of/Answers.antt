use Rattle.std.proofs.Common.{◌∙◌, sym, ap, arith}
use Rattle.mdl_table.specs.Calendar.{moment_of}
use Rattle.cert_view.proofs.TimeTexts.{time-length, said-time, moment-utf8}
use Rattle.cert_view.proofs.times.time_of.Goals as goal

pub returns-in_err-signed : goal.returns-in_err-signed
returns-in_err-signed c =
    c.from_residual.ensures ∙ sym (time-length _ (λ is. c.in_err-signed.ensures.other (omega (arith, is))))

pub returns-in-Ok : goal.returns-in-Ok
returns-in-Ok c =
    c.moment_of.ensures ∙ ap moment_of c.in-Ok.ensures.cases.0 ∙ said-time _ _ c.in_ok-signed.ensures.written

pub returns-in-Err : goal.returns-in-Err
returns-in-Err c =
    sym (moment-utf8 _ c.in-Err.ensures.cases.0) ∙ said-time _ _ c.in_ok-signed.ensures.written
