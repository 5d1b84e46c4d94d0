use Rattle.std.proofs.Common.{◌≡◌, ◌∙◌, ap, ℤ, Bool, Option, Result, Ok}
use Rattle.der_view.specs.declared.der.Der.{Der}
use Rattle.der_view.specs.Der.{part}
use Rattle.der_view.specs.Parts.{Part}
use Rattle.key_device.specs.declared.point.Point.{Point}
use Rattle.cert_view.specs.Faults.{both}
use Rattle.cert_view.specs.Tbs.{Tbs, heading, names, values, tbs_of}
use Rattle.cert_view.specs.TbsParts.{layout_of}
use Rattle.cert_view.specs.declared.cert_fault.CertFault.{CertFault}
use Rattle.cert_view.proofs.BothFaults.{then-fault}
use Rattle.cert_view.proofs.tbs.contents.Goals as goal

pub returns-in-Err : goal.returns-in-Err
returns-in-Err c =
    let view : Der × Der → Part × Part = λ x. (part x.0, part x.1) in
    let l = layout_of c.args.parts in
    let step : (Part × Part) × ((Unit {0} × Unit {0}) × ((ℤ × ℤ) × (Point × Option Bool))) → Result Tbs CertFault =
    λ x. Ok (tbs_of x.0 x.1.1.0 x.1.1.1.0 x.1.1.1.1) in
    let others : c.both-others.result ≡ both (heading l) (values l) =
    c.both-others.ensures ∙ ap (λ h. both h c.values.result) c.heading.ensures ∙ ap (λ v. both (heading l) v) c.values.ensures in
    then-fault view c.names.result (names l) c.both-others.result (both (heading l) (values l)) step c.in-Err.fault c.names.ensures others c.in-Err.ensures
