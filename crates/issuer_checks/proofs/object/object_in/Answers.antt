use Rattle.std.proofs.Common.{◌≡◌, true, refl, arith}
use Rattle.std.specs.Str.{bytes_eq}
use Rattle.mso_digests.specs.MsoView.{object_seen}
use Rattle.issuer_checks.proofs.ObjectLengths.{lengths_read}
use Rattle.issuer_checks.proofs.object.object_in.Goals as goal

pub returns-in-Ok-timely-clause-lengths : goal.returns-in-Ok-timely-clause-lengths
returns-in-Ok-timely-clause-lengths c = lengths_read c.args.signer.now.auth.payload.now (object_seen c.in-Ok.object) c.in-Ok.ensures

pub returns-in-Err-clause-checks : goal.returns-in-Err-clause-checks
returns-in-Err-clause-checks c =
    let typed : bytes_eq (object_seen c.in-Ok.object).doc_type c.args.doc_type.now ≡ true = grind arith in
    rw (c.in-Ok.ensures, typed, c.in-Err.ensures) refl
