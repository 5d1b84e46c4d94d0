use Rattle.certificate_laws.proofs.EachPart.{version-is, algorithm-is, validity-is, key-is, signature-is, extension-is, tbs-is}
use Rattle.certificate_laws.proofs.laws.faultless_parts.Goals as goal

pub returns-clause-version : goal.returns-clause-version
returns-clause-version c = version-is

pub returns-clause-algorithm : goal.returns-clause-algorithm
returns-clause-algorithm c = algorithm-is

pub returns-clause-validity : goal.returns-clause-validity
returns-clause-validity c = validity-is

pub returns-clause-key : goal.returns-clause-key
returns-clause-key c = key-is

pub returns-clause-signature : goal.returns-clause-signature
returns-clause-signature c = signature-is

pub returns-clause-extension : goal.returns-clause-extension
returns-clause-extension c = extension-is

pub returns-clause-to_be_signed : goal.returns-clause-to_be_signed
returns-clause-to_be_signed c = tbs-is
