-- Of the checks that fail the first is reported, and the first place where it does.
use Rattle.std.specs.Prelude.{ℕ, Bool, ◌==◌, ◌&&◌, ◌||◌, nat_lt, if◌then◌else◌, Result, Ok, Err}
use Rattle.cert_view.specs.declared.cert_check.CertCheck.{CertCheck}
use Rattle.cert_view.specs.declared.cert_check.CertCheck.TheVariants.{Der, Shape, VersionNot3, Algorithm, Time, KeyKind, Signature, Extension}
use Rattle.cert_view.specs.declared.cert_fault.CertFault.{CertFault}

-- the place of a check in their order
abbrev pub rank : CertCheck → ℕ
rank Der = 0
rank Shape = 1
rank VersionNot3 = 2
rank Algorithm = 3
rank Time = 4
rank KeyKind = 5
rank Signature = 6
rank Extension = 7

-- whether a fault comes before another: by its check, and at one check by its place
abbrev pub is_before : CertFault → CertFault → Bool
is_before one other =
    nat_lt (rank one.check) (rank other.check)
    || ((rank one.check == rank other.check) && nat_lt one.at other.at)

abbrev pub first_of : CertFault → CertFault → CertFault
first_of one other = if is_before other one then other else one

-- two readings: both values, or the first of the faults
abbrev pub both : {A B : Type 0} → Result A CertFault → Result B CertFault → Result (A × B) CertFault
both (Ok a) (Ok b) = Ok (a, b)
both (Ok a) (Err fault) = Err fault
both (Err fault) (Ok b) = Err fault
both (Err first) (Err second) = Err (first_of first second)

abbrev pub fault : CertCheck → ℕ → CertFault
fault check at = record { check = check; at = at }
