-- Of two readings, one of which is seen by its view, a fault is that of what they are seen as.
use Rattle.std.proofs.Common.{◌≡◌, Result, Ok, Err}
use Rattle.mdoc_outside.specs.ResultSteps.{◌>>=◌}
use Rattle.der_view.specs.Reading.{Gives}
use Rattle.cert_view.specs.declared.cert_fault.CertFault.{CertFault}
use Rattle.cert_view.specs.Faults.{both}

seen-fault : {A B C D : Type 0} (view : A → B) (r : Result A CertFault) (s : Result B CertFault) (o : Result C CertFault) (step : B × C → Result D CertFault) (f : CertFault) → Gives view r s → Err f ≡ both r o → (both s o >>= step) ≡ Err f
seen-fault view (Ok a) s (Ok b) step f g e = cc
seen-fault view (Ok a) s (Err h) step f g e = rw g (cc)
seen-fault view (Err d) s (Ok b) step f g e = rw g (cc)
seen-fault view (Err d) s (Err h) step f g e = rw g (cc)

pub then-fault : {A B C D : Type 0} (view : A → B) (r : Result A CertFault) (s : Result B CertFault) (o o' : Result C CertFault) (step : B × C → Result D CertFault) (f : CertFault) → Gives view r s → o ≡ o' → Err f ≡ both r o → (both s o' >>= step) ≡ Err f
then-fault view r s o o' step f g q e = rw (← q) (seen-fault view r s o step f g e)
