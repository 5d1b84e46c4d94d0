-- A fault that a definition gives is answered as it is.
use Rattle.std.proofs.Common.{Err, refl}
use Rattle.mdoc_frame.specs.FileFault.{IsFileFault}
use Rattle.mdoc_frame.specs.declared.file_fault.FileFault.{FileFault}
use Rattle.mdoc_frame.specs.declared.file_fault.FileFault.TheVariants.{Line, Limit, Memory}

pub is_file_fault : (A : Type 0) (fault : FileFault) → IsFileFault {A = A} fault (Err fault)
is_file_fault A (Line number) = refl
is_file_fault A (Limit limit number) = refl
is_file_fault A Memory = tt
