-- Two faults, of which the first in the order is taken.
use Rattle.std.proofs.Common.{◌≡◌, Result, Err, sym, ap, ◌∙◌}
use Rattle.cbor_maps.specs.declared.map_fault.MapFault.{MapFault}
use Rattle.doc_response.specs.declared.response_fault.ResponseFault.{ResponseFault}
use Rattle.doc_response.specs.Faults.{both, first_of, found, response_fault}

pub both-faults : {A B C : Type 0} (join : A → B → C) (a : Result A ResponseFault) (b : Result B MapFault) (f g h : ResponseFault) (m : MapFault) →
    a ≡ Err f → b ≡ Err m → g ≡ response_fault m → h ≡ first_of f g → both join a (found b) ≡ Err h
both-faults join a b f g h m a_is b_is g_is h_is = rw a_is (rw b_is (ap (λ (x : ResponseFault). Err x) (sym (h_is ∙ ap (first_of f) g_is))))
