-- The first fault of a list of documents, one document after the other.
use Rattle.std.proofs.Common.{◌≡◌, List, [], ◌∷◌, Option, Some, None, Result, Ok, Err, refl, sym, ap, ◌∙◌}
use Rattle.cbor_view.specs.Parts.{Part}
use Rattle.doc_response.specs.declared.response_fault.ResponseFault.{ResponseFault}
use Rattle.doc_response.specs.declared.response_fault.ResponseFault.TheVariants.{Field, Doubled, Version}
use Rattle.doc_response.specs.Faults.{both, fault_in, first_fault, first_of}
use Rattle.doc_response.specs.Response.{Document, document, documents_of}
use Rattle.doc_response.specs.ResponseView.{value_or}

first-assoc : (a b c : ResponseFault) → first_of (first_of a b) c ≡ first_of a (first_of b c)
first-assoc (Field n) b c = refl
first-assoc Doubled (Field n) c = refl
first-assoc Doubled Doubled (Field n) = refl
first-assoc Doubled Doubled Doubled = refl
first-assoc Doubled Doubled Version = refl
first-assoc Doubled Version (Field n) = refl
first-assoc Doubled Version Doubled = refl
first-assoc Doubled Version Version = refl
first-assoc Version (Field n) c = refl
first-assoc Version Doubled (Field n) = refl
first-assoc Version Doubled Doubled = refl
first-assoc Version Doubled Version = refl
first-assoc Version Version (Field n) = refl
first-assoc Version Version Doubled = refl
first-assoc Version Version Version = refl

fault-assoc : (a b c : Option ResponseFault) → first_fault (first_fault a b) c ≡ first_fault a (first_fault b c)
fault-assoc None b c = refl
fault-assoc (Some a) None c = refl
fault-assoc (Some a) (Some b) None = refl
fault-assoc (Some a) (Some b) (Some c) = ap (λ (f : ResponseFault). Some f) (first-assoc a b c)

fault-both : {A B C : Type 0} (join : A → B → C) (a : Result A ResponseFault) (b : Result B ResponseFault) → fault_in (both join a b) ≡ first_fault (fault_in a) (fault_in b)
fault-both join (Ok a) (Ok b) = refl
fault-both join (Ok a) (Err g) = refl
fault-both join (Err f) (Ok b) = refl
fault-both join (Err f) (Err g) = refl

abbrev with_document : Document → List Document → List Document
with_document document documents = document ∷ documents

pub one_more : (fault : Option ResponseFault) (p : Part) (ps : List Part) →
    first_fault (first_fault fault (fault_in (document p))) (fault_in (documents_of ps)) ≡ first_fault fault (fault_in (documents_of (p ∷ ps)))
one_more fault p ps =
    fault-assoc fault (fault_in (document p)) (fault_in (documents_of ps))
    ∙ ap (first_fault fault) (sym (fault-both with_document (document p) (documents_of ps)))

pub no_more : (fault : Option ResponseFault) → first_fault fault None ≡ fault
no_more None = refl
no_more (Some fault) = refl

-- what was read where there is no fault, and where there is one
pub without_fault : (r : Result (List Document) ResponseFault) → fault_in r ≡ None → r ≡ Ok (value_or [] r)
without_fault (Ok documents) none = refl
without_fault (Err fault) none = absurd cc

pub with_fault : (r : Result (List Document) ResponseFault) (fault : ResponseFault) → fault_in r ≡ Some fault → r ≡ Err fault
with_fault (Ok documents) fault some = absurd cc
with_fault (Err own) fault some = cc

-- the first of documents without a fault, and the others
pub first_read : (p : Part) (ps : List Part) → fault_in (documents_of (p ∷ ps)) ≡ None → fault_in (document p) ≡ None
first_read p ps = go (document p) (documents_of ps) where
  go : (a : Result Document ResponseFault) (b : Result (List Document) ResponseFault) → fault_in (both with_document a b) ≡ None → fault_in a ≡ None
  go (Ok a) b none = refl
  go (Err f) (Ok b) none = absurd cc
  go (Err f) (Err g) none = absurd cc

pub others_read : (p : Part) (ps : List Part) → fault_in (documents_of (p ∷ ps)) ≡ None → fault_in (documents_of ps) ≡ None
others_read p ps = go (document p) (documents_of ps) where
  go : (a : Result Document ResponseFault) (b : Result (List Document) ResponseFault) → fault_in (both with_document a b) ≡ None → fault_in b ≡ None
  go a (Ok b) none = refl
  go (Ok a) (Err g) none = absurd cc
  go (Err f) (Err g) none = absurd cc

pub read_first : (p : Part) (ps : List Part) (d : Document) → fault_in (documents_of (p ∷ ps)) ≡ None → document p ≡ Ok d → value_or [] (documents_of (p ∷ ps)) ≡ d ∷ value_or [] (documents_of ps)
read_first p ps d = go (document p) (documents_of ps) where
  go : (a : Result Document ResponseFault) (b : Result (List Document) ResponseFault) → fault_in (both with_document a b) ≡ None → a ≡ Ok d → value_or [] (both with_document a b) ≡ d ∷ value_or [] b
  go (Ok a) (Ok b) none is = let same : a ≡ d = cc in ap (λ (x : Document). x ∷ b) same
  go (Ok a) (Err g) none is = absurd cc
  go (Err f) b none is = absurd cc
