-- Roots that were read are those that are listed.
use mathlib.Core.Bool.{Bool-set}
use Rattle.std.proofs.Common.{◌≡◌, ℕ, List, [], ◌∷◌, map, Some, Result, Ok, Err, refl, ap, ◌∙◌}
use Rattle.std.specs.Prelude.{IsOk, filter_map}
use Rattle.cert_view.specs.Certificate.{Fields, certificate}
use Rattle.cert_view.specs.Root.{listed}
use Rattle.cert_view.specs.Roots.{roots_of}
use Rattle.cert_view.specs.declared.cert_fault.CertFault.{CertFault}
use Rattle.cert_view.specs.declared.root.Root.{Root}
use Rattle.mdoc_frame.specs.Content.{OfRoots, or_roots_fault, root_of, root_with}

with-read : (name bytes : List ℕ) (read : Result Fields CertFault) (holds : IsOk read → IsOk (certificate bytes)) (ok : IsOk read) →
    root_with name bytes read holds ≡ Some (record { name = name; bytes = bytes; reads = holds ok })
with-read name bytes (Ok fields) holds ok =
    ap (λ (is : IsOk (certificate bytes)). Some (record { name = name; bytes = bytes; reads = is })) (Bool-set _ _ (holds refl) (holds ok))
with-read name bytes (Err fault) holds ok = absurd cc

root-again : (root : Root) → root_of (listed root) ≡ Some root
root-again root = with-read root.name root.bytes (certificate root.bytes) (λ ok. ok) root.reads

roots-again : (roots : List Root) → filter_map root_of (map listed roots) ≡ roots
roots-again [] = refl
roots-again (root ∷ roots) = rw (root-again root) (ap (λ (others : List Root). root ∷ others) (roots-again roots))

pub roots_read : (text : List ℕ) (roots : List Root) → roots_of text ≡ Ok (map listed roots) → or_roots_fault (roots_of text) ≡ Ok (OfRoots roots)
roots_read text roots is = ap or_roots_fault is ∙ ap (λ (others : List Root). Ok (OfRoots others)) (roots-again roots)
