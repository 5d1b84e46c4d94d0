-- What a merge answers: the bytes of the merged store, where it has at most 16 documents and at most 16,777,216 bytes.
use Rattle.std.specs.Prelude.{◌≡◌, ◌≤◌, ◌<◌, ℕ, List, length, Result, Ok, Err}
use Rattle.doc_store.specs.Store.{Store}
use Rattle.store_write.specs.declared.merge_fault.MergeFault.{MergeFault}
use Rattle.store_write.specs.declared.merge_fault.MergeFault.TheVariants.{Documents, Bytes, Memory}
use Rattle.store_write.specs.Written.{store_bytes}

abbrev pub Merges : Store → Result (List ℕ) MergeFault → Type 0
Merges documents (Ok bytes) = (bytes ≡ store_bytes documents) × (length documents ≤ 16) × (length (store_bytes documents) ≤ 16_777_216)
Merges documents (Err (Documents n)) = (n ≡ length documents) × (16 < length documents)
Merges documents (Err (Bytes n)) = (n ≡ length (store_bytes documents)) × (length documents ≤ 16) × (16_777_216 < length (store_bytes documents))
Merges documents (Err Memory) = Unit {0}
