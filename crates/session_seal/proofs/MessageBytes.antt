-- The bytes of messages: what is before a sealed text, the text, and what is after it.
use Rattle.std.proofs.Common.{◌≡◌, ℕ, ◌+◌, Bool, true, false, List, [], ◌++◌, length, Some, ap, ◌∙◌, arith, append_assoc, append-nil, length-append}
use Rattle.mdoc_outside.specs.declared.key_name.KeyName.TheVariants as names
use Rattle.aes_gcm.specs.Sealing.{sealed}
use Rattle.aes_gcm.proofs.SealingLemmas.{length-encrypted, length-tag_of}
use Rattle.aes_gcm.specs.Sealing.{encrypted}
use Rattle.cbor_maps.specs.Writing.{key_bytes, map_head, encoded_bytes}
use Rattle.cbor_view.specs.Shortest.{shortest_head, uint_bytes}
use Rattle.session_seal.specs.Places.{sealed_text}
use Rattle.session_seal.specs.WrittenMessages.{data_head, establishment_bytes, establishment_head, last_status, session_data_bytes, status_field}

pub length-sealed_text : (key iv text : List ℕ) → length (sealed_text key iv text) ≡ length text + 16
unfolding sealed_text
length-sealed_text key iv text =
    let cipher = encrypted key iv text in
    omega (arith, length-append (sealed key iv text).0 (sealed key iv text).1, length-encrypted key iv text, length-tag_of key iv cipher)

regroup : (m k h t s u : List ℕ) → ((m ++ k) ++ h) ++ (t ++ (s ++ u)) ≡ (((m ++ k) ++ (h ++ t)) ++ s) ++ u
regroup m k h t s u = simp append_assoc

regroup_end : (a h t : List ℕ) → (a ++ h) ++ (t ++ []) ≡ a ++ (h ++ t)
regroup_end a h t = simp (append_assoc, append-nil)

data_parts : (n : ℕ) (last : Bool) (text : List ℕ) → n ≡ length text
    → data_head n last ++ (text ++ status_field last) ≡ session_data_bytes (record { sealed = Some text; status = last_status last })
unfolding data_head session_data_bytes
data_parts n true text count =
    regroup (map_head 2) (key_bytes names.Data) (shortest_head 2 n) text (key_bytes names.Status) (uint_bytes 20)
    ∙ ap (λ (i : ℕ). (((map_head 2 ++ key_bytes names.Data) ++ (shortest_head 2 i ++ text)) ++ key_bytes names.Status) ++ uint_bytes 20) count
data_parts n false text count =
    regroup_end (map_head 1 ++ key_bytes names.Data) (shortest_head 2 n) text
    ∙ ap (λ (i : ℕ). (map_head 1 ++ key_bytes names.Data) ++ (shortest_head 2 i ++ text)) count

pub data_message : (n : ℕ) (last : Bool) (head text after bytes : List ℕ) → n ≡ length text
    → head ≡ data_head n last → after ≡ status_field last → bytes ≡ head ++ (text ++ after)
    → bytes ≡ session_data_bytes (record { sealed = Some text; status = last_status last })
data_message n last head text after bytes count head_is after_is is =
    is ∙ ap (λ (h : List ℕ). h ++ (text ++ after)) head_is ∙ ap (λ (a : List ℕ). data_head n last ++ (text ++ a)) after_is
    ∙ data_parts n last text count

establishment_parts : (n : ℕ) (reader_key text : List ℕ) → n ≡ length text
    → establishment_head reader_key n ++ (text ++ []) ≡ establishment_bytes reader_key text
unfolding establishment_head establishment_bytes
establishment_parts n reader_key text count =
    regroup_end (((map_head 2 ++ key_bytes names.EReaderKey) ++ encoded_bytes reader_key) ++ key_bytes names.Data) (shortest_head 2 n) text
    ∙ ap (λ (i : ℕ). (((map_head 2 ++ key_bytes names.EReaderKey) ++ encoded_bytes reader_key) ++ key_bytes names.Data) ++ (shortest_head 2 i ++ text)) count

pub establishment_message : (n : ℕ) (reader_key head text bytes : List ℕ) → n ≡ length text
    → head ≡ establishment_head reader_key n → bytes ≡ head ++ (text ++ [])
    → bytes ≡ establishment_bytes reader_key text
establishment_message n reader_key head text bytes count head_is is =
    is ∙ ap (λ (h : List ℕ). h ++ (text ++ [])) head_is ∙ establishment_parts n reader_key text count
