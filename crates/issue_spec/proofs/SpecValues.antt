-- The values that are written are items.
use Rattle.std.proofs.Common.{◌≡◌, ℕ, ◌<◌, ◌^◌, ◌⊎◌, inl, refl, arith, Bool, true, false, List, length}
use Rattle.std.specs.Str.{IsUtf8}
use Rattle.cbor_view.specs.Shortest.{text_bytes, tag_bytes, uint_bytes, boolean_bytes, bytes_bytes}
use Rattle.cbor_view.specs.Tree.{Unsigned, Bytes, Text, Tag, Simple}
use Rattle.cbor_view.proofs.WrittenParts.{reads-shortest}
use Rattle.issue_spec.specs.SpecValue.{is_value}

pub text_is_value : (text : List ℕ) → IsUtf8 text → length text < 2 ^ 32 → is_value (text_bytes text) ≡ true
text_is_value text is short = rw (reads-shortest (Text text) (short, is) (omega arith)) refl

pub bytes_is_value : (bytes : List ℕ) → length bytes < 2 ^ 32 → is_value (bytes_bytes bytes) ≡ true
bytes_is_value bytes short = rw (reads-shortest (Bytes bytes) short (omega arith)) refl

pub date_is_value : (text : List ℕ) → IsUtf8 text → length text < 2 ^ 32 → is_value (tag_bytes 1004 (text_bytes text)) ≡ true
date_is_value text is short = rw (reads-shortest (Tag 1004 (Text text)) (omega arith, (short, is)) (omega arith)) refl

pub uint_is_value : (number : ℕ) → number < 2 ^ 64 → is_value (uint_bytes number) ≡ true
uint_is_value number small = rw (reads-shortest (Unsigned number) small (omega arith)) refl

pub boolean_is_value : (truth : Bool) → is_value (boolean_bytes truth) ≡ true
boolean_is_value true = rw (reads-shortest (Simple 21) (inl (omega arith)) (omega arith)) refl
boolean_is_value false = rw (reads-shortest (Simple 20) (inl (omega arith)) (omega arith)) refl

pub ruleset values = (text_is_value, bytes_is_value, date_is_value, uint_is_value, boolean_is_value)
