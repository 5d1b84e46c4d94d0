-- The value that a line of a spec file says is one item of CBOR.
use Rattle.std.proofs.Common.{◌≡◌, ℕ, ◌<◌, ◌≤◌, ◌^◌, ◌&&◌, Bool, true, false, cond, List, [], ◌∷◌, length, Option, Some, None, Result, Ok, Err, refl, subst, inl, arith}
use Rattle.std.specs.Prelude.{codes, nat_lt, slice_index}
use Rattle.std.specs.Result.{result_ok}
use Rattle.std.specs.Str.{IsUtf8, bytes_eq, is_utf8}
use Rattle.std.specs.Str.Parse.{digits_value}
use Rattle.std.proofs.lemmas.Bool.{leb-true, ltb-true}
use Rattle.std.proofs.lemmas.List.{length-append}
use Rattle.std.proofs.lemmas.Str.{IsUtf8-from_is_utf8}
use Rattle.hex.proofs.HexLemmas.{decode_of-ok}
use Rattle.hex.specs.Hex.{decode_of}
use Rattle.hex.specs.declared.error.FromHexError.{FromHexError}
use Rattle.mdl_table.specs.Form.{has_form}
use Rattle.mdoc_outside.specs.OptionSteps.{◌>>=◌, where_true}
use Rattle.cbor_view.specs.Reading.{reads}
use Rattle.cbor_view.specs.Shortest.{boolean_bytes, bytes_bytes, shortest_head, tag_bytes, text_bytes, uint_bytes}
use Rattle.cbor_view.specs.Spelling.{AreBytes}
use Rattle.cbor_view.specs.Tree.{Tree, Unsigned, Bytes, Text, Tag, Simple, levels}
use Rattle.cbor_view.specs.declared.cbor_fault.CborFault.{CborFault}
use Rattle.cbor_view.proofs.WholeReading.{reads-spells}
use Rattle.cbor_view.proofs.WrittenParts.{IsPiece, piece-shortest}
use Rattle.cbor_maps.specs.WrittenReads.{SpellsItem}
use Rattle.mdoc_outside.specs.Decimals.{decimal_number, is_decimal}
use Rattle.issue_spec.proofs.SpecForms.{date_utf8}
use Rattle.issue_spec.proofs.SpecHeaderLemmas.{same_value, where_some}
use Rattle.issue_spec.specs.SpecValue as values
use Rattle.issue_spec.specs.SpecWords.{after_four_words, after_space, bytes_of, date_of, truth_of}

-- what is one piece of so many levels is an item of that many or more
pub item-of : (d most : ℕ) (bytes : List ℕ) → d ≤ most → most ≤ 32 → IsPiece d bytes → SpellsItem most bytes
item-of d most bytes deep few p = let n = p.nesting in record { item = p.item; spells = record { spelled = p.spelled; nesting = omega arith }; nesting = omega arith }

-- a value that is one item, if it isn't longer than a spec allows
abbrev pub IsItem : List ℕ → Type 0
IsItem value = length value ≤ 262_144 → SpellsItem 31 value

-- ---- the values of the kinds

text-item : (said : List ℕ) → IsUtf8 said → IsItem (text_bytes said)
text-item said utf8 short =
    item-of 0 31 (text_bytes said) (omega arith) (omega arith)
    (piece-shortest 0 (Text said) (omega (arith, short, length-append (shortest_head 3 (length said)) said), utf8) (omega arith))

bytes-item : (said : List ℕ) → IsItem (bytes_bytes said)
bytes-item said short =
    item-of 0 31 (bytes_bytes said) (omega arith) (omega arith)
    (piece-shortest 0 (Bytes said) (omega (arith, short, length-append (shortest_head 2 (length said)) said)) (omega arith))

date-item : (date : List ℕ) → IsUtf8 date → IsItem (tag_bytes 1004 (text_bytes date))
date-item date utf8 short =
    item-of 1 31 (tag_bytes 1004 (text_bytes date)) (omega arith) (omega arith)
    (piece-shortest 1 (Tag 1004 (Text date))
    (omega arith, (omega (arith, short, length-append (shortest_head 6 1004) (text_bytes date), length-append (shortest_head 3 (length date)) date), utf8)) (omega arith))

uint-item : (number : ℕ) → number < 2 ^ 64 → IsItem (uint_bytes number)
uint-item number small short = item-of 0 31 (uint_bytes number) (omega arith) (omega arith) (piece-shortest 0 (Unsigned number) small (omega arith))

boolean-item : (truth : Bool) → IsItem (boolean_bytes truth)
boolean-item true short = item-of 0 31 (boolean_bytes true) (omega arith) (omega arith) (piece-shortest 0 (Simple 21) (inl (omega arith)) (omega arith))
boolean-item false short = item-of 0 31 (boolean_bytes false) (omega arith) (omega arith) (piece-shortest 0 (Simple 20) (inl (omega arith)) (omega arith))

given-item : (item : List ℕ) → AreBytes item → values.is_value item ≡ true → IsItem item
given-item item bytes is short = go (reads item) refl is where
  go : (r : Result Tree CborFault) → reads item ≡ r → values.is_shallow r ≡ true → SpellsItem 31 item
  go (Ok tree) read is = record { item = tree; spells = reads-spells item tree (record { each = bytes }) read; nesting = leb-true (levels tree) 31 is }
  go (Err fault) read is = absurd cc

-- ---- what is said

abbrev pub IsSaid : Option (List ℕ) → Type 0
IsSaid None = Unit {0}
IsSaid (Some value) = IsItem value

said-if : (b : Bool) (x y : Option (List ℕ)) → IsSaid x → IsSaid y → IsSaid (cond b x y)
said-if true x y first second = first
said-if false x y first second = second

said-then : {A : Type 0} (o : Option A) (f : A → Option (List ℕ)) → ((a : A) → o ≡ Some a → IsSaid (f a)) → IsSaid (o >>= f)
said-then None f all = tt
said-then (Some a) f all = all a refl

said-where : (b : Bool) (value : List ℕ) → (b ≡ true → IsItem value) → IsSaid (where_true b value)
said-where true value is = is refl
said-where false value is = tt

small-if : (a : Bool) (v n : ℕ) → cond (a && nat_lt v (2 ^ 64)) (Some v) None ≡ Some n → n < 2 ^ 64
small-if false v n e = absurd cc
small-if true v n e = go (nat_lt v (2 ^ 64)) refl e where
  go : (b : Bool) → nat_lt v (2 ^ 64) ≡ b → cond b (Some v) None ≡ Some n → n < 2 ^ 64
  go true is e = subst (λ (x : ℕ). x < 2 ^ 64) (same_value v n e) (ltb-true v (2 ^ 64) is)
  go false is e = absurd cc

number-small : (word : List ℕ) (n : ℕ) → decimal_number word ≡ Some n → n < 2 ^ 64
unfolding decimal_number
number-small word n e = small-if (is_decimal word) (digits_value 10 word) n e

decoded : (r : Result (List ℕ) FromHexError) (bytes : List ℕ) → result_ok r ≡ Some bytes → r ≡ Ok bytes
decoded (Ok other) bytes e = cc
decoded (Err fault) bytes e = absurd cc

bytes-are : (word bytes : List ℕ) → bytes_of word ≡ Some bytes → AreBytes bytes
bytes-are word bytes e = go (bytes_eq word (codes "-")) e where
  none : (i : ℕ) → slice_index [] i < 256
  none i = omega arith

  go : (b : Bool) → cond b (Some []) (result_ok (decode_of word)) ≡ Some bytes → AreBytes bytes
  go true e = subst AreBytes (same_value [] bytes e) none
  go false e = (decode_of-ok word bytes (decoded (decode_of word) bytes e)).3

date-is : (word date : List ℕ) → date_of word ≡ Some date → IsUtf8 date
date-is word date e =
    let found = where_some (has_form (codes "0000-00-00") word) word date e in
    subst IsUtf8 found.1 (date_utf8 word found.0)

kind-said : (kind word : List ℕ) → IsSaid (values.value_of kind word)
kind-said kind word =
    said-if (bytes_eq kind (codes "date")) _ _ (said-then (date_of word) _ (λ date e. date-item date (date-is word date e))) (
    said-if (bytes_eq kind (codes "uint")) _ _ (said-then (decimal_number word) _ (λ number e. uint-item number (number-small word number e))) (
    said-if (bytes_eq kind (codes "bool")) _ _ (said-then (truth_of word) _ (λ truth e. boolean-item truth)) (
    said-if (bytes_eq kind (codes "bytes")) _ _ (said-then (bytes_of word) _ (λ bytes e. bytes-item bytes)) (
    said-if (bytes_eq kind (codes "cbor")) _ _ (said-then (bytes_of word) _ (λ item e. said-where (values.is_value item) item (given-item item (bytes-are word item e)))) tt))))

one-said : (kind : List ℕ) (rest : List (List ℕ)) → IsSaid (values.one_word kind rest)
one-said kind [] = tt
one-said kind (word ∷ []) = kind-said kind word
one-said kind (word ∷ (other ∷ rest)) = tt

pub value-said : (bytes kind : List ℕ) (rest : List (List ℕ)) → IsSaid (values.value_in bytes kind rest)
value-said bytes kind rest =
    said-if (bytes_eq kind (codes "text")) _ _
    (said-then (after_space (after_four_words bytes)) _ (λ said e. said-where (is_utf8 said) (text_bytes said) (λ is. text-item said (IsUtf8-from_is_utf8 said is))))
    (one-said kind rest)
