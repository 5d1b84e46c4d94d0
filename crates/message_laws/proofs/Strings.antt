-- A string lies where its item does.
use Rattle.std.proofs.Common.{◌≡◌, ℕ, List, [], Some, Result, Ok, Err, sym, arith}
use Rattle.std.proofs.lemmas.List.{append-nil}
use Rattle.cbor_view.specs.declared.cbor_fault.CborFault.{CborFault}
use Rattle.cbor_view.specs.Opening.{EndsWith}
use Rattle.cbor_view.specs.Parts.{LiesIn, Part, body_of, bytes_in, cbor, part_of, text_in}
use Rattle.cbor_view.specs.Reading.{reads}
use Rattle.cbor_view.specs.Tree.{Tree}
use Rattle.cbor_view.proofs.Contents.{bytes-end, text-end}
use Rattle.cbor_view.proofs.Places.{body-lies, within-within}
use Rattle.message_laws.specs.StringLies.{StringLies, in_string, whole_part}

pub self-lies : (p : Part) → LiesIn p p
self-lies p = record { before = []; after = []; whole = sym (append-nil p.bytes); place = omega arith }

-- what ends an item lies where the item does
pub end-lies : (all p : Part) (rest : List ℕ) → LiesIn all p → EndsWith p.bytes rest → LiesIn all (body_of p rest)
end-lies all p rest stands_in ends = within-within all p (body_of p rest) stands_in (body-lies p.at p.bytes rest ends)

pub bytes-lie : (all p : Part) (b : List ℕ) → LiesIn all p → bytes_in p ≡ Some b → StringLies bytes_in all p b
bytes-lie all p b stands_in is = record { item_stands_in_bytes = stands_in; content = is; string_lies = end-lies all p b stands_in (bytes-end p b is) }

pub text-lies : (all p : Part) (b : List ℕ) → LiesIn all p → text_in p ≡ Some b → StringLies text_in all p b
text-lies all p b stands_in is = record { item_stands_in_bytes = stands_in; content = is; string_lies = end-lies all p b stands_in (text-end p b is) }

-- ---- the whole

pub whole-lies : (bytes : List ℕ) (whole : Part) → cbor bytes ≡ Ok whole → (whole ≡ whole_part bytes) × LiesIn (whole_part bytes) whole
whole-lies bytes whole is = go (reads bytes) is where
  go : (r : Result Tree CborFault) → part_of bytes r ≡ Ok whole → (whole ≡ whole_part bytes) × LiesIn (whole_part bytes) whole
  go (Ok tree) e = let same : whole ≡ whole_part bytes = cc in (same, rw same (self-lies (whole_part bytes)))
  go (Err fault) e = absurd (cc)

-- ---- what a string spells

pub in-string-lies : (all string p : Part) → LiesIn all string → LiesIn (whole_part string.bytes) p → LiesIn all (in_string string p)
in-string-lies all string p stands_in own =
    within-within all string (in_string string p) stands_in (record { before = own.before; after = own.after; whole = own.whole; place = (let place = own.place in omega arith) })
