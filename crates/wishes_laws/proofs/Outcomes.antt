-- What the reading of lines comes to, by how far they are those of documents.
use Rattle.std.proofs.Common.{◌≡◌, ◌⊎◌, ℕ, ◌+◌, ◌<◌, refl, sym, ap, ◌∙◌, subst, arith, inl, inr, Bool, true, false, if◌then◌else◌, List, [], ◌∷◌, ◌++◌, append-nil, length, length-append, Option, Some, None, Result, Ok, Err, nat_lt, nat_le}
use Rattle.std.specs.List.{list_any}
use Rattle.std.proofs.lemmas.Bool.{ltb-false, leb-true}
use Rattle.std.proofs.lemmas.List.Sums.{sum_by-append}
use Rattle.mdoc_outside.specs.Lines.{Line as TextLine, words}
use Rattle.mdoc_outside.specs.OptionSteps.{◌>>=◌ as ◌>>?◌}
use Rattle.mdoc_outside.specs.ResultSteps.{◌>>=◌}
use Rattle.mdoc_outside.specs.declared.limit_name.LimitName.{LimitName}
use Rattle.mdoc_outside.specs.declared.limit_name.LimitName.TheVariants.{Documents, Wishes}
use Rattle.doc_request.specs.Draft.{is_same_element, wish_count}
use Rattle.doc_request.specs.declared.doc_draft.DocDraft.{DocDraft}
use Rattle.doc_request.specs.declared.wish_draft.WishDraft.{WishDraft}
use Rattle.mdoc_frame.specs.WishLine.{wish_line}
use Rattle.mdoc_frame.specs.Wishes.{Progress, with_current, unless, with_want_in, with_line, one_or_more, documents_at_end, read_on}
use Rattle.mdoc_frame.specs.declared.file_fault.FileFault.{FileFault}
use Rattle.mdoc_frame.specs.declared.file_fault.FileFault.TheVariants as fault
use Rattle.wishes_laws.specs.BadLine.{Passes, documents_of_file, wishes_of_document, wishes_of_file}
use Rattle.wishes_laws.specs.WishesFile.{words_of}
use Rattle.wishes_laws.proofs.Going.{begun, ends, closed, new_document, add_wish, opened, wanted, said_next, next, goes}
use Rattle.wishes_laws.proofs.LineWords.{Said, Document, Want, said_of, with_said, line-same}

-- ---- one line

record Limited (p : Progress) (limit : LimitName) (count : ℕ) : Type 0 where
  last : DocDraft
  current : p.current ≡ Some last
  passes : Passes p.complete last limit count

-- what became of a line, by what it becomes limits apart
abbrev Fate : ℕ → Result Progress FileFault → Option Progress → Type 0
Fate number (Ok q) o = o ≡ Some q
Fate number (Err (fault.Line n)) o = (n ≡ number) × (o ≡ None)
Fate number (Err (fault.Limit limit count)) o = (q : Progress) × (o ≡ Some q) × Limited q limit count
Fate number (Err fault.Memory) o = ⊥

abbrev begin : List ℕ → List DocDraft → Result Progress FileFault
begin doc_type complete = if nat_lt (length complete) 16 then Ok (record { complete = complete; current = Some (new_document doc_type) }) else Err (fault.Limit Documents 17)

begin-fate : (number : ℕ) (doc_type : List ℕ) (complete : List DocDraft) → Fate number (begin doc_type complete) (opened doc_type complete)
begin-fate number doc_type complete = go (nat_lt (length complete) 16) refl where
  go : (b : Bool) → nat_lt (length complete) 16 ≡ b → Fate number (if b then Ok (record { complete = complete; current = Some (new_document doc_type) }) else Err (fault.Limit Documents 17)) (opened doc_type complete)
  go true room = refl
  go false full =
      let many = ltb-false (length complete) 16 full in
      let longer = length-append complete (new_document doc_type ∷ []) in
      (record { complete = complete; current = Some (new_document doc_type) }, refl, record { last = new_document doc_type; current = refl; passes = documents_of_file (omega (arith, many, longer)) })

document-fate : (number : ℕ) (doc_type : List ℕ) (complete : List DocDraft) (current : Option DocDraft) → Fate number (with_current number complete current >>= begin doc_type) (closed complete current >>? opened doc_type)
document-fate number doc_type complete None = begin-fate number doc_type complete
document-fate number doc_type complete (Some document) = go (nat_lt 0 (length document.wishes)) where
  go : (b : Bool) → Fate number ((if b then Ok (complete ++ document ∷ []) else Err (fault.Line number)) >>= begin doc_type) ((if b then Some (complete ++ document ∷ []) else None) >>? opened doc_type)
  go true = begin-fate number doc_type (complete ++ document ∷ [])
  go false = (refl, refl)

want-fate : (number : ℕ) (wish : WishDraft) (complete : List DocDraft) (current : Option DocDraft) → Fate number (with_want_in number wish complete current) (wanted wish complete current)
want-fate number wish complete None = (refl, refl)
want-fate number wish complete (Some document) = go (list_any (is_same_element wish) document.wishes) (nat_le 512 (length document.wishes)) refl (nat_le 2048 (wish_count complete + length document.wishes)) refl where
  go : (a b : Bool) → nat_le 512 (length document.wishes) ≡ b → (c : Bool) → nat_le 2048 (wish_count complete + length document.wishes) ≡ c →
      Fate number (unless (if a then Some (fault.Line number) else if b then Some (fault.Limit Wishes 513) else if c then Some (fault.Limit Wishes 2049) else None) (record { complete = complete; current = Some (add_wish document wish) }))
      (if a then None else Some (record { complete = complete; current = Some (add_wish document wish) }))
  go true b is c full = (refl, refl)
  go false true is c full =
      let many = leb-true 512 (length document.wishes) is in
      let longer = length-append document.wishes (wish ∷ []) in
      (record { complete = complete; current = Some (add_wish document wish) }, refl, record { last = add_wish document wish; current = refl; passes = wishes_of_document (omega (arith, many, longer)) })
  go false false is true full =
      let many = leb-true 2048 (wish_count complete + length document.wishes) full in
      let longer = length-append document.wishes (wish ∷ []) in
      let all = sum_by-append (λ (d : DocDraft). length d.wishes) complete (add_wish document wish ∷ []) in
      (record { complete = complete; current = Some (add_wish document wish) }, refl, record { last = add_wish document wish; current = refl; passes = wishes_of_file (omega (arith, many, longer, all)) })
  go false false is false full = refl

said-fate : (number : ℕ) (said : Option Said) (p : Progress) → Fate number (with_said number said p) (said_next p said)
said-fate number None p = (refl, refl)
said-fate number (Some (Document doc_type)) p = document-fate number doc_type p.complete p.current
said-fate number (Some (Want wish)) p = want-fate number wish p.complete p.current

line-fate : (line : TextLine) (p : Progress) → Fate line.number (with_line line.number (wish_line (words line.bytes)) p) (next p (words line.bytes))
line-fate line p = subst (λ (r : Result Progress FileFault). Fate line.number r (next p (words line.bytes))) (sym (line-same line.number (words line.bytes) p)) (said-fate line.number (said_of (words line.bytes)) p)

-- ---- the end of the lines

abbrev End : ℕ → Progress → Result (List DocDraft) FileFault → Type 0
End last p (Ok documents) = (ends p.current ≡ true) × (documents ≡ begun p) × (0 < length documents)
End last p (Err (fault.Line n)) = (n ≡ last) × ((ends p.current ≡ false) ⊎ (begun p ≡ []))
End last p (Err (fault.Limit limit count)) = ⊥
End last p (Err fault.Memory) = ⊥

some-end : (last : ℕ) (p : Progress) (complete : List DocDraft) → ends p.current ≡ true → complete ≡ begun p → End last p (one_or_more last complete)
some-end last p [] ended are = (refl, inr (sym are))
some-end last p (document ∷ documents) ended are = (ended, are, omega arith)

end-is : (last : ℕ) (complete : List DocDraft) (current : Option DocDraft) → End last (record { complete = complete; current = current }) (with_current last complete current >>= one_or_more last)
end-is last complete None = some-end last (record { complete = complete; current = None }) complete refl (sym (append-nil complete))
end-is last complete (Some document) = go (nat_lt 0 (length document.wishes)) refl where
  go : (b : Bool) → nat_lt 0 (length document.wishes) ≡ b → End last (record { complete = complete; current = Some document }) ((if b then Ok (complete ++ document ∷ []) else Err (fault.Line last)) >>= one_or_more last)
  go true has = some-end last (record { complete = complete; current = Some document }) (complete ++ document ∷ []) has refl
  go false has = (refl, inl has)

-- ---- all of the lines

pub record Stops (p : Progress) (lines : List TextLine) (number : ℕ) : Type 0 where
  pub before : List TextLine
  pub after : List TextLine
  pub line : TextLine
  pub whole : lines ≡ before ++ line ∷ after
  pub read : Progress
  pub goes_on : goes p (words_of before) ≡ Some read
  pub stuck : next read (words line.bytes) ≡ None
  pub is : number ≡ line.number

pub record EndsEarly (last : ℕ) (p : Progress) (lines : List TextLine) (number : ℕ) : Type 0 where
  pub read : Progress
  pub goes_on : goes p (words_of lines) ≡ Some read
  pub open_end : (ends read.current ≡ false) ⊎ (begun read ≡ [])
  pub is : number ≡ last

pub record EndsWhole (p : Progress) (lines : List TextLine) (documents : List DocDraft) : Type 0 where
  pub read : Progress
  pub goes_on : goes p (words_of lines) ≡ Some read
  pub ended : ends read.current ≡ true
  pub are : documents ≡ begun read
  pub some : 0 < length documents

pub record EndsLimited (p : Progress) (lines : List TextLine) (limit : LimitName) (count : ℕ) : Type 0 where
  pub before : List TextLine
  pub after : List TextLine
  pub whole : lines ≡ before ++ after
  pub read : Progress
  pub goes_on : goes p (words_of before) ≡ Some read
  pub last : DocDraft
  pub current : read.current ≡ Some last
  pub passes : Passes read.complete last limit count

abbrev pub Outcome : ℕ → Progress → List TextLine → Result (List DocDraft) FileFault → Type 0
Outcome last p lines (Ok documents) = EndsWhole p lines documents
Outcome last p lines (Err (fault.Line number)) = Stops p lines number ⊎ EndsEarly last p lines number
Outcome last p lines (Err (fault.Limit limit count)) = EndsLimited p lines limit count
Outcome last p lines (Err fault.Memory) = ⊥

ended-outcome : (last : ℕ) (p : Progress) (r : Result (List DocDraft) FileFault) → End last p r → Outcome last p [] r
ended-outcome last p (Ok documents) e = record { read = p; goes_on = refl; ended = e.0; are = e.1; some = e.2 }
ended-outcome last p (Err (fault.Line n)) e = inr (record { read = p; goes_on = refl; open_end = e.1; is = e.0 })
ended-outcome last p (Err (fault.Limit limit count)) e = absurd e
ended-outcome last p (Err fault.Memory) e = absurd e

-- a line before those that were read
one-more : (p q : Progress) (line : TextLine) (lines : List (List (List ℕ))) (r : Progress) → next p (words line.bytes) ≡ Some q → goes q lines ≡ Some r → goes p (words line.bytes ∷ lines) ≡ Some r
one-more p q line lines r first rest = ap (λ (o : Option Progress). o >>? λ (s : Progress). goes s lines) first ∙ rest

front-outcome : (last : ℕ) (p q : Progress) (line : TextLine) (lines : List TextLine) (r : Result (List DocDraft) FileFault) → next p (words line.bytes) ≡ Some q → Outcome last q lines r → Outcome last p (line ∷ lines) r
front-outcome last p q line lines (Ok documents) first o = record { read = o.read; goes_on = one-more p q line (words_of lines) o.read first o.goes_on; ended = o.ended; are = o.are; some = o.some }
front-outcome last p q line lines (Err (fault.Line number)) first (inl o) = inl (record {
  before = line ∷ o.before;
  after = o.after;
  line = o.line;
  whole = ap (λ (ls : List TextLine). line ∷ ls) o.whole;
  read = o.read;
  goes_on = one-more p q line (words_of o.before) o.read first o.goes_on;
  stuck = o.stuck;
  is = o.is;
})
front-outcome last p q line lines (Err (fault.Line number)) first (inr o) = inr (record { read = o.read; goes_on = one-more p q line (words_of lines) o.read first o.goes_on; open_end = o.open_end; is = o.is })
front-outcome last p q line lines (Err (fault.Limit limit count)) first o = record {
  before = line ∷ o.before;
  after = o.after;
  whole = ap (λ (ls : List TextLine). line ∷ ls) o.whole;
  read = o.read;
  goes_on = one-more p q line (words_of o.before) o.read first o.goes_on;
  last = o.last;
  current = o.current;
  passes = o.passes;
}
front-outcome last p q line lines (Err fault.Memory) first o = absurd o

line-outcome : (last : ℕ) (p : Progress) (line : TextLine) (lines : List TextLine) (r : Result Progress FileFault) → Fate line.number r (next p (words line.bytes)) → ((q : Progress) → Outcome last q lines (read_on last q lines)) → Outcome last p (line ∷ lines) (r >>= λ (q : Progress). read_on last q lines)
line-outcome last p line lines (Ok q) fate others = front-outcome last p q line lines (read_on last q lines) fate (others q)
line-outcome last p line lines (Err (fault.Line n)) fate others = inl (record { before = []; after = lines; line = line; whole = refl; read = p; goes_on = refl; stuck = fate.1; is = fate.0 })
line-outcome last p line lines (Err (fault.Limit limit count)) fate others = record {
  before = line ∷ [];
  after = lines;
  whole = refl;
  read = fate.0;
  goes_on = one-more p fate.0 line [] fate.0 fate.1 refl;
  last = fate.2.last;
  current = fate.2.current;
  passes = fate.2.passes;
}
line-outcome last p line lines (Err fault.Memory) fate others = absurd fate

pub outcome-of : (last : ℕ) (lines : List TextLine) (p : Progress) → Outcome last p lines (read_on last p lines)
outcome-of last [] p = ended-outcome last p (documents_at_end last p) (end-is last p.complete p.current)
outcome-of last (line ∷ lines) p = line-outcome last p line lines (with_line line.number (wish_line (words line.bytes)) p) (line-fate line p) (outcome-of last lines)
