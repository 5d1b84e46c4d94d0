-- A wishes file is read as its lines are, and else the line or the limit is the one that is reported.
use Rattle.std.proofs.Common.{◌≡◌, ◌⊎◌, ◌↔◌, ℕ, ◌+◌, ◌<◌, ◌≤◌, max, refl, sym, ap, ◌∙◌, subst, arith, inl, inr, Bool, true, false, if◌then◌else◌, List, [], ◌∷◌, ◌++◌, append_assoc, append-nil, length, length-append, option_to_list, Option, Some, None, Result, Ok, Err, nat_lt}
use Rattle.std.specs.List.{AllByRecursion, list_any}
use Rattle.std.specs.Str.Lines.{lines}
use Rattle.std.proofs.lemmas.List.{map-append}
use Rattle.std.proofs.lemmas.List.Sums.{sum_by-append}
use Rattle.mdoc_outside.specs.Lines.{Line as TextLine, file_lines, words}
use Rattle.mdoc_outside.specs.OptionSteps.{◌>>=◌}
use Rattle.mdoc_outside.specs.declared.limit_name.LimitName.{LimitName}
use Rattle.doc_request.specs.Draft.{IsDocument, wish_count, is_same_element}
use Rattle.doc_request.specs.declared.doc_draft.DocDraft.{DocDraft}
use Rattle.doc_request.specs.declared.wish_draft.WishDraft.{WishDraft}
use Rattle.mdoc_frame.specs.Wishes.{Progress, at_start, wishes_of}
use Rattle.mdoc_frame.specs.declared.file_fault.FileFault.{FileFault}
use Rattle.mdoc_frame.specs.declared.file_fault.FileFault.TheVariants as fault
use Rattle.mdoc_frame.proofs.RequestLemmas.{wishes_request}
use Rattle.wishes_laws.specs.BadLine.{CanGoOn, IsBadLine, outside, early, Passes, documents_of_file, wishes_of_document, wishes_of_file, PassesLimit, IsLimited}
use Rattle.wishes_laws.specs.WishesFile.{request_lines, IsAsked, AreLinesOf, AreWithinLimits, words_of, IsWishesFile}
use Rattle.wishes_laws.proofs.Going.{begun, ends, closed, new_document, add_wish, opened, wanted, said_next, next, goes, goes-append, MayBeOpen, all-push, asked-of, goes-sound, start-good, goes-front, lines-whole, can-goes, goes-can}
use Rattle.wishes_laws.proofs.LineWords.{Said, Document, Want, said_of, chosen, if-some, same-value}
use Rattle.wishes_laws.proofs.Outcomes.{Stops, EndsEarly, EndsWhole, EndsLimited, Outcome, outcome-of}

-- ---- limits of what was read before

abbrev Few : DocDraft → Type 0
Few document = length document.wishes ≤ 512

all-front : (xs : List DocDraft) (y : DocDraft) → AllByRecursion Few (xs ++ y ∷ []) → AllByRecursion Few xs
all-front [] y all = tt
all-front (x ∷ xs) y all = (all.0, all-front xs y all.1)

all-last : (xs : List DocDraft) (y : DocDraft) → AllByRecursion Few (xs ++ y ∷ []) → Few y
all-last [] y all = all.0
all-last (x ∷ xs) y all = all-last xs y all.1

count-push : (xs : List DocDraft) (y : DocDraft) → wish_count (xs ++ y ∷ []) ≡ wish_count xs + length y.wishes
count-push xs y = (let all = sum_by-append (λ (d : DocDraft). length d.wishes) xs (y ∷ []) in omega (arith, all))

within-front : (xs : List DocDraft) (y : DocDraft) → AreWithinLimits (xs ++ y ∷ []) → AreWithinLimits xs
within-front xs y is = record {
  few = (let n = is.few in omega (arith, n, length-append xs (y ∷ [])));
  few_of_each = all-front xs y is.few_of_each;
  few_wishes = (let n = is.few_wishes in omega (arith, n, count-push xs y));
}

within-less : (xs : List DocDraft) (y z : DocDraft) → length y.wishes ≤ length z.wishes → AreWithinLimits (xs ++ z ∷ []) → AreWithinLimits (xs ++ y ∷ [])
within-less xs y z less is =
    let few : Few z = all-last xs z is.few_of_each in
    record {
      few = (let n = is.few in omega (arith, n, length-append xs (z ∷ []), length-append xs (y ∷ [])));
      few_of_each = all-push Few xs y (all-front xs z is.few_of_each) (omega arith);
      few_wishes = (let n = is.few_wishes in omega (arith, n, less, count-push xs z, count-push xs y));
    }

closed-are : (complete : List DocDraft) (current : Option DocDraft) (documents : List DocDraft) → closed complete current ≡ Some documents → documents ≡ complete ++ option_to_list current
closed-are complete None documents e = sym (same-value complete documents e) ∙ sym (append-nil complete)
closed-are complete (Some document) documents e =
    let c = if-some (nat_lt 0 (length document.wishes)) (Some (complete ++ document ∷ [])) documents e in
    sym (same-value (complete ++ document ∷ []) documents c.1)

wanted-back : (wish : WishDraft) (complete : List DocDraft) (current : Option DocDraft) (q : Progress) → wanted wish complete current ≡ Some q → AreWithinLimits (begun q) → AreWithinLimits (complete ++ option_to_list current)
wanted-back wish complete None q e is = absurd (cc)
wanted-back wish complete (Some document) q e is = go (list_any (is_same_element wish) document.wishes) e where
  go : (b : Bool) → (if b then None else Some (record { complete = complete; current = Some (add_wish document wish) })) ≡ Some q → AreWithinLimits (complete ++ document ∷ [])
  go true same = absurd (cc)
  go false same =
      let own : Progress = record { complete = complete; current = Some (add_wish document wish) } in
      let within : AreWithinLimits (complete ++ add_wish document wish ∷ []) = subst (λ (p : Progress). AreWithinLimits (begun p)) (sym (same-value own q same)) is in
      within-less complete document (add_wish document wish) (omega (arith, length-append document.wishes (wish ∷ []))) within

said-back : (p : Progress) (said : Option Said) (q : Progress) → said_next p said ≡ Some q → AreWithinLimits (begun q) → AreWithinLimits (begun p)
said-back p None q e is = absurd (cc)
said-back p (Some (Document doc_type)) q e is =
    let a = chosen (closed p.complete p.current) (opened doc_type) q e in
    let own : Progress = record { complete = a.value; current = Some (new_document doc_type) } in
    let within : AreWithinLimits (a.value ++ new_document doc_type ∷ []) = subst (λ (r : Progress). AreWithinLimits (begun r)) (sym (same-value own q a.after)) is in
    subst AreWithinLimits (closed-are p.complete p.current a.value a.before) (within-front a.value (new_document doc_type) within)
said-back p (Some (Want wish)) q e is = wanted-back wish p.complete p.current q e is

goes-back : (ls : List (List (List ℕ))) (p q : Progress) → goes p ls ≡ Some q → AreWithinLimits (begun q) → AreWithinLimits (begun p)
goes-back [] p q e is = subst (λ (r : Progress). AreWithinLimits (begun r)) (sym (same-value p q e)) is
goes-back (ws ∷ ls) p q e is =
    let a = chosen (next p ws) (λ (r : Progress). goes r ls) q e in
    said-back p (said_of ws) a.value a.before (goes-back ls a.value q a.after is)

passes-not : (documents : List DocDraft) (last : DocDraft) (limit : LimitName) (count : ℕ) → Passes documents last limit count → AreWithinLimits (documents ++ last ∷ []) → ⊥
passes-not documents last limit count (documents_of_file many) is = (let n = is.few in omega arith)
passes-not documents last limit count (wishes_of_document many) is = (let few : Few last = all-last documents last is.few_of_each in omega arith)
passes-not documents last limit count (wishes_of_file many) is = (let n = is.few_wishes in omega arith)

-- ---- parts of the lines

words-append : (xs ys : List TextLine) → words_of (xs ++ ys) ≡ words_of xs ++ words_of ys
words-append xs ys = map-append (λ (line : TextLine). words line.bytes) xs ys

-- nothing goes on after a line at which nothing can
stuck-none : (xs ys : List (List (List ℕ))) (ws : List (List ℕ)) (p q r : Progress) → goes p xs ≡ Some q → next q ws ≡ None → goes p (xs ++ ws ∷ ys) ≡ Some r → ⊥
stuck-none xs ys ws p q r first stuck all =
    let step : Progress → Option Progress = λ s. goes s ys in
    let rest : goes q (ws ∷ ys) ≡ None = ap (λ (o : Option Progress). o >>= step) stuck in
    let whole : goes p (xs ++ ws ∷ ys) ≡ None = goes-append xs (ws ∷ ys) p ∙ ap (λ (o : Option Progress). o >>= λ (s : Progress). goes s (ws ∷ ys)) first ∙ rest in
    absurd (let none : None ≡ Some r = sym whole ∙ all in cc)

after-goes : (xs ys : List (List (List ℕ))) (p q r : Progress) → goes p xs ≡ Some q → goes p (xs ++ ys) ≡ Some r → goes q ys ≡ Some r
after-goes xs ys p q r first all = sym (ap (λ (o : Option Progress). o >>= λ (s : Progress). goes s ys) first) ∙ sym (goes-append xs ys p) ∙ all

-- where reading stops, not all of the lines go on
stops-not : (p : Progress) (all : List TextLine) (number : ℕ) (r : Progress) → Stops p all number → goes p (words_of all) ≡ Some r → ⊥
stops-not p all number r s e =
    let own : words_of all ≡ words_of s.before ++ words s.line.bytes ∷ words_of s.after = ap words_of s.whole ∙ words-append s.before (s.line ∷ s.after) in
    stuck-none (words_of s.before) (words_of s.after) (words s.line.bytes) p s.read r s.goes_on s.stuck (ap (goes p) (sym own) ∙ e)

-- ---- the documents of a file

begun-asked : (complete : List DocDraft) (current : Option DocDraft) → AllByRecursion IsAsked complete → MayBeOpen current → ends current ≡ true → AllByRecursion IsAsked (complete ++ option_to_list current)
begun-asked complete None all open_one ended = subst (AllByRecursion IsAsked) (sym (append-nil complete)) all
begun-asked complete (Some document) all open_one ended = all-push IsAsked complete document all (asked-of document open_one ended)

few-of : (documents : List DocDraft) → AllByRecursion IsDocument documents → AllByRecursion Few documents
few-of [] all = tt
few-of (document ∷ documents) all = (all.0.wishes.few, few-of documents all.1)

abbrev last_of : List ℕ → ℕ
last_of text = max 1 (length (lines text))

abbrev FileOutcome : List ℕ → Result (List DocDraft) FileFault → Type 0
FileOutcome text r = Outcome (last_of text) at_start (file_lines text) r

text-outcome : (text : List ℕ) (r : Result (List DocDraft) FileFault) → wishes_of text ≡ r → FileOutcome text r
text-outcome text r e = subst (FileOutcome text) e (outcome-of (last_of text) (file_lines text) at_start)

whole-lines : (all : List TextLine) (documents : List DocDraft) → EndsWhole at_start all documents → AreLinesOf (words_of all) documents
whole-lines all documents o =
    let g = goes-sound (words_of all) at_start o.read start-good o.goes_on in
    record {
      whole = sym g.are ∙ ap request_lines (sym o.are);
      each = subst (AllByRecursion IsAsked) (sym o.are) (begun-asked o.read.complete o.read.current g.good.complete g.good.current o.ended);
      some = o.some;
    }

file-sound : (text : List ℕ) (documents : List DocDraft) → wishes_of text ≡ Ok documents → IsWishesFile text documents
file-sound text documents e =
    let request = wishes_request text documents e in
    record {
      lines = whole-lines (file_lines text) documents (text-outcome text (Ok documents) e);
      limits = record { few = request.few; few_of_each = few-of documents request.each; few_wishes = request.few_wishes };
    }

nothing-some : (documents : List DocDraft) → documents ≡ [] → 0 < length documents → ⊥
nothing-some documents none has = (let size : length documents ≡ 0 = ap length none in omega arith)

-- an end that is whole is not too early
early-not : (text : List ℕ) (number : ℕ) (documents : List DocDraft) → EndsEarly (last_of text) at_start (file_lines text) number → AreLinesOf (words_of (file_lines text)) documents → ⊥
early-not text number documents o is =
    let w = lines-whole (words_of (file_lines text)) documents is in
    let same : o.read ≡ w.end = same-value o.read w.end (sym o.goes_on ∙ w.goes_on) in
    let ended : ends o.read.current ≡ true = ap (λ (p : Progress). ends p.current) same ∙ w.ended in
    let are : begun o.read ≡ documents = ap begun same ∙ w.are in
    elim o.open_end [
      | inl open_one ↦ absurd (let no : true ≡ false = sym ended ∙ open_one in cc)
      | inr none ↦ nothing-some documents (sym are ∙ none) is.some
    ]

file-complete : (text : List ℕ) (documents : List DocDraft) → IsWishesFile text documents → wishes_of text ≡ Ok documents
file-complete text documents is = go (wishes_of text) (text-outcome text (wishes_of text) refl) where
  go : (r : Result (List DocDraft) FileFault) → FileOutcome text r → r ≡ Ok documents
  go (Ok ds) o =
      let v = lines-whole (words_of (file_lines text)) documents is.lines in
      let same : o.read ≡ v.end = same-value o.read v.end (sym o.goes_on ∙ v.goes_on) in
      ap (λ (xs : List DocDraft). Ok xs) (o.are ∙ ap begun same ∙ v.are)
  go (Err (fault.Line number)) (inl s) =
      let v = lines-whole (words_of (file_lines text)) documents is.lines in
      absurd (stops-not at_start (file_lines text) number v.end s v.goes_on)
  go (Err (fault.Line number)) (inr o) = absurd (early-not text number documents o is.lines)
  go (Err (fault.Limit limit count)) o =
      let v = lines-whole (words_of (file_lines text)) documents is.lines in
      let own : words_of (file_lines text) ≡ words_of o.before ++ words_of o.after = ap words_of o.whole ∙ words-append o.before o.after in
      let rest = after-goes (words_of o.before) (words_of o.after) at_start o.read v.end o.goes_on (ap (goes at_start) (sym own) ∙ v.goes_on) in
      let within = goes-back (words_of o.after) o.read v.end rest (subst AreWithinLimits (sym v.are) is.limits) in
      let last : begun o.read ≡ o.read.complete ++ o.last ∷ [] = ap (λ (c : Option DocDraft). o.read.complete ++ option_to_list c) o.current in
      absurd (passes-not o.read.complete o.last limit count o.passes (subst AreWithinLimits last within))
  go (Err fault.Memory) o = absurd o

pub wishes-file : (text : List ℕ) (documents : List DocDraft) → (wishes_of text ≡ Ok documents) ↔ IsWishesFile text documents
wishes-file text documents = (file-sound text documents, file-complete text documents)

-- ---- the first bad line

bad-reported : (text : List ℕ) (number : ℕ) → FileOutcome text (Err (fault.Line number)) → IsBadLine text number
bad-reported text number (inl s) =
    outside s.before s.after s.line s.whole s.is (goes-can (words_of s.before) s.read s.goes_on)
    (λ can.
    let g = can-goes (words_of (s.before ++ s.line ∷ [])) can in
    stuck-none (words_of s.before) [] (words s.line.bytes) at_start s.read g.0 s.goes_on s.stuck (ap (goes at_start) (sym (words-append s.before (s.line ∷ []))) ∙ g.1))
bad-reported text number (inr o) =
    early o.is (goes-can (words_of (file_lines text)) o.read o.goes_on) (λ documents is. early-not text number documents o is)

pub line-reported : (text : List ℕ) (number : ℕ) → wishes_of text ≡ Err (fault.Line number) → IsBadLine text number
line-reported text number e = bad-reported text number (text-outcome text (Err (fault.Line number)) e)

-- two places at which a list is parted
abbrev Longer : List TextLine → TextLine → List TextLine → Type 0
Longer front line whole = (rest : List TextLine) × (whole ≡ (front ++ line ∷ []) ++ rest)

abbrev Parted : List TextLine → List TextLine → TextLine → TextLine → Type 0
Parted b c x y = (x ≡ y) ⊎ (Longer b x c ⊎ Longer c y b)

longer-more : (z w : TextLine) (front : List TextLine) (line : TextLine) (whole : List TextLine) → z ≡ w → Longer front line whole → Longer (z ∷ front) line (w ∷ whole)
longer-more z w front line whole same longer = (longer.0, ap (λ (v : TextLine). v ∷ whole) (sym same) ∙ ap (λ (ls : List TextLine). z ∷ ls) longer.1)

parted-more : (z w : TextLine) (b c : List TextLine) (x y : TextLine) → z ≡ w → Parted b c x y → Parted (z ∷ b) (w ∷ c) x y
parted-more z w b c x y same (inl e) = inl e
parted-more z w b c x y same (inr (inl longer)) = inr (inl (longer-more z w b x c same longer))
parted-more z w b c x y same (inr (inr longer)) = inr (inr (longer-more w z c y b (sym same) longer))

same-head : (x y : TextLine) (xs ys : List TextLine) → x ∷ xs ≡ y ∷ ys → x ≡ y
same-head x y xs ys e = cc

same-tail : (x y : TextLine) (xs ys : List TextLine) → x ∷ xs ≡ y ∷ ys → xs ≡ ys
same-tail x y xs ys e = cc

parted : (b c : List TextLine) (x y : TextLine) (xs ys : List TextLine) → b ++ x ∷ xs ≡ c ++ y ∷ ys → Parted b c x y
parted [] [] x y xs ys e = inl (same-head x y xs ys e)
parted [] (w ∷ c) x y xs ys e = inr (inl (c, ap (λ (v : TextLine). v ∷ c) (sym (same-head x w xs (c ++ y ∷ ys) e))))
parted (z ∷ b) [] x y xs ys e = inr (inr (b, ap (λ (v : TextLine). v ∷ b) (same-head z y (b ++ x ∷ xs) ys e)))
parted (z ∷ b) (w ∷ c) x y xs ys e =
    parted-more z w b c x y (same-head z w (b ++ x ∷ xs) (c ++ y ∷ ys) e) (parted b c x y xs ys (same-tail z w (b ++ x ∷ xs) (c ++ y ∷ ys) e))

-- lines that go on do so from each part at their front
longer-can : (before : List TextLine) (line : TextLine) (whole : List TextLine) (q : Progress) → Longer before line whole → goes at_start (words_of whole) ≡ Some q → CanGoOn (words_of (before ++ line ∷ []))
longer-can before line whole q longer e =
    let own : words_of whole ≡ words_of (before ++ line ∷ []) ++ words_of longer.0 = ap words_of longer.1 ∙ words-append (before ++ line ∷ []) longer.0 in
    let g = goes-front (words_of (before ++ line ∷ [])) (words_of longer.0) at_start q (ap (goes at_start) (sym own) ∙ e) in
    goes-can (words_of (before ++ line ∷ [])) g.0 g.1

longer-stuck : (before : List TextLine) (line : TextLine) (whole : List TextLine) (p q : Progress) → Longer before line whole → goes at_start (words_of before) ≡ Some p → next p (words line.bytes) ≡ None → goes at_start (words_of whole) ≡ Some q → ⊥
longer-stuck before line whole p q longer first stuck e =
    let own : words_of whole ≡ words_of before ++ words line.bytes ∷ words_of longer.0 = ap words_of (longer.1 ∙ append_assoc before (line ∷ []) longer.0) ∙ words-append before (line ∷ longer.0) in
    stuck-none (words_of before) (words_of longer.0) (words line.bytes) at_start p q first stuck (ap (goes at_start) (sym own) ∙ e)

abbrev Found : List ℕ → ℕ → Type 0
Found text number = (wishes_of text ≡ Err (fault.Line number)) ⊎ IsLimited text

line-is : (text : List ℕ) (m number : ℕ) → wishes_of text ≡ Err (fault.Line m) → m ≡ number → Found text number
line-is text m number e same = inl (e ∙ ap (λ (n : ℕ). Err (fault.Line n)) same)

outside-found : (text : List ℕ) (number : ℕ) (before after : List TextLine) (line : TextLine) → file_lines text ≡ before ++ line ∷ after → number ≡ line.number → CanGoOn (words_of before) → (CanGoOn (words_of (before ++ line ∷ [])) → ⊥) →
    (r : Result (List DocDraft) FileFault) → wishes_of text ≡ r → FileOutcome text r → Found text number
outside-found text number before after line whole is can cannot (Ok documents) e o =
    absurd (cannot (longer-can before line (file_lines text) o.read (after, whole ∙ sym (append_assoc before (line ∷ []) after)) o.goes_on))
outside-found text number before after line whole is can cannot (Err (fault.Line m)) e (inr o) =
    absurd (cannot (longer-can before line (file_lines text) o.read (after, whole ∙ sym (append_assoc before (line ∷ []) after)) o.goes_on))
outside-found text number before after line whole is can cannot (Err (fault.Line m)) e (inl s) =
    elim (parted s.before before s.line line s.after after (sym s.whole ∙ whole)) [
      | inl same ↦ line-is text m number e (s.is ∙ ap (λ (l : TextLine). l.number) same ∙ sym is)
      | inr (inl longer) ↦ absurd (let g = can-goes (words_of before) can in longer-stuck s.before s.line before s.read g.0 longer s.goes_on s.stuck g.1)
      | inr (inr longer) ↦ absurd (cannot (longer-can before line s.before s.read longer s.goes_on))
    ]
outside-found text number before after line whole is can cannot (Err (fault.Limit limit count)) e o = inr (record { limit = limit; count = count; is = e })
outside-found text number before after line whole is can cannot (Err fault.Memory) e o = absurd o

early-found : (text : List ℕ) (number : ℕ) → number ≡ last_of text → CanGoOn (words_of (file_lines text)) → ((documents : List DocDraft) → AreLinesOf (words_of (file_lines text)) documents → ⊥) →
    (r : Result (List DocDraft) FileFault) → wishes_of text ≡ r → FileOutcome text r → Found text number
early-found text number is can none (Ok documents) e o = absurd (none documents (whole-lines (file_lines text) documents o))
early-found text number is can none (Err (fault.Line m)) e (inl s) = absurd (let g = can-goes (words_of (file_lines text)) can in stops-not at_start (file_lines text) m g.0 s g.1)
early-found text number is can none (Err (fault.Line m)) e (inr o) = line-is text m number e (o.is ∙ sym is)
early-found text number is can none (Err (fault.Limit limit count)) e o = inr (record { limit = limit; count = count; is = e })
early-found text number is can none (Err fault.Memory) e o = absurd o

pub line-found : (text : List ℕ) (number : ℕ) → IsBadLine text number → Found text number
line-found text number (outside before after line whole is can cannot) = outside-found text number before after line whole is can cannot (wishes_of text) refl (text-outcome text (wishes_of text) refl)
line-found text number (early is can none) = early-found text number is can none (wishes_of text) refl (text-outcome text (wishes_of text) refl)

-- ---- limits

limited-of : (text : List ℕ) (limit : LimitName) (count : ℕ) → EndsLimited at_start (file_lines text) limit count → PassesLimit text limit count
limited-of text limit count o =
    let g = goes-sound (words_of o.before) at_start o.read start-good o.goes_on in
    record {
      before = o.before;
      after = o.after;
      whole = o.whole;
      documents = o.read.complete;
      last = o.last;
      are = sym g.are ∙ ap (λ (c : Option DocDraft). request_lines (o.read.complete ++ option_to_list c)) o.current;
      goes_on = goes-can (words_of o.before) o.read o.goes_on;
      passes = o.passes;
    }

pub limit-reported : (text : List ℕ) (limit : LimitName) (count : ℕ) → wishes_of text ≡ Err (fault.Limit limit count) → PassesLimit text limit count
limit-reported text limit count e = limited-of text limit count (text-outcome text (Err (fault.Limit limit count)) e)

pub no-memory : (text : List ℕ) → wishes_of text ≡ Err fault.Memory → ⊥
no-memory text e = text-outcome text (Err fault.Memory) e
