-- What a wishes file spells is a request within the limits.
use Rattle.std.proofs.Common.{◌≡◌, ℕ, ◌+◌, ◌<◌, ◌≤◌, Bool, true, false, not, ◌&&◌, ◌||◌, cond, List, [], ◌∷◌, ◌++◌, length, Option, Some, None, Result, Ok, Err, Decides, refl, sym, subst, ◌∙◌, arith}
use Rattle.std.specs.Prelude.{nat_lt, nat_le, option_to_list, IfSome}
use Rattle.std.specs.List.{AllByRecursion, list_any}
use Rattle.std.specs.Str.{bytes_eq}
use Rattle.std.proofs.lemmas.Bool.{ltb-true, leb-false}
use Rattle.std.proofs.lemmas.List.{append-nil, length-append}
use Rattle.std.proofs.lemmas.List.Folds.{list_any-append}
use Rattle.std.proofs.lemmas.List.Sums.{sum_by-append}
use Rattle.std.proofs.lemmas.Slice.Eq.{bytes_eq-Decides}
use Rattle.mdoc_outside.specs.Lines.{Line, words}
use Rattle.mdoc_outside.specs.ResultSteps.{◌>>=◌}
use Rattle.doc_request.specs.Draft.{IsName, IsWish, AreWishes, IsDocument, IsRequest, are_distinct, wish_count, is_same_element}
use Rattle.doc_request.specs.declared.doc_draft.DocDraft.{DocDraft}
use Rattle.doc_request.specs.declared.wish_draft.WishDraft.{WishDraft}
use Rattle.mdoc_frame.specs.WishLine.{wish_line}
use Rattle.mdoc_frame.specs.Wishes.{Progress, at_start, with_current, complete_documents, with_document, refusal, unless, with_want_in, with_line, one_or_more, read_on, wishes_of}
use Rattle.mdoc_frame.specs.declared.file_fault.FileFault.{FileFault}
use Rattle.mdoc_frame.specs.declared.file_fault.FileFault.TheVariants as fault
use Rattle.mdoc_outside.specs.declared.limit_name.LimitName.TheVariants.{Documents}
use Rattle.mdoc_frame.specs.declared.wish_line.WishLine.{WishLine}
use Rattle.mdoc_frame.specs.declared.wish_line.WishLine.TheVariants.{Document, Want}
use Rattle.mdoc_frame.proofs.WishNames.{Says, wish_line-Says}

both : (a b : Bool) → (a && b) ≡ true → (a ≡ true) × (b ≡ true)
both true b h = (refl, h)
both false b h = absurd cc

-- ---- steps that gave a value

abbrev done : {A : Type 0} → A → Result A FileFault
done x = Ok x

ok_value : {A : Type 0} (x y : A) → done x ≡ done y → x ≡ y
ok_value x y e = cc

bind_ok : {A B : Type 0} (r : Result A FileFault) (f : A → Result B FileFault) (y : B) → (r >>= f) ≡ Ok y → (x : A) × (r ≡ Ok x) × (f x ≡ Ok y)
bind_ok (Ok x) f y e = (x, refl, e)
bind_ok (Err fault) f y e = absurd cc

cond_ok : {A : Type 0} (b : Bool) (x y : A) (fault : FileFault) → cond b (Ok x) (Err fault) ≡ Ok y → (b ≡ true) × (x ≡ y)
cond_ok true x y fault e = (refl, ok_value x y e)
cond_ok false x y fault e = absurd cc

-- ---- no two wishes for one element

apart : false ≡ true → ⊥
apart e = cc

same_both_ways : (a b : List ℕ) → bytes_eq a b ≡ bytes_eq b a
same_both_ways a b = both_ways (bytes_eq a b) (bytes_eq b a) (bytes_eq-Decides a b) (bytes_eq-Decides b a) where
  both_ways : (p q : Bool) → Decides p (a ≡ b) → Decides q (b ≡ a) → p ≡ q
  both_ways true true p q = refl
  both_ways true false p q = absurd (apart (q.1 (sym (p.0 refl))))
  both_ways false true p q = absurd (apart (p.1 (sym (q.0 refl))))
  both_ways false false p q = refl

is_same_element-comm : (a b : WishDraft) → is_same_element a b ≡ is_same_element b a
is_same_element-comm a b = rw (same_both_ways a.ns b.ns, same_both_ways a.name b.name) refl

are_distinct-push : (wishes : List WishDraft) (wish : WishDraft) → are_distinct wishes ≡ true → list_any (is_same_element wish) wishes ≡ false →
    are_distinct (wishes ++ wish ∷ []) ≡ true
are_distinct-push [] wish d h = refl
are_distinct-push (first ∷ wishes) wish d h =
    let parts = both (not (list_any (is_same_element first) wishes)) (are_distinct wishes) d in
    let others = neither (is_same_element wish first) (list_any (is_same_element wish) wishes) h in
    let rest = are_distinct-push wishes wish parts.1 others.1 in
    let apart : is_same_element first wish ≡ false = is_same_element-comm first wish ∙ others.0 in
    let none : list_any (is_same_element first) (wishes ++ wish ∷ []) ≡ false =
    list_any-append (is_same_element first) wishes (wish ∷ []) ∙ rw (not_true _ parts.0, apart) refl in
    rw (none, rest) refl where
      neither : (a b : Bool) → (a || b) ≡ false → (a ≡ false) × (b ≡ false)
      neither true b h = absurd cc
      neither false b h = (refl, h)

      not_true : (b : Bool) → not b ≡ true → b ≡ false
      not_true true h = absurd cc
      not_true false h = refl

AllByRecursion-push : {X : Type 0} (P : X → Type 0) (xs : List X) (x : X) → AllByRecursion P xs → P x → AllByRecursion P (xs ++ x ∷ [])
AllByRecursion-push P [] x all one = (one, tt)
AllByRecursion-push P (y ∷ xs) x all one = (all.0, AllByRecursion-push P xs x all.1 one)

-- ---- a file that is being read

abbrev IsOpen : DocDraft → Type 0
IsOpen document = IsName document.doc_type × AreWishes document.wishes

pub record IsProgress (progress : Progress) : Type 0 where
  pub complete : AllByRecursion IsDocument progress.complete
  pub current : IfSome progress.current IsOpen
  pub few : length (progress.complete ++ option_to_list progress.current) ≤ 16
  pub few_wishes : wish_count (progress.complete ++ option_to_list progress.current) ≤ 2048

-- the documents that are complete
pub record AreComplete (documents : List DocDraft) : Type 0 where
  pub each : AllByRecursion IsDocument documents
  pub few : length documents ≤ 16
  pub few_wishes : wish_count documents ≤ 2048

start-IsProgress : IsProgress at_start
start-IsProgress = record { complete = tt; current = tt; few = omega arith; few_wishes = omega arith }

documents-AreComplete : (number : ℕ) (complete : List DocDraft) (current : Option DocDraft) (documents : List DocDraft) →
    IsProgress (record { complete = complete; current = current }) → with_current number complete current ≡ Ok documents → AreComplete documents
documents-AreComplete number complete None documents ok e =
    let none : complete ++ [] ≡ complete = append-nil complete in
    subst AreComplete (ok_value complete documents e) (record {
      each = ok.complete;
      few = subst (λ (ds : List DocDraft). length ds ≤ 16) none ok.few;
      few_wishes = subst (λ (ds : List DocDraft). wish_count ds ≤ 2048) none ok.few_wishes;
    })
documents-AreComplete number complete (Some document) documents ok e =
    let has = cond_ok (nat_lt 0 (length document.wishes)) (complete ++ document ∷ []) documents (fault.Line number) e in
    let one : IsDocument document = record { doc_type = ok.current.0; wishes = ok.current.1; some = ltb-true 0 (length document.wishes) has.0 } in
    subst AreComplete has.1 (record {
      each = AllByRecursion-push IsDocument complete document ok.complete one;
      few = ok.few;
      few_wishes = ok.few_wishes;
    })

document-IsProgress : (number : ℕ) (doc_type : List ℕ) (progress next : Progress) → IsName doc_type → IsProgress progress →
    with_document number doc_type progress ≡ Ok next → IsProgress next
document-IsProgress number doc_type progress next name ok e =
    let complete = bind_ok (complete_documents number progress) _ next e in
    let room = cond_ok (nat_lt (length complete.0) 16) _ next (fault.Limit Documents 17) complete.2 in
    let are = documents-AreComplete number progress.complete progress.current complete.0 ok complete.1 in
    let few : length complete.0 < 16 = ltb-true (length complete.0) 16 room.0 in
    let no_wishes : AreWishes [] = record { names = tt; few = omega arith; distinct = refl } in
    subst IsProgress room.1 (record {
      complete = are.each;
      current = (name, no_wishes);
      few = omega (arith, length-append complete.0 (record { doc_type = doc_type; wishes = [] } ∷ []));
      few_wishes = omega (arith, are.few_wishes, sum_by-append (λ (d : DocDraft). length d.wishes) complete.0 (record { doc_type = doc_type; wishes = [] } ∷ []));
    })

-- a wish that isn't refused
pub record IsRoom (wish : WishDraft) (wishes : List WishDraft) (count : ℕ) : Type 0 where
  pub other : list_any (is_same_element wish) wishes ≡ false
  pub few : length wishes < 512
  pub few_wishes : count < 2048

room_from : (number : ℕ) (wish : WishDraft) (wishes : List WishDraft) (count : ℕ) → refusal number wish wishes count ≡ None → IsRoom wish wishes count
room_from number wish wishes count e =
    let first = cond_none (list_any (is_same_element wish) wishes) _ _ e in
    let second = cond_none (nat_le 512 (length wishes)) _ _ first.1 in
    let third = cond_none (nat_le 2048 count) _ _ second.1 in
    record { other = first.0; few = leb-false 512 (length wishes) second.0; few_wishes = leb-false 2048 count third.0 } where
      cond_none : (b : Bool) (x : FileFault) (o : Option FileFault) → cond b (Some x) o ≡ None → (b ≡ false) × (o ≡ None)
      cond_none true x o e = absurd cc
      cond_none false x o e = (refl, e)

unless_ok : {A : Type 0} (o : Option FileFault) (x y : A) → unless o x ≡ Ok y → (o ≡ None) × (x ≡ y)
unless_ok None x y e = (refl, ok_value x y e)
unless_ok (Some f) x y e = absurd cc

want-IsProgress : (number : ℕ) (wish : WishDraft) (complete : List DocDraft) (current : Option DocDraft) (next : Progress) → IsWish wish →
    IsProgress (record { complete = complete; current = current }) → with_want_in number wish complete current ≡ Ok next → IsProgress next
want-IsProgress number wish complete None next is ok e = absurd cc
want-IsProgress number wish complete (Some document) next is ok e =
    let count = wish_count complete + length document.wishes in
    let more : DocDraft = record { doc_type = document.doc_type; wishes = document.wishes ++ wish ∷ [] } in
    let added = unless_ok (refusal number wish document.wishes count) (record { complete = complete; current = Some more }) next e in
    let room = room_from number wish document.wishes count added.0 in
    let longer = length-append document.wishes (wish ∷ []) in
    subst IsProgress added.1 (record {
      complete = ok.complete;
      current = (
        ok.current.0,
        record {
          names = AllByRecursion-push IsWish document.wishes wish ok.current.1.names is;
          few = omega (arith, longer, room.few);
          distinct = are_distinct-push document.wishes wish ok.current.1.distinct room.other;
        },
      );
      few = omega (arith, ok.few, length-append complete (document ∷ []), length-append complete (more ∷ []));
      few_wishes = omega (arith, longer, room.few_wishes, sum_by-append (λ (d : DocDraft). length d.wishes) complete (more ∷ []));
    })

line-IsProgress : (number : ℕ) (said : Option WishLine) (progress next : Progress) → Says said → IsProgress progress →
    with_line number said progress ≡ Ok next → IsProgress next
line-IsProgress number None progress next says ok e = absurd cc
line-IsProgress number (Some (Document doc_type)) progress next says ok e = document-IsProgress number doc_type progress next says ok e
line-IsProgress number (Some (Want wish)) progress next says ok e = want-IsProgress number wish progress.complete progress.current next says ok e

one_or_more-some : (last : ℕ) (complete documents : List DocDraft) → one_or_more last complete ≡ Ok documents → (complete ≡ documents) × (0 < length documents)
one_or_more-some last [] documents e = absurd cc
one_or_more-some last (d ∷ ds) documents e =
    let same = ok_value (d ∷ ds) documents e in
    (same, subst (λ (all : List DocDraft). 0 < length all) same (omega arith))

read_on-IsRequest : (last : ℕ) (progress : Progress) (lines : List Line) (documents : List DocDraft) → IsProgress progress →
    read_on last progress lines ≡ Ok documents → IsRequest documents
read_on-IsRequest last progress [] documents ok e =
    let complete = bind_ok (complete_documents last progress) (one_or_more last) documents e in
    let are = documents-AreComplete last progress.complete progress.current complete.0 ok complete.1 in
    let some = one_or_more-some last complete.0 documents complete.2 in
    let all = subst AreComplete some.0 are in
    record { each = all.each; some = some.1; few = all.few; few_wishes = all.few_wishes }
read_on-IsRequest last progress (line ∷ lines) documents ok e =
    let next = bind_ok (with_line line.number (wish_line (words line.bytes)) progress) (λ next. read_on last next lines) documents e in
    read_on-IsRequest last next.0 lines documents (line-IsProgress line.number (wish_line (words line.bytes)) progress next.0 (wish_line-Says (words line.bytes)) ok next.1) next.2

pub wishes_request : (text : List ℕ) (documents : List DocDraft) → wishes_of text ≡ Ok documents → IsRequest documents
wishes_request text documents e = read_on-IsRequest _ at_start _ documents start-IsProgress e
