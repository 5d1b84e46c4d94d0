-- Lines one after another, limits apart: how far they are those of documents.
use Rattle.std.proofs.Common.{◌≡◌, ℕ, suc, ◌<◌, refl, sym, ap, ◌∙◌, subst, arith, Bool, true, false, not, ◌||◌, if◌then◌else◌, List, [], ◌∷◌, ◌++◌, append_assoc, append-nil, map, length, codes, option_to_list, Option, Some, None, Decides, bytes_eq, nat_lt}
use Rattle.std.specs.List.{AllByRecursion, list_any}
use Rattle.std.proofs.lemmas.Bool.{ltb-true, and_parts, or_parts, not-true}
use Rattle.std.proofs.lemmas.Bool.Decides.{nat_tests}
use Rattle.std.proofs.lemmas.List.{map_push, flat_map_more}
use Rattle.std.proofs.lemmas.List.Folds.{list_any-append}
use Rattle.std.proofs.lemmas.Slice.Eq.{bytes_eq-Decides}
use Rattle.mdoc_outside.specs.OptionSteps.{◌>>=◌}
use Rattle.mdoc_outside.specs.WordForm.{is_name}
use Rattle.doc_request.specs.Draft.{are_distinct, is_same_element}
use Rattle.doc_request.specs.declared.doc_draft.DocDraft.{DocDraft}
use Rattle.doc_request.specs.declared.wish_draft.WishDraft.{WishDraft}
use Rattle.mdoc_frame.specs.Wishes.{Progress, at_start}
use Rattle.wishes_laws.specs.BadLine.{CanGoOn}
use Rattle.wishes_laws.specs.WishesFile.{document_words, want_words, document_lines, request_lines, AreNames, IsAsked, AreLinesOf}
use Rattle.wishes_laws.proofs.LineWords.{chosen, if-some, same-value, Said, Document, Want, said_of, line-sound, line-complete}

-- ---- a line more

abbrev pub begun : Progress → List DocDraft
begun p = p.complete ++ option_to_list p.current

abbrev pub ends : Option DocDraft → Bool
ends None = true
ends (Some document) = nat_lt 0 (length document.wishes)

abbrev pub closed : List DocDraft → Option DocDraft → Option (List DocDraft)
closed complete None = Some complete
closed complete (Some document) = if nat_lt 0 (length document.wishes) then Some (complete ++ document ∷ []) else None

abbrev pub new_document : List ℕ → DocDraft
new_document doc_type = record { doc_type = doc_type; wishes = [] }

abbrev pub add_wish : DocDraft → WishDraft → DocDraft
add_wish document wish = record { doc_type = document.doc_type; wishes = document.wishes ++ wish ∷ [] }

abbrev pub opened : List ℕ → List DocDraft → Option Progress
opened doc_type complete = Some (record { complete = complete; current = Some (new_document doc_type) })

abbrev pub wanted : WishDraft → List DocDraft → Option DocDraft → Option Progress
wanted wish complete None = None
wanted wish complete (Some document) = if list_any (is_same_element wish) document.wishes then None else Some (record { complete = complete; current = Some (add_wish document wish) })

abbrev pub said_next : Progress → Option Said → Option Progress
said_next p None = None
said_next p (Some (Document doc_type)) = closed p.complete p.current >>= opened doc_type
said_next p (Some (Want wish)) = wanted wish p.complete p.current

abbrev pub next : Progress → List (List ℕ) → Option Progress
next p ws = said_next p (said_of ws)

abbrev pub goes : Progress → List (List (List ℕ)) → Option Progress
goes p [] = Some p
goes p (ws ∷ lines) = next p ws >>= λ (q : Progress). goes q lines

bind-more : (o : Option Progress) (xs ys : List (List (List ℕ))) → ((q : Progress) → goes q (xs ++ ys) ≡ (goes q xs >>= λ (r : Progress). goes r ys)) → (o >>= λ (q : Progress). goes q (xs ++ ys)) ≡ ((o >>= λ (q : Progress). goes q xs) >>= λ (r : Progress). goes r ys)
bind-more None xs ys each = refl
bind-more (Some q) xs ys each = each q

pub goes-append : (xs ys : List (List (List ℕ))) (p : Progress) → goes p (xs ++ ys) ≡ (goes p xs >>= λ (q : Progress). goes q ys)
goes-append [] ys p = refl
goes-append (x ∷ xs) ys p = bind-more (next p x) xs ys (goes-append xs ys)

-- ---- no two wishes for one element

same-comm : (a b : WishDraft) → is_same_element a b ≡ is_same_element b a
same-comm a b = rw (bytes-comm a.ns b.ns, bytes-comm a.name b.name) refl where
  bytes-comm : (xs ys : List ℕ) → bytes_eq xs ys ≡ bytes_eq ys xs
  bytes-comm xs ys = go (bytes_eq xs ys) (bytes_eq ys xs) (bytes_eq-Decides xs ys) (bytes_eq-Decides ys xs) where
    go : (p q : Bool) → Decides p (xs ≡ ys) → Decides q (ys ≡ xs) → p ≡ q
    go true true p q = refl
    go true false p q = sym (q.1 (sym (p.0 refl)))
    go false true p q = p.1 (sym (q.0 refl))
    go false false p q = refl

distinct-push : (wishes : List WishDraft) (wish : WishDraft) → are_distinct wishes ≡ true → list_any (is_same_element wish) wishes ≡ false → are_distinct (wishes ++ wish ∷ []) ≡ true
distinct-push [] wish d other = refl
distinct-push (first ∷ wishes) wish d other =
    let a = and_parts (not (list_any (is_same_element first) wishes)) (are_distinct wishes) d in
    let o = or_parts (is_same_element wish first) (list_any (is_same_element wish) wishes) other in
    let none : list_any (is_same_element first) (wishes ++ wish ∷ []) ≡ false =
    list_any-append (is_same_element first) wishes (wish ∷ []) ∙ rw (not-true (list_any (is_same_element first) wishes) a.0, same-comm first wish ∙ o.0) refl in
    rw (none, distinct-push wishes wish a.1 o.1) refl

-- a wish that others follow is not for the element of one before it
distinct-before : (wishes : List WishDraft) (wish : WishDraft) (more : List WishDraft) → are_distinct (wishes ++ wish ∷ more) ≡ true → list_any (is_same_element wish) wishes ≡ false
distinct-before [] wish more d = refl
distinct-before (first ∷ wishes) wish more d =
    let a = and_parts (not (list_any (is_same_element first) (wishes ++ wish ∷ more))) (are_distinct (wishes ++ wish ∷ more)) d in
    let none = sym (list_any-append (is_same_element first) wishes (wish ∷ more)) ∙ not-true (list_any (is_same_element first) (wishes ++ wish ∷ more)) a.0 in
    let o = or_parts (list_any (is_same_element first) wishes) (is_same_element first wish || list_any (is_same_element first) more) none in
    let p = or_parts (is_same_element first wish) (list_any (is_same_element first) more) o.1 in
    rw (same-comm wish first ∙ p.0, distinct-before wishes wish more a.1) refl

-- ---- what was read is lines of documents

pub record IsOpen (document : DocDraft) : Type 0 where
  pub doc_type : is_name document.doc_type ≡ true
  pub names : AllByRecursion AreNames document.wishes
  pub distinct : are_distinct document.wishes ≡ true

abbrev pub MayBeOpen : Option DocDraft → Type 0
MayBeOpen None = Unit {0}
MayBeOpen (Some document) = IsOpen document

pub record IsGood (p : Progress) : Type 0 where
  pub complete : AllByRecursion IsAsked p.complete
  pub current : MayBeOpen p.current

pub all-push : {X : Type 0} (P : X → Type 0) (xs : List X) (x : X) → AllByRecursion P xs → P x → AllByRecursion P (xs ++ x ∷ [])
all-push P [] x all one = (one, tt)
all-push P (y ∷ xs) x all one = (all.0, all-push P xs x all.1 one)

pub asked-of : (document : DocDraft) → IsOpen document → nat_lt 0 (length document.wishes) ≡ true → IsAsked document
asked-of document open_one has = record { doc_type = open_one.doc_type; names = open_one.names; some = ltb-true 0 (length document.wishes) has; distinct = open_one.distinct }

record Closed (complete : List DocDraft) (current : Option DocDraft) (documents : List DocDraft) : Type 0 where
  are : documents ≡ complete ++ option_to_list current
  each : AllByRecursion IsAsked documents

closed-is : (complete : List DocDraft) (current : Option DocDraft) (documents : List DocDraft) → AllByRecursion IsAsked complete → MayBeOpen current → closed complete current ≡ Some documents → Closed complete current documents
closed-is complete None documents all open_one e =
    let same = same-value complete documents e in
    record { are = sym same ∙ sym (append-nil complete); each = subst (AllByRecursion IsAsked) same all }
closed-is complete (Some document) documents all open_one e =
    let c = if-some (nat_lt 0 (length document.wishes)) (Some (complete ++ document ∷ [])) documents e in
    let same = same-value (complete ++ document ∷ []) documents c.1 in
    record { are = sym same; each = subst (AllByRecursion IsAsked) same (all-push IsAsked complete document all (asked-of document open_one c.0)) }

lines-push : (documents : List DocDraft) (document : DocDraft) → request_lines (documents ++ document ∷ []) ≡ request_lines documents ++ document_lines document
lines-push documents document = sym (flat_map_more document_lines [] documents document)

lines-wish : (documents : List DocDraft) (document : DocDraft) (wish : WishDraft) → request_lines (documents ++ add_wish document wish ∷ []) ≡ request_lines (documents ++ document ∷ []) ++ want_words wish ∷ []
lines-wish documents document wish =
    lines-push documents (add_wish document wish)
    ∙ ap (λ (ls : List (List (List ℕ))). request_lines documents ++ document_words document.doc_type ∷ ls) (map_push want_words document.wishes wish)
    ∙ sym (append_assoc (request_lines documents) (document_lines document) (want_words wish ∷ []))
    ∙ ap (λ (ls : List (List (List ℕ))). ls ++ want_words wish ∷ []) (sym (lines-push documents document))

pub record Gone (p : Progress) (lines : List (List (List ℕ))) (q : Progress) : Type 0 where
  pub good : IsGood q
  pub are : request_lines (begun q) ≡ request_lines (begun p) ++ lines

wanted-sound : (wish : WishDraft) (complete : List DocDraft) (current : Option DocDraft) (q : Progress) → AreNames wish → AllByRecursion IsAsked complete → MayBeOpen current → wanted wish complete current ≡ Some q → Gone (record { complete = complete; current = current }) (want_words wish ∷ []) q
wanted-sound wish complete None q names all open_one e = absurd (cc)
wanted-sound wish complete (Some document) q names all open_one e = go (list_any (is_same_element wish) document.wishes) refl e where
  go : (b : Bool) → list_any (is_same_element wish) document.wishes ≡ b → (if b then None else Some (record { complete = complete; current = Some (add_wish document wish) })) ≡ Some q → Gone (record { complete = complete; current = Some document }) (want_words wish ∷ []) q
  go true same e = absurd (cc)
  go false other e =
      let more : Progress = record { complete = complete; current = Some (add_wish document wish) } in
      let own : Gone (record { complete = complete; current = Some document }) (want_words wish ∷ []) more = record {
        good = record {
          complete = all;
          current = record {
            doc_type = open_one.doc_type;
            names = all-push AreNames document.wishes wish open_one.names names;
            distinct = distinct-push document.wishes wish open_one.distinct other;
          };
        };
        are = lines-wish complete document wish;
      } in
      subst (Gone (record { complete = complete; current = Some document }) (want_words wish ∷ [])) (same-value more q e) own

said-sound : (p : Progress) (ws : List (List ℕ)) (said : Option Said) (q : Progress) → IsGood p → said_of ws ≡ said → said_next p said ≡ Some q → Gone p (ws ∷ []) q
said-sound p ws None q good is e = absurd (cc)
said-sound p ws (Some (Document doc_type)) q good is e =
    let m = line-sound ws (Document doc_type) is in
    let a = chosen (closed p.complete p.current) (opened doc_type) q e in
    let c = closed-is p.complete p.current a.value good.complete good.current a.before in
    let more : Progress = record { complete = a.value; current = Some (new_document doc_type) } in
    let own : Gone p (ws ∷ []) more = record {
      good = record { complete = c.each; current = record { doc_type = m.names; names = tt; distinct = refl } };
      are = lines-push a.value (new_document doc_type) ∙ ap (λ (ds : List DocDraft). request_lines ds ++ document_words doc_type ∷ []) c.are
          ∙ ap (λ (w : List (List ℕ)). request_lines (begun p) ++ w ∷ []) (sym m.are);
    } in
    subst (Gone p (ws ∷ [])) (same-value more q a.after) own
said-sound p ws (Some (Want wish)) q good is e =
    let m = line-sound ws (Want wish) is in
    let g = wanted-sound wish p.complete p.current q m.names good.complete good.current e in
    subst (λ (w : List (List ℕ)). Gone p (w ∷ []) q) (sym m.are) g

pub goes-sound : (lines : List (List (List ℕ))) (p q : Progress) → IsGood p → goes p lines ≡ Some q → Gone p lines q
goes-sound [] p q good e =
    let own : Gone p [] p = record { good = good; are = sym (append-nil (request_lines (begun p))) } in
    subst (Gone p []) (same-value p q e) own
goes-sound (ws ∷ lines) p q good e =
    let a = chosen (next p ws) (λ (r : Progress). goes r lines) q e in
    let one = said-sound p ws (said_of ws) a.value good refl a.before in
    let others = goes-sound lines a.value q one.good a.after in
    record {
      good = others.good;
      are = others.are ∙ ap (λ (ls : List (List (List ℕ))). ls ++ lines) one.are ∙ append_assoc (request_lines (begun p)) (ws ∷ []) lines;
    }

pub start-good : IsGood at_start
start-good = record { complete = tt; current = tt }

-- ---- lines of documents are read

wishes-go : (wishes : List WishDraft) (complete : List DocDraft) (doc_type : List ℕ) (before : List WishDraft) (rest : List (List (List ℕ))) → AllByRecursion AreNames wishes → are_distinct (before ++ wishes) ≡ true →
    goes (record { complete = complete; current = Some (record { doc_type = doc_type; wishes = before }) }) (map want_words wishes ++ rest)
    ≡ goes (record { complete = complete; current = Some (record { doc_type = doc_type; wishes = before ++ wishes }) }) rest
wishes-go [] complete doc_type before rest names distinct =
    ap (λ (ws : List WishDraft). goes (record { complete = complete; current = Some (record { doc_type = doc_type; wishes = ws }) }) rest) (sym (append-nil before))
wishes-go (wish ∷ wishes) complete doc_type before rest names distinct =
    let p : Progress = record { complete = complete; current = Some (record { doc_type = doc_type; wishes = before }) } in
    let own = append_assoc before (wish ∷ []) wishes in
    let none = distinct-before before wish wishes distinct in
    let one : next p (want_words wish) ≡ Some (record { complete = complete; current = Some (record { doc_type = doc_type; wishes = before ++ wish ∷ [] }) }) = ap (said_next p) (line-complete (Want wish) names.0) ∙ rw none refl in
    ap (λ (o : Option Progress). o >>= λ (q : Progress). goes q (map want_words wishes ++ rest)) one
    ∙ wishes-go wishes complete doc_type (before ++ wish ∷ []) rest names.1 (ap are_distinct own ∙ distinct)
    ∙ ap (λ (ws : List WishDraft). goes (record { complete = complete; current = Some (record { doc_type = doc_type; wishes = ws }) }) rest) own

pub record Whole (lines : List (List (List ℕ))) (documents : List DocDraft) (p : Progress) : Type 0 where
  pub end : Progress
  pub goes_on : goes p lines ≡ Some end
  pub ended : ends end.current ≡ true
  pub are : begun end ≡ begun p ++ documents

ended-closed : (complete : List DocDraft) (current : Option DocDraft) → ends current ≡ true → (documents : List DocDraft) × (closed complete current ≡ Some documents) × (documents ≡ complete ++ option_to_list current)
ended-closed complete None e = (complete, refl, sym (append-nil complete))
ended-closed complete (Some document) e = (complete ++ document ∷ [], rw e refl, refl)

pub documents-go : (documents : List DocDraft) (p : Progress) → AllByRecursion IsAsked documents → ends p.current ≡ true → Whole (request_lines documents) documents p
documents-go [] p each ended = record { end = p; goes_on = refl; ended = ended; are = sym (append-nil (begun p)) }
documents-go (document ∷ documents) p each ended =
    let one = each.0 in
    let c = ended-closed p.complete p.current ended in
    let rest = request_lines documents in
    let first : next p (document_words document.doc_type) ≡ Some (record { complete = c.0; current = Some (new_document document.doc_type) }) =
    ap (said_next p) (line-complete (Document document.doc_type) one.doc_type) ∙ ap (λ (o : Option (List DocDraft)). o >>= opened document.doc_type) c.1 in
    let q : Progress = record { complete = c.0; current = Some document } in
    let has : nat_lt 0 (length document.wishes) ≡ true = (let s = one.some in grind (arith, nat_tests)) in
    let others = documents-go documents q each.1 has in
    record {
      end = others.end;
      goes_on = ap (λ (o : Option Progress). o >>= λ (r : Progress). goes r (map want_words document.wishes ++ rest)) first
          ∙ wishes-go document.wishes c.0 document.doc_type [] rest one.names one.distinct ∙ others.goes_on;
      ended = others.ended;
      are = others.are ∙ ap (λ (ds : List DocDraft). (ds ++ document ∷ []) ++ documents) c.2 ∙ append_assoc (begun p) (document ∷ []) documents;
    }

-- ---- lines that can go on

pub goes-front : (xs ys : List (List (List ℕ))) (p q : Progress) → goes p (xs ++ ys) ≡ Some q → (r : Progress) × (goes p xs ≡ Some r)
goes-front xs ys p q e =
    let a = chosen (goes p xs) (λ (r : Progress). goes r ys) q (sym (goes-append xs ys p) ∙ e) in
    (a.value, a.before)

pub lines-whole : (lines : List (List (List ℕ))) (documents : List DocDraft) → AreLinesOf lines documents → Whole lines documents at_start
lines-whole lines documents are = subst (λ (ls : List (List (List ℕ))). Whole ls documents at_start) (sym are.whole) (documents-go documents at_start are.each refl)

pub can-goes : (lines : List (List (List ℕ))) → CanGoOn lines → (q : Progress) × (goes at_start lines ≡ Some q)
can-goes lines can =
    let w = lines-whole (lines ++ can.more) can.documents can.are in
    goes-front lines can.more at_start w.end w.goes_on

-- a document with one wish
abbrev some_wish : WishDraft
some_wish = record { ns = codes "a"; name = codes "a"; retain = false }

abbrev some_document : DocDraft
some_document = record { doc_type = codes "a"; wishes = some_wish ∷ [] }

some_asked : IsAsked some_document
some_asked = record { doc_type = refl; names = (record { ns = refl; name = refl }, tt); some = omega arith; distinct = refl }

good-can : (complete : List DocDraft) (current : Option DocDraft) → AllByRecursion IsAsked complete → MayBeOpen current → CanGoOn (request_lines (complete ++ option_to_list current))
good-can complete None all open_one =
    let own : request_lines (complete ++ []) ++ document_lines some_document ≡ request_lines (complete ++ some_document ∷ []) =
    ap (λ (ds : List DocDraft). request_lines ds ++ document_lines some_document) (append-nil complete) ∙ sym (lines-push complete some_document) in
    record {
      more = document_lines some_document;
      documents = complete ++ some_document ∷ [];
      are = record { whole = own; each = all-push IsAsked complete some_document all some_asked; some = length-some complete some_document };
    }
  where
    length-some : (ds : List DocDraft) (d : DocDraft) → 0 < length (ds ++ d ∷ [])
    length-some [] d = omega arith
    length-some (x ∷ ds) d = omega arith
good-can complete (Some document) all open_one = go document.wishes refl where
  length-some : (ds : List DocDraft) (d : DocDraft) → 0 < length (ds ++ d ∷ [])
  length-some [] d = omega arith
  length-some (x ∷ ds) d = omega arith

  go : (wishes : List WishDraft) → document.wishes ≡ wishes → CanGoOn (request_lines (complete ++ document ∷ []))
  go [] none =
      let one : IsAsked (add_wish document some_wish) = record {
        doc_type = open_one.doc_type;
        names = all-push AreNames document.wishes some_wish open_one.names (record { ns = refl; name = refl });
        some = subst (λ (ws : List WishDraft). 0 < length (ws ++ some_wish ∷ [])) (sym none) (omega arith);
        distinct = subst (λ (ws : List WishDraft). are_distinct (ws ++ some_wish ∷ []) ≡ true) (sym none) refl;
      } in
      record {
        more = want_words some_wish ∷ [];
        documents = complete ++ add_wish document some_wish ∷ [];
        are = record { whole = sym (lines-wish complete document some_wish); each = all-push IsAsked complete (add_wish document some_wish) all one; some = length-some complete (add_wish document some_wish) };
      }
  go (wish ∷ wishes) is =
      let size : length document.wishes ≡ suc (length wishes) = ap length is in
      let has : nat_lt 0 (length document.wishes) ≡ true = grind (arith, nat_tests) in
      record {
        more = [];
        documents = complete ++ document ∷ [];
        are = record { whole = append-nil (request_lines (complete ++ document ∷ [])); each = all-push IsAsked complete document all (asked-of document open_one has); some = length-some complete document };
      }

pub goes-can : (lines : List (List (List ℕ))) (q : Progress) → goes at_start lines ≡ Some q → CanGoOn lines
goes-can lines q e =
    let g = goes-sound lines at_start q start-good e in
    subst CanGoOn g.are (good-can q.complete q.current g.good.complete g.good.current)
