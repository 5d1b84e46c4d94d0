-- What a joiner's step comes to in the list that it stands for.
use Rattle.std.proofs.Common.{◌≡◌, ℕ, List, [], ◌∷◌, ◌++◌, length, Bool, true, false, if◌then◌else◌, Result, Ok, Err, refl, ap, sym, ◌∙◌, subst}
use Rattle.std.proofs.lemmas.List.{append-nil, length-append}
use Rattle.std.proofs.lemmas.List.Folds.{concat-append}
use Rattle.std.specs.List.{concat}
use Rattle.mdoc_outside.specs.declared.fragment.Fragment.{Fragment}
use Rattle.ble_fragments.specs.declared.ending.Ending.{Ending}
use Rattle.ble_fragments.specs.declared.ending.Ending.TheVariants.{Open, Peer, Bad}
use Rattle.ble_fragments.specs.declared.fed.Fed.{Fed}
use Rattle.ble_fragments.specs.declared.fed.Fed.TheVariants.{Ended}
use Rattle.ble_fragments.specs.declared.join_fault.JoinFault.{JoinFault}
use Rattle.ble_fragments.specs.declared.join_fault.JoinFault.TheVariants.{TooLong}
use Rattle.ble_fragments.specs.Joins.{Feeds, IsAnswer, Joined, Joins, answer_open, fed_piece, is_over, joined_of, messages_in, step_open, with_piece, ended_with}
use Rattle.ble_fragments.specs.Next.{next, next_open, next_piece, ended_at}
use Rattle.ble_fragments.specs.Part.{Part, Piece, Start, Stop, Broken, part_of}
use Rattle.ble_fragments.specs.Whole.{Whole, whole}
use Rattle.ble_fragments.proofs.Limits.{too_long_is_over}
use Rattle.ble_fragments.proofs.OneMore.{one_more}

-- the three facts, of what the list comes to and what the joiner keeps and answers
record Agrees (before after : Whole) (part : Part) (new : Joined) (result : Result Fed JoinFault) : Type 0 where
  joins : new ≡ joined_of after
  messages : after.messages ≡ before.messages ++ messages_in result
  answer : IsAnswer after.ending part result

last-agrees : (is_last : Bool) (ms : List (List ℕ)) (rest : List (List ℕ)) (piece : List ℕ) → (let w : Whole = record { messages = ms; rest = rest; ending = Open } in Agrees w (next_piece is_last w piece) (Piece is_last piece) (with_piece is_last (joined_of w) piece) (Ok (fed_piece is_last (joined_of w) piece)))
last-agrees true ms rest piece = record {
  joins = refl;
  messages = ap (λ (m : List ℕ). ms ++ m ∷ []) (concat-append rest (piece ∷ []) ∙ ap (λ (x : List ℕ). concat rest ++ x) (append-nil piece));
  answer = tt;
}
last-agrees false ms rest piece = record {
  joins = ap (λ (n : ℕ). record { count = n; bytes = concat rest ++ piece; ending = Open }) (sym (length-append rest (piece ∷ [])))
      ∙ ap (λ (x : List ℕ). record { count = length (rest ++ piece ∷ []); bytes = x; ending = Open }) (sym (concat-append rest (piece ∷ []) ∙ ap (λ (x : List ℕ). concat rest ++ x) (append-nil piece)));
  messages = sym (append-nil ms);
  answer = refl;
}

piece-agrees : (is_last over : Bool) (ms : List (List ℕ)) (rest : List (List ℕ)) (piece : List ℕ) → (let w : Whole = record { messages = ms; rest = rest; ending = Open } in Agrees w (if over then ended_at w (Bad TooLong) else next_piece is_last w piece) (Piece is_last piece) (if over then ended_with (joined_of w) (Bad TooLong) else with_piece is_last (joined_of w) piece) (if over then Err TooLong else Ok (fed_piece is_last (joined_of w) piece)))
piece-agrees is_last true ms rest piece = record { joins = refl; messages = sym (append-nil ms); answer = refl }
piece-agrees is_last false ms rest piece = last-agrees is_last ms rest piece

open-agrees : (part : Part) (ms : List (List ℕ)) (rest : List (List ℕ)) → (let w : Whole = record { messages = ms; rest = rest; ending = Open } in Agrees w (next_open w part) part (step_open (joined_of w) part) (answer_open (joined_of w) part))
open-agrees (Piece is_last piece) ms rest =
    let w : Whole = record { messages = ms; rest = rest; ending = Open } in
    let P : Bool → Type 0 = λ (b : Bool). Agrees w (if b then ended_at w (Bad TooLong) else next_piece is_last w piece) (Piece is_last piece) (if is_over (joined_of w) piece then ended_with (joined_of w) (Bad TooLong) else with_piece is_last (joined_of w) piece) (if is_over (joined_of w) piece then Err TooLong else Ok (fed_piece is_last (joined_of w) piece)) in
    subst P (sym (too_long_is_over w piece)) (piece-agrees is_last (is_over (joined_of w) piece) ms rest piece)
open-agrees Start ms rest = record { joins = refl; messages = sym (append-nil ms); answer = refl }
open-agrees Stop ms rest = record { joins = refl; messages = sym (append-nil ms); answer = refl }
open-agrees (Broken fault) ms rest = record { joins = refl; messages = sym (append-nil ms); answer = refl }

feeds : (came : List Fragment) (f : Fragment) (w : Whole) (result : Result Fed JoinFault) (new : Joined) → whole came ≡ w → Agrees w (next w (part_of f)) (part_of f) new result → Feeds came f result new
feeds came f w result new e a = record {
  joins = a.joins ∙ ap joined_of (sym after);
  messages = ap (λ (x : Whole). x.messages) after ∙ a.messages ∙ ap (λ (x : Whole). x.messages ++ messages_in result) (sym e);
  answer = let P : Whole → Type 0 = λ (x : Whole). IsAnswer x.ending (part_of f) result in subst P (sym after) a.answer;
}
  where
    after : whole (came ++ f ∷ []) ≡ next w (part_of f)
    after = one_more came f ∙ ap (λ (x : Whole). next x (part_of f)) e

ends : (came : List Fragment) (old : Joined) (e : Ending) → Joins came old → old.ending ≡ e → whole came ≡ record { messages = (whole came).messages; rest = (whole came).rest; ending = e }
ends came old e j o =
    ap (λ (x : Ending). record { messages = (whole came).messages; rest = (whole came).rest; ending = x })
    (sym (ap (λ (x : Joined). x.ending) j) ∙ o)

pub fed_open : (came : List Fragment) (f : Fragment) (old : Joined) (result : Result Fed JoinFault) (new : Joined) → Joins came old → old.ending ≡ Open → new ≡ step_open old (part_of f) → result ≡ answer_open old (part_of f) → Feeds came f result new
fed_open came f old result new j o s r =
    let w : Whole = record { messages = (whole came).messages; rest = (whole came).rest; ending = Open } in
    let q : old ≡ joined_of w = j ∙ ap joined_of (ends came old Open j o) in
    let p : Part = part_of f in
    let N : Joined → Type 0 = λ (x : Joined). Agrees w (next w p) p x (answer_open (joined_of w) p) in
    let R : Result Fed JoinFault → Type 0 = λ (x : Result Fed JoinFault). Agrees w (next w p) p new x in
    feeds came f w result new (ends came old Open j o)
    (subst R (sym (r ∙ ap (λ (x : Joined). answer_open x p) q))
    (subst N (sym (s ∙ ap (λ (x : Joined). step_open x p) q)) (open-agrees p w.messages w.rest)))

pub fed_peer : (came : List Fragment) (f : Fragment) (old : Joined) → Joins came old → old.ending ≡ Peer → Feeds came f (Ok Ended) old
fed_peer came f old j o =
    feeds came f _ (Ok Ended) old (ends came old Peer j o)
    (record { joins = j ∙ ap joined_of (ends came old Peer j o); messages = sym (append-nil (whole came).messages); answer = refl })

pub fed_bad : (came : List Fragment) (f : Fragment) (old : Joined) (fault : JoinFault) → Joins came old → old.ending ≡ Bad fault → Feeds came f (Err fault) old
fed_bad came f old fault j o =
    feeds came f _ (Err fault) old (ends came old (Bad fault) j o)
    (record { joins = j ∙ ap joined_of (ends came old (Bad fault) j o); messages = sym (append-nil (whole came).messages); answer = refl })
