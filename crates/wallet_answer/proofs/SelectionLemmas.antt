-- Selections from a place on.
use Rattle.std.proofs.Common.{◌≡◌, ℕ, ◌+◌, ◌<◌, List, [], ◌∷◌, ◌++◌, length, map, drop, get_or, Option, Some, None, refl, sym, ap, ◌∙◌, add-one, drop-cons, append_assoc}
use Rattle.std.specs.List.{cons_option}
use Rattle.doc_request.specs.Asked.{Document}
use Rattle.wallet_model.specs.Released.{ReleasedDocument, Selection, choice, choices, selection, selections, types_of_nothing}
use Rattle.wallet_model.specs.Setup.{Setup}
use Rattle.wallet_answer.specs.Selecting.{if_nothing}

drop_more : {X : Type 0} (xs : List X) (i : ℕ) (d : X) → i < length xs → drop i xs ≡ get_or xs i d ∷ drop (i + 1) xs
drop_more xs i d within = rw (add-one, drop-cons xs i d) refl

-- the selections from a place on: the one at the place, and those after it
split : {X Y : Type 0} (W : Setup) (f : X → Document) (g : Y → Option (List ℕ)) (xs : List X) (ys : List Y) (i : ℕ) (x : X) (y : Y)
    → i < length xs → i < length ys
    → selections W (map f (drop i xs)) (map g (drop i ys))
    ≡ selection W (f (get_or xs i x)) (g (get_or ys i y)) ∷ selections W (map f (drop (i + 1) xs)) (map g (drop (i + 1) ys))
split {X} {Y} W f g xs ys i x y in_xs in_ys =
    ap (λ (list : List X). selections W (map f list) (map g (drop i ys))) (drop_more xs i x in_xs)
    ∙ ap (λ (list : List Y). selections W (f (get_or xs i x) ∷ map f (drop (i + 1) xs)) (map g list)) (drop_more ys i y in_ys)

-- what is chosen at a place, before what is chosen after it
pub choice_here : {X Y : Type 0} (W : Setup) (f : X → Document) (g : Y → Option (List ℕ)) (xs : List X) (ys : List Y) (i : ℕ) (x : X) (y : Y)
    (found : Option ReleasedDocument) (out : List ReleasedDocument) → i < length xs → i < length ys → found ≡ choice W (g (get_or ys i y)) (f (get_or xs i x))
    → (all : List ReleasedDocument) → out ++ choices (selections W (map f (drop i xs)) (map g (drop i ys))) ≡ all
    → out ++ cons_option found (choices (selections W (map f (drop (i + 1) xs)) (map g (drop (i + 1) ys)))) ≡ all
choice_here W f g xs ys i x y found out in_xs in_ys is all so_far =
    ap (λ (o : Option ReleasedDocument). out ++ cons_option o (choices (selections W (map f (drop (i + 1) xs)) (map g (drop (i + 1) ys))))) is
    ∙ sym (ap (λ (list : List Selection). out ++ choices list) (split W f g xs ys i x y in_xs in_ys)) ∙ so_far

either : (s : Selection) (list : List Selection) → types_of_nothing (s ∷ list) ≡ if_nothing s.choice s.doc_type (types_of_nothing list)
either s list = by s.choice s.doc_type list
  where
    by : (found : Option ReleasedDocument) (doc_type : List ℕ) (list : List Selection)
        → types_of_nothing (record { doc_type = doc_type; choice = found } ∷ list) ≡ if_nothing found doc_type (types_of_nothing list)
    by None doc_type list = refl
    by (Some found) doc_type list = refl

pub nothing_here : {X Y : Type 0} (W : Setup) (f : X → Document) (g : Y → Option (List ℕ)) (xs : List X) (ys : List Y) (i : ℕ) (x : X) (y : Y)
    (found : Option ReleasedDocument) (out : List (List ℕ)) → i < length xs → i < length ys → found ≡ choice W (g (get_or ys i y)) (f (get_or xs i x))
    → (all : List (List ℕ)) → out ++ types_of_nothing (selections W (map f (drop i xs)) (map g (drop i ys))) ≡ all
    → out ++ if_nothing found (f (get_or xs i x)).doc_type (types_of_nothing (selections W (map f (drop (i + 1) xs)) (map g (drop (i + 1) ys)))) ≡ all
nothing_here W f g xs ys i x y found out in_xs in_ys is all so_far =
    ap (λ (o : Option ReleasedDocument). out ++ if_nothing o (f (get_or xs i x)).doc_type (types_of_nothing (selections W (map f (drop (i + 1) xs)) (map g (drop (i + 1) ys))))) is
    ∙ sym (ap (λ (types : List (List ℕ)). out ++ types) (either (selection W (f (get_or xs i x)) (g (get_or ys i y))) (selections W (map f (drop (i + 1) xs)) (map g (drop (i + 1) ys)))))
    ∙ sym (ap (λ (list : List Selection). out ++ types_of_nothing list) (split W f g xs ys i x y in_xs in_ys)) ∙ so_far

-- one added at the end, before others
pub choice_added : (out more rest : List ReleasedDocument) (found : Option ReleasedDocument) → more ≡ out ++ cons_option found []
    → more ++ rest ≡ out ++ cons_option found rest
choice_added out more rest None is = rw is (simp append_assoc)
choice_added out more rest (Some found) is = rw is (simp append_assoc)

pub type_added : (out more rest : List (List ℕ)) (found : Option ReleasedDocument) (doc_type : List ℕ) → more ≡ out ++ if_nothing found doc_type []
    → more ++ rest ≡ out ++ if_nothing found doc_type rest
type_added out more rest None doc_type is = rw is (simp append_assoc)
type_added out more rest (Some found) doc_type is = rw is (simp append_assoc)
