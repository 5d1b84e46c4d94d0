-- One more fragment, and more of them, at the end of a list.
use Rattle.std.proofs.Common.{◌≡◌, ℕ, List, [], ◌∷◌, ◌++◌, map, Bool, true, false, if◌then◌else◌, refl, ap, sym, ◌∙◌, append_assoc}
use Rattle.std.proofs.lemmas.List.{map-append, append-nil}
use Rattle.std.specs.List.{concat}
use Rattle.mdoc_outside.specs.declared.fragment.Fragment.{Fragment}
use Rattle.ble_fragments.specs.declared.ending.Ending.{Ending}
use Rattle.ble_fragments.specs.declared.ending.Ending.TheVariants.{Open, Peer, Bad}
use Rattle.ble_fragments.specs.declared.join_fault.JoinFault.TheVariants.{TooLong}
use Rattle.ble_fragments.specs.Part.{Part, Piece, Start, Stop, Broken, part_of}
use Rattle.ble_fragments.specs.Whole.{Division, Front, Whole, divided, ending_with, front_at, front_from, is_too_long, whole, whole_in}
use Rattle.ble_fragments.specs.Next.{continued, next, next_open, next_by, next_piece, ContinuesWhole}
use Rattle.ble_fragments.proofs.Divisions.{added, divided-added}

-- the front with a fragment after it
abbrev extended_by : Ending → List Fragment → Fragment → Front
extended_by Open before f = front_at before (ending_with (divided (map part_of before)).rest (part_of f)) (record { fragments = before ++ f ∷ []; ending = Open })
extended_by Peer before f = record { fragments = before; ending = Peer }
extended_by (Bad fault) before f = record { fragments = before; ending = Bad fault }

at-extended : (e : Ending) (before : List Fragment) (f : Fragment) (one two : Front) → one ≡ extended_by two.ending two.fragments f → front_at before e one ≡ extended_by (front_at before e two).ending (front_at before e two).fragments f
at-extended Open before f one two h = h
at-extended Peer before f one two h = refl
at-extended (Bad fault) before f one two h = refl

front-extended : (before fs : List Fragment) (f : Fragment) → front_from before (fs ++ f ∷ []) ≡ extended_by (front_from before fs).ending (front_from before fs).fragments f
front-extended before [] f = refl
front-extended before (g ∷ fs) f =
    at-extended (ending_with (divided (map part_of before)).rest (part_of g)) before f _ _
    (front-extended (before ++ g ∷ []) fs f)

too-long-next : (b is_last : Bool) (bytes : List ℕ) (d : Division) (before more : List Fragment) → divided (map part_of before) ≡ d → divided (map part_of more) ≡ added d (Piece is_last bytes) → (let front = front_at before (if b then Bad TooLong else Open) (record { fragments = more; ending = Open }) in whole_in (divided (map part_of front.fragments)) front.ending) ≡ (if b then whole_in d (Bad TooLong) else whole_in (added d (Piece is_last bytes)) Open)
too-long-next true is_last bytes d before more h g = ap (λ (x : Division). whole_in x (Bad TooLong)) h
too-long-next false is_last bytes d before more h g = ap (λ (x : Division). whole_in x Open) g

piece-added : (is_last : Bool) (bytes : List ℕ) (d : Division) → whole_in (added d (Piece is_last bytes)) Open ≡ next_piece is_last (whole_in d Open) bytes
piece-added true bytes d = ap (λ (ms : List (List ℕ)). record { messages = ms; rest = []; ending = Open }) (map-append concat d.groups ((d.rest ++ bytes ∷ []) ∷ []))
piece-added false bytes d = refl

else-same : (b : Bool) (x y z : Whole) → y ≡ z → (if b then x else y) ≡ (if b then x else z)
else-same true x y z e = refl
else-same false x y z e = e

open-next : (p : Part) (d : Division) (before more : List Fragment) → divided (map part_of before) ≡ d → divided (map part_of more) ≡ added d p → (let front = front_at before (ending_with d.rest p) (record { fragments = more; ending = Open }) in whole_in (divided (map part_of front.fragments)) front.ending) ≡ next_open (whole_in d Open) p
open-next (Piece is_last bytes) d before more h g =
    too-long-next (is_too_long (d.rest ++ bytes ∷ [])) is_last bytes d before more h g
    ∙ else-same (is_too_long (d.rest ++ bytes ∷ [])) _ _ _ (piece-added is_last bytes d)
open-next Start d before more h g = ap (λ (x : Division). whole_in x Open) g
open-next Stop d before more h g = ap (λ (x : Division). whole_in x Peer) h
open-next (Broken fault) d before more h g = ap (λ (x : Division). whole_in x (Bad fault)) h

extended-next : (e : Ending) (before : List Fragment) (f : Fragment) → (let front = extended_by e before f in whole_in (divided (map part_of front.fragments)) front.ending) ≡ next_by e (whole_in (divided (map part_of before)) e) (part_of f)
extended-next Open before f =
    open-next (part_of f) (divided (map part_of before)) before (before ++ f ∷ []) refl
    (ap divided (map-append part_of before (f ∷ [])) ∙ divided-added (map part_of before) (part_of f))
extended-next Peer before f = refl
extended-next (Bad fault) before f = refl

pub one_more : (came : List Fragment) (f : Fragment) → whole (came ++ f ∷ []) ≡ next (whole came) (part_of f)
unfolding whole
one_more came f =
    ap (λ (front : Front). whole_in (divided (map part_of front.fragments)) front.ending) (front-extended [] came f)
    ∙ extended-next (front_from [] came).ending (front_from [] came).fragments f

pub continues : ContinuesWhole
continues came [] = ap whole (append-nil came)
continues came (f ∷ fs) =
    ap whole (sym (append_assoc came (f ∷ []) fs))
    ∙ continues (came ++ f ∷ []) fs
    ∙ ap (λ (w : Whole). continued w fs) (one_more came f)
