-- What a line of a wishes file says has names.
use Rattle.std.proofs.Common.{◌≡◌, ℕ, ◌≤◌, Bool, true, false, ◌&&◌, cond, List, [], ◌∷◌, length, Option, Some, None, refl, subst, arith}
use Rattle.std.specs.Prelude.{nat_le, ◌==◌, not}
use Rattle.std.specs.Char.{is_ascii_graphic}
use Rattle.std.specs.List.{list_all}
use Rattle.std.specs.Str.{IsAscii, bytes_eq}
use Rattle.std.proofs.lemmas.Bool.{leb-true}
use Rattle.std.proofs.lemmas.Str.{IsUtf8-from_ascii}
use Rattle.std.proofs.lemmas.Str.Ascii.{IsAscii-nil, IsAscii-cons}
use Rattle.mdoc_outside.specs.OptionSteps.{◌>>=◌}
use Rattle.mdoc_outside.specs.WordForm.{is_word, is_name}
use Rattle.consent.specs.Rule.{read_flag}
use Rattle.doc_request.specs.Draft.{IsName, IsWish}
use Rattle.mdoc_frame.specs.WishLine.{wish_line, document_line, want_line, name_of}
use Rattle.mdoc_frame.specs.declared.wish_line.WishLine.{WishLine}
use Rattle.mdoc_frame.specs.declared.wish_line.WishLine.TheVariants.{Document, Want}

-- ---- names

both : (a b : Bool) → (a && b) ≡ true → (a ≡ true) × (b ≡ true)
both true b h = (refl, h)
both false b h = absurd cc

graphic_ascii : (bytes : List ℕ) → list_all is_ascii_graphic bytes ≡ true → IsAscii bytes
graphic_ascii [] h = IsAscii-nil
graphic_ascii (b ∷ bytes) h =
    let first = both (is_ascii_graphic b) (list_all is_ascii_graphic bytes) h in
    let range = both (nat_le 33 b) (nat_le b 126) first.0 in
    let low : b ≤ 126 = leb-true b 126 range.1 in
    IsAscii-cons b bytes (omega arith) (graphic_ascii bytes first.1)

name-IsName : (word : List ℕ) → is_name word ≡ true → IsName word
name-IsName word h =
    let parts = both (is_word word) (nat_le (length word) 128) h in
    let graphic = both (not (length word == 0)) (list_all is_ascii_graphic word) parts.0 in
    record { text = IsUtf8-from_ascii word (graphic_ascii word graphic.1); short = leb-true (length word) 128 parts.1 }

-- ---- steps that gave a value

bind_some : {A B : Type 0} (o : Option A) (f : A → Option B) (y : B) → (o >>= f) ≡ Some y → (x : A) × (o ≡ Some x) × (f x ≡ Some y)
bind_some None f y e = absurd cc
bind_some (Some x) f y e = (x, refl, e)

cond_some : {A : Type 0} (b : Bool) (o : Option A) (y : A) → cond b o None ≡ Some y → (b ≡ true) × (o ≡ Some y)
cond_some true o y e = (refl, e)
cond_some false o y e = absurd cc

abbrev present : {A : Type 0} → A → Option A
present x = Some x

same_value : {A : Type 0} (x y : A) → present x ≡ present y → x ≡ y
same_value x y e = cc

-- ---- lines

abbrev pub HasNames : WishLine → Type 0
HasNames (Document doc_type) = IsName doc_type
HasNames (Want wish) = IsWish wish

abbrev pub Says : Option WishLine → Type 0
Says None = Unit {0}
Says (Some said) = HasNames said

named : (word name : List ℕ) → name_of word ≡ Some name → IsName name
named word name e =
    let found = cond_some (is_name word) (Some word) name e in
    subst IsName (same_value word name found.1) (name-IsName word found.0)

document_line-names : (word doc_type : List ℕ) (said : WishLine) → document_line word doc_type ≡ Some said → HasNames said
document_line-names word doc_type said e =
    let after_word = cond_some (bytes_eq word _) (name_of doc_type >>= λ name. Some (Document name)) said e in
    let name = bind_some (name_of doc_type) (λ name. Some (Document name)) said after_word.1 in
    subst HasNames (same_value (Document name.0) said name.2) (named doc_type name.0 name.1)

want_line-names : (word ns name retain : List ℕ) (said : WishLine) → want_line word ns name retain ≡ Some said → HasNames said
want_line-names word ns name retain said e =
    let after_word = cond_some (bytes_eq word _) _ said e in
    let space = bind_some (name_of ns) _ said after_word.1 in
    let element = bind_some (name_of name) _ said space.2 in
    let keep = bind_some (read_flag retain) _ said element.2 in
    subst HasNames (same_value (Want (record { ns = space.0; name = element.0; retain = keep.0 })) said keep.2)
    (record { ns = named ns space.0 space.1; name = named name element.0 element.1 })

wish_line-names : (ws : List (List ℕ)) (said : WishLine) → wish_line ws ≡ Some said → HasNames said
wish_line-names [] said e = absurd cc
wish_line-names (a ∷ []) said e = absurd cc
wish_line-names (a ∷ (b ∷ [])) said e = document_line-names a b said e
wish_line-names (a ∷ (b ∷ (c ∷ []))) said e = absurd cc
wish_line-names (a ∷ (b ∷ (c ∷ (d ∷ [])))) said e = want_line-names a b c d said e
wish_line-names (a ∷ (b ∷ (c ∷ (d ∷ (f ∷ ws))))) said e = absurd cc

pub wish_line-Says : (ws : List (List ℕ)) → Says (wish_line ws)
wish_line-Says ws = says (wish_line ws) refl where
  says : (o : Option WishLine) → wish_line ws ≡ o → Says o
  says None e = tt
  says (Some said) e = wish_line-names ws said e
