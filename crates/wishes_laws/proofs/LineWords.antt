-- What a line says, by its words.
use Rattle.std.proofs.Common.{◌≡◌, refl, ap, ◌∙◌, subst, Bool, true, false, if◌then◌else◌, List, [], ◌∷◌, ℕ, codes, Option, Some, None, Result, Err, bytes_eq}
use Rattle.std.proofs.lemmas.Slice.Eq.{bytes_eq-Decides}
use Rattle.mdoc_outside.specs.OptionSteps.{◌>>=◌}
use Rattle.mdoc_outside.specs.WordForm.{is_name}
use Rattle.consent.specs.Rule.{read_flag}
use Rattle.doc_request.specs.declared.wish_draft.WishDraft.{WishDraft}
use Rattle.mdoc_frame.specs.WishLine.{name_of, wish_line}
use Rattle.mdoc_frame.specs.Wishes.{Progress, with_document, with_want, with_line}
use Rattle.mdoc_frame.specs.declared.file_fault.FileFault.{FileFault}
use Rattle.mdoc_frame.specs.declared.file_fault.FileFault.TheVariants.{Line}
use Rattle.wishes_laws.specs.WishesFile.{document_words, flag_word, want_words, AreNames}

-- ---- steps that gave a value

pub record Chosen {A B : Type 0} (o : Option A) (step : A → Option B) (y : B) : Type 0 where
  pub value : A
  pub before : o ≡ Some value
  pub after : step value ≡ Some y

pub chosen : {A B : Type 0} (o : Option A) (step : A → Option B) (y : B) → (o >>= step) ≡ Some y → Chosen o step y
chosen (Some value) step y e = record { value = value; before = refl; after = e }
chosen None step y e = absurd (cc)

pub if-some : {A : Type 0} (b : Bool) (o : Option A) (y : A) → (if b then o else None) ≡ Some y → (b ≡ true) × (o ≡ Some y)
if-some true o y e = (refl, e)
if-some false o y e = absurd (cc)

abbrev present : {A : Type 0} → A → Option A
present x = Some x

pub same-value : {A : Type 0} (x y : A) → present x ≡ present y → x ≡ y
same-value x y e = cc

equal-words : (xs ys : List ℕ) → bytes_eq xs ys ≡ true → xs ≡ ys
equal-words xs ys e = (bytes_eq-Decides xs ys).0 e

-- ---- what is said

pub data Said : Type 0 where
  Document : List ℕ → Said
  Want : WishDraft → Said

abbrev with_flag : List ℕ → List ℕ → Bool → Option Said
with_flag space element keep = Some (Want (record { ns = space; name = element; retain = keep }))

abbrev with_element : List ℕ → List ℕ → List ℕ → Option Said
with_element retain space element = read_flag retain >>= with_flag space element

abbrev with_space : List ℕ → List ℕ → List ℕ → Option Said
with_space name retain space = name_of name >>= with_element retain space

abbrev said_document : List ℕ → Option Said
said_document name = Some (Document name)

abbrev pub said_of : List (List ℕ) → Option Said
said_of (word ∷ (doc_type ∷ [])) = if bytes_eq word (codes "document") then (name_of doc_type >>= said_document) else None
said_of (word ∷ (ns ∷ (name ∷ (retain ∷ [])))) = if bytes_eq word (codes "want") then (name_of ns >>= with_space name retain) else None
said_of ws = None

-- with one more line, by what it says
abbrev pub with_said : ℕ → Option Said → Progress → Result Progress FileFault
with_said number None p = Err (Line number)
with_said number (Some (Document doc_type)) p = with_document number doc_type p
with_said number (Some (Want wish)) p = with_want number wish p

pub line-same : (number : ℕ) (ws : List (List ℕ)) (p : Progress) → with_line number (wish_line ws) p ≡ with_said number (said_of ws) p
line-same number [] p = refl
line-same number (word ∷ []) p = refl
line-same number (word ∷ (doc_type ∷ [])) p = go (bytes_eq word (codes "document")) refl (is_name doc_type) refl where
  go : (a : Bool) → bytes_eq word (codes "document") ≡ a → (b : Bool) → is_name doc_type ≡ b → with_line number (wish_line (word ∷ doc_type ∷ [])) p ≡ with_said number (said_of (word ∷ doc_type ∷ [])) p
  go true e true f = rw (e, f) refl
  go true e false f = rw (e, f) refl
  go false e b f = rw e refl
line-same number (word ∷ (ns ∷ (name ∷ []))) p = refl
line-same number (word ∷ (ns ∷ (name ∷ (retain ∷ [])))) p = go (bytes_eq word (codes "want")) refl (is_name ns) refl (is_name name) refl (read_flag retain) refl where
  go : (a : Bool) → bytes_eq word (codes "want") ≡ a → (b : Bool) → is_name ns ≡ b → (c : Bool) → is_name name ≡ c → (d : Option Bool) → read_flag retain ≡ d →
      with_line number (wish_line (word ∷ ns ∷ name ∷ retain ∷ [])) p ≡ with_said number (said_of (word ∷ ns ∷ name ∷ retain ∷ [])) p
  go false e b f c g d h = rw e refl
  go true e false f c g d h = rw (e, f) refl
  go true e true f false g d h = rw (e, f, g) refl
  go true e true f true g None h = rw (e, f, g, h) refl
  go true e true f true g (Some flag) h = rw (e, f, g, h) refl
line-same number (word ∷ (ns ∷ (name ∷ (retain ∷ (other ∷ ws))))) p = refl

abbrev pub said_words : Said → List (List ℕ)
said_words (Document doc_type) = document_words doc_type
said_words (Want wish) = want_words wish

abbrev pub SaidNames : Said → Type 0
SaidNames (Document doc_type) = is_name doc_type ≡ true
SaidNames (Want wish) = AreNames wish

pub record LineSound (ws : List (List ℕ)) (said : Said) : Type 0 where
  pub are : ws ≡ said_words said
  pub names : SaidNames said

name-sound : (word name : List ℕ) → name_of word ≡ Some name → (is_name word ≡ true) × (word ≡ name)
name-sound word name e =
    let c = if-some (is_name word) (Some word) name e in
    (c.0, same-value word name c.1)

flag-sound : (word : List ℕ) (flag : Bool) → read_flag word ≡ Some flag → word ≡ flag_word flag
flag-sound word flag e = go (bytes_eq word (codes "0")) refl (bytes_eq word (codes "1")) refl e where
  go : (a : Bool) → bytes_eq word (codes "0") ≡ a → (b : Bool) → bytes_eq word (codes "1") ≡ b → (if a then Some false else if b then Some true else None) ≡ Some flag → word ≡ flag_word flag
  go true zero b one same = equal-words word (codes "0") zero ∙ ap flag_word (same-value false flag same)
  go false zero true one same = equal-words word (codes "1") one ∙ ap flag_word (same-value true flag same)
  go false zero false one same = absurd (cc)

pub line-sound : (ws : List (List ℕ)) (said : Said) → said_of ws ≡ Some said → LineSound ws said
line-sound [] said e = absurd (cc)
line-sound (word ∷ []) said e = absurd (cc)
line-sound (word ∷ (doc_type ∷ [])) said e =
    let c = if-some (bytes_eq word (codes "document")) (name_of doc_type >>= said_document) said e in
    let d = chosen (name_of doc_type) said_document said c.1 in
    let n = name-sound doc_type d.value d.before in
    let keyword = equal-words word (codes "document") c.0 in
    let own : LineSound (word ∷ doc_type ∷ []) (Document doc_type) = record { are = ap (λ (w : List ℕ). w ∷ doc_type ∷ []) keyword; names = n.0 } in
    subst (LineSound (word ∷ doc_type ∷ [])) (ap Document n.1 ∙ same-value (Document d.value) said d.after) own
line-sound (word ∷ (ns ∷ (name ∷ []))) said e = absurd (cc)
line-sound (word ∷ (ns ∷ (name ∷ (retain ∷ [])))) said e =
    let c = if-some (bytes_eq word (codes "want")) (name_of ns >>= with_space name retain) said e in
    let a = chosen (name_of ns) (with_space name retain) said c.1 in
    let b = chosen (name_of name) (with_element retain a.value) said a.after in
    let d = chosen (read_flag retain) (with_flag a.value b.value) said b.after in
    let m = name-sound ns a.value a.before in
    let n = name-sound name b.value b.before in
    let f = flag-sound retain d.value d.before in
    let keyword = equal-words word (codes "want") c.0 in
    let wish : WishDraft = record { ns = a.value; name = b.value; retain = d.value } in
    let own : LineSound (word ∷ ns ∷ name ∷ retain ∷ []) (Want wish) = record {
      are = ap (λ (w : List ℕ). w ∷ ns ∷ name ∷ retain ∷ []) keyword ∙ ap (λ (w : List ℕ). codes "want" ∷ w ∷ name ∷ retain ∷ []) m.1
          ∙ ap (λ (w : List ℕ). codes "want" ∷ a.value ∷ w ∷ retain ∷ []) n.1 ∙ ap (λ (w : List ℕ). codes "want" ∷ a.value ∷ b.value ∷ w ∷ []) f;
      names = record { ns = subst (λ (w : List ℕ). is_name w ≡ true) m.1 m.0; name = subst (λ (w : List ℕ). is_name w ≡ true) n.1 n.0 };
    } in
    subst (LineSound (word ∷ ns ∷ name ∷ retain ∷ [])) (same-value (Want wish) said d.after) own
line-sound (word ∷ (ns ∷ (name ∷ (retain ∷ (other ∷ ws))))) said e = absurd (cc)

flag-complete : (flag : Bool) → read_flag (flag_word flag) ≡ Some flag
flag-complete true = refl
flag-complete false = refl

pub line-complete : (said : Said) → SaidNames said → said_of (said_words said) ≡ Some said
line-complete (Document doc_type) name = rw name refl
line-complete (Want wish) names =
    let first : is_name wish.ns ≡ true = names.ns in
    let second : is_name wish.name ≡ true = names.name in
    rw (first, second, flag-complete wish.retain) refl
