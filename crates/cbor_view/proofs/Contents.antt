-- What is read of bytes is a part of them, at its place.
use Rattle.std.proofs.Common.{◌≡◌, ℕ, ◌/◌, ◌%◌, ◌==◌, ◌^◌, if◌then◌else◌, Bool, true, false, nat_lt, List, [], ◌∷◌, ◌++◌, length, take, drop, Option, Some, None, Result, Ok, Err, refl, sym, ap, ◌∙◌, subst, take-append-drop}
use Rattle.std.specs.Int.{Width, w8, w16, w32, w64, byte_len, from_be_bytes}
use Rattle.std.specs.List.{AllByRecursion}
use Rattle.std.specs.Str.{is_utf8}
use Rattle.cbor_view.specs.declared.cbor_kind.CborKind.{CborKind}
use Rattle.cbor_view.specs.declared.cbor_kind.CborKind.TheVariants.{Truncated, Reserved, Length, Deep, BadText}
use Rattle.cbor_view.specs.declared.cbor_fault.CborFault.{CborFault}
use Rattle.cbor_view.specs.declared.heads.Head.{Head}
use Rattle.cbor_view.specs.declared.heads.Head.TheVariants as heads
use Rattle.cbor_view.specs.declared.stop.Stop.{Stop}
use Rattle.cbor_view.specs.Label.{Label, values_of, entries_or_none}
use Rattle.cbor_view.specs.Opening.{EndsWith}
use Rattle.cbor_view.specs.Parts.{Part, LiesIn, BothLieIn, tree_in, parts_at, entries_at, body_of, array_after, map_after, tag_after, items_in, pairs_in, tag_in, entry_in, bytes_in, text_in}
use Rattle.cbor_view.specs.Reading.{◌>>=◌, endless, number_at, argument_at, head_with, kind_of, head_at, Reader, stop, string_at, text_at, items_at, pairs_at, behind, behind_head, inner, reads, tree_of, tree_or_null}
use Rattle.cbor_view.specs.Tree.{Tree, Unsigned, Negative, Bytes, Text, Array, Map, Tag, Simple, Float, bytes_of, text_of}
use Rattle.std.proofs.lemmas.List.{append_assoc, append-nil}
use Rattle.cbor_view.proofs.Steps.{item-inner}
use Rattle.cbor_view.proofs.WholeReading.{reads-read}
use Rattle.cbor_view.proofs.Places.{body-lies, parts-lie, entries-lie, values-lie, only-lies}

-- ---- a head, and what comes after it

record Bound {A B E : Type 0} (r : Result A E) (f : A → Result B E) (y : B) : Type 0 where
  value : A
  is : r ≡ Ok value
  after : f value ≡ Ok y

bound : {A B E : Type 0} (r : Result A E) (f : A → Result B E) (y : B) → (r >>= f) ≡ Ok y → Bound r f y
bound (Ok x) f y e = record { value = x; is = refl; after = e }
bound (Err d) f y e = absurd (cc)

all-ends : (bytes : List ℕ) → EndsWith bytes bytes
all-ends bytes = record { front = []; whole = refl }

drop-ends : (n : ℕ) (bytes : List ℕ) → EndsWith bytes (drop n bytes)
drop-ends n bytes = record { front = take n bytes; whole = sym (take-append-drop n bytes) }

more-ends : (x : ℕ) (bytes rest : List ℕ) → EndsWith bytes rest → EndsWith (x ∷ bytes) rest
more-ends x bytes rest e = record { front = x ∷ e.front; whole = ap (λ (b : List ℕ). x ∷ b) e.whole }

number-ends : (w : Width) (bytes : List ℕ) (x : ℕ × List ℕ) → number_at w bytes ≡ Ok x → EndsWith bytes x.1
number-ends w bytes x e = go (nat_lt (length bytes) (byte_len w)) e where
  go : (b : Bool) → (if b then Err Truncated else Ok (from_be_bytes w (take (byte_len w) bytes), drop (byte_len w) bytes)) ≡ Ok x → EndsWith bytes x.1
  go true e = absurd (cc)
  go false e = let same : drop (byte_len w) bytes ≡ x.1 = cc in subst (EndsWith bytes) same (drop-ends (byte_len w) bytes)

argument-ends : (info : ℕ) (bytes : List ℕ) (x : ℕ × List ℕ) → argument_at info bytes ≡ Ok x → EndsWith bytes x.1
argument-ends info bytes x e = within (nat_lt info 24) e where
  none : (b : Bool) → (if b then number_at w64 bytes else Err Reserved) ≡ Ok x → EndsWith bytes x.1
  none true e = number-ends w64 bytes x e
  none false e = absurd (cc)

  four : (b : Bool) → (if b then number_at w32 bytes else (if info == 27 then number_at w64 bytes else Err Reserved)) ≡ Ok x → EndsWith bytes x.1
  four true e = number-ends w32 bytes x e
  four false e = none (info == 27) e

  two : (b : Bool) → (if b then number_at w16 bytes else (if info == 26 then number_at w32 bytes else (if info == 27 then number_at w64 bytes else Err Reserved))) ≡ Ok x → EndsWith bytes x.1
  two true e = number-ends w16 bytes x e
  two false e = four (info == 26) e

  one : (b : Bool) → (if b then number_at w8 bytes else (if info == 25 then number_at w16 bytes else (if info == 26 then number_at w32 bytes else (if info == 27 then number_at w64 bytes else Err Reserved)))) ≡ Ok x → EndsWith bytes x.1
  one true e = number-ends w8 bytes x e
  one false e = two (info == 25) e

  within : (b : Bool) → (if b then Ok (info, bytes) else (if info == 24 then number_at w8 bytes else (if info == 25 then number_at w16 bytes else (if info == 26 then number_at w32 bytes else (if info == 27 then number_at w64 bytes else Err Reserved))))) ≡ Ok x → EndsWith bytes x.1
  within true e = let same : bytes ≡ x.1 = cc in subst (EndsWith bytes) same (all-ends bytes)
  within false e = one (info == 24) e

abbrev with_rest : List ℕ → Head → Result (Head × List ℕ) CborKind
with_rest rest h = Ok (h, rest)

abbrev with_kind : ℕ → ℕ → ℕ × List ℕ → Result (Head × List ℕ) CborKind
with_kind major info x = kind_of major info x.0 >>= with_rest x.1

with-ends : (major info : ℕ) (bytes rest : List ℕ) (h : Head) → head_with major info bytes ≡ Ok (h, rest) → EndsWith bytes rest
with-ends major info bytes rest h e = go (info == 31) e where
  go : (b : Bool) → (if b then Err (endless major) else (argument_at info bytes >>= with_kind major info)) ≡ Ok (h, rest) → EndsWith bytes rest
  go true e = absurd (cc)
  go false e =
      let a = bound (argument_at info bytes) (with_kind major info) (h, rest) e in
      let k = bound (kind_of major info a.value.0) (with_rest a.value.1) (h, rest) a.after in
      let both : ◌≡◌ {A = Result (Head × List ℕ) CborKind} (Ok (k.value, a.value.1)) (Ok (h, rest)) = k.after in
      let pair_same : (k.value, a.value.1) ≡ (h, rest) = cc in
      let second : Head × List ℕ → List ℕ = λ x. x.1 in
      subst (EndsWith bytes) (ap second pair_same) (argument-ends info bytes a.value a.is)

pub head-ends : (bytes rest : List ℕ) (h : Head) → head_at bytes ≡ Ok (h, rest) → EndsWith bytes rest
unfolding head_at
head-ends [] rest h e = absurd (cc)
head-ends (x ∷ bytes) rest h e = more-ends x bytes rest (with-ends (x / 32) (x % 32) bytes rest h e)

-- ---- the parts of an item

opened-lies : (p : Part) (rest : List ℕ) (h : Head) → head_at p.bytes ≡ Ok (h, rest) → LiesIn p (body_of p rest)
opened-lies p rest h e = body-lies p.at p.bytes rest (head-ends p.bytes rest h e)

pub tagged-lies : (p q : Part) (n : ℕ) → tag_in p ≡ Some (n, q) → LiesIn p q
tagged-lies p q n is = go (head_at p.bytes) refl is where
  go : (o : Result (Head × List ℕ) CborKind) → head_at p.bytes ≡ o → tag_after p o ≡ Some (n, q) → LiesIn p q
  go (Ok (heads.Tag m, rest)) head e =
      let both : (m, body_of p rest) ≡ (n, q) = cc in
      let second : ℕ × Part → Part = λ x. x.1 in
      subst (LiesIn p) (ap second both) (opened-lies p rest (heads.Tag m) head)
  go (Err kind) head e = cc
  go (Ok (heads.Map m, rest)) head e = cc
  go (Ok (heads.Array m, rest)) head e = cc
  go (Ok (heads.Unsigned m, rest)) head e = cc
  go (Ok (heads.Negative m, rest)) head e = cc
  go (Ok (heads.Bytes m, rest)) head e = cc
  go (Ok (heads.Text m, rest)) head e = cc
  go (Ok (heads.Simple m, rest)) head e = cc
  go (Ok (heads.Float width m, rest)) head e = cc

pub items-lie : (p : Part) (parts : List Part) → items_in p ≡ Some parts → AllByRecursion (LiesIn p) parts
items-lie p parts is = go (head_at p.bytes) refl is where
  go : (o : Result (Head × List ℕ) CborKind) → head_at p.bytes ≡ o → array_after p o ≡ Some parts → AllByRecursion (LiesIn p) parts
  go (Ok (heads.Array m, rest)) head e =
      let same : parts_at m (body_of p rest) ≡ parts = cc in
      subst (AllByRecursion (LiesIn p)) same (parts-lie m p (body_of p rest) (opened-lies p rest (heads.Array m) head))
  go (Err kind) head e = cc
  go (Ok (heads.Map m, rest)) head e = cc
  go (Ok (heads.Tag m, rest)) head e = cc
  go (Ok (heads.Unsigned m, rest)) head e = cc
  go (Ok (heads.Negative m, rest)) head e = cc
  go (Ok (heads.Bytes m, rest)) head e = cc
  go (Ok (heads.Text m, rest)) head e = cc
  go (Ok (heads.Simple m, rest)) head e = cc
  go (Ok (heads.Float width m, rest)) head e = cc

pub pairs-lie : (p : Part) (entries : List (Part × Part)) → pairs_in p ≡ Some entries → AllByRecursion (BothLieIn p) entries
pairs-lie p entries is = go (head_at p.bytes) refl is where
  go : (o : Result (Head × List ℕ) CborKind) → head_at p.bytes ≡ o → map_after p o ≡ Some entries → AllByRecursion (BothLieIn p) entries
  go (Ok (heads.Map m, rest)) head e =
      let same : entries_at m (body_of p rest) ≡ entries = cc in
      subst (AllByRecursion (BothLieIn p)) same (entries-lie m p (body_of p rest) (opened-lies p rest (heads.Map m) head))
  go (Err kind) head e = cc
  go (Ok (heads.Array m, rest)) head e = cc
  go (Ok (heads.Tag m, rest)) head e = cc
  go (Ok (heads.Unsigned m, rest)) head e = cc
  go (Ok (heads.Negative m, rest)) head e = cc
  go (Ok (heads.Bytes m, rest)) head e = cc
  go (Ok (heads.Text m, rest)) head e = cc
  go (Ok (heads.Simple m, rest)) head e = cc
  go (Ok (heads.Float width m, rest)) head e = cc

entries-lie-or-none : (p : Part) (o : Option (List (Part × Part))) → pairs_in p ≡ o → AllByRecursion (BothLieIn p) (entries_or_none o)
entries-lie-or-none p None e = tt
entries-lie-or-none p (Some es) e = pairs-lie p es e

-- what is under a key
pub entry-lies : (p q : Part) (label : Label) → entry_in label p ≡ Ok (Some q) → LiesIn p q
entry-lies p q label e = only-lies p (values_of tree_in label (entries_or_none (pairs_in p))) (Some q) (values-lie p label (entries_or_none (pairs_in p)) (entries-lie-or-none p (pairs_in p) refl)) e

-- ---- a string is the end of its item

-- the bytes of a string, whichever it is
abbrev string_of : Tree → Option (List ℕ)
string_of (Bytes b) = Some b
string_of (Text b) = Some b
string_of _ = None

abbrev item_read : Tree → List ℕ → Result (Tree × List ℕ) Stop
item_read t rest = Ok (t, rest)

record SameItem (t u : Tree) (xs ys : List ℕ) : Type 0 where
  trees : t ≡ u
  rests : xs ≡ ys

same-item : (t u : Tree) (xs ys : List ℕ) → item_read t xs ≡ item_read u ys → SameItem t u xs ys
same-item t u xs ys e =
    let both : (t, xs) ≡ (u, ys) = cc in
    let tree : Tree × List ℕ → Tree = λ x. x.0 in
    let rest : Tree × List ℕ → List ℕ = λ x. x.1 in
    record { trees = ap tree both; rests = ap rest both }

string-whole : (left n : ℕ) (rest : List ℕ) (s : List ℕ × List ℕ) → string_at left n rest ≡ Ok s → rest ≡ s.0 ++ s.1
string-whole left n rest s e = go (nat_lt (length rest) n) e where
  inner_go : (b : Bool) → (if b then Ok (take n rest, drop n rest) else stop Length left) ≡ Ok s → rest ≡ s.0 ++ s.1
  inner_go true e = let same : (take n rest, drop n rest) ≡ s = cc in subst (λ (x : List ℕ × List ℕ). rest ≡ x.0 ++ x.1) same (sym (take-append-drop n rest))
  inner_go false e = absurd (cc)

  go : (b : Bool) → (if b then stop Truncated left else (if nat_lt n (2 ^ 32) then Ok (take n rest, drop n rest) else stop Length left)) ≡ Ok s → rest ≡ s.0 ++ s.1
  go true e = absurd (cc)
  go false e = inner_go (nat_lt n (2 ^ 32)) e

text-whole : (left n : ℕ) (rest : List ℕ) (s : List ℕ × List ℕ) → text_at left n rest ≡ Ok s → rest ≡ s.0 ++ s.1
text-whole left n rest s e =
    let a = bound (string_at left n rest) (λ s. if is_utf8 s.0 then Ok s else stop BadText left) s e in
    go a.value a.is (is_utf8 a.value.0) a.after where
      go : (v : List ℕ × List ℕ) → string_at left n rest ≡ Ok v → (b : Bool) → (if b then Ok v else stop BadText left) ≡ Ok s → rest ≡ s.0 ++ s.1
      go v is true e = let same : v ≡ s = cc in subst (λ (x : List ℕ × List ℕ). rest ≡ x.0 ++ x.1) same (string-whole left n rest v is)
      go v is false e = absurd (cc)

string-ends : (rest b : List ℕ) (s : List ℕ × List ℕ) → rest ≡ s.0 ++ s.1 → s.0 ≡ b → s.1 ≡ [] → EndsWith rest b
string-ends rest b s whole same none = record { front = []; whole = whole ∙ ap (λ (x : List ℕ). s.0 ++ x) none ∙ append-nil s.0 ∙ same }

-- an item of another kind holds no string
no-string : (t u : Tree) (b : List ℕ) → t ≡ u → string_of t ≡ None → string_of u ≡ Some b → ⊥
no-string t u b e n s = let o = sym n ∙ ap string_of e ∙ s in cc

body-ends : (inner : Option (Reader Tree)) (left : ℕ) (h : Head) (rest : List ℕ) (t : Tree) (b : List ℕ) → behind inner left h rest ≡ item_read t [] → string_of t ≡ Some b → EndsWith rest b
body-ends inner left (heads.Bytes n) rest t b e s =
    let a = bound (string_at left n rest) (λ s. item_read (Bytes s.0) s.1) (t, []) e in
    let same = same-item (Bytes a.value.0) t a.value.1 [] a.after in
    let content : Some a.value.0 ≡ Some b = ap string_of same.trees ∙ s in
    string-ends rest b a.value (string-whole left n rest a.value a.is) (cc) same.rests
body-ends inner left (heads.Text n) rest t b e s =
    let a = bound (text_at left n rest) (λ s. item_read (Text s.0) s.1) (t, []) e in
    let same = same-item (Text a.value.0) t a.value.1 [] a.after in
    let content : Some a.value.0 ≡ Some b = ap string_of same.trees ∙ s in
    string-ends rest b a.value (text-whole left n rest a.value a.is) (cc) same.rests
body-ends inner left (heads.Unsigned n) rest t b e s = absurd (no-string (Unsigned n) t b (same-item (Unsigned n) t rest [] e).trees refl s)
body-ends inner left (heads.Negative n) rest t b e s = absurd (no-string (Negative n) t b (same-item (Negative n) t rest [] e).trees refl s)
body-ends inner left (heads.Simple n) rest t b e s = absurd (no-string (Simple n) t b (same-item (Simple n) t rest [] e).trees refl s)
body-ends inner left (heads.Float w n) rest t b e s = absurd (no-string (Float w n) t b (same-item (Float w n) t rest [] e).trees refl s)
body-ends (Some one) left (heads.Tag n) rest t b e s =
    let a = bound (one rest) (λ x. item_read (Tag n x.0) x.1) (t, []) e in
    absurd (no-string (Tag n a.value.0) t b (same-item (Tag n a.value.0) t a.value.1 [] a.after).trees refl s)
body-ends None left (heads.Tag n) rest t b e s = absurd (cc)
body-ends (Some one) left (heads.Array n) rest t b e s = go (nat_lt n (2 ^ 32)) e where
  go : (c : Bool) → (if c then (items_at one n rest >>= λ ts. item_read (Array ts.0) ts.1) else stop Length left) ≡ item_read t [] → EndsWith rest b
  go true e = let a = bound (items_at one n rest) (λ ts. item_read (Array ts.0) ts.1) (t, []) e in absurd (no-string (Array a.value.0) t b (same-item (Array a.value.0) t a.value.1 [] a.after).trees refl s)
  go false e = absurd (cc)
body-ends None left (heads.Array n) rest t b e s = go (nat_lt n (2 ^ 32)) e where
  go : (c : Bool) → (if c then stop Deep left else stop Length left) ≡ item_read t [] → EndsWith rest b
  go true e = absurd (cc)
  go false e = absurd (cc)
body-ends (Some one) left (heads.Map n) rest t b e s = go (nat_lt n (2 ^ 32)) e where
  go : (c : Bool) → (if c then (pairs_at one n rest >>= λ ps. item_read (Map ps.0) ps.1) else stop Length left) ≡ item_read t [] → EndsWith rest b
  go true e = let a = bound (pairs_at one n rest) (λ ps. item_read (Map ps.0) ps.1) (t, []) e in absurd (no-string (Map a.value.0) t b (same-item (Map a.value.0) t a.value.1 [] a.after).trees refl s)
  go false e = absurd (cc)
body-ends None left (heads.Map n) rest t b e s = go (nat_lt n (2 ^ 32)) e where
  go : (c : Bool) → (if c then stop Deep left else stop Length left) ≡ item_read t [] → EndsWith rest b
  go true e = absurd (cc)
  go false e = absurd (cc)

content-ends : (bytes : List ℕ) (t : Tree) (b : List ℕ) → reads bytes ≡ Ok t → string_of t ≡ Some b → EndsWith bytes b
content-ends bytes t b e s = go (head_at bytes) refl (sym (item-inner 32 bytes) ∙ reads-read bytes t e) where
  go : (o : Result (Head × List ℕ) CborKind) → head_at bytes ≡ o → behind_head (inner 32) (length bytes) o ≡ item_read t [] → EndsWith bytes b
  go (Err kind) head e = absurd (cc)
  go (Ok (h, rest)) head e =
      let outer = head-ends bytes rest h head in
      let own = body-ends (inner 32) (length bytes) h rest t b e s in
      record { front = outer.front ++ own.front; whole = outer.whole ∙ ap (λ (x : List ℕ). outer.front ++ x) own.whole ∙ sym (append_assoc outer.front own.front b) }

tree-content : (bytes b : List ℕ) → string_of (tree_of bytes) ≡ Some b → EndsWith bytes b
unfolding tree_of
tree-content bytes b s = go (reads bytes) refl s where
  go : (r : Result Tree CborFault) → reads bytes ≡ r → string_of (tree_or_null r) ≡ Some b → EndsWith bytes b
  go (Ok t) e s = content-ends bytes t b e s
  go (Err fault) e s = absurd (cc)

bytes-string : (t : Tree) (b : List ℕ) → bytes_of t ≡ Some b → string_of t ≡ Some b
bytes-string (Bytes c) b e = e
bytes-string (Text c) b e = absurd (cc)
bytes-string (Unsigned n) b e = absurd (cc)
bytes-string (Negative n) b e = absurd (cc)
bytes-string (Array ts) b e = absurd (cc)
bytes-string (Map ps) b e = absurd (cc)
bytes-string (Tag n t) b e = absurd (cc)
bytes-string (Simple n) b e = absurd (cc)
bytes-string (Float w n) b e = absurd (cc)

text-string : (t : Tree) (b : List ℕ) → text_of t ≡ Some b → string_of t ≡ Some b
text-string (Text c) b e = e
text-string (Bytes c) b e = absurd (cc)
text-string (Unsigned n) b e = absurd (cc)
text-string (Negative n) b e = absurd (cc)
text-string (Array ts) b e = absurd (cc)
text-string (Map ps) b e = absurd (cc)
text-string (Tag n t) b e = absurd (cc)
text-string (Simple n) b e = absurd (cc)
text-string (Float w n) b e = absurd (cc)

pub bytes-end : (p : Part) (b : List ℕ) → bytes_in p ≡ Some b → EndsWith p.bytes b
bytes-end p b e = tree-content p.bytes b (bytes-string (tree_of p.bytes) b e)

pub text-end : (p : Part) (b : List ℕ) → text_in p ≡ Some b → EndsWith p.bytes b
text-end p b e = tree-content p.bytes b (text-string (tree_of p.bytes) b e)
