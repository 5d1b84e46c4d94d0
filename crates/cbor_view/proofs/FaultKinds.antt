-- The fault of an item is never that bytes follow it.
use Rattle.std.proofs.Common.{◌≡◌, ℕ, zero, suc, ◌/◌, ◌%◌, ◌^◌, ◌==◌, ◌||◌, if◌then◌else◌, List, [], ◌∷◌, length, take, drop, Bool, true, false, nat_lt, Option, Some, None, Result, Ok, Err, refl}
use Rattle.std.specs.Int.{Width, byte_len, w8, w16, w32, w64, from_be_bytes}
use Rattle.std.specs.Str.{is_utf8}
use Rattle.cbor_view.specs.declared.cbor_kind.CborKind.{CborKind}
use Rattle.cbor_view.specs.declared.cbor_kind.CborKind.TheVariants.{Truncated, Reserved, Chunked, Indefinite, Length, Deep, BadText, Trailing}
use Rattle.cbor_view.specs.declared.stop.Stop.{Stop}
use Rattle.cbor_view.specs.declared.heads.Head.{Head}
use Rattle.cbor_view.specs.declared.heads.Head.TheVariants as heads
use Rattle.cbor_view.specs.Tree.{Tree, Bytes, Text, Array, Map, Tag, more, pair}
use Rattle.cbor_view.specs.Reading.{◌>>=◌, Reader, number_at, argument_at, endless, simple_or_float, typed, kind_of, head_at, stop, string_at, text_at, items_at, pairs_at, item_at, behind, behind_head}

abbrev pub is_trailing : CborKind → Bool
is_trailing Trailing = true
is_trailing _ = false

-- ---- heads

abbrev trails : {A : Type 0} → Result A CborKind → Bool
trails (Ok x) = false
trails (Err kind) = is_trailing kind

kind-if : (b : Bool) (x y : CborKind) → is_trailing x ≡ false → is_trailing y ≡ false → is_trailing (if b then x else y) ≡ false
kind-if true x y h k = h
kind-if false x y h k = k

head-if : {A : Type 0} (b : Bool) (x y : Result A CborKind) → trails x ≡ false → trails y ≡ false → trails (if b then x else y) ≡ false
head-if true x y h k = h
head-if false x y h k = k

head-bind : {A B : Type 0} (r : Result A CborKind) (f : A → Result B CborKind) → trails r ≡ false → ((x : A) → trails (f x) ≡ false) → trails (r >>= f) ≡ false
head-bind (Ok x) f h k = k x
head-bind (Err e) f h k = h

number-kind : (w : Width) (bytes : List ℕ) → trails (number_at w bytes) ≡ false
number-kind w bytes = head-if (nat_lt (length bytes) (byte_len w)) (Err Truncated) (Ok (from_be_bytes w (take (byte_len w) bytes), drop (byte_len w) bytes)) refl refl

argument-kind : (info : ℕ) (rest : List ℕ) → trails (argument_at info rest) ≡ false
argument-kind info rest = head-if (nat_lt info 24) (Ok (info, rest)) _ refl (head-if (info == 24) (number_at w8 rest) _ (number-kind w8 rest) (head-if (info == 25) (number_at w16 rest) _ (number-kind w16 rest) (head-if (info == 26) (number_at w32 rest) _ (number-kind w32 rest) (head-if (info == 27) (number_at w64 rest) (Err Reserved) (number-kind w64 rest) refl))))

endless-kind : (major : ℕ) → is_trailing (endless major) ≡ false
endless-kind major = kind-if ((major == 2) || (major == 3)) Chunked _ refl (kind-if ((major == 4) || (major == 5)) Indefinite Reserved refl refl)

simple-kind : (info n : ℕ) → trails (simple_or_float info n) ≡ false
simple-kind info n = head-if (nat_lt info 24) (Ok (heads.Simple n)) _ refl (head-if (info == 24) _ _ (head-if (nat_lt n 32) (Err Reserved) (Ok (heads.Simple n)) refl refl) (head-if (info == 25) (Ok (heads.Float 2 n)) _ refl (head-if (info == 26) (Ok (heads.Float 4 n)) (Ok (heads.Float 8 n)) refl refl)))

major-kind : (major info n : ℕ) → trails (kind_of major info n) ≡ false
major-kind major info n = head-if (major == 7) (simple_or_float info n) (Ok (typed major n)) (simple-kind info n) refl

abbrev with_head : List ℕ → Head → Result (Head × List ℕ) CborKind
with_head rest h = Ok (h, rest)

abbrev with_argument : ℕ → ℕ → ℕ × List ℕ → Result (Head × List ℕ) CborKind
with_argument major info x = kind_of major info x.0 >>= with_head x.1

head-kind : (bytes : List ℕ) → trails (head_at bytes) ≡ false
unfolding head_at
head-kind [] = refl
head-kind (first ∷ rest) = head-if (first % 32 == 31) (Err (endless (first / 32))) (argument_at (first % 32) rest >>= with_argument (first / 32) (first % 32)) (endless-kind (first / 32)) (head-bind (argument_at (first % 32) rest) (with_argument (first / 32) (first % 32)) (argument-kind (first % 32) rest) (λ x. head-bind (kind_of (first / 32) (first % 32) x.0) (with_head x.1) (major-kind (first / 32) (first % 32) x.0) (λ h. refl)))

-- ---- items

abbrev pub stops_after : {A : Type 0} → Result A Stop → Bool
stops_after (Ok x) = false
stops_after (Err s) = is_trailing s.kind

stop-if : {A : Type 0} (b : Bool) (x y : Result A Stop) → stops_after x ≡ false → stops_after y ≡ false → stops_after (if b then x else y) ≡ false
stop-if true x y h k = h
stop-if false x y h k = k

stop-bind : {A B : Type 0} (r : Result A Stop) (f : A → Result B Stop) → stops_after r ≡ false → ((x : A) → stops_after (f x) ≡ false) → stops_after (r >>= f) ≡ false
stop-bind (Ok x) f h k = k x
stop-bind (Err e) f h k = h

abbrev read : {A : Type 0} → A → List ℕ → Result (A × List ℕ) Stop
read x rest = Ok (x, rest)

string-stop : (left n : ℕ) (rest : List ℕ) → stops_after (string_at left n rest) ≡ false
string-stop left n rest = stop-if (nat_lt (length rest) n) (stop Truncated left) _ refl (stop-if (nat_lt n (2 ^ 32)) (read (take n rest) (drop n rest)) (stop Length left) refl refl)

text-stop : (left n : ℕ) (rest : List ℕ) → stops_after (text_at left n rest) ≡ false
text-stop left n rest = stop-bind (string_at left n rest) (λ s. if is_utf8 s.0 then Ok s else stop BadText left) (string-stop left n rest) (λ s. stop-if (is_utf8 s.0) (Ok s) (stop BadText left) refl refl)

items-kind : (one : Reader Tree) → ((bytes : List ℕ) → stops_after (one bytes) ≡ false) → (n : ℕ) (bytes : List ℕ) → stops_after (items_at one n bytes) ≡ false
unfolding items_at
items-kind one h zero bytes = refl
items-kind one h (suc n) bytes = stop-bind (one bytes) (λ t. items_at one n t.1 >>= λ ts. read (more t.0 ts.0) ts.1) (h bytes) (λ t. stop-bind (items_at one n t.1) (λ ts. read (more t.0 ts.0) ts.1) (items-kind one h n t.1) (λ ts. refl))

pairs-kind : (one : Reader Tree) → ((bytes : List ℕ) → stops_after (one bytes) ≡ false) → (n : ℕ) (bytes : List ℕ) → stops_after (pairs_at one n bytes) ≡ false
unfolding pairs_at
pairs-kind one h zero bytes = refl
pairs-kind one h (suc n) bytes = stop-bind (one bytes) (λ k. one k.1 >>= λ v. pairs_at one n v.1 >>= λ ps. read (pair k.0 v.0 ps.0) ps.1) (h bytes) (λ k. stop-bind (one k.1) (λ v. pairs_at one n v.1 >>= λ ps. read (pair k.0 v.0 ps.0) ps.1) (h k.1) (λ v. stop-bind (pairs_at one n v.1) (λ ps. read (pair k.0 v.0 ps.0) ps.1) (pairs-kind one h n v.1) (λ ps. refl)))

abbrev Inner : Option (Reader Tree) → Type 0
Inner None = Unit {0}
Inner (Some one) = (bytes : List ℕ) → stops_after (one bytes) ≡ false

after-kind : (room : Option (Reader Tree)) → Inner room → (left : ℕ) (h : Head) (rest : List ℕ) → stops_after (behind room left h rest) ≡ false
after-kind room i left (heads.Unsigned n) rest = refl
after-kind room i left (heads.Negative n) rest = refl
after-kind room i left (heads.Bytes n) rest = stop-bind (string_at left n rest) (λ s. read (Bytes s.0) s.1) (string-stop left n rest) (λ s. refl)
after-kind room i left (heads.Text n) rest = stop-bind (text_at left n rest) (λ s. read (Text s.0) s.1) (text-stop left n rest) (λ s. refl)
after-kind None i left (heads.Array n) rest = stop-if {A = Tree × List ℕ} (nat_lt n (2 ^ 32)) (stop Deep left) (stop Length left) refl refl
after-kind None i left (heads.Map n) rest = stop-if {A = Tree × List ℕ} (nat_lt n (2 ^ 32)) (stop Deep left) (stop Length left) refl refl
after-kind None i left (heads.Tag n) rest = refl
after-kind (Some one) i left (heads.Array n) rest = stop-if (nat_lt n (2 ^ 32)) (items_at one n rest >>= λ ts. read (Array ts.0) ts.1) (stop Length left) (stop-bind (items_at one n rest) (λ ts. read (Array ts.0) ts.1) (items-kind one i n rest) (λ ts. refl)) refl
after-kind (Some one) i left (heads.Map n) rest = stop-if (nat_lt n (2 ^ 32)) (pairs_at one n rest >>= λ ps. read (Map ps.0) ps.1) (stop Length left) (stop-bind (pairs_at one n rest) (λ ps. read (Map ps.0) ps.1) (pairs-kind one i n rest) (λ ps. refl)) refl
after-kind (Some one) i left (heads.Tag n) rest = stop-bind (one rest) (λ t. read (Tag n t.0) t.1) (i rest) (λ t. refl)
after-kind room i left (heads.Simple n) rest = refl
after-kind room i left (heads.Float w n) rest = refl

started-kind : (room : Option (Reader Tree)) → Inner room → (left : ℕ) (r : Result (Head × List ℕ) CborKind) → trails r ≡ false → stops_after (behind_head room left r) ≡ false
started-kind room i left (Ok x) h = after-kind room i left x.0 x.1
started-kind room i left (Err kind) h = h

pub item-kind : (d : ℕ) (bytes : List ℕ) → stops_after (item_at d bytes) ≡ false
unfolding item_at
item-kind zero bytes = started-kind None tt (length bytes) (head_at bytes) (head-kind bytes)
item-kind (suc d) bytes = started-kind (Some (item_at d)) (item-kind d) (length bytes) (head_at bytes) (head-kind bytes)
