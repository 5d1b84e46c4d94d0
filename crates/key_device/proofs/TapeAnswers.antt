-- What a line of a tape file says was told in answer to its question.
use Rattle.std.proofs.Common.{◌≡◌, ℕ, List, [], ◌∷◌, Bool, true, false, cond, Option, Some, None, refl, codes}
use Rattle.std.specs.Str.{bytes_eq}
use Rattle.mdoc_outside.specs.OptionSteps.{◌>>=◌}
use Rattle.key_device.specs.Recording.{exchange}
use Rattle.key_device.specs.Tape.{is_answer, is_exchange}
use Rattle.key_device.specs.TapeLine.{exchange_of, number_of, bytes_of, message_of, point_of, made_of, told_of_agree, told_of_sign, told_of_verify, sign_of, agree_of, verify_of, three_of, five_of, has_form}
use Rattle.key_device.specs.declared.ask.Ask.TheVariants.{Fresh, Agree, Sign, Verify}
use Rattle.key_device.specs.declared.point.Point.{Point}
use Rattle.key_device.specs.declared.told.Told.{Told}
use Rattle.key_device.specs.declared.told.Told.TheVariants as tells

-- a test of what may be there
pub record Sat {A : Type 0} (p : A → Bool) (o : Option A) : Type 0 where
  pub holds : (a : A) → Some a ≡ o → p a ≡ true

sat_none : {A : Type 0} (p : A → Bool) → Sat p None
sat_none p = record { holds = λ a is. cc }

sat_some : {A : Type 0} (p : A → Bool) (x : A) → p x ≡ true → Sat p (Some x)
sat_some p x passes = record { holds = λ a is. let same : a ≡ x = cc in rw same passes }

sat_bind : {A B : Type 0} (q : A → Bool) (p : B → Bool) (o : Option A) (f : A → Option B) → Sat q o → ((a : A) → q a ≡ true → Sat p (f a)) → Sat p (o >>= f)
sat_bind q p None f first second = sat_none p
sat_bind q p (Some a) f first second = second a (first.holds a refl)

sat_then : {A B : Type 0} (p : B → Bool) (o : Option A) (f : A → Option B) → ((a : A) → Sat p (f a)) → Sat p (o >>= f)
sat_then p None f second = sat_none p
sat_then p (Some a) f second = second a

sat_if : {A : Type 0} {p : A → Bool} {x y : Option A} (b : Bool) → Sat p x → Sat p y → Sat p (cond b x y)
sat_if true one two = one
sat_if false one two = two

agree_told : (key : ℕ) (peer : Point) (word : List ℕ) → Sat (λ told. is_answer (Agree key peer) told) (told_of_agree word)
agree_told key peer word =
    let test : Told → Bool = λ told. is_answer (Agree key peer) told in
    sat_if (bytes_eq word (codes "failed")) (sat_some test tells.Failed refl) (sat_if (bytes_eq word (codes "refused")) (sat_some test tells.Refused refl)
    (sat_then test (bytes_of 32 word) (λ secret. Some (tells.Secret secret)) (λ secret. sat_some test (tells.Secret secret) refl)))

sign_told : (key : ℕ) (message word : List ℕ) → Sat (λ told. is_answer (Sign key message) told) (told_of_sign word)
sign_told key message word =
    let test : Told → Bool = λ told. is_answer (Sign key message) told in
    sat_if (bytes_eq word (codes "failed")) (sat_some test tells.Failed refl)
    (sat_then test (bytes_of 64 word) (λ signature. Some (tells.Signature signature)) (λ signature. sat_some test (tells.Signature signature) refl))

verify_told : (public : Point) (message signature word : List ℕ) → Sat (λ told. is_answer (Verify public message signature) told) (told_of_verify word)
verify_told public message signature word =
    let test : Told → Bool = λ told. is_answer (Verify public message signature) told in
    sat_if (bytes_eq word (codes "yes")) (sat_some test tells.Yes refl) (sat_if (bytes_eq word (codes "no")) (sat_some test tells.No refl)
    (sat_if (bytes_eq word (codes "failed")) (sat_some test tells.Failed refl) (sat_none test)))

agree_formed : (key x y word : List ℕ) → Sat is_exchange (agree_of key x y word)
agree_formed key x y word =
    sat_then is_exchange (number_of key) _ (λ number. sat_then is_exchange (point_of x y) _ (λ peer.
    sat_bind (λ told. is_answer (Agree number peer) told) is_exchange (told_of_agree word) _ (agree_told number peer word)
    (λ told is. sat_some is_exchange (exchange (Agree number peer) told) is)))

sign_formed : (key message word : List ℕ) → Sat is_exchange (sign_of key message word)
sign_formed key message word =
    sat_then is_exchange (number_of key) _ (λ number. sat_then is_exchange (message_of message) _ (λ bytes.
    sat_bind (λ told. is_answer (Sign number bytes) told) is_exchange (told_of_sign word) _ (sign_told number bytes word)
    (λ told is. sat_some is_exchange (exchange (Sign number bytes) told) is)))

verify_formed : (x y message signature word : List ℕ) → Sat is_exchange (verify_of x y message signature word)
verify_formed x y message signature word =
    sat_then is_exchange (point_of x y) _ (λ public. sat_then is_exchange (message_of message) _ (λ bytes. sat_then is_exchange (bytes_of 64 signature) _ (λ signed.
    sat_bind (λ told. is_answer (Verify public bytes signed) told) is_exchange (told_of_verify word) _ (verify_told public bytes signed word)
    (λ told is. sat_some is_exchange (exchange (Verify public bytes signed) told) is))))

three_formed : (a b c : List ℕ) → Sat is_exchange (three_of a b c)
three_formed a b c =
    sat_if (has_form a (codes "fresh") b) (sat_if (bytes_eq c (codes "failed")) (sat_some is_exchange (exchange Fresh tells.Failed) refl) (sat_none is_exchange)) (sat_none is_exchange)

five_formed : (a b c d e : List ℕ) → Sat is_exchange (five_of a b c d e)
five_formed a b c d e =
    sat_if (has_form a (codes "fresh") b)
    (sat_then is_exchange (made_of c d e) (λ made. Some (exchange Fresh (tells.Made made))) (λ made. sat_some is_exchange (exchange Fresh (tells.Made made)) refl))
    (sat_if (has_form a (codes "sign") d) (sign_formed b c e) (sat_none is_exchange))

pub words_formed : (words : List (List ℕ)) → Sat is_exchange (exchange_of words)
unfolding exchange_of
words_formed [] = sat_none is_exchange
words_formed (a ∷ []) = sat_none is_exchange
words_formed (a ∷ b ∷ []) = sat_none is_exchange
words_formed (a ∷ b ∷ c ∷ []) = three_formed a b c
words_formed (a ∷ b ∷ c ∷ d ∷ []) = sat_none is_exchange
words_formed (a ∷ b ∷ c ∷ d ∷ e ∷ []) = five_formed a b c d e
words_formed (a ∷ b ∷ c ∷ d ∷ e ∷ f ∷ []) = sat_if (has_form a (codes "agree") e) (agree_formed b c d f) (sat_none is_exchange)
words_formed (a ∷ b ∷ c ∷ d ∷ e ∷ f ∷ g ∷ []) = sat_if (has_form a (codes "verify") f) (verify_formed b c d e g) (sat_none is_exchange)
words_formed (a ∷ b ∷ c ∷ d ∷ e ∷ f ∷ g ∷ h ∷ words) = sat_none is_exchange
