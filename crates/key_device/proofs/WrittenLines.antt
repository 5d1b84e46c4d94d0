-- The line that is written for an exchange is read as this exchange.
use Rattle.std.proofs.Common.{◌≡◌, ◌==◌, ◌<◌, ◌^◌, ℕ, List, [], ◌∷◌, ◌++◌, Bool, true, false, not, Option, Some, All, codes, decimal, refl, ◌∙◌, ap, arith, append_assoc}
use Rattle.std.proofs.lemmas.Bool.{and_parts}
use Rattle.std.proofs.lemmas.Bool.Decides.{nat_tests}
use Rattle.std.proofs.lemmas.List.Folds.{list_all-append}
use Rattle.std.proofs.lemmas.List.Splits.{slice_split_at, slice_split_none}
use Rattle.std.proofs.lemmas.List.Sums.{AllPass-from_list_all}
use Rattle.std.specs.List.{list_all, slice_split}
use Rattle.hex.specs.Hex.{encode_lower}
use Rattle.key_device.proofs.WrittenWords.{is_word_byte, hex_word, message_word, number_word, bytes_read, point_read, message_read, number_read, hex_is_not}
use Rattle.key_device.specs.Recording.{exchange}
use Rattle.key_device.specs.Tape.{is_answer}
use Rattle.key_device.specs.TapeLine.{exchange_of, line_exchange, told_of_agree, told_of_sign, told_of_verify}
use Rattle.key_device.specs.TapeText.{line_text, told_text, message_text}
use Rattle.key_device.specs.HasLine.{IsSized, IsPoint, IsAsked, IsTold, HasLine}
use Rattle.hex.specs.Hex.{IsBytes}
use Rattle.key_device.specs.declared.ask.Ask.{Ask}
use Rattle.key_device.specs.declared.ask.Ask.TheVariants.{Fresh, Agree, Sign, Verify}
use Rattle.key_device.specs.declared.exchange.Exchange.{Exchange}
use Rattle.key_device.specs.declared.made.Made.{Made}
use Rattle.key_device.specs.declared.point.Point.{Point}
use Rattle.key_device.specs.declared.told.Told.{Told}
use Rattle.key_device.specs.declared.told.Told.TheVariants as tells

-- words with one space between each two
abbrev spaced : List ℕ → List (List ℕ) → List ℕ
spaced word [] = word
spaced word (next ∷ words) = word ++ 32 ∷ spaced next words

abbrev are_words : List (List ℕ) → Bool
are_words words = list_all (list_all is_word_byte) words

no_space : (b : ℕ) → is_word_byte b ≡ true → (b == 32) ≡ false
no_space b is = grind (arith, nat_tests)

no_feed : (b : ℕ) → is_word_byte b ≡ true → not (b == 10) ≡ true
no_feed b is = grind (arith, nat_tests)

unbroken : (word : List ℕ) → list_all is_word_byte word ≡ true → All (λ b. (b == 32) ≡ false) word
unbroken word is k d within = no_space _ (AllPass-from_list_all is_word_byte word is k d within)

split_spaced : (word : List ℕ) (words : List (List ℕ)) → are_words (word ∷ words) ≡ true
    → slice_split (λ b. b == 32) (spaced word words) ≡ word ∷ words
split_spaced word [] is =
    slice_split_none (λ b. b == 32) word (unbroken word (and_parts (list_all is_word_byte word) true is).0)
split_spaced word (next ∷ words) is =
    let parts = and_parts (list_all is_word_byte word) (are_words (next ∷ words)) is in
    slice_split_at (λ b. b == 32) word 32 (spaced next words) (unbroken word parts.0) refl
    ∙ ap (λ (rest : List (List ℕ)). word ∷ rest) (split_spaced next words parts.1)

abbrev pub is_in_line : ℕ → Bool
is_in_line b = not (b == 10)

word_in_line : (word : List ℕ) → list_all is_word_byte word ≡ true → list_all is_in_line word ≡ true
word_in_line [] is = refl
word_in_line (b ∷ word) is =
    let parts = and_parts (is_word_byte b) (list_all is_word_byte word) is in
    rw (no_feed b parts.0, word_in_line word parts.1) refl

spaced_in_line : (word : List ℕ) (words : List (List ℕ)) → are_words (word ∷ words) ≡ true → list_all is_in_line (spaced word words) ≡ true
spaced_in_line word [] is = word_in_line word (and_parts (list_all is_word_byte word) true is).0
spaced_in_line word (next ∷ words) is =
    let parts = and_parts (list_all is_word_byte word) (are_words (next ∷ words)) is in
    list_all-append is_in_line word (32 ∷ spaced next words)
    ∙ rw (word_in_line word parts.0, spaced_in_line next words parts.1) refl

made_text : (kind arrow key space x y : List ℕ)
    → kind ++ arrow ++ (key ++ space ++ (x ++ space ++ y)) ≡ kind ++ (arrow ++ (key ++ (space ++ (x ++ (space ++ y)))))
made_text kind arrow key space x y = simp append_assoc

agree_text : (kind key space x y arrow told : List ℕ)
    → (kind ++ key ++ space ++ (x ++ space ++ y)) ++ arrow ++ told ≡ kind ++ (key ++ (space ++ (x ++ (space ++ (y ++ (arrow ++ told))))))
agree_text kind key space x y arrow told = simp append_assoc

sign_text : (kind key space message arrow told : List ℕ)
    → (kind ++ key ++ space ++ message) ++ arrow ++ told ≡ kind ++ (key ++ (space ++ (message ++ (arrow ++ told))))
sign_text kind key space message arrow told = simp append_assoc

verify_text : (kind x space y message signature arrow told : List ℕ)
    → (kind ++ (x ++ space ++ y) ++ space ++ message ++ space ++ signature) ++ arrow ++ told
    ≡ kind ++ (x ++ (space ++ (y ++ (space ++ (message ++ (space ++ (signature ++ (arrow ++ told))))))))
verify_text kind x space y message signature arrow told = simp append_assoc

-- the words of what is written for an exchange say it
record Says (e : Exchange) : Type 0 where
  first : List ℕ
  words : List (List ℕ)
  text : line_text e ≡ spaced first words
  are : are_words (first ∷ words) ≡ true
  read : exchange_of (first ∷ words) ≡ Some e

-- what was told, in one word
record Answer (told : Told) (read : Option Told) : Type 0 where
  is : read ≡ Some told
  word : list_all is_word_byte (told_text told) ≡ true

told_secret : (secret : List ℕ) → IsSized 32 secret → Answer (tells.Secret secret) (told_of_agree (encode_lower secret))
told_secret secret sized =
    let count = sized.count in
    let failed = hex_is_not secret (codes "failed") (λ same. omega arith) in
    let refused = hex_is_not secret (codes "refused") (λ same. omega arith) in
    record { is = rw (failed, refused, bytes_read 32 secret sized) refl; word = hex_word secret sized.each }

told_signature : (signature : List ℕ) → IsSized 64 signature → Answer (tells.Signature signature) (told_of_sign (encode_lower signature))
told_signature signature sized =
    let count = sized.count in
    let failed = hex_is_not signature (codes "failed") (λ same. omega arith) in
    record { is = rw (failed, bytes_read 64 signature sized) refl; word = hex_word signature sized.each }

says_made : (made : Made) → (made.key < 2 ^ 32) × IsPoint made.public → Says (exchange Fresh (tells.Made made))
unfolding line_text exchange_of
says_made made fits = record {
  first = codes "fresh";
  words = codes "->" ∷ decimal made.key ∷ encode_lower made.public.x ∷ encode_lower made.public.y ∷ [];
  text = made_text (codes "fresh") (codes " -> ") (decimal made.key) (codes " ") (encode_lower made.public.x) (encode_lower made.public.y);
  are = rw (number_word made.key fits.0, hex_word made.public.x fits.1.x.each, hex_word made.public.y fits.1.y.each) refl;
  read = rw (number_read made.key fits.0, point_read made.public fits.1) refl;
}

says_unmade : Says (exchange Fresh tells.Failed)
unfolding line_text exchange_of
says_unmade = record { first = codes "fresh"; words = codes "->" ∷ codes "failed" ∷ []; text = refl; are = refl; read = refl }

says_agree : (key : ℕ) (peer : Point) (told : Told) → (key < 2 ^ 32) × IsPoint peer → Answer told (told_of_agree (told_text told)) → Says (exchange (Agree key peer) told)
unfolding line_text exchange_of
says_agree key peer told fits answer = record {
  first = codes "agree";
  words = decimal key ∷ encode_lower peer.x ∷ encode_lower peer.y ∷ codes "->" ∷ told_text told ∷ [];
  text = agree_text (codes "agree ") (decimal key) (codes " ") (encode_lower peer.x) (encode_lower peer.y) (codes " -> ") (told_text told);
  are = rw (number_word key fits.0, hex_word peer.x fits.1.x.each, hex_word peer.y fits.1.y.each, answer.word) refl;
  read = rw (number_read key fits.0, point_read peer fits.1, answer.is) refl;
}

says_sign : (key : ℕ) (message : List ℕ) (told : Told) → (key < 2 ^ 32) × IsBytes message → Answer told (told_of_sign (told_text told)) → Says (exchange (Sign key message) told)
unfolding line_text exchange_of
says_sign key message told fits answer = record {
  first = codes "sign";
  words = decimal key ∷ message_text message ∷ codes "->" ∷ told_text told ∷ [];
  text = sign_text (codes "sign ") (decimal key) (codes " ") (message_text message) (codes " -> ") (told_text told);
  are = rw (number_word key fits.0, message_word message fits.1, answer.word) refl;
  read = rw (number_read key fits.0, message_read message fits.1, answer.is) refl;
}

says_verify : (public : Point) (message signature : List ℕ) (told : Told) → IsPoint public × IsBytes message × IsSized 64 signature
    → Answer told (told_of_verify (told_text told)) → Says (exchange (Verify public message signature) told)
unfolding line_text exchange_of
says_verify public message signature told fits answer = record {
  first = codes "verify";
  words = encode_lower public.x ∷ encode_lower public.y ∷ message_text message ∷ encode_lower signature ∷ codes "->" ∷ told_text told ∷ [];
  text = verify_text (codes "verify ") (encode_lower public.x) (codes " ") (encode_lower public.y) (message_text message) (encode_lower signature) (codes " -> ") (told_text told);
  are = rw (hex_word public.x fits.0.x.each, hex_word public.y fits.0.y.each, message_word message fits.1, hex_word signature fits.2.each, answer.word) refl;
  read = rw (point_read public fits.0, message_read message fits.1, bytes_read 64 signature fits.2, answer.is) refl;
}

plain : (told : Told) (read : Option Told) → read ≡ Some told → list_all is_word_byte (told_text told) ≡ true → Answer told read
plain told read is word = record { is = is; word = word }

says : (ask : Ask) (told : Told) → IsAsked ask → IsTold told → is_answer ask told ≡ true → Says (exchange ask told)
says Fresh (tells.Made made) asked fits answer = says_made made fits
says Fresh tells.Failed asked fits answer = says_unmade
says (Agree key peer) (tells.Secret secret) asked fits answer = says_agree key peer (tells.Secret secret) asked (told_secret secret fits)
says (Agree key peer) tells.Refused asked fits answer = says_agree key peer tells.Refused asked (plain tells.Refused (told_of_agree (codes "refused")) refl refl)
says (Agree key peer) tells.Failed asked fits answer = says_agree key peer tells.Failed asked (plain tells.Failed (told_of_agree (codes "failed")) refl refl)
says (Sign key message) (tells.Signature signature) asked fits answer = says_sign key message (tells.Signature signature) asked (told_signature signature fits)
says (Sign key message) tells.Failed asked fits answer = says_sign key message tells.Failed asked (plain tells.Failed (told_of_sign (codes "failed")) refl refl)
says (Verify public message signature) tells.Yes asked fits answer = says_verify public message signature tells.Yes asked (plain tells.Yes (told_of_verify (codes "yes")) refl refl)
says (Verify public message signature) tells.No asked fits answer = says_verify public message signature tells.No asked (plain tells.No (told_of_verify (codes "no")) refl refl)
says (Verify public message signature) tells.Failed asked fits answer = says_verify public message signature tells.Failed asked (plain tells.Failed (told_of_verify (codes "failed")) refl refl)
says ask told asked fits answer = cc

said : (e : Exchange) → HasLine e → Says e
said e line = says e.ask e.told line.asked line.told line.answer

-- the line that is written is read
pub line_read : (e : Exchange) → HasLine e → line_exchange (line_text e) ≡ Some e
line_read e line =
    let s = said e line in
    ap line_exchange s.text ∙ ap exchange_of (split_spaced s.first s.words s.are) ∙ s.read

-- and has no line feed
pub line_whole : (e : Exchange) → HasLine e → list_all is_in_line (line_text e) ≡ true
line_whole e line =
    let s = said e line in
    rw s.text (spaced_in_line s.first s.words s.are)
