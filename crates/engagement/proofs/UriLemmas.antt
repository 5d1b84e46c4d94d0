-- The text of an engagement's bytes.
use Rattle.std.proofs.Common.{◌≡◌, ℕ, List, Result, Ok, Err, ap, sym, ◌∙◌, drop, refl, inl, inr}
use Rattle.base64.specs.declared.decode.DecodeError.{DecodeError}
use Rattle.base64.specs.Engines.{url_safe_no_pad}
use Rattle.base64.specs.GeneralPurpose.{IsConsistent, decode_of, encode_of}
use Rattle.base64.proofs.EngineFacts.{decode_of-encode_of}
use Rattle.engagement.specs.declared.uri_fault.UriFault.TheVariants.{Prefix, Base64, Memory}
use Rattle.engagement.specs.Uri.{OneUri, ReadsBack}

consistent : IsConsistent url_safe_no_pad
consistent = refl

one_result : (one two : List ℕ) (result : Result (List ℕ) DecodeError) → result ≡ Ok one → result ≡ Ok two → one ≡ two
one_result one two result e f = cc

pub one_uri : OneUri
one_uri one two b c e =
    one_result one two (decode_of url_safe_no_pad (encode_of url_safe_no_pad one))
    (decode_of-encode_of url_safe_no_pad one consistent b)
    (ap (decode_of url_safe_no_pad) (ap (drop 5) e) ∙ decode_of-encode_of url_safe_no_pad two consistent c)

pub reads_back : ReadsBack
reads_back bytes (Ok read) is h = inl (ap (λ (b : List ℕ). Ok b) (one_uri read bytes h.0 is (sym h.1)))
reads_back bytes (Err Prefix) is h = absurd (h (encode_of url_safe_no_pad bytes, refl))
reads_back bytes (Err Base64) is h = absurd (h.1 bytes is refl)
reads_back bytes (Err Memory) is h = inr refl
