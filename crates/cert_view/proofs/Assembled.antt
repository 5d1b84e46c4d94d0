-- What is put together part by part, as the definitions say it at once.
use Rattle.std.proofs.Common.{◌≡◌, ◌∙◌, refl, ap, sym, arith, true, ℤ, pos, to_z, of_z, List, ℕ, [], ◌∷◌, ◌++◌, drop, append-nil}
use Rattle.std.specs.Int.{w64, to_be_bytes}
use Rattle.std.specs.Prelude.{int_lt}
use Rattle.jiff_core.proofs.SignedLemmas.{signed_arith}
use Rattle.der_view.specs.Element.{element}
use Rattle.cert_view.specs.declared.cert_draft.CertDraft.{CertDraft}
use Rattle.cert_view.specs.Written.{IsTime, sequence, integer, version, algorithm, name, time_text, time, validity, public_key, extensions, to_be_signed}

-- a time is kept as it is
pub time-kept : (moment : ℤ) → IsTime moment → to_z w64 (of_z w64 moment) ≡ moment
time-kept moment is = omega (arith, signed_arith, is.first, is.last)

pub validity-kept : (from until : ℤ) → IsTime from → IsTime until → validity (to_z w64 (of_z w64 from)) (to_z w64 (of_z w64 until)) ≡ validity from until
validity-kept from until begins ends = rw (time-kept from begins, time-kept until ends) refl

pub utc-is : (moment : ℤ) (text short : List ℕ) → IsTime moment → int_lt (to_z w64 (of_z w64 moment)) (pos 2_524_608_000) ≡ true → text ≡ time_text (to_z w64 (of_z w64 moment)) → short ≡ drop 2 text → element 0x17 (short ++ []) ≡ time moment
utc-is moment text short own before is behind =
    let lt : int_lt moment (pos 2_524_608_000) ≡ true = ap (λ (m : ℤ). int_lt m (pos 2_524_608_000)) (sym (time-kept moment own)) ∙ before in
    rw (lt, append-nil) (ap (λ (t : List ℕ). element 0x17 t) behind ∙ ap (λ (t : List ℕ). element 0x17 (drop 2 t)) (is ∙ ap time_text (time-kept moment own)))

pub to-be-signed : (draft : CertDraft) (serial issuer times subject key others : List ℕ) →
    serial ≡ integer (to_be_bytes w64 draft.serial) → issuer ≡ name draft.issuer → times ≡ validity draft.from draft.until →
    subject ≡ name draft.subject → key ≡ public_key draft.key → others ≡ extensions draft.signer →
    sequence (version ∷ serial ∷ algorithm ∷ issuer ∷ times ∷ subject ∷ key ∷ others ∷ []) ≡ to_be_signed draft
unfolding to_be_signed
to-be-signed draft serial issuer times subject key others a b c d e f = rw (a, b, c, d, e, f) refl
