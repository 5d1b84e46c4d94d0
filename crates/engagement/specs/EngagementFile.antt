-- An engagement file: a line file with one line, `qr` and the text of the QR code of an engagement
-- (ISO/IEC 18013-5, 8.2.2.3).
use Rattle.std.specs.Prelude.{◌≡◌, ◌⊎◌, ℕ, List, [], ◌∷◌, IsOk, Result, Ok, Err, codes, length, max}
use Rattle.std.specs.Str.Lines.{lines}
use Rattle.base64.specs.GeneralPurpose.{IsBytes}
use Rattle.engagement.specs.Engagement.{engagement}
use Rattle.engagement.specs.Uri.{uri_of}
use Rattle.mdoc_outside.specs.Lines.{Line, file_lines, words}
use Rattle.engagement.specs.declared.engagement_file.EngagementFile.{EngagementFile}
use Rattle.engagement.specs.declared.engagement_file_fault.EngagementFileFault.{EngagementFileFault}
use Rattle.engagement.specs.declared.engagement_file_fault.EngagementFileFault.TheVariants.{Line as BadLine, Memory}

-- The text is that of the bytes of an engagement.
abbrev pub IsEngagementText : List ℕ → List ℕ → Type 0
IsEngagementText text bytes = IsBytes bytes × (text ≡ uri_of bytes) × IsOk (engagement bytes)

abbrev pub IsTextOfNone : List ℕ → Type 0
IsTextOfNone text = (bytes : List ℕ) → ¬ IsEngagementText text bytes

-- The words of a line say the engagement with these bytes.
abbrev pub Says : List (List ℕ) → List ℕ → Type 0
Says words bytes = (text : List ℕ) × (words ≡ codes "qr" ∷ text ∷ []) × IsEngagementText text bytes

abbrev pub SaysNothing : List (List ℕ) → Type 0
SaysNothing words = (bytes : List ℕ) → ¬ Says words bytes

-- The lines are one, which says the engagement.
abbrev pub Gives : List Line → List ℕ → Type 0
Gives lines bytes = (line : Line) × (lines ≡ line ∷ []) × Says (words line.bytes) bytes

-- The number of the first line that breaks the form, of a file whose last line has this number.
abbrev pub IsBadLine : ℕ → List Line → ℕ → Type 0
IsBadLine last [] n = n ≡ last
IsBadLine last (first ∷ []) n = SaysNothing (words first.bytes) × (n ≡ first.number)
IsBadLine last (first ∷ second ∷ rest) n =
    (SaysNothing (words first.bytes) × (n ≡ first.number)) ⊎ ((bytes : List ℕ) × Says (words first.bytes) bytes × (n ≡ second.number))

-- What a file is read as.
abbrev pub ReadsEngagementFile : List ℕ → Result EngagementFile EngagementFileFault → Type 0
ReadsEngagementFile text (Ok file) = Gives (file_lines text) file.engagement
ReadsEngagementFile text (Err (BadLine n)) = IsBadLine (max 1 (length (lines text))) (file_lines text) n
ReadsEngagementFile text (Err Memory) = Unit {0}
