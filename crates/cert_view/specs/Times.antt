-- The moments of certificates (RFC 5280, 4.1.2.5), in seconds since 1970.
use Rattle.std.specs.Prelude.{ℕ, nat_lt, if◌then◌else◌, ℤ, List, ◌++◌, codes, slice_index, take, drop, Option}
use Rattle.mdl_table.specs.Calendar.{moment_of}

-- YYYYMMDDHHMMSSZ with the signs between, YYYY-MM-DDTHH:MM:SSZ
abbrev pub with_signs : List ℕ → List ℕ
with_signs text =
    take 4 text ++ codes "-" ++ take 2 (drop 4 text) ++ codes "-" ++ take 2 (drop 6 text) ++ codes "T"
    ++ take 2 (drop 8 text) ++ codes ":" ++ take 2 (drop 10 text) ++ codes ":" ++ drop 12 text

-- GeneralizedTime: YYYYMMDDHHMMSSZ
unfoldable pub generalized_time : List ℕ → Option ℤ
generalized_time text = moment_of (with_signs text)

-- the first digits of the year: from YY = 50 on it is 19YY, and below 20YY
abbrev pub century : List ℕ → List ℕ
century text = if nat_lt (slice_index text 0) 53 then codes "20" else codes "19"

-- UTCTime: YYMMDDHHMMSSZ
unfoldable pub utc_time : List ℕ → Option ℤ
utc_time text = generalized_time (century text ++ text)
