-- The point of a public key (RFC 5480, 2.2; SEC 1, 2.3.3).
use Rattle.std.specs.Prelude.{ℕ, ◌==◌, ◌&&◌, if◌then◌else◌, List, ◌∷◌, length, take, drop, Option, Some, None}
use Rattle.key_device.specs.declared.point.Point.{Point}

-- the point of the body of a BIT STRING: no unused bits, the byte 4 for the uncompressed form, x and y
abbrev pub point_of : List ℕ → Option Point
point_of (unused ∷ (form ∷ rest)) =
    if unused == 0 && form == 4 && length rest == 64
    then Some (record { x = take 32 rest; y = drop 32 rest }) else None
point_of body = None
