-- The formulas of the toy device, which gives no security. They are this project's own, over
-- SHA-256 (FIPS 180-4).
use Rattle.std.specs.Prelude.{ℕ, ◌==◌, List, ◌++◌, Bool, codes, if◌then◌else◌}
use Rattle.std.specs.List.{list_all}
use Rattle.std.specs.Ordering.{is_le, nat_cmp}
use Rattle.std.specs.Cmp.Lexicographic.{slice_cmp}
use Rattle.byteorder.specs.Endian.{big_bytes}
use Rattle.sha2.specs.Sha256.{sha256}
use Rattle.key_device.specs.declared.point.Point.{Point}

-- a number in 8 bytes, big-endian
unfoldable pub in_eight : ℕ → List ℕ
in_eight number = big_bytes 8 number

-- x, then y
abbrev pub point_bytes : Point → List ℕ
point_bytes point = point.x ++ point.y

-- the digest under all formulas: of a name, the seed and two parts
unfoldable pub toy_digest : List ℕ → ℕ → List ℕ → List ℕ → List ℕ
toy_digest name seed first second = sha256 (name ++ in_eight seed ++ first ++ second)

-- the public key of an owner's key
abbrev pub toy_point : ℕ → ℕ → ℕ → Point
toy_point seed owner key = record {
  x = toy_digest (codes "mdoc-toy-x") seed (in_eight owner) (in_eight key);
  y = toy_digest (codes "mdoc-toy-y") seed (in_eight owner) (in_eight key);
}

-- a peer's public key is refused exactly where its x is all zero
abbrev pub is_refused : Point → Bool
is_refused peer = list_all (λ byte. byte == 0) peer.x

-- whether a list of bytes doesn't come after another in the order of bytes
abbrev pub is_first : List ℕ → List ℕ → Bool
is_first one other = is_le (slice_cmp nat_cmp one other)

-- the secret of two public keys: the digest with the lesser first
abbrev pub toy_secret : ℕ → Point → Point → List ℕ
toy_secret seed own peer =
    if is_first (point_bytes own) (point_bytes peer)
    then toy_digest (codes "mdoc-toy-agree") seed (point_bytes own) (point_bytes peer)
    else toy_digest (codes "mdoc-toy-agree") seed (point_bytes peer) (point_bytes own)

-- a public key's signature of a message: r, then s
abbrev pub toy_signature : ℕ → Point → List ℕ → List ℕ
toy_signature seed public message =
    toy_digest (codes "mdoc-toy-r") seed (point_bytes public) message
    ++ toy_digest (codes "mdoc-toy-s") seed (point_bytes public) message
