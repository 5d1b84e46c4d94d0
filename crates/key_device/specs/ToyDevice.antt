-- What the toy device tells.
use Rattle.std.specs.Prelude.{◌≡◌, ℕ, ◌+◌, ◌^◌, Option, Some, None, nat_lt, if◌then◌else◌}
use Rattle.std.specs.Str.{bytes_eq}
use Rattle.key_device.specs.Tape.{count_after}
use Rattle.key_device.specs.Toy.{is_refused, toy_point, toy_secret, toy_signature}
use Rattle.key_device.specs.declared.ask.Ask.{Ask}
use Rattle.key_device.specs.declared.ask.Ask.TheVariants.{Fresh, Agree, Sign, Verify}
use Rattle.key_device.specs.declared.told.Told.{Told}
use Rattle.key_device.specs.declared.told.Told.TheVariants as tells
use Rattle.key_device.specs.declared.toy_device.ToyDevice.{ToyDevice}

abbrev pub seed_of : ToyDevice → ℕ
seed_of device = device.seed

abbrev pub owner_of : ToyDevice → ℕ
owner_of device = device.owner

-- the key that it hands out next, if one is left
abbrev pub next_key : ToyDevice → Option ℕ
next_key device = device.next

abbrev pub faults_of : ToyDevice → ℕ
faults_of device = device.faults

-- the key after this one; the last is 2^32 - 1
abbrev pub key_after : ℕ → Option ℕ
key_after key = if nat_lt (key + 1) (2 ^ 32) then Some (key + 1) else None

-- what a new key tells: that it failed exactly past the last key
abbrev pub told_fresh : ℕ → ℕ → Option ℕ → Told
told_fresh seed owner None = tells.Failed
told_fresh seed owner (Some key) = tells.Made (record { key = key; public = toy_point seed owner key })

-- what it tells
abbrev pub toy_told : ToyDevice → Ask → Told
toy_told device Fresh = told_fresh (seed_of device) (owner_of device) (next_key device)
toy_told device (Agree key peer) =
    if is_refused peer then tells.Refused
    else tells.Secret (toy_secret (seed_of device) (toy_point (seed_of device) (owner_of device) key) peer)
toy_told device (Sign key message) =
    tells.Signature (toy_signature (seed_of device) (toy_point (seed_of device) (owner_of device) key) message)
toy_told device (Verify public message signature) =
    if bytes_eq signature (toy_signature (seed_of device) public message) then tells.Yes else tells.No

abbrev pub next_after : Option ℕ → Option ℕ
next_after None = None
next_after (Some key) = key_after key

-- the key that it hands out next after a question
abbrev pub toy_next : ToyDevice → Ask → Option ℕ
toy_next device Fresh = next_after (next_key device)
toy_next device ask = next_key device

pub record ToyGives (before : ToyDevice) (ask : Ask) (told : Told) (after : ToyDevice) : Type 0 where
  pub answer : told ≡ toy_told before ask
  pub next : next_key after ≡ toy_next before ask
  pub seed : seed_of after ≡ seed_of before
  pub owner : owner_of after ≡ owner_of before
  pub counts : faults_of after ≡ count_after told (faults_of before)
