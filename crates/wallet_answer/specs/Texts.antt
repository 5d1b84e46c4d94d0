-- What contracts see of borrowed texts.
use Rattle.std.specs.Prelude.{ℕ, List, Option, option_map}
use Rattle.std.specs.Borrow.{Bor}

abbrev pub name_seen : Bor (List ℕ) → List ℕ
name_seen name = name.now

-- the name of a reader, where it is known
abbrev pub reader_seen : Option (Bor (List ℕ)) → Option (List ℕ)
reader_seen reader = option_map name_seen reader
