-- What contracts see of a piece, and of the pieces that are left.
use Rattle.std.specs.Prelude.{List, [], length, if◌then◌else◌}
use Rattle.ble_fragments.specs.declared.piece.Piece.{Piece}
use Rattle.ble_fragments.specs.declared.cuts.Cuts.{Cuts}
use Rattle.ble_fragments.specs.Cut.{Cut, pieces}

abbrev pub cut_of : Piece → Cut
cut_of piece = record { bytes = piece.bytes.now; is_last = piece.is_last }

abbrev pub cuts_left : Cuts → List Cut
cuts_left cuts = if cuts.is_done then [] else pieces (length cuts.rest.now) cuts.size cuts.rest.now
