-- A name that has to be there has a value.
use Rattle.std.proofs.Common.{refl, sym}
use Rattle.std.specs.Prelude.{codes}
use Rattle.mdoc_frame.specs.Pairs.{needed_file}
use Rattle.mdoc_draft.specs.Draft.{draft_row}
use Rattle.mdoc_frame.specs.declared.role.Role.TheVariants as roles
use Rattle.mdoc_frame.proofs.PairLemmas.{given}
use Rattle.mdoc_draft.proofs.command.files_of.Goals as goal

pub unreachable-requires : goal.unreachable-requires
unreachable-requires c = given draft_row c.args.words.now 0 (needed_file (codes "--store") roles.Store) c.requires refl refl (sym c.in_default.ensures)

pub unreachable-requires-in_default-value_of : goal.unreachable-requires-in_default-value_of
unreachable-requires-in_default-value_of c = given draft_row c.args.words.now 1 (needed_file (codes "--wishes") roles.Wishes) c.requires refl refl (sym c.in_default-value_of.ensures)

pub unreachable-requires-in_default-value_of-2 : goal.unreachable-requires-in_default-value_of-2
unreachable-requires-in_default-value_of-2 c = given draft_row c.args.words.now 2 (needed_file (codes "--rules") roles.Rules) c.requires refl refl (sym c.in_default-value_of-2.ensures)
