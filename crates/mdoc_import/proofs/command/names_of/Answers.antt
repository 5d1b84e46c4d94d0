-- A name that has to be there has a value.
use Rattle.std.proofs.Common.{refl, sym}
use Rattle.std.specs.Prelude.{codes}
use Rattle.mdoc_frame.specs.Pairs.{file_or_none, needed_file}
use Rattle.mdoc_import.specs.Import.{import_row}
use Rattle.mdoc_frame.specs.declared.role.Role.TheVariants as roles
use Rattle.mdoc_frame.proofs.PairLemmas.{given}
use Rattle.mdoc_import.proofs.command.names_of.Goals as goal

pub unreachable-requires : goal.unreachable-requires
unreachable-requires c = given import_row c.args.words.now 0 (needed_file (codes "--package") roles.Package) c.requires refl refl (sym c.in_default.ensures)

pub unreachable-requires-in_default-value_of : goal.unreachable-requires-in_default-value_of
unreachable-requires-in_default-value_of c = given import_row c.args.words.now 1 (needed_file (codes "--roots") roles.Roots) c.requires refl refl (sym c.in_default-value_of.ensures)

pub unreachable-requires-in_default-value_of-2 : goal.unreachable-requires-in_default-value_of-2
unreachable-requires-in_default-value_of-2 c = given import_row c.args.words.now 2 (file_or_none (codes "--store") roles.Store) c.requires refl refl (sym c.in_default-value_of-2.ensures)
