-- A name that has to be there has a value.
use Rattle.std.proofs.Common.{refl, sym}
use Rattle.std.specs.Prelude.{codes}
use Rattle.mdoc_frame.specs.Pairs.{needed_file, needed_text}
use Rattle.mdoc_issue.specs.Issue.{issue_row}
use Rattle.mdoc_frame.specs.declared.role.Role.TheVariants as roles
use Rattle.mdoc_frame.proofs.PairLemmas.{given}
use Rattle.mdoc_issue.proofs.command.names_of.Goals as goal

pub unreachable-requires : goal.unreachable-requires
unreachable-requires c = given issue_row c.args.words.now 0 (needed_file (codes "--spec") roles.Spec) c.requires refl refl (sym c.in_default.ensures)

pub unreachable-requires-in_default-value_of : goal.unreachable-requires-in_default-value_of
unreachable-requires-in_default-value_of c = given issue_row c.args.words.now 1 (needed_text (codes "--out")) c.requires refl refl (sym c.in_default-value_of.ensures)
