use Rattle.std.proofs.Common.{sym, ap, ◌∙◌, to_z-of_z}
use Rattle.mdl_table.specs.MomentText.{text_of}
use Rattle.mso_digests.proofs.WrittenDates.{date_utf8}
use Rattle.mso_digests.proofs.written.write_date.Goals as goal

pub unreachable-requires-in_default-from_utf8 : goal.unreachable-requires-in_default-from_utf8
unreachable-requires-in_default-from_utf8 c =
    c.in_default-from_utf8.ensures.cases.0
    (date_utf8 c.args.moment c.in-Some.text (ap text_of (sym (to_z-of_z c.ranges.moment)) ∙ sym c.in-Some.ensures.exact))
