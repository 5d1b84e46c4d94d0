-- The printed name of each limit.
use Rattle.std.specs.Prelude.{ℕ, List, codes}
use Rattle.mdoc_outside.specs.declared.limit_name.LimitName.{LimitName}
use Rattle.mdoc_outside.specs.declared.limit_name.LimitName.TheVariants.{FileBytes, PackageBytes, Documents, Namespaces, Items, Copies, Value, Name, Roots, Requests, Wishes, ScheduleLines, Fragments}

abbrev pub limit_text : LimitName → List ℕ
limit_text FileBytes = codes "FileBytes"
limit_text PackageBytes = codes "PackageBytes"
limit_text Documents = codes "Documents"
limit_text Namespaces = codes "Namespaces"
limit_text Items = codes "Items"
limit_text Copies = codes "Copies"
limit_text Value = codes "Value"
limit_text Name = codes "Name"
limit_text Roots = codes "Roots"
limit_text Requests = codes "Requests"
limit_text Wishes = codes "Wishes"
limit_text ScheduleLines = codes "ScheduleLines"
limit_text Fragments = codes "Fragments"
