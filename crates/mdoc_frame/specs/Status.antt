-- The statuses of the program: their codes, and the line that tells one on standard error.
use Rattle.std.specs.Prelude.{ℕ, List, ◌++◌, codes}
use Rattle.std.specs.Fmt.{decimal}
use Rattle.mdoc_outside.specs.LimitName.{limit_text}
use Rattle.mdoc_frame.specs.declared.role.Role.{Role}
use Rattle.mdoc_frame.specs.declared.role.Role.TheVariants as roles
use Rattle.mdoc_frame.specs.CheckText.{check_text}
use Rattle.mdoc_frame.specs.declared.status.Status.{Status}
use Rattle.mdoc_frame.specs.declared.status.Status.TheVariants as statuses

abbrev pub status_code : Status → ℕ
status_code statuses.Done = 0
status_code statuses.Usage = 2
status_code (statuses.Missing role) = 3
status_code statuses.Cabinet = 4
status_code (statuses.Form role check at) = 5
status_code statuses.Sink = 6
status_code statuses.Device = 8
status_code statuses.Dice = 9
status_code statuses.Verdict = 11
status_code (statuses.Limit limit number) = 12
status_code statuses.Memory = 13

abbrev pub role_text : Role → List ℕ
role_text roles.Store = codes "Store"
role_text roles.Wishes = codes "Wishes"
role_text roles.Rules = codes "Rules"
role_text roles.Spec = codes "Spec"
role_text roles.Package = codes "Package"
role_text roles.Roots = codes "Roots"
role_text roles.Readers = codes "Readers"
role_text roles.Reader = codes "Reader"
role_text roles.Engagement = codes "Engagement"
role_text roles.Request = codes "Request"
role_text roles.WalletTape = codes "WalletTape"
role_text roles.ReaderTape = codes "ReaderTape"
role_text roles.Dice = codes "Dice"
role_text roles.Schedule = codes "Schedule"

-- the variant's name and its values, each after one space
abbrev pub status_text : Status → List ℕ
status_text statuses.Done = codes "Done"
status_text statuses.Usage = codes "Usage"
status_text (statuses.Missing role) = codes "Missing " ++ role_text role
status_text statuses.Cabinet = codes "Cabinet"
status_text (statuses.Form role check at) = codes "Form " ++ role_text role ++ codes " " ++ check_text check ++ codes " " ++ decimal at
status_text statuses.Sink = codes "Sink"
status_text statuses.Device = codes "Device"
status_text statuses.Dice = codes "Dice"
status_text statuses.Verdict = codes "Verdict"
status_text (statuses.Limit limit number) = codes "Limit " ++ limit_text limit ++ codes " " ++ decimal number
status_text statuses.Memory = codes "Memory"
