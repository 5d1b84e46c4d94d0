use Rattle.std.proofs.Common.{◌≡◌, ◌+◌, ◌-◌, ◌==◌, length, take, drop, arith}
use Rattle.std.proofs.lemmas.List.{take_all, length-drop}
use Rattle.mdoc_outside.proofs.Splits.{split_found, split_missing}
use Rattle.key_device.proofs.tape_file.first_line.Goals as goal

pub returns-in-Some-clause-parts : goal.returns-in-Some-clause-parts
returns-in-Some-clause-parts c =
    let bytes = c.args.text.now in
    let past = c.in-Some.end + 1 in
    let whole : take (length bytes - past) (drop past bytes) ≡ drop past bytes =
    take_all (length bytes - past) (drop past bytes) (omega (arith, length-drop past bytes)) in
    rw whole (split_found (λ b. b == 10) bytes c.in-Some.end c.in-Some.ensures.first)

pub returns-in-None-clause-parts : goal.returns-in-None-clause-parts
returns-in-None-clause-parts c = split_missing (λ b. b == 10) c.args.text.now c.in-None.ensures.first
