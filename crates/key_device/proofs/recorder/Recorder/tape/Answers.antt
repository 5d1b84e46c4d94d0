use Rattle.std.proofs.Common.{◌≡◌, ◌-◌, length, take, drop, arith, ◌∙◌, ap}
use Rattle.std.proofs.lemmas.List.{take_all, length-drop}
use Rattle.key_device.specs.Recording.{talk}
use Rattle.key_device.specs.TapeFile.{tape_of}
use Rattle.key_device.specs.TapeText.{tape_text}
use Rattle.key_device.proofs.WrittenTapes.{lines_after, is_read_as_written}
use Rattle.key_device.proofs.recorder.Recorder.tape.Goals as goal

pub returns-clause-read : goal.returns-clause-read
returns-clause-read g c =
    let es = talk c.args.self.now in
    let whole : c.deref.result.now ≡ es = cc in
    let left : take (length es - c.args.from) (drop c.args.from es) ≡ drop c.args.from es =
    take_all (length es - c.args.from) (drop c.args.from es) (omega (arith, length-drop c.args.from es)) in
    let part = take (length c.deref.result.now - c.args.from) (drop c.args.from c.deref.result.now) in
    let same : part ≡ drop c.args.from es = rw whole left in
    ap tape_of (c.from_vec.ensures ∙ c.in_ok-tape_text.ensures ∙ ap tape_text same)
    ∙ is_read_as_written (drop c.args.from es) (lines_after c.args.from es c.args.self.now.lines)
