use Rattle.std.proofs.Common.{◌≡◌, ◌++◌, ◌∷◌, [], Some, None, sym, ◌∙◌, arith}
use Rattle.key_device.specs.TapeLine.{line_exchange}
use Rattle.key_device.proofs.TapeFileLemmas.{read_on, read_bad, read_end, read_rest, one_more_formed}
use Rattle.key_device.proofs.tape_file.read_exchanges.Goals as goal

pub returns-in-None-clause-read : goal.returns-in-None-clause-read
returns-in-None-clause-read c =
    let says : None ≡ line_exchange c.in-Some.line.now = sym c.in-None.is ∙ c.in_ok-exchange.ensures in
    sym c.loop-line.invariant.read
    ∙ read_bad c.loop-line.number c.loop-line.tape.items c.loop-line.left.now c.in-Some.line.now c.in-Some.behind.now c.in-Some.ensures.parts says

pub loop-line-preserved : goal.loop-line-preserved
loop-line-preserved c =
    let read = c.loop-line.tape.items in
    let items : c.push_back.new.self.items ≡ read ++ c.in-Some-2.exchange ∷ [] = c.in_ok-push_back-in-Some-2.ensures.items in
    let says : Some c.in-Some-2.exchange ≡ line_exchange c.in-Some.line.now = sym c.in-Some-2.is ∙ c.in_ok-exchange.ensures in
    record {
      read = rw items (read_on c.loop-line.number read c.loop-line.left.now c.in-Some.line.now c.in-Some.behind.now c.in-Some-2.exchange c.in-Some.ensures.parts says ∙ c.loop-line.invariant.read);
      taken = omega (arith, c.in-Some.ensures.shorter);
      exchanges = rw items (one_more_formed read c.in-Some.line.now c.in-Some-2.exchange says c.loop-line.invariant.exchanges);
    }

pub returns-then-is_empty-clause-read : goal.returns-then-is_empty-clause-read
returns-then-is_empty-clause-read c =
    sym c.loop-line.invariant.read
    ∙ read_end c.loop-line.number c.loop-line.tape.items c.loop-line.left.now (sym c.is_empty.ensures ∙ c.if-is_empty.true)

pub returns-else-is_empty-clause-read : goal.returns-else-is_empty-clause-read
returns-else-is_empty-clause-read c =
    sym c.loop-line.invariant.read
    ∙ read_rest c.loop-line.number c.loop-line.tape.items c.loop-line.left.now c.in_default.ensures.parts (sym c.if-is_empty.false ∙ c.is_empty.ensures)
