use Rattle.std.proofs.Common.{◌≡◌, length, arith}
use Rattle.std.proofs.lemmas.Bool.Decides.{nat_tests}
use Rattle.der_view.proofs.Listing.{parts-end}
use Rattle.der_view.proofs.parts.PartsIterator.next.Goals as goal

pub returns-then-is_empty-clause-steps : goal.returns-then-is_empty-clause-steps
returns-then-is_empty-clause-steps c =
    let none = c.is_empty.ensures in
    let is = c.if-is_empty.true in
    let no_bytes : length c.args.self.now.rest.now ≡ 0 = grind (arith, nat_tests) in
    let end = parts-end (record { at = c.args.self.now.at; bytes = c.args.self.now.rest.now }) no_bytes in
    (end, end)
