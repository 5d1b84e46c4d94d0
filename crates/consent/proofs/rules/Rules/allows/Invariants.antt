use Rattle.std.proofs.Common.{◌≡◌, drop, option_copied}
use Rattle.consent.specs.Rules.{approved}
use Rattle.consent.specs.Wish.{wanted}
use Rattle.consent.proofs.rules.Rules.allows.Given as goal

-- the rules that are left decide what all do
abbrev pub invariant-loop-rule : goal.invariant-loop-rule
invariant-loop-rule l = approved (drop l.rule-index l.rule-items) (option_copied l.reader) (wanted l.wish) ≡ approved l.rule-items (option_copied l.reader) (wanted l.wish)
