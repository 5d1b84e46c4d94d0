-- The holder's rules: what the first rule that matches decides, and the rules that a file spells.
use Rattle.std.specs.Prelude.{ℕ, List, Bool, false, Option, Some, None, Result}
use Rattle.std.specs.List.{find}
use Rattle.mdoc_outside.specs.Lines.{file_lines}
use Rattle.mdoc_outside.specs.ResultSteps.{each}
use Rattle.consent.specs.Grammar.{line_of}
use Rattle.consent.specs.Wish.{Wanted}
use Rattle.consent.specs.Rule.{is_match, rule_of}
use Rattle.consent.specs.declared.rule.Rule.{Rule}

-- what a rule that was found says; with none a wish is denied
abbrev pub decision : Option Rule → Bool
decision None = false
decision (Some rule) = rule.allow

-- Whether the rules allow a reader's wish: the first rule that matches it decides, and none denies.
abbrev pub approved : List Rule → Option (List ℕ) → Wanted → Bool
approved rules reader wish = decision (find (is_match reader wish) rules)

-- The rules that a text spells, one a line, else the number of its first bad line.
abbrev pub rules_of : List ℕ → Result (List Rule) ℕ
rules_of text = each (line_of rule_of) (file_lines text)
