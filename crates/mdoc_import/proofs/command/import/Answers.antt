-- The moment is the one that the words give, or else the clock's.
use Rattle.std.proofs.Common.{◌≡◌, ℤ, SFits, to_z, of_z, w64, to_z-of_z, ap, ◌∙◌}
use Rattle.mdoc_import.specs.Import.{moment_of}
use Rattle.mdoc_import.proofs.ImportLemmas.{import_by}
use Rattle.mdoc_import.proofs.command.import.Goals as goal

pub returns-clause-does : goal.returns-clause-does
returns-clause-does g c wallet drawn wallet_faults dice_faults =
    let clock : to_z w64 (of_z w64 c.args.clock) ≡ c.args.clock = to_z-of_z c.ranges.clock in
    let fits : SFits w64 c.moment_of.result = record { sfits = c.moment_of.type_inv } in
    let moment : to_z w64 (of_z w64 c.moment_of.result) ≡ moment_of c.args.words.now c.args.clock =
    to_z-of_z fits ∙ c.moment_of.ensures ∙ ap (λ (m : ℤ). moment_of c.args.words.now m) clock in
    import_by _ _ _ _ _ _ _ _ _ _ _ c.names_of.ensures.files c.names_of.ensures.store moment (c.import_named.ensures.does wallet drawn wallet_faults dice_faults)
