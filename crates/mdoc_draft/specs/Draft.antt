-- The command `draft`: the line that it prints of a store, wishes and rules.
use Rattle.std.specs.Prelude.{ℕ, List, [], ◌∷◌, None, codes}
use Rattle.doc_store.specs.Store.{Store}
use Rattle.consent.specs.declared.rule.Rule.{Rule}
use Rattle.doc_request.specs.declared.doc_draft.DocDraft.{DocDraft}
use Rattle.mdoc_frame.specs.Content.{Content, OfStore, OfWishes, OfRules, StoreFile}
use Rattle.mdoc_draft.specs.Core.{core}
use Rattle.mdoc_frame.specs.Outcome.{FileName, Outcome, needed_file_name, only_status}
use Rattle.mdoc_frame.specs.Pairs.{Pair, needed_file}
use Rattle.mdoc_draft.specs.Printed.{core_line}
use Rattle.mdoc_draft.specs.Released.{released_places}
use Rattle.mdoc_frame.specs.declared.role.Role.TheVariants as roles
use Rattle.mdoc_frame.specs.declared.status.Status.TheVariants.{Done, Memory}

-- its words: a store, wishes and rules
abbrev pub draft_row : List Pair
draft_row =
    needed_file (codes "--store") roles.Store
    ∷ (needed_file (codes "--wishes") roles.Wishes
    ∷ (needed_file (codes "--rules") roles.Rules ∷ []))

-- its files, by their names
abbrev pub draft_files : List ℕ → List ℕ → List ℕ → List FileName
draft_files store wishes rules =
    needed_file_name roles.Store store
    ∷ (needed_file_name roles.Wishes wishes ∷ (needed_file_name roles.Rules rules ∷ []))

-- The line for a store: the core of what the rules release to an unknown reader.
abbrev pub draft_line : Store → List DocDraft → List Rule → List ℕ
draft_line documents asked rules = core_line (core rules None documents asked)

abbrev pub draft_of : StoreFile → List DocDraft → List Rule → Outcome
draft_of file asked rules = record {
  status = Done;
  lines = draft_line file.documents asked rules ∷ [];
  files = [];
  released = released_places rules None file.documents asked;
}

-- What `draft` comes to. Its files give a store, wishes and rules, and nothing else.
abbrev pub draft_outcome : List Content → Outcome
draft_outcome ((OfStore file) ∷ ((OfWishes asked) ∷ ((OfRules rules) ∷ []))) = draft_of file asked rules
draft_outcome contents = only_status Memory
