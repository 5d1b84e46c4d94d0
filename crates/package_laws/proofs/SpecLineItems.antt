-- The elements that the lines of a spec file add have items as values.
use Rattle.std.proofs.Common.{◌≡◌, ℕ, Bool, true, false, cond, List, [], ◌∷◌, Option, Some, None, Result, Ok, subst}
use Rattle.std.specs.Prelude.{codes}
use Rattle.std.specs.List.{All}
use Rattle.std.specs.Str.{bytes_eq}
use Rattle.std.proofs.lemmas.List.Elements.{All-push}
use Rattle.mdoc_outside.specs.OptionSteps.{◌>>=◌}
use Rattle.issue_spec.specs.SpecFile as files
use Rattle.issue_spec.specs.SpecLine as spec_lines
use Rattle.issue_spec.specs.SpecSoFar.{SoFar}
use Rattle.issue_spec.specs.SpecValue.{value_in}
use Rattle.issue_spec.specs.SpecWords.{name_of}
use Rattle.issue_spec.specs.declared.spec_check.SpecCheck.{SpecCheck}
use Rattle.issue_spec.specs.declared.spec_element.SpecElement.{SpecElement}
use Rattle.issue_spec.specs.declared.spec_fault.SpecFault.{SpecFault}
use Rattle.package_laws.proofs.SpecValueItems.{IsItem, IsSaid, value-said}

-- each value is one
abbrev pub HaveItems : List SpecElement → Type 0
HaveItems elements = All (λ (e : SpecElement). IsItem e.value) elements

abbrev pub done : {A : Type 0} → A → Result A SpecFault
done x = Ok x

pub ok-value : {A : Type 0} (x y : A) → done x ≡ done y → x ≡ y
ok-value x y e = cc

pub unless-ok : {A : Type 0} (check : Option SpecCheck) (number : ℕ) (x y : A) → files.unless check number x ≡ Ok y → x ≡ y
unless-ok None number x y e = ok-value x y e
unless-ok (Some failed) number x y e = absurd cc

-- what holds of nothing holds of a choice between something and nothing, and of something after a step
line-if : {L : Type 0} (P : Option L → Type 0) → P None → (b : Bool) (x : Option L) → P x → P (cond b x None)
line-if P none true x is = is
line-if P none false x is = none

line-then : {A L : Type 0} (P : Option L → Type 0) → P None → (o : Option A) (f : A → Option L) → ((a : A) → P (f a)) → P (o >>= f)
line-then P none None f all = none
line-then P none (Some a) f all = all a

line-value : {L : Type 0} (P : Option L → Type 0) → P None → (o : Option (List ℕ)) (f : List ℕ → Option L) → IsSaid o → ((value : List ℕ) → IsItem value → P (f value)) → P (o >>= f)
line-value P none None f is all = none
line-value P none (Some value) f is all = all value is

pub kept : (same next : SoFar) → same ≡ next → HaveItems same.elements → HaveItems next.elements
kept same next is all = subst (λ (n : SoFar). HaveItems n.elements) is all

pub words-keep : (new : Bool) (number : ℕ) (bytes : List ℕ) (ws : List (List ℕ)) (so_far next : SoFar) → HaveItems so_far.elements →
    files.with_line new number (spec_lines.said_by bytes ws) so_far ≡ Ok next → HaveItems next.elements
words-keep new number bytes [] so_far next all e = absurd cc
words-keep new number bytes (a ∷ []) so_far next all e = absurd cc
words-keep new number bytes (a ∷ (b ∷ [])) so_far next all e =
    line-then (λ o. files.with_line new number o so_far ≡ Ok next → HaveItems next.elements) (λ none. absurd cc) (spec_lines.header_of a b) _
    (λ header is. kept _ next (unless-ok _ _ _ next is) all) e
words-keep new number bytes (a ∷ (b ∷ (c ∷ []))) so_far next all e =
    line-if (λ o. files.with_line new number o so_far ≡ Ok next → HaveItems next.elements) (λ none. absurd cc) (bytes_eq a (codes "signer")) (spec_lines.as_header (spec_lines.known_signer b c))
    (line-then (λ o. files.with_line new number o so_far ≡ Ok next → HaveItems next.elements) (λ none. absurd cc) (spec_lines.known_signer b c) _
    (λ header is. kept _ next (unless-ok _ _ _ next is) all)) e
words-keep new number bytes (a ∷ (b ∷ (c ∷ (d ∷ rest)))) so_far next all e =
    line-if (λ o. files.with_line new number o so_far ≡ Ok next → HaveItems next.elements) (λ none. absurd cc) (bytes_eq a (codes "element")) (spec_lines.element_of bytes b c d rest)
    (line-then (λ o. files.with_line new number o so_far ≡ Ok next → HaveItems next.elements) (λ none. absurd cc) (name_of b) _ (λ ns.
    line-then (λ o. files.with_line new number o so_far ≡ Ok next → HaveItems next.elements) (λ none. absurd cc) (name_of c) _ (λ name.
    line-value (λ o. files.with_line new number o so_far ≡ Ok next → HaveItems next.elements) (λ none. absurd cc) (value_in bytes d rest) _ (value-said bytes d rest) (λ value item is.
    kept _ next (unless-ok _ _ _ next is) (All-push (λ (x : SpecElement). IsItem x.value) so_far.elements (record { ns = ns; name = name; value = value }) all item))))) e
