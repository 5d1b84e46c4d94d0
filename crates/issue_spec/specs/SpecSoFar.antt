-- What the lines of a spec file say that stand before a line.
use Rattle.std.specs.Prelude.{List, [], length, Bool, ◌==◌, ◌&&◌, Option, Some, None, is_some}
use Rattle.std.specs.List.{list_any}
use Rattle.std.specs.Str.{bytes_eq}
use Rattle.issue_spec.specs.declared.spec_element.SpecElement.{SpecElement}
use Rattle.issue_spec.specs.declared.spec_header.SpecHeader.{SpecHeader}
use Rattle.issue_spec.specs.declared.spec_header.SpecHeader.TheVariants.{DocType, UsesMac, Copies, Signer, Signed, From, Until, Update}
use Rattle.issue_spec.specs.declared.spec_headers.SpecHeaders.{SpecHeaders}

pub record SoFar : Type 0 where
  pub headers : SpecHeaders
  pub elements : List SpecElement

abbrev pub no_headers : SpecHeaders
no_headers = record { doc_type = None; uses_mac = None; copies = None; signer = None; signed = None; from = None; until = None; update = None }

abbrev pub nothing : SoFar
nothing = record { headers = no_headers; elements = [] }

-- whether there is a header of the same keyword
abbrev pub is_given : SpecHeader → SpecHeaders → Bool
is_given (DocType name) h = is_some h.doc_type
is_given (UsesMac mac) h = is_some h.uses_mac
is_given (Copies number) h = is_some h.copies
is_given (Signer signer) h = is_some h.signer
is_given (Signed moment) h = is_some h.signed
is_given (From moment) h = is_some h.from
is_given (Until moment) h = is_some h.until
is_given (Update moment) h = is_some h.update

-- with one header more
abbrev pub with_header : SpecHeader → SpecHeaders → SpecHeaders
with_header (DocType name) h = record h { doc_type = Some name }
with_header (UsesMac mac) h = record h { uses_mac = Some mac }
with_header (Copies number) h = record h { copies = Some number }
with_header (Signer signer) h = record h { signer = Some signer }
with_header (Signed moment) h = record h { signed = Some moment }
with_header (From moment) h = record h { from = Some moment }
with_header (Until moment) h = record h { until = Some moment }
with_header (Update moment) h = record h { update = Some moment }

-- whether all headers are there that have to be
abbrev pub are_complete : SpecHeaders → Bool
are_complete h =
    is_some h.doc_type && is_some h.uses_mac && is_some h.copies && is_some h.signer && is_some h.signed
    && is_some h.from && is_some h.until

abbrev pub is_empty : List SpecElement → Bool
is_empty elements = length elements == 0

abbrev pub is_same_element : SpecElement → SpecElement → Bool
is_same_element a b = bytes_eq a.ns b.ns && bytes_eq a.name b.name

-- whether an element of that namespace and name is there
abbrev pub has_element : List SpecElement → SpecElement → Bool
has_element elements e = list_any (is_same_element e) elements
