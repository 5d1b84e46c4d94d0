use Rattle.std.proofs.Common.{rules, ap, ◌∙◌, subst, ◌≡◌, List, ℕ, length, ◌<◌, ◌^◌}
use Rattle.mso_digests.specs.DraftView.{fields_of}
use Rattle.mso_digests.specs.Object.{object}
use Rattle.mso_digests.specs.Written.{Draft, object_map}
use Rattle.mso_digests.proofs.WrittenObject.{object-written}
use Rattle.mso_digests.proofs.written.write_mso.Goals as goal

pub returns-clause-written : goal.returns-clause-written
returns-clause-written c = search rules

pub returns-clause-read : goal.returns-clause-read
returns-clause-read c =
    let d : Draft = fields_of c.args.draft.now in
    let map : c.as_slice.result.now ≡ object_map d = c.as_slice.ensures ∙ c.in_ok-map.ensures.written in
    ap object (returns-clause-written c) ∙ object-written d (record {
      digests = record { fit = c.in_ok-map.ensures.spelling; once = c.requires.once; few = c.in_ok-map.ensures.few };
      key = record { x = c.has_length.ensures; y = c.has_length-2.ensures };
      years = c.requires.years;
      doc_short = c.in_ok-map.ensures.doc_type;
      doc_text = c.is_text.ensures;
      short = subst (λ (x : List ℕ). length x < 2 ^ 32) map c.in_ok-bytes.ensures.short;
    })
