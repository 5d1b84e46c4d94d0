use Rattle.std.proofs.Common.{rules, ap, ◌∙◌, subst, ◌≡◌, List, ℕ, length, ◌<◌, ◌^◌}
use Rattle.cbor_view.specs.Spelling.{AreBytes}
use Rattle.issuer_items.specs.Item.{Item, item}
use Rattle.issuer_items.specs.WrittenItem.{item_map}
use Rattle.issuer_items.proofs.ItemWritten.{item-written, item-of-view}
use Rattle.issuer_items.proofs.written.write_item.Goals as goal

pub returns-clause-written : goal.returns-clause-written
returns-clause-written c = search rules

pub returns-clause-read : goal.returns-clause-read
returns-clause-read c =
    let it : Item = record { digest_id = c.args.id; random = c.args.salt.now; name = c.args.name.now; value = c.args.value.slice.now } in
    let map : c.as_slice.result.now ≡ item_map it = c.as_slice.ensures ∙ c.in_ok-map.ensures.written ∙ ap (λ (v : List ℕ). item_map (record { digest_id = c.args.id; random = c.args.salt.now; name = c.args.name.now; value = v })) c.raw-spelled.ensures in
    let each = subst (λ (v : List ℕ). AreBytes v) c.raw-spelled.ensures c.write_map.ensures.value in
    ap item (returns-clause-written c) ∙ item-written it (record {
      digest_id = c.ranges.id.fits;
      random = c.in_ok-map.ensures.salt;
      name = c.in_ok-map.ensures.name;
      text = c.utf8.name;
      value = item-of-view c.args.value.slice.now each c.args.value.spelled c.requires;
      short = subst (λ (x : List ℕ). length x < 2 ^ 32) map c.in_ok-bytes.ensures.short;
    })
