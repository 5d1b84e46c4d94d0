use Rattle.std.proofs.Common.{◌≡◌, ℕ, min, sym, ap, ◌∙◌, subst}
use Rattle.std.specs.Prelude.{OnOk}
use Rattle.std.proofs.lemmas.Result.{err_from_is_err_and}
use Rattle.cbor_view.specs.Tree.{levels, levels_of_all, levels_of_pairs}
use Rattle.cbor_view.specs.Reading.{item_at, items_at, pairs_at, levels_left}
use Rattle.cbor_view.proofs.Steps.{past-item, past-fault, inside-is, array-rest, map-rest, tag-rest, array-left, map-left, tag-left, items-ok, items-err, items-none, items-left, items-left-none, pairs-ok, pairs-none, pairs-err_key, pairs-err_value, pairs-left, pairs-left-none, levels-item}
use Rattle.cbor_view.proofs.walk.+walk.Goals as goal

pub walk-returns-in-Ok-clause-rest : goal.walk-returns-in-Ok-clause-rest
walk-returns-in-Ok-clause-rest t c = rw (past-item c.args.most c.args.bytes.now c.in-Ok.rest.now c.in-Ok.head c.in-Ok.ensures) c.walk_after.ensures.rest

pub walk-returns-in-Ok-clause-left : goal.walk-returns-in-Ok-clause-left
walk-returns-in-Ok-clause-left t c = rw (levels-item c.args.most c.args.fewest.now c.args.bytes.now c.in-Ok.rest.now c.in-Ok.head c.in-Ok.ensures) c.walk_after.ensures.left

pub walk-returns-in-Err-clause-rest : goal.walk-returns-in-Err-clause-rest
walk-returns-in-Err-clause-rest t c = past-fault c.args.most c.args.bytes.now c.in-Err.kind c.in-Err.ensures

pub walk_after-returns-in_err-inside-in-Array-clause-rest : goal.walk_after-returns-in_err-inside-in-Array-clause-rest
walk_after-returns-in_err-inside-in-Array-clause-rest t c = let p = err_from_is_err_and c.from_residual.result c.from_residual.ensures.1 in rw (p.1, p.2) (array-rest c.args.left c.in-Array.count c.args.most c.args.rest.now c.args.head _ c.in-Array.is c.in_err-inside-in-Array.ensures.inside)

pub walk_after-returns-in_ok-inside-in-Array-clause-rest : goal.walk_after-returns-in_ok-inside-in-Array-clause-rest
walk_after-returns-in_ok-inside-in-Array-clause-rest t c = rw (array-rest c.args.left c.in-Array.count c.args.most c.args.rest.now c.args.head _ c.in-Array.is c.in_ok-inside-in-Array.ensures.inside) c.walk_items.ensures.rest

pub walk_after-returns-in_ok-inside-in-Array-clause-left : goal.walk_after-returns-in_ok-inside-in-Array-clause-left
walk_after-returns-in_ok-inside-in-Array-clause-left t c =
    let inside = c.in_ok-inside-in-Array.inside in
    let entered : c.enter.new.fewest ≡ min c.args.fewest.now inside = c.in_ok-inside-in-Array.ensures.left ∙ ap (λ (m : ℕ). min c.args.fewest.now m) (sym (inside-is c.args.left c.in-Array.count c.args.most inside c.in_ok-inside-in-Array.ensures.inside)) in
    rw (array-left c.args.left c.in-Array.count c.args.most c.args.fewest.now inside c.args.rest.now c.args.head c.in-Array.is c.in_ok-inside-in-Array.ensures.inside)
    (subst (λ (m : ℕ). OnOk c.walk_items.result (c.walk_items.new.fewest ≡ levels_left levels_of_all inside m (items_at (item_at inside) c.in-Array.count c.args.rest.now))) entered c.walk_items.ensures.left)

pub walk_after-returns-in_err-inside-in-Map-clause-rest : goal.walk_after-returns-in_err-inside-in-Map-clause-rest
walk_after-returns-in_err-inside-in-Map-clause-rest t c = let p = err_from_is_err_and c.from_residual-in_err-inside-in-Map.result c.from_residual-in_err-inside-in-Map.ensures.1 in rw (p.1, p.2) (map-rest c.args.left c.in-Map.count c.args.most c.args.rest.now c.args.head _ c.in-Map.is c.in_err-inside-in-Map.ensures.inside)

pub walk_after-returns-in_ok-inside-in-Map-clause-rest : goal.walk_after-returns-in_ok-inside-in-Map-clause-rest
walk_after-returns-in_ok-inside-in-Map-clause-rest t c = rw (map-rest c.args.left c.in-Map.count c.args.most c.args.rest.now c.args.head _ c.in-Map.is c.in_ok-inside-in-Map.ensures.inside) c.walk_pairs.ensures.rest

pub walk_after-returns-in_ok-inside-in-Map-clause-left : goal.walk_after-returns-in_ok-inside-in-Map-clause-left
walk_after-returns-in_ok-inside-in-Map-clause-left t c =
    let inside = c.in_ok-inside-in-Map.inside in
    let entered : c.enter-in-Map.new.fewest ≡ min c.args.fewest.now inside = c.in_ok-inside-in-Map.ensures.left ∙ ap (λ (m : ℕ). min c.args.fewest.now m) (sym (inside-is c.args.left c.in-Map.count c.args.most inside c.in_ok-inside-in-Map.ensures.inside)) in
    rw (map-left c.args.left c.in-Map.count c.args.most c.args.fewest.now inside c.args.rest.now c.args.head c.in-Map.is c.in_ok-inside-in-Map.ensures.inside)
    (subst (λ (m : ℕ). OnOk c.walk_pairs.result (c.walk_pairs.new.fewest ≡ levels_left levels_of_pairs inside m (pairs_at (item_at inside) c.in-Map.count c.args.rest.now))) entered c.walk_pairs.ensures.left)

pub walk_after-returns-in_err-inside-in-Tag-clause-rest : goal.walk_after-returns-in_err-inside-in-Tag-clause-rest
walk_after-returns-in_err-inside-in-Tag-clause-rest t c = let p = err_from_is_err_and c.from_residual-in_err-inside-in-Tag.result c.from_residual-in_err-inside-in-Tag.ensures.1 in rw (p.1, p.2) (tag-rest c.args.left c.in-Tag.field-0 c.args.most c.args.rest.now c.args.head _ c.in-Tag.is c.in_err-inside-in-Tag.ensures.inside)

pub walk_after-returns-in_ok-inside-in-Tag-clause-rest : goal.walk_after-returns-in_ok-inside-in-Tag-clause-rest
walk_after-returns-in_ok-inside-in-Tag-clause-rest t c = rw (tag-rest c.args.left c.in-Tag.field-0 c.args.most c.args.rest.now c.args.head _ c.in-Tag.is c.in_ok-inside-in-Tag.ensures.inside) c.walk.ensures.rest

pub walk_after-returns-in_ok-inside-in-Tag-clause-left : goal.walk_after-returns-in_ok-inside-in-Tag-clause-left
walk_after-returns-in_ok-inside-in-Tag-clause-left t c =
    let inside = c.in_ok-inside-in-Tag.inside in
    let entered : c.enter-in-Tag.new.fewest ≡ min c.args.fewest.now inside = c.in_ok-inside-in-Tag.ensures.left ∙ ap (λ (m : ℕ). min c.args.fewest.now m) (sym (inside-is c.args.left 1 c.args.most inside c.in_ok-inside-in-Tag.ensures.inside)) in
    rw (tag-left c.args.left c.in-Tag.field-0 c.args.most c.args.fewest.now inside c.args.rest.now c.args.head c.in-Tag.is c.in_ok-inside-in-Tag.ensures.inside)
    (subst (λ (m : ℕ). OnOk c.walk.result (c.walk.new.fewest ≡ levels_left levels inside m (item_at inside c.args.rest.now))) entered c.walk.ensures.left)

pub walk_items-returns-in_err-rest-clause-rest : goal.walk_items-returns-in_err-rest-clause-rest
walk_items-returns-in_err-rest-clause-rest t c = let p = err_from_is_err_and c.from_residual.result c.from_residual.ensures.1 in rw (p.1, p.2) (sym c.loop-left.invariant.gives ∙ items-err (item_at c.args.most) c.loop-left.left c.loop-left.rest.now _ c.loop-left-test.true c.in_err-rest.ensures.rest)

pub walk_items-loop-left-preserved : goal.walk_items-loop-left-preserved
walk_items-loop-left-preserved t c = record {
  gives = items-ok (item_at c.args.most) c.loop-left.left c.loop-left.rest.now c.in_ok-rest.rest.now c.loop-left-test.true c.in_ok-rest.ensures.rest ∙ c.loop-left.invariant.gives;
  levels = items-left (item_at c.args.most) c.loop-left.left c.args.most c.loop-left.fewest c.walk.new.fewest c.loop-left.rest.now c.in_ok-rest.rest.now c.loop-left-test.true c.in_ok-rest.ensures.rest c.in_ok-rest.ensures.left ∙ c.loop-left.invariant.levels;
}

pub walk_items-returns-clause-rest : goal.walk_items-returns-clause-rest
walk_items-returns-clause-rest t c = sym c.loop-left.invariant.gives ∙ items-none (item_at c.args.most) c.loop-left.left c.loop-left.rest.now c.loop-left-test.false

pub walk_items-returns-clause-left : goal.walk_items-returns-clause-left
walk_items-returns-clause-left t c = items-left-none (item_at c.args.most) c.loop-left.left c.args.most c.loop-left.fewest c.loop-left.rest.now c.loop-left-test.false ∙ c.loop-left.invariant.levels

pub walk_pairs-returns-in_err-value-clause-rest : goal.walk_pairs-returns-in_err-value-clause-rest
walk_pairs-returns-in_err-value-clause-rest t c = let p = err_from_is_err_and c.from_residual.result c.from_residual.ensures.1 in rw (p.1, p.2) (sym c.loop-left.invariant.gives ∙ pairs-err_key (item_at c.args.most) c.loop-left.left c.loop-left.rest.now _ c.loop-left-test.true c.in_err-value.ensures.rest)

pub walk_pairs-returns-in_err-rest-clause-rest : goal.walk_pairs-returns-in_err-rest-clause-rest
walk_pairs-returns-in_err-rest-clause-rest t c = let p = err_from_is_err_and c.from_residual-in_err-rest.result c.from_residual-in_err-rest.ensures.1 in rw (p.1, p.2) (sym c.loop-left.invariant.gives ∙ pairs-err_value (item_at c.args.most) c.loop-left.left c.loop-left.rest.now c.in_ok-value.value.now _ c.loop-left-test.true c.in_ok-value.ensures.rest c.in_err-rest.ensures.rest)

pub walk_pairs-loop-left-preserved : goal.walk_pairs-loop-left-preserved
walk_pairs-loop-left-preserved t c = record {
  gives = pairs-ok (item_at c.args.most) c.loop-left.left c.loop-left.rest.now c.in_ok-value.value.now c.in_ok-rest.rest.now c.loop-left-test.true c.in_ok-value.ensures.rest c.in_ok-rest.ensures.rest ∙ c.loop-left.invariant.gives;
  levels = pairs-left (item_at c.args.most) c.loop-left.left c.args.most c.loop-left.fewest c.walk.new.fewest c.walk-in-loop-left.new.fewest c.loop-left.rest.now c.in_ok-value.value.now c.in_ok-rest.rest.now c.loop-left-test.true c.in_ok-value.ensures.rest c.in_ok-rest.ensures.rest c.in_ok-value.ensures.left c.in_ok-rest.ensures.left ∙ c.loop-left.invariant.levels;
}

pub walk_pairs-returns-clause-rest : goal.walk_pairs-returns-clause-rest
walk_pairs-returns-clause-rest t c = sym c.loop-left.invariant.gives ∙ pairs-none (item_at c.args.most) c.loop-left.left c.loop-left.rest.now c.loop-left-test.false

pub walk_pairs-returns-clause-left : goal.walk_pairs-returns-clause-left
walk_pairs-returns-clause-left t c = pairs-left-none (item_at c.args.most) c.loop-left.left c.args.most c.loop-left.fewest c.loop-left.rest.now c.loop-left-test.false ∙ c.loop-left.invariant.levels
