use Rattle.std.proofs.Common.{◌<◌, ◌≡◌, length, get_or, refl, arith, bytes_eq, sym, ◌∙◌, ap}
use Rattle.std.proofs.lemmas.List.{length-set}
use Rattle.mdoc_outside.specs.KeyName.{key_text}
use Rattle.cbor_maps.specs.Found.{added, name_at}
use Rattle.cbor_maps.proofs.Walking.{NotedUpTo, noted-more, noted-hit, noted-missed}
use Rattle.cbor_maps.proofs.find.note.Goals.{then-eq, else-eq}
use Rattle.cbor_maps.proofs.find.note.Goals as goal

pub loop-place-preserved : goal.loop-place-preserved
loop-place-preserved c =
    let so_far : NotedUpTo c.loop-place.place c.args.names.now c.args.key.now c.args.value c.args.found.now c.loop-place.found = record { done = c.loop-place.invariant.done; left = c.loop-place.invariant.left } in
    let is_name : c.eq.result ≡ bytes_eq c.args.key.now (key_text (name_at c.args.names.now c.loop-place.place)) = c.eq.ensures ∙ ap (bytes_eq c.args.key.now) (c.as_bytes.ensures.value ∙ c.text.ensures) in
    elim c.if-eq.branch [
      | then-eq w ↦
          let within : c.loop-place.place < length c.loop-place.found = omega arith in
          let is_added : w.added.result ≡ added (get_or c.loop-place.found c.loop-place.place w.index-found-place.result) c.args.value = w.added.ensures in
          let more = noted-more c.loop-place.place c.args.names.now c.args.key.now c.args.value c.args.found.now c.loop-place.found w.added.result (get_or c.loop-place.found c.loop-place.place w.index-found-place.result) w.index-found-place.result so_far within (is_added ∙ noted-hit (name_at c.args.names.now c.loop-place.place) c.args.key.now c.args.value (get_or c.loop-place.found c.loop-place.place w.index-found-place.result) (sym is_name ∙ w.if-eq.true)) refl in
          record { eight = rw (w.found-is) (length-set c.loop-place.found c.loop-place.place w.added.result ∙ c.loop-place.invariant.eight); done = rw (w.found-is) more.done; left = rw (w.found-is) more.left }
      | else-eq w ↦
          let missed = noted-missed c.loop-place.place c.args.names.now c.args.key.now c.args.value c.args.found.now c.loop-place.found so_far (sym is_name ∙ w.if-eq.false) in
          record { eight = rw (w.found-is) c.loop-place.invariant.eight; done = rw (w.found-is) missed.done; left = rw (w.found-is) missed.left }
    ]
