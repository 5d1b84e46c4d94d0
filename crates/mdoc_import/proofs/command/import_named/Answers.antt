-- The exits after all files are opened.
use Rattle.std.proofs.Common.{Ok, Some, inr, refl, subst, sym, to_z-of_z}
use Rattle.doc_store.specs.StoreView.{bytes_of_file}
use Rattle.mdoc_frame.specs.Asking.{Sources, reader_sources}
use Rattle.mdoc_frame.specs.Content.{store_file}
use Rattle.mdoc_import.specs.Import.{import_of}
use Rattle.mdoc_frame.specs.World.{World, world}
use Rattle.mdoc_frame.specs.declared.status.Status.{Status}
use Rattle.mdoc_frame.specs.declared.status.Status.TheVariants as statuses
use Rattle.mdoc_import.proofs.ImportLemmas.{ImportWorks, ReaderAlone, import_came, import_failed}
use Rattle.mdoc_frame.proofs.EndLemmas.{wants}
use Rattle.mdoc_frame.proofs.StepLemmas.{on}
use Rattle.mdoc_import.proofs.command.import_named.Goals as goal

pub returns-in-Err-import_package-clause-does : goal.returns-in-Err-import_package-clause-does
returns-in-Err-import_package-clause-does g c wallet words wallet_faults dice_faults =
    let from : Sources = reader_sources wallet words wallet_faults dice_faults g.E.KeyDevice.faults c.args.device.now in
    let to : Sources = reader_sources wallet words wallet_faults dice_faults g.E.KeyDevice.faults c.import_package.new.device in
    let alone : ReaderAlone from to = record { wallet = refl; words = refl; wallet_faults = refl; dice_faults = refl } in
    let opened : World = world (g.C.Cabinet.state c.read_store.new.cabinet) (g.O.Sink.state c.args.out.now) in
    let own = store_file (bytes_of_file c.in-Ok-read_store.own) in
    let received = store_file (bytes_of_file c.in-Ok.received.file) in
    let failed = import_failed c.args.names.store.now c.in-Ok-read_file.roots c.args.moment own received from to alone c.in-Err-import_package.fault
    (rw (c.store.ensures.read, c.store-2.ensures.read, to_z-of_z c.ranges.moment) at c.in-Err-import_package.ensures.asked) c.in-Err-import_package.ensures.cause opened in
    inr (on _ _ _ _ _ _ c.in-Ok.ensures (inr (on _ _ _ _ _ _ c.in-Ok-read_file.ensures (inr (on _ _ _ _ _ _ c.in-Ok-read_store.ensures
    (subst (λ (s : Status). ImportWorks c.args.names.store.now c.in-Ok-read_file.roots c.args.moment own received from to alone opened opened s) (sym c.status_of.ensures) failed))))))

pub returns-in_default-clause-does : goal.returns-in_default-clause-does
returns-in_default-clause-does g c wallet words wallet_faults dice_faults =
    let from : Sources = reader_sources wallet words wallet_faults dice_faults g.E.KeyDevice.faults c.args.device.now in
    let to : Sources = reader_sources wallet words wallet_faults dice_faults g.E.KeyDevice.faults c.import_package.new.device in
    let alone : ReaderAlone from to = record { wallet = refl; words = refl; wallet_faults = refl; dice_faults = refl } in
    let opened : World = world (g.C.Cabinet.state c.read_store.new.cabinet) (g.O.Sink.state c.args.out.now) in
    let own = store_file (bytes_of_file c.in-Ok-read_store.own) in
    let received = store_file (bytes_of_file c.in-Ok.received.file) in
    inr (on _ _ _ _ _ _ c.in-Ok.ensures (inr (on _ _ _ _ _ _ c.in-Ok-read_file.ensures (inr (on _ _ _ _ _ _ c.in-Ok-read_store.ensures
    (import_came c.args.names.store.now c.in-Ok-read_file.roots c.args.moment own received from to alone c.in-Ok-import_package.imported
    (rw (c.store.ensures.read, c.store-2.ensures.read, to_z-of_z c.ranges.moment) at c.in-Ok-import_package.ensures.asked) c.in-Ok-import_package.ensures.cause opened opened statuses.Memory
    (wants (import_of c.args.names.store.now (Some (Ok c.in-Ok-import_package.imported))).files _ _ opened)))))))

pub returns-clause-does : goal.returns-clause-does
returns-clause-does g c wallet words wallet_faults dice_faults =
    let from : Sources = reader_sources wallet words wallet_faults dice_faults g.E.KeyDevice.faults c.args.device.now in
    let to : Sources = reader_sources wallet words wallet_faults dice_faults g.E.KeyDevice.faults c.import_package.new.device in
    let alone : ReaderAlone from to = record { wallet = refl; words = refl; wallet_faults = refl; dice_faults = refl } in
    let opened : World = world (g.C.Cabinet.state c.read_store.new.cabinet) (g.O.Sink.state c.args.out.now) in
    let own = store_file (bytes_of_file c.in-Ok-read_store.own) in
    let received = store_file (bytes_of_file c.in-Ok.received.file) in
    inr (on _ _ _ _ _ _ c.in-Ok.ensures (inr (on _ _ _ _ _ _ c.in-Ok-read_file.ensures (inr (on _ _ _ _ _ _ c.in-Ok-read_store.ensures
    (import_came c.args.names.store.now c.in-Ok-read_file.roots c.args.moment own received from to alone c.in-Ok-import_package.imported
    (rw (c.store.ensures.read, c.store-2.ensures.read, to_z-of_z c.ranges.moment) at c.in-Ok-import_package.ensures.asked) c.in-Ok-import_package.ensures.cause opened _ c.finish.result c.finish.ensures))))))
