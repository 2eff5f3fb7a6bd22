use Rattle.std.proofs.Common.{◌≡◌, arith, Ok, Err}
use Rattle.entry_codec.specs.Fault.{document_form, after_document}
use Rattle.entry_codec.specs.Inside.{read_at, place_of}
use Rattle.entry_codec.proofs.Repeats.{failed, refused}
use Rattle.entry_codec.proofs.Placing.{documents_begun, one_more_document, documents_taken}
use Rattle.entry_codec.proofs.deposit.documents.Goals as goal

pub loop-further-init : goal.loop-further-init
loop-further-init c = documents_begun c.args.count c.args.room c.args.payload.now c.args.places.now.items

pub returns-in_err-document-clause-fault : goal.returns-in_err-document-clause-fault
unfolding document_form
returns-in_err-document-clause-fault c =
    let s = c.loop-further.invariant in
    let wrong : read_at (document_form c.loop-further.left) c.loop-further.payload ≡ Err (place_of c.in_err-document.field-0.0) = rw (← c.min.ensures) c.in_err-document.ensures.fault in
    refused c.from_residual.result _ _ c.from_residual.ensures.1
    (failed (λ n. document_form) after_document c.args.count c.args.room c.args.payload.now s.documents c.loop-further.further c.loop-further.left c.loop-further.payload _ s.so_far (omega arith) wrong)

pub overflow_cast-place : goal.overflow_cast-place
overflow_cast-place c =
    let s = c.loop-further.invariant in
    let number = s.number in
    let left = s.left_is in
    let place = s.place_is in
    let few = c.requires.few in
    let small = c.requires.place in
    let fits = c.in_ok-document.ensures.fits in
    let next = c.in_ok-document.ensures.place in
    omega (arith, c.place.ensures, c.min.ensures)

pub loop-further-preserved : goal.loop-further-preserved
unfolding document_form
loop-further-preserved c =
    let read : read_at (document_form c.loop-further.left) c.loop-further.payload ≡ Ok (c.in_ok-document.document.now, c.counted.new.self) = rw (← c.min.ensures) c.in_ok-document.ensures.ok in
    let fits = c.in_ok-document.ensures.fits in
    one_more_document c.args.count c.args.room c.args.payload.now c.args.places.now.items c.loop-further.places.items c.loop-further.further c.loop-further.left c.loop-further.payload
    c.in_ok-document.document.now c.counted.new.self _ _ c.loop-further.invariant (omega arith) read (omega (arith, c.min.ensures)) c.in_ok-document.ensures.place (omega (arith, c.place.ensures)) c.in_ok-push.ensures.items

pub returns-clause-ok : goal.returns-clause-ok
returns-clause-ok c =
    documents_taken c.args.count c.args.room c.args.payload.now c.args.places.now.items c.loop-further.places.items c.loop-further.further c.loop-further.left c.loop-further.payload c.loop-further.invariant (omega arith)
