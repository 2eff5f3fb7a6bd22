use Rattle.std.proofs.Common.{◌≡◌, ◌+◌, ◌∙◌, ap, length, arith}
use Rattle.object_groups.specs.Groups.{bytes_in}
use Rattle.archive_store.proofs.Laying.{laid_few, counts_more, groups_more, place_more, sum_more}
use Rattle.archive_store.proofs.places.deposit_places.Goals as goal

pub overflow_add-place : goal.overflow_add-place
overflow_add-place c =
    omega (arith, c.loop-group.invariant.place, laid_few c.args.groups.now c.loop-group.group-index c.requires (omega arith))

pub put_places-requires-clause-place : goal.put_places-requires-clause-place
put_places-requires-clause-place c =
    omega (arith, c.loop-group.invariant.place, laid_few c.args.groups.now c.loop-group.group-index c.requires (omega arith))

pub overflow_add-place-in-loop-group-3 : goal.overflow_add-place-in-loop-group-3
overflow_add-place-in-loop-group-3 c =
    let gs = c.args.groups.now in
    let n = c.loop-group.group-index in
    let documents : length c.documents-documents.result.now ≡ length c.group-item.result = ap length c.documents-documents.ensures.documents in
    let size : c.in_ok-size.size ≡ bytes_in c.group-item.result = c.in_ok-size.ensures.size ∙ ap bytes_in c.documents-documents.ensures.documents in
    let next = place_more gs n c.group-item.result c.loop-group-test.true c.group-item.is c.loop-group.place c.in_ok-size.size c.loop-group.invariant.place size in
    omega (arith, next, documents, laid_few gs (n + 1) c.requires (omega arith))

pub loop-group-preserved : goal.loop-group-preserved
loop-group-preserved c =
    let gs = c.args.groups.now in
    let n = c.loop-group.group-index in
    let i = c.loop-group.invariant in
    let g = c.group-item.result in
    let documents : length c.documents-documents.result.now ≡ length g = ap length c.documents-documents.ensures.documents in
    let size : c.in_ok-size.size ≡ bytes_in g = c.in_ok-size.ensures.size ∙ ap bytes_in c.documents-documents.ensures.documents in
    let next = place_more gs n g c.loop-group-test.true c.group-item.is c.loop-group.place c.in_ok-size.size i.place size in
    record {
      counts = counts_more gs n g c.loop-group-test.true c.group-item.is _ _ i.counts (rw (← c.documents-documents.ensures.documents) c.in_ok-push.ensures.items);
      places = groups_more gs n g c.loop-group-test.true c.group-item.is c.loop-group.place _ _ i.place i.places (rw (← c.documents-documents.ensures.documents) c.in_ok-size.ensures.places);
      bytes = sum_more gs n g c.loop-group-test.true c.group-item.is c.loop-group.bytes c.from-bytes.result i.bytes (c.from-bytes.ensures ∙ size);
      place = omega (arith, next, documents);
    }
