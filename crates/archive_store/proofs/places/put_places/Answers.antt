use Rattle.std.proofs.Common.{◌≡◌, length, ap, arith}
use Rattle.archive_store.proofs.Laying.{document_more, bytes_more}
use Rattle.archive_store.proofs.places.put_places.Goals as goal

pub loop-document-preserved : goal.loop-document-preserved
loop-document-preserved c =
    let i = c.loop-document.invariant in
    let bytes = bytes_more c.args.documents.now c.loop-document.document-index c.document-item.result c.loop-document-test.true c.document-item.is in
    let same : length c.as_slice.result.now ≡ length c.document-item.result = ap length c.as_slice.ensures in
    record {
      places = document_more c.args.documents.now c.loop-document.document-index c.document-item.result c.args.place c.loop-document.size c.loop-document.next _ _ _
          c.loop-document-test.true c.document-item.is i.size i.next i.places (rw (← c.as_slice.ensures) c.in_ok-push.ensures.items);
      size = omega (arith, bytes, i.size, same);
      next = omega (arith, i.next);
    }
