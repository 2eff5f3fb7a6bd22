use Rattle.std.proofs.Common.{ap, ◌∙◌, subst, sym}
use Rattle.der_values.specs.Value.{value}
use Rattle.tst_info.specs.Request.{request_seen, ReadsRequest}
use Rattle.tst_info.proofs.RequestReadable.{request_read_again}
use Rattle.tst_info.proofs.Readable.{if_ok}
use Rattle.tst_info.proofs.request.write_request.Goals as goal

pub returns-clause-read : goal.returns-clause-read
returns-clause-read c =
    let contents = c.as_slice.ensures.value ∙ c.in_ok-contents.ensures in
    let parts = request_seen c.args.request.now in
    if_ok c.tlv_bytes.result (λ bytes is. subst (λ b. ReadsRequest b parts) (sym (is ∙ ap (λ content. value 48 content) contents)) (request_read_again parts c.requires)) c.tlv_bytes.ensures.ok
