use Rattle.std.proofs.Common.{ap, ◌∙◌}
use Rattle.der_values.specs.Value.{value}
use Rattle.tst_info.specs.Info.{tst_seen}
use Rattle.tst_info.proofs.InfoReadable.{tst_read_again}
use Rattle.tst_info.proofs.Readable.{if_ok}
use Rattle.tst_info.proofs.info.write_tst.Goals as goal

pub returns-clause-read : goal.returns-clause-read
returns-clause-read c =
    let contents = c.as_slice-2.ensures.value ∙ c.in_ok-contents.ensures in
    if_ok c.tlv_bytes.result (λ bytes is. tst_read_again bytes.items (tst_seen c.args.info.now) c.requires (record {
      text = c.as_slice.result.now;
      said = rw c.as_slice.ensures.value c.in_ok-time.ensures.text;
      is = is ∙ ap (λ content. value 48 content) contents;
    })) c.tlv_bytes.ensures.ok
