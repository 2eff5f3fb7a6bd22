use Rattle.std.proofs.Common.{◌++◌, ap, ◌∙◌, subst, sym}
use Rattle.std.specs.Option.{option_map}
use Rattle.der_values.specs.Value.{value, bytes_or_none}
use Rattle.tst_info.specs.Response.{answer_to, Answers}
use Rattle.tst_info.proofs.ResponseReadable.{response_answered, token_seen}
use Rattle.tst_info.proofs.Readable.{if_ok}
use Rattle.tst_info.proofs.response.write_response.Goals as goal

pub returns-clause-read : goal.returns-clause-read
returns-clause-read c =
    let token = option_map (λ b. b.now) c.args.token in
    let contents = c.as_slice.ensures.value ∙ c.in_ok-write_if_there.ensures.ok ∙ ap (λ front. front ++ bytes_or_none token) c.in_ok-contents.ensures in
    if_ok c.tlv_bytes.result
    (λ bytes is. subst (λ b. Answers b (answer_to c.args.status token)) (sym (is ∙ ap (λ content. value 48 content) contents))
    (response_answered c.args.status token c.requires.status (token_seen c.args.token c.requires.token) c.requires.short))
    c.tlv_bytes.ensures.ok
