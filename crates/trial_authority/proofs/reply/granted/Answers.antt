use Rattle.std.proofs.Common.{length, Some, sym, ap, subst, ◌∙◌, arith}
use Rattle.tst_info.specs.Response.{IsToken}
use Rattle.trial_authority.proofs.Spelled.{is_token, token_short, response_short}
use Rattle.trial_authority.proofs.reply.granted.Goals as goal

pub write_response-requires-clause-token : goal.write_response-requires-clause-token
write_response-requires-clause-token c =
    subst IsToken (sym (c.deref.ensures.value ∙ c.in_ok-token.ensures)) (is_token c.args.key.now.seed c.args.index c.in_ok-info.info.items c.in_ok-info.ensures.short)

pub write_response-requires-clause-short : goal.write_response-requires-clause-short
write_response-requires-clause-short c =
    omega (
      arith,
      response_short 0 (Some c.deref.result.now) 13488 (omega (
        arith,
        ap length (c.deref.ensures.value ∙ c.in_ok-token.ensures),
        token_short c.args.key.now.seed c.args.index c.in_ok-info.info.items c.in_ok-info.ensures.short,
      )),
    )
