use Rattle.std.proofs.Common.{refl}
use Rattle.cms_signed.specs.Signed.{signed_seen}
use Rattle.tst_info.specs.Info.{tst_seen}
use Rattle.token_check.specs.Fault.{Fails}
use Rattle.token_check.proofs.Answered.{check_blames}
use Rattle.token_check.proofs.Trust.{trust_blames}
use Rattle.token_check.proofs.token.checked.Goals as goal

pub returns-in-Err-clause-fault : goal.returns-in-Err-clause-fault
returns-in-Err-clause-fault c =
    trust_blames c.args.policy.now c.args.bytes.now (signed_seen c.in_ok-signed.signed) (tst_seen c.in_ok-info.info) (record { is_signed = c.in_ok-signed.ensures.signed; content = c.in_ok-info.ensures.read }) c.in-Err.fault c.in-Err.ensures.fault

pub returns-in-Ok-clause-sound : goal.returns-in-Ok-clause-sound
returns-in-Ok-clause-sound c = record {
  signed = signed_seen c.in_ok-signed.signed;
  info = tst_seen c.in_ok-info.info;
  read = record { is_signed = c.in_ok-signed.ensures.signed; content = c.in_ok-info.ensures.read };
  trusted = c.in-Ok.ensures.trusted;
  says = refl;
}

pub returns-in_err-signed-clause-fault : goal.returns-in_err-signed-clause-fault
returns-in_err-signed-clause-fault c =
    check_blames (Fails c.args.policy.now c.args.bytes.now) c.from_residual.result c.in_err-signed.field-0.0 c.from_residual.ensures.1 (c.in_err-signed.ensures.fault c.args.policy.now)
