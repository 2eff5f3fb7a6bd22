use Rattle.token_check.proofs.Once.{fails_once}
use Rattle.token_check.proofs.laws.no_token_fails_two_checks.Goals as goal

pub returns : goal.returns
returns c = fails_once
