use Rattle.token_check.proofs.Once.{says_once}
use Rattle.token_check.proofs.laws.no_token_says_two_things.Goals as goal

pub returns : goal.returns
returns c = says_once
