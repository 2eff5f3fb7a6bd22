use Rattle.token_check.proofs.Decided.{token_decided}
use Rattle.token_check.proofs.laws.each_token_is_sound_or_fails_a_check.Goals as goal

pub returns : goal.returns
returns c = token_decided
