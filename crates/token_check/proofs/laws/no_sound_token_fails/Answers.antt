use Rattle.token_check.proofs.Once.{sound_passes}
use Rattle.token_check.proofs.laws.no_sound_token_fails.Goals as goal

pub returns : goal.returns
returns c = sound_passes
