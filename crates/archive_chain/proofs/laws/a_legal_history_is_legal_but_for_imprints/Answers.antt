use Rattle.archive_chain.proofs.Legality.{but_imprint}
use Rattle.archive_chain.proofs.laws.a_legal_history_is_legal_but_for_imprints.Goals as goal

pub returns : goal.returns
returns c = but_imprint
