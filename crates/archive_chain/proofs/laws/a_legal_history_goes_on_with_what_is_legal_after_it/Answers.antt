use Rattle.archive_chain.proofs.Legality.{goes_on, goes_on_but}
use Rattle.archive_chain.proofs.laws.a_legal_history_goes_on_with_what_is_legal_after_it.Goals as goal

pub returns-clause-legal : goal.returns-clause-legal
returns-clause-legal c = goes_on

pub returns-clause-but_imprint : goal.returns-clause-but_imprint
returns-clause-but_imprint c = goes_on_but
