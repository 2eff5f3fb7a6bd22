use Rattle.archive_chain.proofs.Legality.{taken_legal, taken_but_imprint}
use Rattle.archive_chain.proofs.laws.what_an_archive_takes_is_legal.Goals as goal

pub returns-clause-legal : goal.returns-clause-legal
returns-clause-legal c = taken_legal

pub returns-clause-but_imprint : goal.returns-clause-but_imprint
returns-clause-but_imprint c = taken_but_imprint
