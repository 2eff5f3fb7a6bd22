use Rattle.civil_moment.proofs.FirstFault.{no_fault}
use Rattle.civil_moment.proofs.Said.{said}
use Rattle.civil_moment.proofs.laws.a_text_without_a_fault_says_a_moment.Goals as goal

pub returns : goal.returns
returns c = λ text. (said text, λ says. no_fault text says.0 says.1)
