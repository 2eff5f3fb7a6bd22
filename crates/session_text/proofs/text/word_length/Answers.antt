use Rattle.std.proofs.Common.{◌∙◌, sym}
use Rattle.session_text.specs.Words.{ends_word}
use Rattle.session_text.proofs.WordEnd.{found, within, none}
use Rattle.session_text.proofs.text.word_length.Goals as goal

pub returns-in-Some-clause-length : goal.returns-in-Some-clause-length
returns-in-Some-clause-length c = found ends_word c.args.bytes.now c.in-Some.length (sym c.word_end.ensures ∙ c.in-Some.is)

pub returns-in-Some-clause-within : goal.returns-in-Some-clause-within
returns-in-Some-clause-within c = within ends_word c.args.bytes.now c.in-Some.length (sym c.word_end.ensures ∙ c.in-Some.is)

pub returns-in-None-clause-length : goal.returns-in-None-clause-length
returns-in-None-clause-length c = none ends_word c.args.bytes.now (sym c.word_end.ensures ∙ c.in-None.is)
