use Rattle.session_text.proofs.Adding.{early_added}
use Rattle.session_text.proofs.verdict_text.add_early.Goals as goal

pub returns : goal.returns
returns c = early_added _ _ _ _ _ _ _ _ _ _ _ c.in_ok-add_words.ensures c.in_ok-add_moment.ensures c.in_ok-add_words-2.ensures c.add_moment-2.ensures
