use Rattle.session_text.proofs.RefusalLemmas.{early_added}
use Rattle.session_text.proofs.refusal_text.add_token_early.Goals as goal

pub returns : goal.returns
returns c = early_added _ c.args.token.now c.args.covered.now _ _ _ _ _ c.in_ok-add_words.ensures.ok c.in_ok-add_moment.ensures.ok c.in_ok-add_words-2.ensures.ok c.add_moment-2.ensures.ok
