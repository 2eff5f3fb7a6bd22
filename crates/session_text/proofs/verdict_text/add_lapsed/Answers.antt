use Rattle.session_text.proofs.Adding.{lapsed_added}
use Rattle.session_text.proofs.verdict_text.add_lapsed.Goals as goal

pub returns : goal.returns
returns c = lapsed_added c.args.lapse.now _ _ _ _ _ _ _ _ _ _ _ _ _ c.in_ok-add_of_stamp.ensures c.in_ok-add_words.ensures c.in_ok-add_words-2.ensures c.in_ok-add_words-3.ensures c.add_moment.ensures c.cause_name.ensures.name c.cause_name.ensures.most
