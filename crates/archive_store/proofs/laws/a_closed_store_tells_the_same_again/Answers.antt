use Rattle.std.proofs.Common.{sym}
use Rattle.std.proofs.lemmas.Result.{IfOk-weaker, IfErr-weaker}
use Rattle.archive_store.proofs.Fields.{history_left}
use Rattle.archive_store.proofs.laws.a_closed_store_tells_the_same_again.Goals as goal

pub returns-clause-same : goal.returns-clause-same
returns-clause-same g c =
    IfOk-weaker c.open.result _ _ (λ again is known. sym ((is.history known).only _ (history_left _ _ _ c.requires (c.close.ensures.reads known)))) c.open.ensures.opened

pub returns-clause-unmarked : goal.returns-clause-unmarked
returns-clause-unmarked g c = IfOk-weaker c.open.result _ _ (λ again is. is.unmarked) c.open.ensures.opened

pub returns-clause-outside : goal.returns-clause-outside
returns-clause-outside g c =
    IfErr-weaker c.open.result _ _ (λ e is known. (is known).completes _ (history_left _ _ _ c.requires (c.close.ensures.reads known))) c.open.ensures.unopened
