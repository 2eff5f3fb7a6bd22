use Rattle.std.proofs.Common.{◌∷◌, ◌++◌, ap, ◌∙◌}
use Rattle.algorithm_policy.proofs.WriteLemmas.{hash_written}
use Rattle.algorithm_policy.proofs.writing.push_hash.Goals as goal

pub returns : goal.returns
returns c =
    rw (← c.in-Some.ensures)
    (hash_written _ _ _ _ c.args.alg c.in-Some.end c.in_ok-extend_from_slice.ensures.items
    (c.in_ok-push_word.ensures ∙ ap (λ w. c.extend_from_slice.new.self.items ++ 32 ∷ w) c.word.ensures) c.in_ok-push_end.ensures)
