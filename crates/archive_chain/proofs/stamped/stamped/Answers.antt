use Rattle.std.proofs.Common.{List, ℕ, sym, ap, subst, ◌∙◌}
use Rattle.std.specs.Prelude.{IfErr}
use Rattle.token_check.specs.Sound.{Sound, stamp_seen}
use Rattle.hash_tree.specs.Tree.{tree_root}
use Rattle.hash_tree.specs.Levels.{Covered}
use Rattle.archive_chain.specs.Rules.{Stamps, TokenBreaks}
use Rattle.archive_chain.specs.InsideToken.{Refuses}
use Rattle.archive_chain.proofs.Tokens.{handed_on}
use Rattle.archive_chain.proofs.stamped.stamped.Goals as goal

pub returns-clause-made : goal.returns-clause-made
returns-clause-made c =
    let k = c.in_ok-stamp.ensures in
    let token_is = k.token_is ∙ c.in_ok-says.ensures.token in record {
      alg_is = k.alg_is;
      token_is = token_is;
      tree_alg = ap (λ (t : Covered). t.alg) k.tree_is ∙ c.in_ok-tree.ensures.0;
      tree_leaves = ap (λ (t : Covered). t.leaves) k.tree_is ∙ c.in_ok-tree.ensures.1;
      said = record {
        says = stamp_seen c.in_ok-says.says;
        sound = subst (λ (token : List ℕ). Sound c.args.policy.now token (stamp_seen c.in_ok-says.says)) (sym token_is) c.in_ok-says.ensures.sound;
        hash_is = c.in_ok-says.ensures.hash ∙ sym k.alg_is;
        time_is = sym k.time_is;
        sid_is = sym k.sid_is;
      };
    }

pub returns-clause-keeps : goal.returns-clause-keeps
returns-clause-keeps c = λ covered latest.
    let r = c.in_ok-says.ensures.keeps covered latest in
    let root = c.root.ensures ∙ (λ i. tree_root (c.in_ok-tree.ensures.0 i) (c.in_ok-tree.ensures.1 i)) in record {
      says = stamp_seen c.in_ok-says.says;
      sound = r.sound;
      imprint = subst (λ (l : List ℕ). Stamps (stamp_seen c.in_ok-says.says) c.args.alg l) root r.imprint;
      not_early = r.not_early;
    }

pub returns-in_err-says-clause-breaks : goal.returns-in_err-says-clause-breaks
returns-in_err-says-clause-breaks c = λ covered latest.
    let root = c.root.ensures ∙ (λ i. tree_root (c.in_ok-tree.ensures.0 i) (c.in_ok-tree.ensures.1 i)) in
    subst (λ (l : List ℕ). IfErr c.from_residual-in_err-says.result (Refuses (TokenBreaks c.args.policy.now c.args.alg l covered c.args.token.now))) root
    (handed_on (Refuses (TokenBreaks c.args.policy.now c.args.alg c.root.result covered c.args.token.now)) _ _ c.from_residual-in_err-says.ensures.1 (c.in_err-says.ensures.breaks covered latest))
