use Rattle.hash_tree.proofs.FoldLemmas.{each_folds}
use Rattle.hash_tree.proofs.laws.each_path_folds_to_the_root.Goals as goal

pub returns : goal.returns
returns c = each_folds
