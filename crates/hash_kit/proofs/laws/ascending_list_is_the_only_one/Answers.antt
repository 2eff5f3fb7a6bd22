use Rattle.hash_kit.proofs.Order.{ascending-permutation, ascending-sorted, ascending_only}
use Rattle.hash_kit.proofs.laws.ascending_list_is_the_only_one.Goals as goal

pub returns : goal.returns
returns c = record { same = ascending-permutation; ascends = ascending-sorted; only = ascending_only }
