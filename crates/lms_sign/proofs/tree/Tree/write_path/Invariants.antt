use Rattle.std.proofs.Common.{◌≡◌, ◌+◌, ◌/◌, ◌^◌, ◌++◌}
use Rattle.lms_verify.specs.Ots.{joined}
use Rattle.lms_sign.specs.Lms.{leaves_of, node, sibling_of}
use Rattle.lms_sign.proofs.tree.Tree.write_path.Given as goal

abbrev pub invariant-loop-level : goal.invariant-loop-level
invariant-loop-level l = record {
  written : l.out.items ≡ l.fn.out.items ++ joined (λ i. node l.self (sibling_of ((leaves_of l.self + l.leaf) / 2 ^ i))) l.level;
  at : l.r ≡ (leaves_of l.self + l.leaf) / 2 ^ l.level;
}
