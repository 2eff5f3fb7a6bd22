use Rattle.std.proofs.Common.{arith}
use Rattle.tst_info.proofs.InfoLemmas.{tst_found, tst_only}
use Rattle.tst_info.proofs.info.read_tst.Goals as goal

pub returns-clause-found : goal.returns-clause-found
returns-clause-found c = tst_found c.args.bytes.now c.whole_tst.result (λ i. omega (arith, c.type_inv.bytes i)) c.whole_tst.ensures

pub returns-clause-only : goal.returns-clause-only
returns-clause-only c = λ parts m. tst_only c.args.bytes.now c.whole_tst.result c.whole_tst.ensures parts m
