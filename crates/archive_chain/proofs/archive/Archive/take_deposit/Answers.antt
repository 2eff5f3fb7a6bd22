use Rattle.std.proofs.Common.{arith}
use Rattle.archive_chain.proofs.Copying.{few_documents}
use Rattle.archive_chain.proofs.archive.Archive.take_deposit.Goals as goal

pub past_limits-requires-clause-documents : goal.past_limits-requires-clause-documents
past_limits-requires-clause-documents c =
    let deposit = c.requires.deposit in
    let many = few_documents deposit.0 deposit.1.each in
    let few = deposit.1.few in
    let is = deposit.2.documents_are in
    omega (arith, many, few, is)
