use Rattle.entry_codec.specs.Spelling.{IsEntry}
use Rattle.archive_chain.proofs.tests.after_deposits.Given as goal

abbrev pub invariant-loop : goal.invariant-loop
invariant-loop l = IsEntry l.deposit
