use Rattle.std.proofs.Common.{refl}
use Rattle.archive_chain.proofs.Making.{deposit_fit}
use Rattle.archive_chain.proofs.archive.Archive.deposit.Goals as goal

pub returns : goal.returns
returns c =
    let counts = c.counts_of.result in record {
      fits = (deposit_fit c.args.self.now c.args.groups.now counts.groups counts.documents counts.bytes c.counts_of.ensures.counted c.requires.shape, (c.args.groups.now, refl, c.counts_of.ensures.counted));
      leaves_are = refl;
      keeps = tt;
    }
