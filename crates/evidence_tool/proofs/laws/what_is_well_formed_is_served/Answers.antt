use Rattle.evidence_tool.proofs.ServingLemmas.{well_formed_is_served}
use Rattle.evidence_tool.proofs.laws.what_is_well_formed_is_served.Goals as goal

pub returns : goal.returns
returns g c = λ rest source_before source_after status sink sink' old new bytes requests history ended input told holds source quiet disk.
    well_formed_is_served _ rest source_before source_after status bytes requests history ended input told holds source quiet disk
