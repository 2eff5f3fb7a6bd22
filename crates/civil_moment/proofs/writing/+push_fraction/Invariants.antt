use Rattle.civil_moment.proofs.writing.+push_fraction.Given as goal

abbrev pub decreases-push_fraction : goal.decreases-push_fraction
decreases-push_fraction l = l.count
