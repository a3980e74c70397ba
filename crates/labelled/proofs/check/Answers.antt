-- `labelled::check` meets its contract: what the search of the file has counted.
use Rattle.sfdu.specs.Check.{check_labelled}
use Rattle.labelled.proofs.Seen.{counts_so_many}
use Rattle.labelled.proofs.check.Goals as goal

pub returns : goal.returns
unfolding check_labelled
returns c = counts_so_many _ _ _ c.in_ok-seen.ensures.sees
