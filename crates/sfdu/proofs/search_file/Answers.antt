-- `sfdu::search_file` meets its contract: the nested search of the whole file.
use Rattle.sfdu.proofs.Checking.{whole_file}
use Rattle.sfdu.proofs.search_file.Goals as goal

pub returns-clause-sees : goal.returns-clause-sees
returns-clause-sees c = whole_file c.args.versions c.args.file.now _ _ c.if-file-gt-LARGEST_FILE.false c.search_part.ensures
