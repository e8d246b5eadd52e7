use Rattle.known_bytes.proofs.ListedSets.{all_listed, all_there}
use Rattle.known_bytes.proofs.laws.a_set_has_the_faults_of_its_list.Goals as goal

pub returns-clause-listed : goal.returns-clause-listed
returns-clause-listed c = all_listed

pub returns-clause-all : goal.returns-clause-all
returns-clause-all c = all_there
