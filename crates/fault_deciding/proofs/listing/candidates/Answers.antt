use Rattle.std.proofs.lemmas.Result.{IfOk-weaker, on_ok_weaker}
use Rattle.fault_deciding.proofs.Listed.{all_listed, all_tested}
use Rattle.fault_deciding.proofs.listing.candidates.Goals as goal

pub returns-clause-all : goal.returns-clause-all
returns-clause-all g c = IfOk-weaker c.possible_faults.result _ _
    (λ list all. all_listed c.args.demands.now c.args.chains.now c.new-bytes.result c.new-bytes.ensures list.items all)
    c.possible_faults.ensures.all

pub returns-clause-found : goal.returns-clause-found
returns-clause-found g c = on_ok_weaker c.possible_faults.result
    (λ all. all_tested c.args.demands.now c.args.chains.now c.new-bytes.result c.new-bytes.ensures all)
    c.possible_faults.ensures.found
