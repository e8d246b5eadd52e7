use Rattle.fs_check.proofs.Reaching.{strict_two}
use Rattle.fs_check.proofs.strict.push_strict.Goals as goal

pub returns : goal.returns
returns g c = strict_two c.args.image.now c.args.kept c.args.found.now.items c.push_lost.new.found.items
    c.push_bare.new.found.items
    c.in_ok-push_lost.ensures c.in_ok-push_bare.ensures
