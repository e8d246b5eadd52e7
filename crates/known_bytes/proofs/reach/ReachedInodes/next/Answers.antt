use Rattle.std.proofs.Common.{◌≡◌, ℕ, ◌<◌, Option, Some, None, MatchOption, IfSome, bit_and}
use Rattle.patch_sets.specs.Sets.{Has}
use Rattle.patch_sets.specs.Ends.{IsLowest}
use Rattle.fs_check.proofs.Reaching.{and_in}
use Rattle.known_bytes.proofs.reach.ReachedInodes.next.Goals as goal

pub returns-in-Some : goal.returns-in-Some
returns-in-Some c =
    let found = c.in-Some.ensures.found in
    let parts = and_in c.args.self.now.sure c.args.unread c.in-Some.dir found.inside in
    (c.requires c.in-Some.dir parts.0, parts.1, c.in-Some.ensures.within)

pub returns-in-None : goal.returns-in-None
returns-in-None c = among c.lowest-in-None.result c.args.self.now.may c.args.unread
    c.lowest-in-None.ensures.found c.lowest-in-None.ensures.within
  where
    among : (o : Option ℕ) (may unread : ℕ) → MatchOption o (bit_and may unread ≡ 0)
        (λ id. IsLowest (bit_and may unread) id)
        → IfSome o (λ id. id < 128)
        → MatchOption o (bit_and may unread ≡ 0) (λ dir. Has may dir × Has unread dir × (dir < 128))
    among None may unread is within = is
    among (Some id) may unread is within = let parts = and_in may unread id is.inside in (parts.0, parts.1, within)
