-- What is reached in the space of a graph, and which of it is bad.
use Rattle.std.proofs.Common.{◌≡◌, ℕ, List, subst}
use Rattle.std.specs.Prelude.{◌↔◌}
use Rattle.state_space.specs.Reach.{IsReached}
use Rattle.state_space.specs.Counts.{HoldsOf, Outnumbers}
use Rattle.state_space.proofs.Counting.{number_like, outnumbers_like}
use Rattle.patch_sets.specs.Sets.{AreAllInOrder}
use Rattle.patch_sets.specs.Closed.{AreEarlier, IsClosed}
use Rattle.patch_sets.specs.Ready.{successors_of}
use Rattle.patch_sets.proofs.Successors.{reached_closed, closed_reached}
use Rattle.crash_model.specs.Disk.{Disk}
use Rattle.crash_model.specs.Patches.{deps_of, CountsClosed, ExceedsLimit}
use Rattle.crash_model.specs.Checker.{Demands, IsFailingUnder}
use Rattle.crash_model.specs.declared.patches.Patch.{Patch}
use Rattle.crash_image.specs.Moves.{AreOver, Crashes, IsGood}

-- what is reached from the empty set
abbrev pub Reached : Crashes → ℕ → Type 0
Reached c = IsReached (successors_of (deps_of c.patches)) 0

-- the patches of a space depend on earlier ones
pub earlier_of : (c : Crashes) (base : Disk) (patches : List Patch) (demands : Demands)
    → (let d : Crashes = record { base = base; patches = patches; demands = demands } in d) ≡ c → AreOver base patches
    → AreEarlier (deps_of c.patches)
earlier_of c base patches demands is over =
    subst (λ (d : Crashes). AreEarlier (deps_of d.patches)) is over.graph.earlier

module _ (c : Crashes) (earlier : AreEarlier (deps_of c.patches)) where
  pub reach_closed : (set : ℕ) → Reached c set ↔ IsClosed (deps_of c.patches) set
  reach_closed set = (reached_closed (deps_of c.patches) set, closed_reached (deps_of c.patches) earlier set)

  pub closed_number : (n : ℕ) → HoldsOf (Reached c) n → CountsClosed c.patches n
  closed_number = number_like (Reached c) (IsClosed (deps_of c.patches)) (λ set. (reach_closed set).0)
      (λ set. (reach_closed set).1)

  pub closed_more : (limit : ℕ) → Outnumbers (Reached c) limit → ExceedsLimit c.patches limit
  closed_more = outnumbers_like (Reached c) (IsClosed (deps_of c.patches)) (λ set. (reach_closed set).0)
      (λ set. (reach_closed set).1)

  bad_failing : (set : ℕ) → (Reached c set × ¬ (IsGood c set)) ↔ IsFailingUnder c.demands c.base c.patches set
  bad_failing set = (
    λ bad. record { closed = (reach_closed set).0 bad.0; unclean = bad.1 },
    λ fails. ((reach_closed set).1 fails.closed, fails.unclean),
  )

-- a list of all sets with a property is one of all sets with a property that holds of the same
all_like : (P Q : ℕ → Type 0) → ((set : ℕ) → P set ↔ Q set) → (sets : List ℕ) → AreAllInOrder P sets
    → AreAllInOrder Q sets
all_like P Q same sets all = record {
  ordered = all.ordered;
  exactly = λ set. (λ is. (same set).0 ((all.exactly set).0 is), λ q. (all.exactly set).1 ((same set).1 q));
}

pub bad_list : (c : Crashes) → AreEarlier (deps_of c.patches) → (sets : List ℕ)
    → AreAllInOrder (λ set. Reached c set × ¬ (IsGood c set)) sets
    → AreAllInOrder (IsFailingUnder c.demands c.base c.patches) sets
bad_list c earlier = all_like (λ set. Reached c set × ¬ (IsGood c set)) (IsFailingUnder c.demands c.base c.patches)
    (bad_failing c earlier)
