-- Answers made of answers, where they are accepted.
use Rattle.std.proofs.Common.{◌≡◌, ℕ, List, Bool, true, false, Option, Some, None, Result, Ok, Err, refl, sym, ◌∙◌, ap}
use Rattle.std.specs.Prelude.{is_some, not}
use Rattle.std.proofs.lemmas.Bool.{eqb-true}
use Rattle.crash_model.specs.Disk.{Disk}
use Rattle.crash_model.specs.Layout.{kind_of, target_of}
use Rattle.crash_model.specs.Plan.{entry_named, walk_end, then_ok, unless, with_found, directory_named, at_path}
use Rattle.crash_model.specs.declared.refusals.FsFault.{FsFault}
use Rattle.crash_model.specs.declared.refusals.FsFault.TheVariants.{NotFound}
use Rattle.crash_model.specs.declared.names.Path.{Path}

pub then_ok-ok : {A B : Type 0} (r : Result A FsFault) (next : A → Result B FsFault) (y : B) → then_ok r next ≡ Ok y
    → (x : A) × (r ≡ Ok x) × (next x ≡ Ok y)
then_ok-ok (Ok x) next y e = (x, refl, e)
then_ok-ok (Err f) next y e = cc

-- the test is false
pub unless-ok : {B : Type 0} (test : Bool) (fault : FsFault) (answer : Result B FsFault) (y : B)
    → unless test fault answer ≡ Ok y → (test ≡ false) × (answer ≡ Ok y)
unless-ok true fault answer y e = cc
unless-ok false fault answer y e = (refl, e)

-- something is found
pub with_found-ok : {A B : Type 0} (found : Option A) (fault : FsFault) (answer : A → Result B FsFault) (y : B)
    → with_found found fault answer ≡ Ok y → (x : A) × (found ≡ Some x) × (answer x ≡ Ok y)
with_found-ok (Some x) fault answer y e = (x, refl, e)
with_found-ok None fault answer y e = cc

-- a directory and an entry that a path leads to, and what was planned with them
pub record AtEntry {B : Type 0} (d : Disk) (path : Path) (plan : ℕ → ℕ → Result B FsFault) (y : B) : Type 0 where
  pub dir : ℕ
  pub k : ℕ
  pub walk : walk_end d 0 path.through.items ≡ Ok dir
  pub named : entry_named d dir path.last ≡ Some k
  pub next : plan dir k ≡ Ok y

pub at_entry-ok : {B : Type 0} (d : Disk) (path : Path) (plan : ℕ → ℕ → Result B FsFault) (y : B)
    → at_path d path (λ dir name. with_found (entry_named d dir name) NotFound (λ k. plan dir k)) ≡ Ok y
    → AtEntry d path plan y
at_entry-ok d path plan y e =
    let walk = then_ok-ok (walk_end d 0 path.through.items) _ y e in
    let dir = walk.0 in
    let entry = with_found-ok (entry_named d dir path.last) NotFound (λ k. plan dir k) y walk.2 in
    record { dir = dir; k = entry.0; walk = walk.1; named = entry.1; next = entry.2 }

pub answer-ok : {B : Type 0} (answer y : B) → ◌≡◌ {A = Result B FsFault} (Ok answer) (Ok y) → y ≡ answer
answer-ok answer y e = cc

pub none-found : (o : Option ℕ) → is_some o ≡ false → o ≡ None
none-found (Some x) e = cc
none-found None e = refl

pub test-holds : (b : Bool) → not b ≡ false → b ≡ true
test-holds true e = refl
test-holds false e = cc

-- where a name was entered
pub record Entered (d : Disk) (dir : ℕ) (name : List ℕ) (child : ℕ) : Type 0 where
  pub k : ℕ
  pub named : entry_named d dir name ≡ Some k
  pub target : target_of d dir k ≡ child
  pub kind : kind_of d child ≡ 2

pub directory_named-ok : (d : Disk) (dir : ℕ) (name : List ℕ) (child : ℕ)
    → directory_named d dir name ≡ Ok child → Entered d dir name child
directory_named-ok d dir name child e =
    let entry = with_found-ok (entry_named d dir name) _ _ child e in
    let directory = unless-ok _ _ _ child entry.2 in
    let same : child ≡ target_of d dir entry.0 = answer-ok _ child directory.1 in
    record {
      k = entry.0;
      named = entry.1;
      target = sym same;
      kind = ap (kind_of d) same ∙ eqb-true (kind_of d (target_of d dir entry.0)) 2 (test-holds _ directory.0);
    }
