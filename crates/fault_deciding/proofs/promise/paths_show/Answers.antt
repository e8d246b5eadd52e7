use Rattle.std.proofs.Common.{◌≡◌, ◌≤◌, ◌<◌, List, length, map, get_or, arith, sym, ap, subst, ◌∙◌}
use Rattle.std.proofs.lemmas.List.{take_all}
use Rattle.crash_model.specs.Patches.{image_of}
use Rattle.crash_model.specs.Paths.{path_shows}
use Rattle.crash_model.specs.declared.names.Path.{Path}
use Rattle.known_bytes.specs.Reading.{disk_of}
use Rattle.fault_deciding.proofs.PathsShown.{shows_more}
use Rattle.fault_deciding.proofs.promise.paths_show.Goals as goal

pub loop-path-preserved : goal.loop-path-preserved
loop-path-preserved g c =
    let paths = c.args.paths.now.items in
    let path = c.path-item.result in
    let i = c.loop-path.path-index in
    let inside : i < length paths =
    subst (λ (ps : List Path). i < length ps) c.as_slice-path-items.ensures.value c.loop-path-test.true in
    let read : path ≡ get_or paths i path =
    subst (λ (ps : List Path). path ≡ get_or ps i path) c.as_slice-path-items.ensures.value c.path-item.is in
    record {
      shows = shows_more c.args.disk.now paths i path c.loop-path.shows.items c.push.new.self.items _ inside read
          c.push.ensures.items c.loop-path.invariant.shows c.in_ok-path_shows.ensures;
      room = omega (arith, c.push.ensures.len, c.loop-path.invariant.room);
    }

pub returns-clause-ok : goal.returns-clause-ok
returns-clause-ok g c = λ set m.
    let r = c.args.disk.now in
    let d = disk_of r (image_of r.family.base r.family.patches set) in
    let paths = c.args.paths.now.items in
    let whole : length paths ≤ c.loop-path.path-index =
    subst (λ (ps : List Path). length ps ≤ c.loop-path.path-index) c.as_slice-path-items.ensures.value
    c.loop-path-test.false in
    sym (ap (map (path_shows d)) (take_all c.loop-path.path-index paths whole)) ∙ c.loop-path.invariant.shows set m
