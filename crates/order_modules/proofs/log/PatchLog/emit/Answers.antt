use Rattle.std.proofs.Common.{◌≡◌, ◌<◌, ◌++◌, [], ◌∷◌, ℕ, List, length, bit_or, inl, inr, arith, ◌∙◌, ap}
use Rattle.std.proofs.lemmas.Result.{err_from_is_err_and}
use Rattle.std.proofs.lemmas.Option.{slice_get_within}
use Rattle.patch_sets.proofs.Bits.{in_or_cases}
use Rattle.crash_model.specs.Patches.{place}
use Rattle.crash_model.specs.declared.patches.Patch.{Patch}
use Rattle.traced_patches.specs.Labels.{links_by, emitted_at}
use Rattle.order_modules.specs.Log.{Log, log_of}
use Rattle.traced_patches.specs.declared.labels.Label.{Label}
use Rattle.order_modules.proofs.Emitting.{written_blocks, emit_fields, emitted_new, waits_read, deps_read, undo_read}
use Rattle.order_modules.proofs.Emitting.{put_read}
use Rattle.order_modules.proofs.log.PatchLog.emit.Goals as goal

pub block-requires : goal.block-requires
block-requires g c =
    let same : c.self.inside.base.now.blocks ≡ c.args.self.now.base.blocks =
    ap (λ (l : Log). l.base.blocks) c.self.view_is in
    let all : c.self.inside.written.blocks ≡ c.self.inside.base.now.blocks = written_blocks _ c.self.invariant.0 in
    omega (arith, c.from.ensures, c.requires.block, same, all)

pub push-requires-2-clause-earlier : goal.push-requires-2-clause-earlier
push-requires-2-clause-earlier g c = λ id has.
    elim (in_or_cases c.dependencies-deps.result c.sharing_block-shared.result id has) [
      | inl own ↦
          let w = (c.dependencies-deps.ensures id).0 own in
          let inside : id < length c.as_slice-3.result.now = slice_get_within c.as_slice-3.result.now id w.0 w.1 in
          let long : length c.as_slice-3.result.now ≡ length c.self.inside.labels.items =
          ap (λ (ls : List Label). length ls) c.as_slice-3.ensures.value in
          omega (arith, inside, long, c.self.invariant.1)
      | inr other ↦
          let s = (c.sharing_block-shared.ensures id).0 other in
          slice_get_within c.self.inside.graph id s.0 s.1
    ]

pub put-requires-clause-block : goal.put-requires-clause-block
put-requires-clause-block g c =
    let same : c.self.inside.base.now.blocks ≡ c.args.self.now.base.blocks =
    ap (λ (l : Log). l.base.blocks) c.self.view_is in
    let all : c.self.inside.written.blocks ≡ c.self.inside.base.now.blocks = written_blocks _ c.self.invariant.0 in
    omega (arith, c.from-2.ensures, c.requires.block, same, all)

pub invariant_of-self-2 : goal.invariant_of-self-2
invariant_of-self-2 g c =
    let i = c.self.inside in
    let patch : Patch = record {
      block = c.args.block;
      offset = c.args.offset;
      new = c.bytes_of.result;
      undo = c.bytes_of-2.result;
      deps = bit_or c.dependencies-deps.result c.sharing_block-shared.result;
    } in
    let ok = c.in-Ok.ensures.ok in
    emit_fields i.base.now i.written i.ordering.now.module i.ordering.now.rules.items
    i.ordering.now.whole_blocks (links_by i.links.items) i.labels.items c.args.label i.graph patch ok.0
    c.push-2.new.self c.push.new.self.items c.put.new.self
    c.self.invariant.0 c.self.invariant.1 ok.1
    (deps_read c.dependencies-deps.result c.sharing_block-shared.result i.ordering.now.rules.items
    (links_by i.links.items) i.labels.items c.args.label i.ordering.now.whole_blocks i.graph c.args.block
    (waits_read i.ordering.now.rules.items c.as_slice.result.now c.dependencies-deps.result i.links.items
    c.as_slice-2.result.now i.labels.items c.as_slice-3.result.now c.args.label c.as_slice.ensures.value
    c.as_slice-2.ensures.value c.as_slice-3.ensures.value c.dependencies-deps.ensures) c.sharing_block-shared.ensures)
    (omega (arith, c.requires.block, ap (λ (l : Log). l.base.blocks) c.self.view_is))
    (undo_read i.written c.args.block c.args.offset c.from.result c.from-from.result c.block.result.now
    c.bytes_of-2.result.items c.args.bytes.now c.bytes_of.result.items
    c.from.ensures c.from-from.ensures c.requires.inside c.block.ensures.bytes c.bytes_of-2.ensures c.bytes_of.ensures)
    ok.2 c.in_ok-push.ensures.items
    (put_read i.written c.put.new.self c.args.block c.args.offset c.from-2.result c.from-from.result c.args.bytes.now
    c.bytes_of.result.items c.from-2.ensures c.from-from.ensures c.put.ensures c.bytes_of.ensures)

pub returns-clause-ok : goal.returns-clause-ok
returns-clause-ok g c =
    let i = c.self.inside in
    let patch : Patch = record {
      block = c.args.block;
      offset = c.args.offset;
      new = c.bytes_of.result;
      undo = c.bytes_of-2.result;
      deps = bit_or c.dependencies-deps.result c.sharing_block-shared.result;
    } in
    let ok = c.in-Ok.ensures.ok in
    record {
      base = ap (λ (l : Log). l.base) c.self.view_is;
      kind = ap (λ (l : Log). l.kind) c.self.view_is;
      rules = ap (λ (l : Log). l.rules) c.self.view_is;
      whole = ap (λ (l : Log). l.whole) c.self.view_is;
      links = ap (λ (l : Log). l.links) c.self.view_is;
      emitted =
          emitted_new i.base.now i.written i.ordering.now.module i.ordering.now.rules.items
          i.ordering.now.whole_blocks (links_by i.links.items) i.labels.items c.args.label i.graph patch ok.0
          c.push-2.new.self c.push.new.self.items c.self.invariant.1
          ok.1 ok.2 c.in_ok-push.ensures.items
          ∙ ap (λ (l : Log). l.emitted ++ emitted_at (place c.args.block c.args.offset c.bytes_of.result.items)
          c.args.label ∷ []) c.self.view_is
          ∙ ap (λ (xs : List ℕ). c.args.self.now.emitted ++ emitted_at (place c.args.block c.args.offset xs)
          c.args.label ∷ []) c.bytes_of.ensures;
    }

pub returns-clause-kept : goal.returns-clause-kept
returns-clause-kept g c = record {
  base = ap (λ (l : Log). l.base) c.self.view_is;
  kind = ap (λ (l : Log). l.kind) c.self.view_is;
  rules = ap (λ (l : Log). l.rules) c.self.view_is;
  whole = ap (λ (l : Log). l.whole) c.self.view_is;
}

pub returns-in_err-push : goal.returns-in_err-push
returns-in_err-push g c =
    let i = c.self.inside in
    let failed = err_from_is_err_and c.from_residual.result c.from_residual.ensures.1 in
    let same : log_of i.base.now i.written i.ordering.now i.graph c.push.new.self.items i.links.items
    ≡ c.args.self.now =
    ap (λ (ls : List Label). log_of i.base.now i.written i.ordering.now i.graph ls i.links.items)
    c.in_err-push.ensures.items ∙ c.self.view_is in
    record {
      ok = rw failed.1 tt;
      err = rw failed.1 same;
      kept = record {
        base = ap (λ (l : Log). l.base) c.self.view_is;
        kind = ap (λ (l : Log). l.kind) c.self.view_is;
        rules = ap (λ (l : Log). l.rules) c.self.view_is;
        whole = ap (λ (l : Log). l.whole) c.self.view_is;
      };
    }
