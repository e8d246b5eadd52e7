use Rattle.std.proofs.Common.{[], ◌∷◌, ◌++◌, sym, arith, length-append}
use Rattle.crash_model.proofs.SameLists.{unlike_names}
use Rattle.crash_model.proofs.names.Path.is_same.Goals as goal

pub returns-then-len : goal.returns-then-len
returns-then-len c =
    let p = c.args.self.now in
    let q = c.args.other.now in
    sym (unlike_names (p.through.items ++ p.last ∷ []) (q.through.items ++ q.last ∷ [])
    (λ e. omega (
      arith,
      e,
      length-append p.through.items (p.last ∷ []),
      length-append q.through.items (q.last ∷ []),
      c.len.ensures.value,
      c.len-2.ensures.value,
      c.if-len.true,
    )))
