use Rattle.std.proofs.Common.{◌∙◌, append_assoc}
use Rattle.report.specs.Explained.{patch_line}
use Rattle.report.proofs.Adding.{added, ends}
use Rattle.report.proofs.explained.write_patch_line.Goals as goal

pub returns : goal.returns
unfolding patch_line
returns c = ends c.write-2.result c.write-2.ensures.bytes (λ last. added
    ((rw (c.in_ok-write.ensures.bytes, c.name-part.ensures, c.len-length.ensures.value) at last)
    ∙ simp append_assoc))
