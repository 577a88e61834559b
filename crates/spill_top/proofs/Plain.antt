-- The lines that take no memory.
use Rattle.std.proofs.Common.{◌≡◌, codes, refl}
use Rattle.std.specs.Fmt.{digits}
use Rattle.spill_top.specs.Report.{shortage, usage}

pub memory_line : shortage ≡ codes "10 memory\n"
unfolding digits
memory_line = refl

pub usage_line : usage ≡ codes "1 words\n"
unfolding digits
usage_line = refl
