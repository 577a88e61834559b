use Rattle.std.proofs.Common.{ap, ◌∙◌, List, ℕ}
use Rattle.block_arena.specs.Bytes.{written}
use Rattle.bucket_table.specs.Regions.{with_bytes}
use Rattle.bucket_table.proofs.area.Area.set_wide.Goals as goal

pub returns : goal.returns
returns c = c.write.ensures ∙ ap (λ (bytes : List ℕ). with_bytes (written c.args.at bytes c.args.self.now.bytes) c.args.self.now) c.spelling_of.ensures
