use Rattle.std.proofs.Common.{◌<◌, ◌^◌, length, arith}
use Rattle.bucket_table.specs.Regions.{area_of}
use Rattle.bucket_table.proofs.Marks.{area_len}
use Rattle.bucket_table.proofs.area.Area.rest_of_part.Goals as goal

pub returns-clause-short : goal.returns-clause-short
returns-clause-short c =
    let inside = c.self.inside in
    let short : length (area_of inside.parts.items) < 2 ^ 32 = omega (arith, c.self.invariant.short, area_len _ _ _ inside.parts.items c.self.invariant) in
    rw (← c.self.view_is) short
