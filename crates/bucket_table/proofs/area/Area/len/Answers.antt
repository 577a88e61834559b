use Rattle.std.proofs.Common.{◌≡◌, ◌*◌, ℕ, length, ap, sym, ◌∙◌}
use Rattle.bucket_table.proofs.Doubled.{has_bytes}
use Rattle.bucket_table.proofs.Marks.{area_len}
use Rattle.bucket_table.proofs.area.Area.len.Goals as goal

pub returns-clause-value : goal.returns-clause-value
returns-clause-value c =
    let inside = c.self.inside in
    let count : c.len.result ≡ length inside.parts.items = c.len.ensures ∙ inside.parts.ok.0 in
    rw (← c.self.view_is) (rw (count, c.len-2.ensures.value) (sym (area_len inside.blocks inside.block.len inside.each.len inside.parts.items c.self.invariant)))

pub returns-clause-lent : goal.returns-clause-lent
returns-clause-lent c =
    let inside = c.self.inside in
    let count : c.len.result ≡ length inside.parts.items = c.len.ensures ∙ inside.parts.ok.0 in
    let is = has_bytes inside.blocks inside.block.len inside.each.len inside.parts.items c.self.invariant in
    rw (← c.self.view_is) (rw (count, c.len-2.ensures.value) (ap (λ (n : ℕ). length inside.parts.items * n) c.self.invariant.each ∙ is.whole ∙ sym is.lent_is))
