use Rattle.std.proofs.Common.{◌≡◌, length, sym, ◌∙◌, arith}
use Rattle.std.proofs.lemmas.List.{length-map}
use Rattle.store_api.proofs.Growing.{grows_trans}
use Rattle.bucket_table.specs.Regions.{lent}
use Rattle.bucket_table.proofs.Doubled.{alike_back, doubled, has_bytes, held_now, region_back}
use Rattle.bucket_table.proofs.Entered.{loans_more}
use Rattle.bucket_table.proofs.Held.{short_after}
use Rattle.bucket_table.proofs.area.Area.double.Goals as goal

pub fill-requires-clause-unused : goal.fill-requires-clause-unused
fill-requires-clause-unused g c =
    let t = c.self.inside in
    let is = has_bytes t.blocks t.block.len t.each.len t.parts.items c.self.invariant in
    let count : c.len-count.result ≡ length t.parts.items = c.len-count.ensures ∙ t.parts.ok.0 in
    let room = rw (← c.self.view_is) at c.requires.unused in
    rw (← c.self.view_is) (rw count (omega (arith, is.whole, is.lent_is, room)))

pub fill-requires-clause-short : goal.fill-requires-clause-short
fill-requires-clause-short g c =
    let t = c.self.inside in
    let is = has_bytes t.blocks t.block.len t.each.len t.parts.items c.self.invariant in
    let count : c.len-count.result ≡ length t.parts.items = c.len-count.ensures ∙ t.parts.ok.0 in
    let short = rw (← c.self.view_is) at c.requires.short in
    rw (← c.self.view_is) (rw count (omega (arith, is.whole, is.lent_is, short)))

pub shrink-requires-clause-held : goal.shrink-requires-clause-held
shrink-requires-clause-held g c =
    let some = c.in-Err.ensures.err in
    (c.args.c.now.tracker, held_now _ some.0 _ _ _ _ some.1 c.requires.held)

pub returns-in-Ok-clause-ok : goal.returns-in-Ok-clause-ok
returns-in-Ok-clause-ok g c =
    let t = c.self.inside in
    let is = has_bytes t.blocks t.block.len t.each.len t.parts.items c.self.invariant in
    let items : c.len-count.result ≡ length t.parts.items = c.len-count.ensures ∙ t.parts.ok.0 in
    doubled c.args.c.now.tracker c.len-count.result c.args.self.now c.fill.new.self _ _ c.in-Ok.ensures.ok
    (rw (← c.self.view_is) (items ∙ sym (length-map t.parts.items lent)))
    (rw (← c.self.view_is) (rw items is.whole))
    (rw (← c.self.view_is) is.lent_is)

pub returns-in-Err-clause-err : goal.returns-in-Err-clause-err
returns-in-Err-clause-err g c =
    let t = c.self.inside in
    let items : c.len-count.result ≡ length t.parts.items = c.len-count.ensures ∙ t.parts.ok.0 in
    let many : c.len-count.result ≡ length c.args.self.now.loans = rw (← c.self.view_is) (items ∙ sym (length-map t.parts.items lent)) in
    let some = c.in-Err.ensures.err in
    region_back c.args.c.now.tracker some.0 _ _ _ _ _ _ some.1 c.shrink.ensures.went (c.shrink.ensures.stay ∙ many) c.requires.held

pub returns-in-Err-clause-held : goal.returns-in-Err-clause-held
returns-in-Err-clause-held g c =
    let t = c.self.inside in
    let items : c.len-count.result ≡ length t.parts.items = c.len-count.ensures ∙ t.parts.ok.0 in
    let many : c.len-count.result ≡ length c.args.self.now.loans = rw (← c.self.view_is) (items ∙ sym (length-map t.parts.items lent)) in
    let some = c.in-Err.ensures.err in
    alike_back c.args.c.now.tracker some.0 _ _ _ _ _ _ some.1 c.shrink.ensures.went (c.shrink.ensures.stay ∙ many) c.requires.held

pub returns-in-Err-clause-cause : goal.returns-in-Err-clause-cause
returns-in-Err-clause-cause g c = short_after c.in-Err.e c.args.c.now.tracker c.args.self.now.blocks _ _ _ c.in-Err.ensures.cause c.shrink.ensures.grows

pub returns-in-Err-clause-grows : goal.returns-in-Err-clause-grows
returns-in-Err-clause-grows g c = grows_trans _ _ _ c.in-Err.ensures.grows c.shrink.ensures.grows

pub returns-in-Err-clause-entries : goal.returns-in-Err-clause-entries
returns-in-Err-clause-entries g c = loans_more _ _ _ c.in-Err.ensures.entries c.shrink.ensures.entries
