-- The front of the list is a clean page, and it goes.
use Rattle.std.proofs.Common.{sym, ◌∙◌, subst}
use Rattle.page_table.specs.declared.page_id.PageId.{PageId}
use Rattle.index_list.proofs.Places.{stands-from_get}
use Rattle.clean_evict.specs.Eviction.{IsCleanPage}
use Rattle.clean_evict.proofs.First.{id-there, id-is, fits-first, oldest-gone}
use Rattle.clean_evict.proofs.list.CleanList.evict_oldest.Goals as goal

pub unwrap-id-requires : goal.unwrap-id-requires
unwrap-id-requires g c =
    let first = sym c.oldest.ensures.first ∙ c.unwrap-key.ensures in
    let page = c.requires.clean.clean c.unwrap-key.result (stands-from_get c.args.self.now.keys 0 c.unwrap-key.result first) in
    rw c.id_at.ensures (id-there c.args.pages.now c.unwrap-key.result page.name page.live)

pub remove-requires : goal.remove-requires
remove-requires g c = stands-from_get c.args.self.now.keys 0 c.unwrap-key.result (sym c.oldest.ensures.first ∙ c.unwrap-key.ensures)

pub evict-requires-clause-clean : goal.evict-requires-clause-clean
evict-requires-clause-clean g c =
    let first = sym c.oldest.ensures.first ∙ c.unwrap-key.ensures in
    let page = c.requires.clean.clean c.unwrap-key.result (stands-from_get c.args.self.now.keys 0 c.unwrap-key.result first) in
    let is = id-is c.args.pages.now c.unwrap-key.result page.name c.unwrap-id.result page.live (sym c.id_at.ensures ∙ c.unwrap-id.ensures) in
    subst (λ (id : PageId). IsCleanPage c.args.arena.now.block_len c.args.pages.now id.key) is page

pub evict-requires-clause-fits : goal.evict-requires-clause-fits
evict-requires-clause-fits g c =
    let first = sym c.oldest.ensures.first ∙ c.unwrap-key.ensures in
    fits-first c.args.self.now c.args.arena.now c.args.pages.now c.unwrap-key.result c.unwrap-id.result c.oldest.ensures.once first (sym c.id_at.ensures ∙ c.unwrap-id.ensures) c.requires.clean

pub returns-clause-evicts : goal.returns-clause-evicts
returns-clause-evicts g c =
    let first = sym c.oldest.ensures.first ∙ c.unwrap-key.ensures in
    oldest-gone c.args.self.now c.remove.new.self c.args.arena.now c.evict.new.arena c.args.pages.now c.evict.new.pages c.args.evicted.now.items c.push_reserved.new.self.items c.unwrap-key.result c.unwrap-id.result c.law_proper.ensures c.oldest.ensures.once first (sym c.id_at.ensures ∙ c.unwrap-id.ensures) c.requires.clean c.remove.ensures c.evict.ensures.arena c.evict.ensures.pages c.push_reserved.ensures.items
