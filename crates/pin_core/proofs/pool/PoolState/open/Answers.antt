use Rattle.std.proofs.Common.{ℕ, ◌+◌, ap, sym, ◌∙◌, subst, vec_len}
use Rattle.clean_evict.specs.Cleans as cleans
use Rattle.client_lists.specs.Clients as clients
use Rattle.page_table.specs.Pages as table
use Rattle.scratch_dev.specs.Pool.{IsCounted}
use Rattle.pin_core.proofs.OpenedPool.{all_kept, all_stands, all_slots}
use Rattle.pin_core.proofs.pool.PoolState.open.Goals as goal

pub invariant_of-result : goal.invariant_of-result
invariant_of-result g c =
    all_kept c.args.conf.now c.requires.conf c.args.slots.items (vec_len c.args.slots) c.with.result
    (ap (λ p. p.tree) c.with.ensures ∙ c.in-Some.ensures.tree)
    (ap (λ p. p.pages) c.with.ensures ∙ c.in-Some.ensures.pages ∙ ap (λ (n : ℕ). table.opened (c.args.conf.now.blocks + n) c.args.conf.now.first_name) c.len-count.ensures)
    (ap (λ p. p.lists) c.with.ensures ∙ c.in-Some.ensures.lists ∙ ap (λ (n : ℕ). clients.fresh 4096 (c.args.conf.now.blocks + n)) c.len-count.ensures)
    (ap (λ p. p.clean) c.with.ensures ∙ c.in-Some.ensures.clean ∙ ap (λ (n : ℕ). cleans.empty (c.args.conf.now.blocks + n)) c.len-count.ensures)
    (ap (λ p. p.arena) c.with.ensures ∙ c.in-Some.ensures.arena)
    (ap (λ p. p.buffers) c.with.ensures ∙ c.in-Some.ensures.buffers)
    (ap (λ p. p.seats) c.with.ensures ∙ c.in-Some.ensures.seats)
    (ap (λ p. p.slots) c.with.ensures ∙ c.in-Ok.ensures.ok)
    (ap (λ p. p.block_len) c.with.ensures)
    (ap (λ p. p.marked) c.with.ensures)
    (ap (λ p. p.entries) c.with.ensures)
    (subst IsCounted (sym (ap (λ p. p.slots) c.with.ensures)) c.law_counted.ensures)

pub returns-clause-stands : goal.returns-clause-stands
returns-clause-stands g c =
    all_stands c.args.conf.now c.requires.conf c.args.slots.items (vec_len c.args.slots) c.with.result
    (ap (λ p. p.tree) c.with.ensures ∙ c.in-Some.ensures.tree)
    (ap (λ p. p.pages) c.with.ensures ∙ c.in-Some.ensures.pages ∙ ap (λ (n : ℕ). table.opened (c.args.conf.now.blocks + n) c.args.conf.now.first_name) c.len-count.ensures)
    (ap (λ p. p.lists) c.with.ensures ∙ c.in-Some.ensures.lists ∙ ap (λ (n : ℕ). clients.fresh 4096 (c.args.conf.now.blocks + n)) c.len-count.ensures)
    (ap (λ p. p.clean) c.with.ensures ∙ c.in-Some.ensures.clean ∙ ap (λ (n : ℕ). cleans.empty (c.args.conf.now.blocks + n)) c.len-count.ensures)
    (ap (λ p. p.arena) c.with.ensures ∙ c.in-Some.ensures.arena)
    (ap (λ p. p.buffers) c.with.ensures ∙ c.in-Some.ensures.buffers)
    (ap (λ p. p.seats) c.with.ensures ∙ c.in-Some.ensures.seats)
    (ap (λ p. p.slots) c.with.ensures ∙ c.in-Ok.ensures.ok)
    (ap (λ p. p.block_len) c.with.ensures)
    (ap (λ p. p.marked) c.with.ensures)
    (ap (λ p. p.entries) c.with.ensures)
    (subst IsCounted (sym (ap (λ p. p.slots) c.with.ensures)) c.law_counted.ensures)
    g.D.Slot

pub returns-clause-slots : goal.returns-clause-slots
returns-clause-slots g c =
    all_slots c.args.conf.now c.requires.conf c.args.slots.items (vec_len c.args.slots) c.with.result
    (ap (λ p. p.tree) c.with.ensures ∙ c.in-Some.ensures.tree)
    (ap (λ p. p.pages) c.with.ensures ∙ c.in-Some.ensures.pages ∙ ap (λ (n : ℕ). table.opened (c.args.conf.now.blocks + n) c.args.conf.now.first_name) c.len-count.ensures)
    (ap (λ p. p.lists) c.with.ensures ∙ c.in-Some.ensures.lists ∙ ap (λ (n : ℕ). clients.fresh 4096 (c.args.conf.now.blocks + n)) c.len-count.ensures)
    (ap (λ p. p.clean) c.with.ensures ∙ c.in-Some.ensures.clean ∙ ap (λ (n : ℕ). cleans.empty (c.args.conf.now.blocks + n)) c.len-count.ensures)
    (ap (λ p. p.arena) c.with.ensures ∙ c.in-Some.ensures.arena)
    (ap (λ p. p.buffers) c.with.ensures ∙ c.in-Some.ensures.buffers)
    (ap (λ p. p.seats) c.with.ensures ∙ c.in-Some.ensures.seats)
    (ap (λ p. p.slots) c.with.ensures ∙ c.in-Ok.ensures.ok)
    (ap (λ p. p.block_len) c.with.ensures)
    (ap (λ p. p.marked) c.with.ensures)
    (ap (λ p. p.entries) c.with.ensures)
    (subst IsCounted (sym (ap (λ p. p.slots) c.with.ensures)) c.law_counted.ensures)
