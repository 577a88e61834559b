use Rattle.std.proofs.Common.{ap, sym, ◌∙◌, arith}
use Rattle.std.specs.FinMap as map
use Rattle.page_table.specs.Pages.{new_entry}
use Rattle.page_table.proofs.Found.{fresh, no_name, still}
use Rattle.page_table.proofs.Steps.{came}
use Rattle.page_table.proofs.table.PageTable.add.Goals as goal

pub invariant_of-self : goal.invariant_of-self
invariant_of-self g c =
    (came c.self.inside.rows c.insert_reserved-key.new.self c.self.inside.next_name c.self.inside.room c.args.self.now c.self.invariant c.self.view_is c.insert_reserved-key.result (new_entry c.self.inside.next_name c.args.session c.args.client c.args.blocks c.args.mem c.args.scratch)
    c.insert_reserved-key.ensures.updates c.insert_reserved-key.ensures.was_vacant c.insert_reserved-key.ensures.len c.insert_reserved-key.ensures.key_in_range c.insert_reserved-key.ensures.capacity (omega (arith, c.requires.room, ap (λ p. p.room) c.self.view_is))).sound

pub returns-clause-fresh : goal.returns-clause-fresh
returns-clause-fresh g c = fresh c.self.inside.rows c.self.inside.next_name c.self.inside.room c.args.self.now c.self.invariant c.self.view_is

pub returns-clause-vacant : goal.returns-clause-vacant
returns-clause-vacant g c = no_name c.self.inside.rows c.self.inside.next_name c.self.inside.room c.args.self.now c.self.view_is c.insert_reserved-key.result c.insert_reserved-key.ensures.was_vacant

pub returns-clause-pages : goal.returns-clause-pages
returns-clause-pages g c =
    (came c.self.inside.rows c.insert_reserved-key.new.self c.self.inside.next_name c.self.inside.room c.args.self.now c.self.invariant c.self.view_is c.insert_reserved-key.result (new_entry c.self.inside.next_name c.args.session c.args.client c.args.blocks c.args.mem c.args.scratch)
    c.insert_reserved-key.ensures.updates c.insert_reserved-key.ensures.was_vacant c.insert_reserved-key.ensures.len c.insert_reserved-key.ensures.key_in_range c.insert_reserved-key.ensures.capacity (omega (arith, c.requires.room, ap (λ p. p.room) c.self.view_is))).pages

pub returns-clause-ended : goal.returns-clause-ended
returns-clause-ended g c id old live =
    let made = came c.self.inside.rows c.insert_reserved-key.new.self c.self.inside.next_name c.self.inside.room c.args.self.now c.self.invariant c.self.view_is c.insert_reserved-key.result (new_entry c.self.inside.next_name c.args.session c.args.client c.args.blocks c.args.mem c.args.scratch)
    c.insert_reserved-key.ensures.updates c.insert_reserved-key.ensures.was_vacant c.insert_reserved-key.ensures.len c.insert_reserved-key.ensures.key_in_range c.insert_reserved-key.ensures.capacity (omega (arith, c.requires.room, ap (λ p. p.room) c.self.view_is)) in
    still c.args.self.now c.insert_reserved-key.result c.self.inside.next_name id (omega (arith, old, ap (λ p. p.next_name) c.self.view_is)) (sym (ap (λ p. map.get p.names id.key) made.pages) ∙ live)
