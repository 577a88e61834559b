-- The blocks of the buffer were free or clean before.
use Rattle.std.proofs.Common.{◌≡◌, ℕ, ap, arith, rules}
use Rattle.block_arena.specs.Memory.{Supply}
use Rattle.page_table.specs.Pages.{HasRoom}
use Rattle.clean_evict.specs.Eviction.{fewest, going, names_of}
use Rattle.clean_evict.proofs.Changed.{room-evicted}
use Rattle.clean_evict.proofs.Kept.{acquired-total}
use Rattle.tests_ground.proofs.tests.cleans.turned.Goals as goal

same-blocks : (a b : Supply) (free : ℕ) → b ≡ record a { free = free } → b.blocks ≡ a.blocks
same-blocks a b free e = ap (λ (x : Supply). x.blocks) e

pub put-id-requires-clause-fits : goal.put-id-requires-clause-fits
put-id-requires-clause-fits g c =
    let count = fewest c.in_ok-shell.shell c.args.arena.now c.args.pages.now c.args.list.now.keys in
    let e = c.acquire-buf.ensures in
    let total = acquired-total count c.in_ok-shell.shell c.args.list.now c.acquire-buf.new.self c.args.arena.now c.acquire-buf.new.arena c.args.pages.now c.acquire-buf.new.pages e.list e.pages e.enough e.arena in
    let blocks = same-blocks c.args.arena.now c.acquire-buf.new.arena _ e.arena in
    omega (arith, total, blocks, c.in_ok-shell.ensures, c.requires.clean.fits)

pub put-id-requires-clause-room : goal.put-id-requires-clause-room
put-id-requires-clause-room g c =
    let gone = names_of c.args.pages.now (going c.in_ok-shell.shell c.args.arena.now c.args.pages.now c.args.list.now.keys) in
    let room : HasRoom c.args.pages.now = search rules in
    room-evicted gone c.args.pages.now c.acquire-buf.new.pages c.acquire-buf.ensures.pages room

pub returns-clause-total : goal.returns-clause-total
returns-clause-total g c =
    let count = fewest c.in_ok-shell.shell c.args.arena.now c.args.pages.now c.args.list.now.keys in
    let e = c.acquire-buf.ensures in
    let total = acquired-total count c.in_ok-shell.shell c.args.list.now c.acquire-buf.new.self c.args.arena.now c.acquire-buf.new.arena c.args.pages.now c.acquire-buf.new.pages e.list e.pages e.enough e.arena in
    omega (arith, total, c.in_ok-shell.ensures, c.put-id.ensures.blocks)
