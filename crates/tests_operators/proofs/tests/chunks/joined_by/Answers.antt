use Rattle.std.proofs.Common.{◌∙◌, ap}
use Rattle.store_api.specs.Holdings.{Holdings}
use Rattle.tuple_stream.specs.Streamed.{Streamed}
use Rattle.join_op.proofs.TwoStreams.{alone_dropped, alone_idle, alone_new, other_dropped}
use Rattle.tests_operators.proofs.tests.chunks.joined_by.Goals as goal

pub joined-seen-requires-clause-alone : goal.joined-seen-requires-clause-alone
joined-seen-requires-clause-alone g c =
    alone_new c.args.c.now c.from-len.result c.new-left.result c.new-right.result (g.St.Store.holds c.args.store.now) (g.St.Store.holds c.reserve.new.self) c.new-left.ensures c.new-right.ensures c.in_ok-reserve.ensures.ok (c.from-len.ensures ∙ c.block_len.ensures.value) c.requires.idle

pub drop_all-requires-2 : goal.drop_all-requires-2
drop_all-requires-2 g c =
    let left = alone_dropped c.args.c.now c.joined-seen.new.left c.drop_all.new.self c.joined-seen.new.right (g.St.Store.holds c.joined-seen.new.store) (g.St.Store.holds c.drop_all.new.store) (g.St.Store.signs c.joined-seen.new.store) (g.St.Store.signs c.drop_all.new.store) c.joined-seen.ensures.alone c.drop_all.ensures.value (c.drop_all.ensures.went c.args.c.now.tracker c.joined-seen.ensures.alone.readable.left_shape) in
    (c.args.c.now.tracker, left.readable.right_shape)

pub returns-clause-client : goal.returns-clause-client
returns-clause-client g c =
    let left = alone_dropped c.args.c.now c.joined-seen.new.left c.drop_all.new.self c.joined-seen.new.right (g.St.Store.holds c.joined-seen.new.store) (g.St.Store.holds c.drop_all.new.store) (g.St.Store.signs c.joined-seen.new.store) (g.St.Store.signs c.drop_all.new.store) c.joined-seen.ensures.alone c.drop_all.ensures.value (c.drop_all.ensures.went c.args.c.now.tracker c.joined-seen.ensures.alone.readable.left_shape) in
    let both = other_dropped c.args.c.now c.drop_all.new.self c.joined-seen.new.right c.drop_all-2.new.self (g.St.Store.holds c.drop_all.new.store) (g.St.Store.holds c.drop_all-2.new.store) (g.St.Store.signs c.drop_all.new.store) (g.St.Store.signs c.drop_all-2.new.store) left c.drop_all-2.ensures.value (c.drop_all-2.ensures.went c.args.c.now.tracker left.readable.right_shape) in
    both.readable.client

pub returns-clause-idle : goal.returns-clause-idle
returns-clause-idle g c =
    let left = alone_dropped c.args.c.now c.joined-seen.new.left c.drop_all.new.self c.joined-seen.new.right (g.St.Store.holds c.joined-seen.new.store) (g.St.Store.holds c.drop_all.new.store) (g.St.Store.signs c.joined-seen.new.store) (g.St.Store.signs c.drop_all.new.store) c.joined-seen.ensures.alone c.drop_all.ensures.value (c.drop_all.ensures.went c.args.c.now.tracker c.joined-seen.ensures.alone.readable.left_shape) in
    let both = other_dropped c.args.c.now c.drop_all.new.self c.joined-seen.new.right c.drop_all-2.new.self (g.St.Store.holds c.drop_all.new.store) (g.St.Store.holds c.drop_all-2.new.store) (g.St.Store.signs c.drop_all.new.store) (g.St.Store.signs c.drop_all-2.new.store) left c.drop_all-2.ensures.value (c.drop_all-2.ensures.went c.args.c.now.tracker left.readable.right_shape) in
    alone_idle c.args.c.now c.drop_all.new.self c.drop_all-2.new.self (g.St.Store.holds c.drop_all-2.new.store) both (ap (λ (s : Streamed). s.pages) c.drop_all.ensures.value) (ap (λ (s : Streamed). s.pages) c.drop_all-2.ensures.value)

pub returns-clause-clients : goal.returns-clause-clients
returns-clause-clients g c =
    let left = alone_dropped c.args.c.now c.joined-seen.new.left c.drop_all.new.self c.joined-seen.new.right (g.St.Store.holds c.joined-seen.new.store) (g.St.Store.holds c.drop_all.new.store) (g.St.Store.signs c.joined-seen.new.store) (g.St.Store.signs c.drop_all.new.store) c.joined-seen.ensures.alone c.drop_all.ensures.value (c.drop_all.ensures.went c.args.c.now.tracker c.joined-seen.ensures.alone.readable.left_shape) in
    (c.drop_all-2.ensures.went c.args.c.now.tracker left.readable.right_shape).touches.live_clients
    ∙ (c.drop_all.ensures.went c.args.c.now.tracker c.joined-seen.ensures.alone.readable.left_shape).touches.live_clients
    ∙ c.joined-seen.ensures.clients ∙ ap (λ (h : Holdings). h.live_clients) c.in_ok-reserve.ensures.ok
