use Rattle.std.proofs.Common.{Ok}
use Rattle.store_api.specs.Holdings.{Holdings}
use Rattle.store_api.specs.Alike.{AlikeButClients}
use Rattle.store_api.proofs.Reserved.{alike_on, reserved_alike}
use Rattle.tests_stores.proofs.tests.stores.both_reserved.Goals as goal

pub returns-clause-rest : goal.returns-clause-rest
returns-clause-rest g c =
    let h0 : Holdings = g.St.Store.holds c.args.store.now in
    let h1 : Holdings = g.St.Store.holds c.reserve.new.self in
    let h2 : Holdings = g.St.Store.holds c.reserve-2.new.self in
    let first : AlikeButClients h0 h1 = reserved_alike h0 h1 (Ok tt) _ _ (g.St.Store.signs c.args.store.now) (g.St.Store.signs c.args.store.now) c.in_ok-reserve.ensures.ok tt in
    let second : AlikeButClients h1 h2 = reserved_alike h1 h2 c.reserve-2.result _ _ _ _ c.reserve-2.ensures.ok c.reserve-2.ensures.err in
    alike_on h0 h1 h2 first second
