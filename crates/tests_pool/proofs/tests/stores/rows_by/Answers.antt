use Rattle.std.proofs.Common.{ℕ, ap, subst}
use Rattle.store_api.specs.Holdings.{Holdings}
use Rattle.store_api.specs.Changes.{after_reserve}
use Rattle.store_api.specs.Alike.{AlikeButClients}
use Rattle.tuple_stream.specs.Streamed.{Streamed}
use Rattle.tuple_stream.proofs.Chains.{touches_trans}
use Rattle.tuple_stream.proofs.Empty.{nothing_left}
use Rattle.tests_pool.proofs.tests.stores.rows_by.Goals as goal

reserved_alike : (t bytes : ℕ) (old new : Holdings) → AlikeButClients (after_reserve t bytes old) new → AlikeButClients old new
reserved_alike t bytes old new alike =
    record {
      block_len = alike.block_len;
      session = alike.session;
      query = alike.query;
      limit = alike.limit;
      live_clients = alike.live_clients;
      free_slots = alike.free_slots;
      told = alike.told;
      pages = alike.pages;
      loans = alike.loans;
    }

pub returns-in_err-seen-clause-rest : goal.returns-in_err-seen-clause-rest
returns-in_err-seen-clause-rest g c =
    let t = c.args.c.now.tracker in
    let new = g.St.Store.holds c.drop_all.new.store in
    let touches = touches_trans t c.new-stream.result c.walked-seen.new.stream c.drop_all.new.self (g.St.Store.holds c.reserve.new.self) (g.St.Store.holds c.walked-seen.new.store) new c.walked-seen.ensures.touches (c.drop_all.ensures.went t c.walked-seen.ensures.stream).touches in
    reserved_alike t _ (g.St.Store.holds c.args.store.now) new (subst (λ (h : Holdings). AlikeButClients h new) c.in_ok-reserve.ensures.ok
    (nothing_left t c.new-stream.result c.drop_all.new.self (g.St.Store.holds c.reserve.new.self) new (ap (λ (s : Streamed). s.pages) c.new-stream.ensures) (ap (λ (s : Streamed). s.pages) c.drop_all.ensures.value) touches))

pub returns-clause-rest : goal.returns-clause-rest
returns-clause-rest g c =
    let t = c.args.c.now.tracker in
    let new = g.St.Store.holds c.drop_all.new.store in
    let touches = touches_trans t c.new-stream.result c.walked-seen.new.stream c.drop_all.new.self (g.St.Store.holds c.reserve.new.self) (g.St.Store.holds c.walked-seen.new.store) new c.walked-seen.ensures.touches (c.drop_all.ensures.went t c.walked-seen.ensures.stream).touches in
    reserved_alike t _ (g.St.Store.holds c.args.store.now) new (subst (λ (h : Holdings). AlikeButClients h new) c.in_ok-reserve.ensures.ok
    (nothing_left t c.new-stream.result c.drop_all.new.self (g.St.Store.holds c.reserve.new.self) new (ap (λ (s : Streamed). s.pages) c.new-stream.ensures) (ap (λ (s : Streamed). s.pages) c.drop_all.ensures.value) touches))
