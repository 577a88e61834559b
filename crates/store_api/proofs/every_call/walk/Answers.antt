use Rattle.std.proofs.Common.{◌≡◌, ℕ, ◌+◌, ◌<◌, ◌≤◌, refl, ap, subst}
use Rattle.store_api.specs.Holdings.{Holdings}
use Rattle.store_api.specs.Signs.{Signs, Grows}
use Rattle.store_api.proofs.Growing.{grows_trans}
use Rattle.store_api.proofs.Stopping.{walk_stops, few_before, no_room_stops}
use Rattle.store_api.proofs.every_call.walk.Goals as goal
use Rattle.store_api.proofs.every_call.walk.Goals.{in-Ok, in-Err}

pub returns-clause-cause : goal.returns-clause-cause
returns-clause-cause g c =
    let h : Holdings = g.St.Store.holds c.args.store.now in
    let s0 : Signs = g.St.Store.signs c.args.store.now in
    let s1 : Signs = g.St.Store.signs c.add_client.new.self in
    let s2 : Signs = g.St.Store.signs c.add_client-2.new.self in
    let s5 : Signs = g.St.Store.signs c.end_client-2.new.self in
    let live : (g.St.Store.holds c.add_client.new.self).live_clients ≡ h.live_clients + 1 = ap (λ (x : Holdings). x.live_clients) c.in_ok-c.ensures.ok.holdings in
    elim c.match-add_client.branch [
      | in-Ok w ↦
          let s3 : Signs = g.St.Store.signs w.rounds-walked.new.store in
          let s4 : Signs = g.St.Store.signs w.end_client.new.self in
          let begun : Grows s0 s2 = grows_trans s0 s1 s2 c.add_client.ensures.grows c.add_client-2.ensures.grows in
          let ending : Grows s4 s5 = rw (← w.store-is) c.end_client-2.ensures.grows in
          let ended : Grows s3 s5 = grows_trans s3 s4 s5 w.end_client.ensures.grows ending in
          let few : h.live_clients < 15 = few_before h (g.St.Store.holds c.add_client.new.self).live_clients live w.in-Ok.ensures.refused.1 in
          rw w.walked-is (walk_stops w.rounds-walked.result h s0 s2 s3 s5 few begun w.rounds-walked.ensures.cause ended)
      | in-Err w ↦
          let many : 16 ≤ (g.St.Store.holds c.add_client.new.self).live_clients = w.in-Err.ensures.refused.0 refl in
          rw w.walked-is (no_room_stops h w.in-Err.e s0 s5 w.in-Err.ensures.cause (subst (λ (n : ℕ). 16 ≤ n) live many))
    ]
