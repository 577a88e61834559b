-- Trackers go: a sound state stays sound.
use Rattle.std.proofs.Common.{◌≡◌, ◌≢◌, ℕ, ◌≤◌, ◌==◌, true, false, Option, Some, None, if◌then◌else◌, refl, ap, sym, ◌∙◌, subst, arith, unwrap_or, inl, inr, eqb-true}
use borrow.Author.Tests.{eqb-false}
use Rattle.std.specs.FinMap.{get, insert, remove}
use Rattle.reservation_tree.specs.Tracker.{Tracker, Trackers, no_tracker, reservation_of}
use Rattle.reservation_tree.proofs.Maps.{removed_same, removed_other, same_or_other}
use Rattle.reservation_tree.proofs.Outline.{reservation_is}
use Rattle.reservation_tree.proofs.Members.{closed_tree, closed_fits}
use Rattle.pool_model.specs.State.{Session, State}
use Rattle.pool_model.specs.Sums.{held_by, times_held, pages_for, buffers_for, memory}
use Rattle.pool_model.specs.TrackerRows.{MayCloseTracker}
use Rattle.pool_model.specs.Parts.{without_tracker, close_tracker}
use Rattle.pool_model.specs.Sound.{IsQuery, IsSeated, IsSound}
use Rattle.pool_model.proofs.ByClients.{no_pages, no_buffers}
use Rattle.pool_model.proofs.Seats.{HadSeat, put_session, IsBelow, is_below}
use Rattle.pool_model.proofs.Coming.{same_here, query_here, reservation_here}

-- the sessions that are left had their seats, none of which is the tracker that goes
pub left_seats : (s : State) → IsSeated (memory s) s.trackers s.sessions → (maker t : ℕ) (below : IsBelow s maker t) (m : ℕ) (y : Session) → get (without_tracker maker t s.sessions) m ≡ Some y
    → HadSeat s.sessions m y × (y.query ≢ t)
left_seats s seated maker t below m y there =
    let x : Session = below.session in
    let opened : get (if x.query == t then remove s.sessions maker else insert s.sessions maker (record x { failures = remove x.failures t })) m ≡ Some y =
    ap (λ (o : Option Session). get (elim o [ None ↦ s.sessions | Some z ↦ if z.query == t then remove s.sessions maker else insert s.sessions maker (record z { failures = remove z.failures t }) ]) m) (sym below.opened) ∙ there in
    elim (x.query == t) as (λ b. x.query == t ≡ b → get (if b then remove s.sessions maker else insert s.sessions maker (record x { failures = remove x.failures t })) m ≡ Some y → HadSeat s.sessions m y × (y.query ≢ t)) [
      | true ↦ λ is at_m. elim (same_or_other m maker) [
        | inl here ↦ let none : None ≡ Some y = sym (removed_same s.sessions maker) ∙ ap (get (remove s.sessions maker)) (sym here) ∙ at_m in cc
        | inr other ↦
            let old : get s.sessions m ≡ Some y = sym (removed_other s.sessions maker m other) ∙ at_m in
            (record { session = y; lives = old; same = refl }, λ same. other (seated.apart m maker y x old below.opened (same ∙ sym (eqb-true x.query t is))))
      ]
      | false ↦ λ is at_m.
          let had : HadSeat s.sessions m y = put_session s.sessions maker x (record x { failures = remove x.failures t }) below.opened refl m y at_m in
          (had, λ same. below.others (eqb-false x.query t is) (subst (IsQuery s.trackers) (had.same ∙ same) (seated.seats m had.session had.lives)))
    ] refl opened

-- a tracker that has nothing goes
pub close_sound : (s : State) → IsSound s → (maker t : ℕ) → MayCloseTracker s maker t → IsSound (close_tracker maker t s)
close_sound s sound maker t may =
    let below : IsBelow s maker t = is_below s sound.seated maker t may.own in
    let empty_now : below.tracker.reservation ≡ 0 = sym (reservation_is s.trackers t below.tracker below.lives) ∙ may.empty in
    let new : Trackers = remove s.trackers t in
    let stays : (q : ℕ) → q ≢ t → get (remove s.trackers t) q ≡ get s.trackers q = λ q other. removed_other s.trackers t q other in
    record {
      seated = record {
        tree = closed_tree (λ _. 0) (λ _. 0) s.trackers sound.seated.tree t below.tracker below.lives below.low empty_now may.no_child;
        children_fit = closed_fits (λ _. 0) (λ _. 0) s.trackers sound.seated.tree t below.tracker below.lives below.low empty_now may.no_child sound.seated.children_fit (λ q other. refl);
        low = λ q x is. elim (same_or_other q t) [
          | inl here ↦ let none : None ≡ Some x = sym (removed_same s.trackers t) ∙ ap (get (remove s.trackers t)) (sym here) ∙ is in cc
          | inr other ↦ sound.seated.low q x (sym (stays q other) ∙ is)
        ];
        top = ap (λ (o : Option Tracker). (unwrap_or o no_tracker).limit) (stays 0 (λ same. below.low (sym same))) ∙ sound.seated.top;
        seats = λ m y is.
            let left : HadSeat s.sessions m y × (y.query ≢ t) = left_seats s sound.seated maker t below m y is in
            query_here s.trackers new y.query (stays y.query left.1) (subst (IsQuery s.trackers) left.0.same (sound.seated.seats m left.0.session left.0.lives));
        apart = λ m n x y is_m is_n same.
            let first : HadSeat s.sessions m x = (left_seats s sound.seated maker t below m x is_m).0 in
            let second : HadSeat s.sessions n y = (left_seats s sound.seated maker t below n y is_n).0 in
            sound.seated.apart m n first.session second.session first.lives second.lives (first.same ∙ same ∙ sym second.same);
      };
      owned = record {
        page_clients = λ p x is. same_here s.trackers new x.client (stays x.client (may.no_page p x is)) (sound.owned.page_clients p x is);
        buffer_clients = λ f x is. same_here s.trackers new x.client (stays x.client (may.no_buffer f x is)) (sound.owned.buffer_clients f x is);
        names = sound.owned.names;
        pins = sound.owned.pins;
      };
      within = record {
        held = λ q. elim (same_or_other q t) [
          | inl here ↦
              let pages : pages_for times_held s.block_len s.pages q ≡ 0 = no_pages times_held s.block_len s.pages q (λ p x is same. may.no_page p x is (same ∙ here)) in
              let buffers : buffers_for s.block_len s.buffers q ≡ 0 = no_buffers s.block_len s.buffers q (λ f x is same. may.no_buffer f x is (same ∙ here)) in
              omega (arith, pages, buffers)
          | inr other ↦
              let same : reservation_of new q ≡ reservation_of s.trackers q = reservation_here s.trackers new q (stays q other) in
              let was : held_by s q ≤ reservation_of s.trackers q = sound.within.held q in
              omega (arith, same, was)
        ];
        memory = sound.within.memory;
      };
    }
