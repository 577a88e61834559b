-- When a refusal may come, from what a follower keeps.
use Rattle.std.proofs.Common.{◌≡◌, ℕ, ◌-◌, ◌*◌, ◌==◌, ◌≤◌, ◌<◌, ◌^◌, ◌↔◌, Bool, true, false, IsTrue, if◌then◌else◌, Option, Some, None, is_some, option_map, List, refl, ap, sym, ◌∙◌, subst, arith, eqb-true, inl, inr}
use Rattle.std.specs.FinMap.{FinMap, get}
use Rattle.reservation_tree.specs.Tracker.{reservation_of}
use Rattle.pool_model.specs.declared.call.Call.{Call}
use Rattle.pool_model.specs.declared.call.Call.TheVariants as call
use Rattle.pool_model.specs.declared.entry.Entry.{Entry}
use Rattle.pool_model.specs.Bytes.{bytes_of}
use Rattle.pool_model.specs.State.{Opening, State, Place, Page, Buffer, Session, shown}
use Rattle.pool_model.specs.State as model
use Rattle.pool_model.specs.Sums.{held_by, length_of, HasRoom}
use Rattle.pool_model.specs.Owning.{IsClientOf, IsTrackerOf, IsPageOf}
use Rattle.pool_model.specs.Refusals.{IsBufferOf, IsOwnCall, client_of, CanBePinned, CanBePinnedAgain, CanBeMoved, IsEnabled, LacksRoom, FailedToLoad, MayRefuse}
use Rattle.pool_model.specs.Failures.{last_failed_read}
use Rattle.pool_model.specs.Legal.{state_after}
use Rattle.pool_model.specs.Sound.{IsSound}
use Rattle.pool_model.proofs.Seats.{some_is}
use Rattle.pool_model.proofs.Failures.{legal_pages_are_owned}
use Rattle.trace_follow.specs.declared.rows.Place.TheVariants as spot
use Rattle.trace_follow.specs.declared.rows.Asked.{Asked}
use Rattle.trace_follow.specs.declared.rows.PageRow.{PageRow}
use Rattle.trace_follow.specs.declared.rows.BufferRow.{BufferRow}
use Rattle.trace_follow.specs.declared.rows.Want.{Want}
use Rattle.trace_follow.specs.declared.follower.Follower.{Follower}
use Rattle.trace_follow.specs.Rows.{place_row, page_row, buffer_row}
use Rattle.trace_follow.specs.Showing.{Shows}
use Rattle.trace_follow.specs.Following.{StandsFor}
use Rattle.trace_follow.specs.Looking.{own_row}
use Rattle.trace_follow.specs.Wanting.{IsWant, Wants, IsRoom, WantsRoom, IsPinnable, noted_failure, noted_read, FailedRead}
use Rattle.trace_follow.proofs.Mirrored.{HasRow, row_of}
use Rattle.trace_follow.proofs.Standing.{counted_shown}

pub room_exactly : (s : State) → IsSound s → (c n : ℕ) → (n ≤ reservation_of s.trackers c - held_by s c) ↔ HasRoom s c n
room_exactly s sound c n =
    let held : held_by s c ≤ reservation_of s.trackers c = sound.within.held c in
    (λ room. omega (arith, room, held), λ has. omega (arith, has))

pub length_is : (v : Follower) (s : State) → Shows v s → (blocks n : ℕ) → n ≡ blocks * v.block_len → n ≡ length_of s blocks
unfolding bytes_of
length_is v s shows blocks n is = is ∙ ap (λ (b : ℕ). blocks * b) shows.block_len

bytes : (s : State) (n : ℕ) → n * s.block_len ≡ length_of s n
unfolding bytes_of
bytes s n = refl

-- a live page of the session, behind its row
pub record IsOwnRow (s : State) (maker p : ℕ) (row : PageRow) : Type 0 where
  pub page : Page
  pub own : IsPageOf s maker p page
  pub is : row ≡ page_row page

own_there : (o : Option PageRow) (maker : ℕ) (row : PageRow) → Some row ≡ own_row maker o → (o ≡ Some row) × (row.session ≡ maker)
own_there None maker row is = cc
own_there (Some x) maker row is = by_case (x.session == maker) refl is
  where
    by_case : (b : Bool) → (x.session == maker) ≡ b → Some row ≡ (if b then Some x else None) → (Some x ≡ Some row) × (row.session ≡ maker)
    by_case true at h = (sym h, ap (λ (r : PageRow). r.session) (some_is row x h) ∙ eqb-true x.session maker at)
    by_case false at h = cc

pub own_row_is : (v : Follower) (s : State) → Shows v s → (maker p : ℕ) (row : PageRow) → Some row ≡ own_row maker (get v.pages p) → IsOwnRow s maker p row
own_row_is v s shows maker p row is =
    let there : (get v.pages p ≡ Some row) × (row.session ≡ maker) = own_there (get v.pages p) maker row is in
    let mine : HasRow page_row (get s.pages p) row = row_of page_row s.pages v.pages shows.things.pages p row there.0 in
    record { page = mine.of; own = record { lives = mine.lives; own = sym (ap (λ (r : PageRow). r.session) mine.is) ∙ there.1 }; is = mine.is }

same_page : (s : State) (p : ℕ) (x y : Page) → get s.pages p ≡ Some x → get s.pages p ≡ Some y → x ≡ y
same_page s p x y first second = some_is x y (sym first ∙ second)

is_dirty : (place : Place) → place_row place ≡ spot.Dirty → place ≡ model.Dirty
is_dirty (model.Pinned n) is = cc
is_dirty model.Dirty is = refl
is_dirty (model.Flying w) is = cc
is_dirty model.Loading is = cc
is_dirty model.Clean is = cc
is_dirty model.Evicted is = cc

is_flying : (place : Place) (w : ℕ) → place_row place ≡ spot.Flying w → place ≡ model.Flying w
is_flying (model.Pinned n) w is = cc
is_flying model.Dirty w is = cc
is_flying (model.Flying u) w is = cc
is_flying model.Loading w is = cc
is_flying model.Clean w is = cc
is_flying model.Evicted w is = cc

module _ (v : Follower) (o : Opening) (h : List Entry) (stands : StandsFor v o h) (sound : IsSound (state_after o h)) (maker p : ℕ) (row : PageRow) (is : Some row ≡ own_row maker (get v.pages p)) (b : Bool) where
  mine : IsOwnRow (state_after o h) maker p row
  mine = own_row_is v (state_after o h) stands.shows maker p row is

  client : IsClientOf (state_after o h) mine.page.session mine.page.client
  client = legal_pages_are_owned o h stands.legal p mine.page mine.own.lives

  has_session : get (state_after o h).sessions maker ≡ Some client.session
  has_session = ap (get (state_after o h).sessions) (sym mine.own.own) ∙ client.opened

  of : option_map (λ (x : Page). x.client) (get (state_after o h).pages p) ≡ Some row.client
  of = ap (option_map (λ (x : Page). x.client)) mine.own.lives ∙ ap (λ (r : PageRow). Some r.client) (sym mine.is)

  length : row.blocks * (state_after o h).block_len ≡ length_of (state_after o h) mine.page.blocks
  length = bytes (state_after o h) row.blocks ∙ ap (λ (r : PageRow). length_of (state_after o h) r.blocks) mine.is

  room : (row.blocks * (state_after o h).block_len ≤ reservation_of (state_after o h).trackers row.client - held_by (state_after o h) row.client) ↔ HasRoom (state_after o h) mine.page.client (length_of (state_after o h) mine.page.blocks)
  room =
      let same : row.client ≡ mine.page.client = ap (λ (r : PageRow). r.client) mine.is in
      subst (λ (n : ℕ). (n ≤ reservation_of (state_after o h).trackers row.client - held_by (state_after o h) row.client) ↔ HasRoom (state_after o h) mine.page.client (length_of (state_after o h) mine.page.blocks)) (sym length)
      (subst (λ (c : ℕ). (length_of (state_after o h) mine.page.blocks ≤ reservation_of (state_after o h).trackers c - held_by (state_after o h) c) ↔ HasRoom (state_after o h) mine.page.client (length_of (state_after o h) mine.page.blocks)) (sym same)
      (room_exactly (state_after o h) sound mine.page.client (length_of (state_after o h) mine.page.blocks)))

  place : row.place ≡ place_row mine.page.place
  place = ap (λ (r : PageRow). r.place) mine.is

  pub pin_wanted : IsTrue b ↔ IsPinnable (state_after o h) row → IsWant (state_after o h) maker (call.Pin p) (record { client = row.client; enabled = b })
  pin_wanted tests = record {
    own = (mine.page, mine.own);
    of = of;
    enabled = (
      λ yes_now. record {
        page = mine.page;
        lives = mine.own.lives;
        here = elim (tests.0 yes_now) [
          | inl at ↦ elim at [
            | inl dirty ↦ inl (is_dirty mine.page.place (sym place ∙ dirty))
            | inr flying ↦ inr (inl (flying.0, is_flying mine.page.place flying.0 (sym place ∙ flying.1)))
          ]
          | inr fits ↦ inr (inr (room.0 fits))
        ];
      },
      λ can.
          let k : CanBePinned (state_after o h) p = can in
          let same : k.page ≡ mine.page = same_page (state_after o h) p k.page mine.page k.lives mine.own.lives in
          tests.1 (elim k.here [
            | inl dirty ↦ inl (inl (place ∙ ap (λ (x : Page). place_row x.place) (sym same) ∙ ap place_row dirty))
            | inr more ↦ elim more [
              | inl flying ↦ inl (inr (flying.0, place ∙ ap (λ (x : Page). place_row x.place) (sym same) ∙ ap place_row flying.1))
              | inr fits ↦ inr (room.1 (subst (λ (x : Page). HasRoom (state_after o h) x.client (length_of (state_after o h) x.blocks)) same fits))
            ]
          ]),
    );
    session = client.session;
    opened = has_session;
  }

  pub again_wanted : IsTrue b ↔ (row.blocks * (state_after o h).block_len ≤ reservation_of (state_after o h).trackers row.client - held_by (state_after o h) row.client)
      → IsWant (state_after o h) maker (call.PinAgain p) (record { client = row.client; enabled = b })
  again_wanted tests = record {
    own = (mine.page, mine.own);
    of = of;
    enabled = (
      λ yes_now. record { page = mine.page; lives = mine.own.lives; room = room.0 (tests.0 yes_now) },
      λ can.
          let k : CanBePinnedAgain (state_after o h) p = can in
          let same : k.page ≡ mine.page = same_page (state_after o h) p k.page mine.page k.lives mine.own.lives in
          tests.1 (room.1 (subst (λ (x : Page). HasRoom (state_after o h) x.client (length_of (state_after o h) x.blocks)) same k.room)),
    );
    session = client.session;
    opened = has_session;
  }

-- a call that needs room for a client
module _ (s : State) (sound : IsSound s) (maker c n : ℕ) (cl : Call) (own : IsClientOf s maker c → IsOwnCall s maker cl) (back : IsOwnCall s maker cl → IsClientOf s maker c)
    (of : client_of s cl ≡ Some c) (enabled : HasRoom s c n ↔ IsEnabled s cl) where
  pub room_wanted : (w : Option Want) → WantsRoom s maker c n w → Wants s maker cl w
  room_wanted None none = λ is. none (back is)
  room_wanted (Some w) some =
      let r : IsRoom s maker c n w = some in
      let room : (n ≤ reservation_of s.trackers c - held_by s c) ↔ HasRoom s c n = room_exactly s sound c n in
      record {
        own = own r.own;
        of = of ∙ ap (λ (k : ℕ). Some k) (sym r.of);
        enabled = (λ is. enabled.0 (room.0 (r.enabled.0 is)), λ is. r.enabled.1 (room.1 (enabled.1 is)));
        session = r.own.session;
        opened = r.own.opened;
      }

pub create_wanted : (v : Follower) (s : State) → Shows v s → IsSound s → (maker c blocks n : ℕ) (w : Option Want) → n ≡ blocks * v.block_len → WantsRoom s maker c n w → Wants s maker (call.Create c blocks) w
create_wanted v s shows sound maker c blocks n w is = room_wanted s sound maker c n (call.Create c blocks) (λ own. own) (λ own. own) refl
    (λ has. subst (λ (k : ℕ). HasRoom s c k) (length_is v s shows blocks n is) has, λ has. subst (λ (k : ℕ). HasRoom s c k) (sym (length_is v s shows blocks n is)) has) w

pub alloc_wanted : (v : Follower) (s : State) → Shows v s → IsSound s → (maker c blocks n : ℕ) (w : Option Want) → n ≡ blocks * v.block_len → WantsRoom s maker c n w → Wants s maker (call.Alloc c blocks) w
alloc_wanted v s shows sound maker c blocks n w is = room_wanted s sound maker c n (call.Alloc c blocks) (λ own. own) (λ own. own) refl
    (λ has. subst (λ (k : ℕ). HasRoom s c k) (length_is v s shows blocks n is) has, λ has. subst (λ (k : ℕ). HasRoom s c k) (sym (length_is v s shows blocks n is)) has) w

pub return_wanted : (s : State) → IsSound s → (maker c n : ℕ) (w : Option Want) → WantsRoom s maker c n w → Wants s maker (call.GiveBack c n) w
return_wanted s sound maker c n w = room_wanted s sound maker c n (call.GiveBack c n) (λ own. own) (λ own. own) refl (λ has. has, λ has. has) w

pub move_wanted : (s : State) → IsSound s → (maker c to n : ℕ) → IsTrackerOf s maker to → (w : Option Want) → WantsRoom s maker c n w → Wants s maker (call.MoveReservation c to n) w
move_wanted s sound maker c to n target w = room_wanted s sound maker c n (call.MoveReservation c to n) (λ own. (own, target)) (λ own. own.0) refl (λ has. has, λ has. has) w

pub buffer_wanted : (v : Follower) (s : State) → Shows v s → IsSound s → (maker f to n : ℕ) (row : BufferRow) → get v.buffers f ≡ Some row → IsClientOf s maker row.client → n ≡ row.blocks * v.block_len
    → (w : Option Want) → WantsRoom s maker to n w → Wants s maker (call.MoveBuffer f to) w
buffer_wanted v s shows sound maker f to n row there owner is =
    let mine : HasRow buffer_row (get s.buffers f) row = row_of buffer_row s.buffers v.buffers shows.things.buffers f row there in
    let holder : IsClientOf s maker mine.of.client = subst (λ (r : BufferRow). IsClientOf s maker r.client) mine.is owner in
    let size : n ≡ length_of s mine.of.blocks = length_is v s shows row.blocks n is ∙ ap (λ (r : BufferRow). length_of s r.blocks) mine.is in
    room_wanted s sound maker to n (call.MoveBuffer f to) (λ own. (record { buffer = mine.of; lives = mine.lives; own = holder }, own)) (λ own. own.1) refl (
      λ has. record { buffer = mine.of; lives = mine.lives; room = subst (λ (k : ℕ). HasRoom s to k) size has },
      λ can.
          let k : CanBeMoved s f to = can in
          let same : k.buffer ≡ mine.of = some_is k.buffer mine.of (sym k.lives ∙ mine.lives) in
          subst (λ (j : ℕ). HasRoom s to j) (sym size) (subst (λ (x : Buffer). HasRoom s to (length_of s x.blocks)) same k.room),
    )

-- a buffer that isn't the session's
pub buffer_foreign : (v : Follower) (s : State) → Shows v s → (maker f to : ℕ) (row : BufferRow) → get v.buffers f ≡ Some row → (IsClientOf s maker row.client → ⊥) → IsOwnCall s maker (call.MoveBuffer f to) → ⊥
buffer_foreign v s shows maker f to row there foreign own =
    let mine : HasRow buffer_row (get s.buffers f) row = row_of buffer_row s.buffers v.buffers shows.things.buffers f row there in
    let b : IsBufferOf s maker f = own.0 in
    let same : b.buffer ≡ mine.of = some_is b.buffer mine.of (sym b.lives ∙ mine.lives) in
    foreign (subst (λ (r : BufferRow). IsClientOf s maker r.client) (sym mine.is) (subst (λ (x : Buffer). IsClientOf s maker x.client) same b.own))

-- the refusal itself
module _ (v : Follower) (o : Opening) (h : List Entry) (stands : StandsFor v o h) (maker : ℕ) (cl : Call) (entry : ℕ) (asked : is_some (get v.asked maker) ≡ true) (w : Want) (want : IsWant (state_after o h) maker cl w) where
  record HasSince : Type 0 where
    pub since : Asked
    pub there : get v.asked maker ≡ Some since

  has_since : (a : Option Asked) → is_some a ≡ true → (since : Asked) × (a ≡ Some since)
  has_since None is = cc
  has_since (Some since) is = (since, refl)

  since_of : (since : Asked) × (get v.asked maker ≡ Some since)
  since_of = has_since (get v.asked maker) asked

  noted : (c : ℕ) → noted_failure c (get v.asked maker) ≡ get want.session.failures c
  noted c = ap (noted_failure c) since_of.1 ∙ ap (λ (f : FinMap _ ℕ). get f c) (stands.shows.sessions.failures maker want.session since_of.0 want.opened since_of.1)

  read : (p : ℕ) → noted_read p (get v.asked maker) ≡ last_failed_read h maker p
  read p = ap (noted_read p) since_of.1 ∙ stands.tells.reads maker since_of.0 since_of.1 p

  pub lacking_room : (w.enabled ≡ false) × (noted_failure w.client (get v.asked maker) ≡ Some entry) → MayRefuse h (state_after o h) maker cl entry
  lacking_room lacks = record {
    asked = (stands.tells.asked maker).0 asked;
    own = want.own;
    why = inl (record {
      client = w.client;
      of = want.of;
      full = λ enabled. let on : w.enabled ≡ true = want.enabled.1 enabled in let both : false ≡ true = sym lacks.0 ∙ on in cc;
      session = want.session;
      opened = want.opened;
      first = sym (noted w.client) ∙ lacks.1;
    });
  }

  -- where room isn't lacking, a read has failed
  pub read_failed : (b : Bool) → IsTrue b ↔ FailedRead (get v.asked maker) cl entry → ((w.enabled ≡ false) × (noted_failure w.client (get v.asked maker) ≡ Some entry) → ⊥) → IsTrue b ↔ MayRefuse h (state_after o h) maker cl entry
  read_failed b tests room = (
    λ is.
        let failed : FailedRead (get v.asked maker) cl entry = tests.0 is in
        let kept : get since_of.0.reads failed.page ≡ Some entry = sym (ap (noted_read failed.page) since_of.1) ∙ failed.noted in
        let early : entry < v.entries = stands.tells.earlier maker since_of.0 since_of.1 failed.page entry kept in
        let few : v.entries < 2 ^ 64 = stands.shows.few in
        record {
          asked = (stands.tells.asked maker).0 asked;
          own = want.own;
          why = inr (record { p = failed.page; is = failed.pins; failure = entry; last = sym (read failed.page) ∙ failed.noted; shows = sym (counted_shown entry (omega (arith, early, few))) });
        },
    λ may.
        let m : MayRefuse h (state_after o h) maker cl entry = may in
        tests.1 (elim m.why [
          | inl lacks ↦
              let l : LacksRoom (state_after o h) maker cl entry = lacks in
              let client : l.client ≡ w.client = some_is l.client w.client (sym l.of ∙ want.of) in
              let session : l.session ≡ want.session = some_is l.session want.session (sym l.opened ∙ want.opened) in
              let first : get want.session.failures w.client ≡ Some entry = ap (get want.session.failures) (sym client) ∙ ap (λ (x : Session). get x.failures l.client) (sym session) ∙ l.first in
              absurd (room (off w.enabled refl l.full, noted w.client ∙ first))
          | inr load ↦
              let l : FailedToLoad h maker cl entry = load in
              let kept : get since_of.0.reads l.p ≡ Some l.failure = stands.tells.reads maker since_of.0 since_of.1 l.p ∙ l.last in
              let early : l.failure < v.entries = stands.tells.earlier maker since_of.0 since_of.1 l.p l.failure kept in
              let few : v.entries < 2 ^ 64 = stands.shows.few in
              let same : entry ≡ l.failure = l.shows ∙ counted_shown l.failure (omega (arith, early, few)) in
              record { page = l.p; pins = l.is; noted = read l.p ∙ l.last ∙ ap (λ (k : ℕ). Some k) (sym same) }
        ]),
  )
    where
      off : (e : Bool) → w.enabled ≡ e → (IsEnabled (state_after o h) cl → ⊥) → w.enabled ≡ false
      off true is full = absurd (full (want.enabled.0 is))
      off false is full = is
