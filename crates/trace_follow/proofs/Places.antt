-- A page goes to another place: what the follower keeps goes with it.
use Rattle.std.proofs.Common.{◌≡◌, ◌≢◌, ℕ, ◌+◌, ◌-◌, ◌*◌, ◌≤◌, ◌==◌, Bool, Some, Option, unwrap_or, refl, ap, sym, ◌∙◌, subst, arith, inl, inr}
use Rattle.std.specs.FinMap.{get, insert}
use Rattle.reservation_tree.specs.Total.{total, weight_at}
use Rattle.reservation_tree.proofs.Maps.{get_same, get_other, same_or_other}
use Rattle.reservation_tree.proofs.Sums.{total-insert}
use Rattle.pool_model.specs.Bytes.{bytes_of, only_if}
use Rattle.pool_model.specs.State.{Page, Pages, Buffers, State}
use Rattle.pool_model.specs.State as model
use Rattle.pool_model.specs.Sums.{times_charged, times_held, is_in_memory, once, page_bytes, bytes_in, pages_for, buffers_for, buffer_bytes, bytes_in_memory, memory, slots_of}
use Rattle.pool_model.specs.Parts.{pins_at, put_in, put_flying}
use Rattle.pool_model.proofs.Pages.{page_is}
use Rattle.pool_model.proofs.Weights.{mine, not_mine}
use Rattle.pool_model.proofs.PageSums.{pages_put, bytes_put}
use Rattle.trace_follow.specs.declared.rows.Place.{Place}
use Rattle.trace_follow.specs.declared.rows.Place.TheVariants as spot
use Rattle.trace_follow.specs.declared.rows.Load.{Load}
use Rattle.trace_follow.specs.declared.rows.PageRow.{PageRow}
use Rattle.trace_follow.specs.declared.follower.Follower.{Follower}
use Rattle.trace_follow.specs.Rows.{place_row, page_row, pages_on, buffers_on, load_of, load_at}
use Rattle.trace_follow.specs.Showing.{Shows}
use Rattle.trace_follow.specs.Moving.{charges_of, holds_of, blocks_of, pins_in, Moves}
use Rattle.trace_follow.proofs.Mirrored.{HasRow, row_of, mirror_put}
use Rattle.trace_follow.proofs.Rooms.{bytes_are}

pub charges_told : (place : model.Place) → charges_of (place_row place) ≡ times_charged place
charges_told (model.Pinned count) = refl
charges_told model.Dirty = refl
charges_told (model.Flying writer) = refl
charges_told model.Loading = refl
charges_told model.Clean = refl
charges_told model.Evicted = refl

pub holds_told : (place : model.Place) → holds_of (place_row place) ≡ times_held place
holds_told (model.Pinned count) = refl
holds_told model.Dirty = refl
holds_told (model.Flying writer) = refl
holds_told model.Loading = refl
holds_told model.Clean = refl
holds_told model.Evicted = refl

pub blocks_told : (place : model.Place) → blocks_of (place_row place) ≡ once is_in_memory place
blocks_told (model.Pinned count) = refl
blocks_told model.Dirty = refl
blocks_told (model.Flying writer) = refl
blocks_told model.Loading = refl
blocks_told model.Clean = refl
blocks_told model.Evicted = refl

pub same_load : (a b : Load) → a.charge ≡ b.charge → a.held ≡ b.held → a.count ≡ b.count → a ≡ b
same_load a b charge held count =
    ap (λ (n : ℕ). record { charge = n; held = a.held; count = a.count }) charge
    ∙ ap (λ (n : ℕ). record { charge = b.charge; held = n; count = a.count }) held
    ∙ ap (λ (n : ℕ). record { charge = b.charge; held = b.held; count = n }) count

pages_on_put : (pages : Pages) (p : ℕ) (x y : Page) (c : ℕ) → get pages p ≡ Some x → y.client ≡ x.client → pages_on (insert pages p y) c ≡ pages_on pages c
unfolding pages_on
pages_on_put pages p x y c is client =
    let w : ℕ → Page → ℕ = λ _ z. only_if (z.client == c) 1 in
    let sum : total w (insert pages p y) + weight_at w p (get pages p) ≡ total w pages + w p y = total-insert w pages p y in
    let old : weight_at w p (get pages p) ≡ w p x = ap (weight_at w p) is in
    let same : w p y ≡ w p x = ap (λ (d : ℕ). only_if (d == c) 1) client in
    omega (arith, sum, old, same)

slots_put : (pages : Pages) (p : ℕ) (x y : Page) (m : ℕ) → get pages p ≡ Some x → y.session ≡ x.session → y.blocks ≡ x.blocks → y.has_slots ≡ x.has_slots → slots_of (insert pages p y) m ≡ slots_of pages m
unfolding slots_of
slots_put pages p x y m is session blocks has =
    let w : ℕ → Page → ℕ = λ _ z. only_if (z.session == m) (only_if z.has_slots z.blocks) in
    let sum : total w (insert pages p y) + weight_at w p (get pages p) ≡ total w pages + w p y = total-insert w pages p y in
    let old : weight_at w p (get pages p) ≡ w p x = ap (weight_at w p) is in
    let same : w p y ≡ w p x =
    ap (λ (d : ℕ). only_if (d == m) (only_if y.has_slots y.blocks)) session
    ∙ ap (λ (b : Bool). only_if (x.session == m) (only_if b y.blocks)) has
    ∙ ap (λ (n : ℕ). only_if (x.session == m) (only_if x.has_slots n)) blocks in
    omega (arith, sum, old, same)

-- the row that is read after one was put
pub load_put : (v : Follower) (c : ℕ) (load : Load) → load_at (insert v.loads c load) c ≡ load
load_put v c load = ap (λ (o : Option Load). unwrap_or o (record { charge = 0; held = 0; count = 0 })) (get_same v.loads c load)

pub load_beside : (v : Follower) (c : ℕ) (load : Load) (d : ℕ) → d ≢ c → load_at (insert v.loads c load) d ≡ load_at v.loads d
load_beside v c load d other = ap (λ (o : Option Load). unwrap_or o (record { charge = 0; held = 0; count = 0 })) (get_other v.loads c load d other)

-- a live page, which goes to another place
module _ (v w : Follower) (s : State) (p : ℕ) (x : Page) (place : model.Place) (version : ℕ) (shows : Shows v s) (is : get s.pages p ≡ Some x)
    (moves : Moves v w p (page_row x) (page_row (record x { place = place; version = version }))) where
  abbrev pub there : Page
  there = record x { place = place; version = version }

  length_is : x.blocks * v.block_len ≡ bytes_of s.block_len x.blocks
  length_is = ap (λ (n : ℕ). x.blocks * n) shows.block_len ∙ sym (bytes_are s.block_len x.blocks)

  module _ (times : model.Place → ℕ) (count : Place → ℕ) (told : (q : model.Place) → count (place_row q) ≡ times q) where
    amount : (q : model.Place) → count (place_row q) * (x.blocks * v.block_len) ≡ times q * bytes_of s.block_len x.blocks
    amount q = ap (λ (n : ℕ). n * (x.blocks * v.block_len)) (told q) ∙ ap (λ (n : ℕ). times q * n) length_is

    mine_moved : (before after : ℕ) → after + count (place_row x.place) * (x.blocks * v.block_len) ≡ before + count (place_row place) * (x.blocks * v.block_len)
        → before ≡ pages_for times s.block_len s.pages x.client + buffers_for s.block_len s.buffers x.client
        → after ≡ pages_for times s.block_len (insert s.pages p there) x.client + buffers_for s.block_len s.buffers x.client
    mine_moved before after step was =
        let sum : pages_for times s.block_len (insert s.pages p there) x.client + only_if (x.client == x.client) (page_bytes times s.block_len x)
        ≡ pages_for times s.block_len s.pages x.client + only_if (x.client == x.client) (page_bytes times s.block_len there) = pages_put times s.block_len s.pages p x is there x.client in
        let old : only_if (x.client == x.client) (page_bytes times s.block_len x) ≡ times x.place * bytes_of s.block_len x.blocks = mine x.client _ in
        let now : only_if (x.client == x.client) (page_bytes times s.block_len there) ≡ times place * bytes_of s.block_len x.blocks = mine x.client _ in
        omega (arith, sum, old, now, step, was, amount x.place, amount place)

    others_stay : (c : ℕ) → x.client ≢ c → pages_for times s.block_len (insert s.pages p there) c ≡ pages_for times s.block_len s.pages c
    others_stay c other =
        let sum : pages_for times s.block_len (insert s.pages p there) c + only_if (x.client == c) (page_bytes times s.block_len x)
        ≡ pages_for times s.block_len s.pages c + only_if (x.client == c) (page_bytes times s.block_len there) = pages_put times s.block_len s.pages p x is there c in
        let old : only_if (x.client == c) (page_bytes times s.block_len x) ≡ 0 = not_mine x.client c _ other in
        let now : only_if (x.client == c) (page_bytes times s.block_len there) ≡ 0 = not_mine x.client c _ other in
        omega (arith, sum, old, now)

  on_same : (c : ℕ) → pages_on (insert s.pages p there) c ≡ pages_on s.pages c
  on_same c = pages_on_put s.pages p x there c is refl

  loads_moved : (c : ℕ) → load_at (insert v.loads x.client moves.load) c ≡ load_of s.block_len (insert s.pages p there) s.buffers c
  loads_moved c = elim (same_or_other c x.client) [
    | inl here ↦
        let was : load_at v.loads x.client ≡ load_of s.block_len s.pages s.buffers x.client = shows.things.loads x.client in
        let charge : moves.load.charge ≡ (load_of s.block_len (insert s.pages p there) s.buffers x.client).charge =
        mine_moved times_charged charges_of charges_told (load_at v.loads x.client).charge moves.load.charge moves.loads.charge (ap (λ (l : Load). l.charge) was) in
        let held : moves.load.held ≡ (load_of s.block_len (insert s.pages p there) s.buffers x.client).held =
        mine_moved times_held holds_of holds_told (load_at v.loads x.client).held moves.load.held moves.loads.held (ap (λ (l : Load). l.held) was) in
        let count : moves.load.count ≡ (load_of s.block_len (insert s.pages p there) s.buffers x.client).count =
        moves.loads.count ∙ ap (λ (l : Load). l.count) was ∙ ap (λ (n : ℕ). n + buffers_on s.buffers x.client) (sym (on_same x.client)) in
        ap (load_at (insert v.loads x.client moves.load)) here ∙ load_put v x.client moves.load
        ∙ same_load moves.load (load_of s.block_len (insert s.pages p there) s.buffers x.client) charge held count
        ∙ ap (load_of s.block_len (insert s.pages p there) s.buffers) (sym here)
    | inr other ↦
        let apart : x.client ≢ c = λ same. other (sym same) in
        load_beside v x.client moves.load c other ∙ shows.things.loads c
        ∙ same_load (load_of s.block_len s.pages s.buffers c) (load_of s.block_len (insert s.pages p there) s.buffers c)
        (ap (λ (n : ℕ). n + buffers_for s.block_len s.buffers c) (sym (others_stay times_charged charges_of charges_told c apart)))
        (ap (λ (n : ℕ). n + buffers_for s.block_len s.buffers c) (sym (others_stay times_held holds_of holds_told c apart)))
        (ap (λ (n : ℕ). n + buffers_on s.buffers c) (sym (on_same c)))
  ]

  free_moved : bytes_in_memory s ≤ memory s → moves.free ≡ memory s - (bytes_in (once is_in_memory) s.block_len (insert s.pages p there) + buffer_bytes s.block_len s.buffers)
  free_moved fits =
      let sum : bytes_in (once is_in_memory) s.block_len (insert s.pages p there) + once is_in_memory x.place * bytes_of s.block_len x.blocks
      ≡ bytes_in (once is_in_memory) s.block_len s.pages + once is_in_memory place * bytes_of s.block_len x.blocks = bytes_put (once is_in_memory) s.block_len s.pages p x is there in
      let was : v.free ≡ memory s - bytes_in_memory s = shows.free in
      let step : moves.free + blocks_of (place_row place) * (x.blocks * v.block_len) ≡ v.free + blocks_of (place_row x.place) * (x.blocks * v.block_len) = moves.frees in
      omega (arith, sum, was, step, fits, amount (once is_in_memory) blocks_of blocks_told x.place, amount (once is_in_memory) blocks_of blocks_told place)

  -- with its row what its client has, and what is free
  pub shows_moved : bytes_in_memory s ≤ memory s → Shows w (record s { pages = insert s.pages p there })
  shows_moved fits =
      let row : PageRow = page_row there in
      let new : Follower = record v { pages = insert v.pages p row; loads = insert v.loads x.client moves.load; free = moves.free } in
      let moved : Shows new (record s { pages = insert s.pages p there }) = record {
        block_len = shows.block_len;
        trackers = shows.trackers;
        sessions = shows.sessions;
        things = record {
          pages = mirror_put page_row s.pages v.pages shows.things.pages p there row refl;
          buffers = shows.things.buffers;
          loads = loads_moved;
          lent = λ m. shows.things.lent m ∙ sym (slots_put s.pages p x there m is refl refl refl);
        };
        free = free_moved fits;
        queues = record {
          dirty_names = shows.queues.dirty_names;
          clean_names = shows.queues.clean_names;
          dirty_stamped = shows.queues.dirty_stamped;
          clean_stamped = shows.queues.clean_stamped;
          earlier = shows.queues.earlier;
          own = shows.queues.own;
        };
        next_name = shows.next_name;
        entries = shows.entries;
        few = shows.few;
      } in
      subst (λ (u : Follower). Shows u (record s { pages = insert s.pages p there })) (sym moves.is) moved

-- a page goes to this place in the state too
module _ (v w : Follower) (s : State) (p : ℕ) (row : PageRow) (shows : Shows v s) (fits : bytes_in_memory s ≤ memory s) (live : get v.pages p ≡ Some row) where
  its : HasRow page_row (get s.pages p) row
  its = row_of page_row s.pages v.pages shows.things.pages p row live

  moved_as : (q : Place) (place : model.Place) (version n : ℕ) → q ≡ place_row place → n ≡ version → Moves v w p row (record row { place = q; version = n })
      → Shows w (record s { pages = insert s.pages p (record its.of { place = place; version = version }) })
  moved_as q place version n same number moves =
      let x : HasRow page_row (get s.pages p) row = its in
      let of_row : Moves v w p (page_row x.of) (record (page_row x.of) { place = place_row place; version = version }) =
      subst (λ (r : PageRow). Moves v w p r (record r { place = place_row place; version = version })) x.is
      (subst (λ (k : ℕ). Moves v w p row (record row { place = place_row place; version = k })) number (subst (λ (z : Place). Moves v w p row (record row { place = z; version = n })) same moves)) in
      shows_moved v w s p x.of place version shows x.lives of_row fits

  pub placed : (q : Place) (place : model.Place) → q ≡ place_row place → Moves v w p row (record row { place = q }) → Shows w (put_in place p s)
  placed q place same moves =
      subst (λ (y : Page). Shows w (record s { pages = insert s.pages p (record y { place = place }) })) (sym (page_is s p its.of its.lives))
      (moved_as q place its.of.version row.version same (ap (λ (r : PageRow). r.version) its.is) moves)

  pub flown : (maker : ℕ) → Moves v w p row (record row { place = spot.Flying maker; version = v.entries }) → Shows w (put_flying maker p s)
  flown maker moves =
      subst (λ (y : Page). Shows w (record s { pages = insert s.pages p (record y { place = model.Flying maker; version = s.entries }) })) (sym (page_is s p its.of its.lives))
      (moved_as (spot.Flying maker) (model.Flying maker) s.entries v.entries refl shows.entries moves)

pins_of_row : (place : model.Place) → model.pins_of place ≡ pins_in (place_row place)
pins_of_row (model.Pinned count) = refl
pins_of_row model.Dirty = refl
pins_of_row (model.Flying writer) = refl
pins_of_row model.Loading = refl
pins_of_row model.Clean = refl
pins_of_row model.Evicted = refl

-- the pins of a page are those of its row
pub pins_told : (v : Follower) (s : State) (p : ℕ) (row : PageRow) → Shows v s → get v.pages p ≡ Some row → pins_at s p ≡ pins_in row.place
pins_told v s p row shows live =
    let x : HasRow page_row (get s.pages p) row = row_of page_row s.pages v.pages shows.things.pages p row live in
    ap (λ (y : Page). model.pins_of y.place) (page_is s p x.of x.lives) ∙ pins_of_row x.of.place ∙ ap (λ (r : PageRow). pins_in r.place) (sym x.is)
