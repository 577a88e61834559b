-- A client that can hold so many blocks finds them, and clean pages make room.
use Rattle.std.proofs.Common.{◌≡◌, ℕ, ◌+◌, ◌-◌, ◌<◌, ◌≤◌, false, [], Option, Some, None, ap, sym, ◌∙◌, subst, arith, eq-eqb}
use Rattle.std.specs.FinMap.{get}
use Rattle.block_arena.specs.Memory.{Supply}
use Rattle.clean_evict.specs.Eviction.{blocks_of}
use Rattle.client_lists.specs.Clients.{IsOpen}
use Rattle.reservation_tree.specs.Tracker.{Tracker, IsLive, unused}
use Rattle.reservation_tree.specs.Tree.{charge_of as charge_in}
use Rattle.reservation_tree.proofs.Maps.{is_there}
use Rattle.reservation_tree.proofs.Outline.{depth_is}
use Rattle.page_table.specs.declared.entry.Entry.{Entry}
use Rattle.page_table.specs.Pages.{Pages as Table}
use Rattle.pool_model.specs.Bytes.{bytes_of}
use Rattle.pool_model.specs.Sound.{IsSound}
use Rattle.pool_model.specs.Sums.{IsClient, is_client, length_of}
use Rattle.pool_model.specs.PageRows.{CanTake}
use Rattle.pool_model.proofs.Kept.{legal_sound}
use Rattle.pool_model.proofs.Seats.{own_client}
use Rattle.store_api.specs.Tokens.{ClientToken}
use Rattle.pin_core.specs.declared.kept.Kept.{Kept}
use Rattle.pin_core.specs.declared.parts.Parts.{Parts}
use Rattle.pin_core.specs.StateOf.{state_of}
use Rattle.pin_core.specs.Invariant.{IsKept}
use Rattle.pin_core.specs.Lawful.{Lawful}
use Rattle.pin_core.specs.calls.Evictions.{MakesRoom, evictions, keys_gone, names_gone, with_room}
use Rattle.pin_core.proofs.Goes.{makes_room}
use Rattle.pin_core.specs.calls.Coming.{CanHold}
use Rattle.pin_core.proofs.Charged.{room_unused}
use Rattle.pin_core.proofs.CleanRoom.{finds_blocks, free_bytes_are}
use Rattle.pin_core.proofs.EvictAll.{Evicted, all_rest, all_free, all_pages, room_kept}
use Rattle.pin_core.proofs.Entered.{Done}
use Rattle.pin_core.proofs.Known.{known_now}
use Rattle.pin_core.proofs.Lends.{session_low}
use Rattle.pin_core.proofs.Listed.{bytes_plus}
use Rattle.pin_core.proofs.LoadedOver.{evicted_done}
use Rattle.pin_core.proofs.Roomed.{room_made}

-- what is left and what was taken
pub less : (all part : ℕ) → part ≤ all → (all - part) + part ≡ all
less all part le = omega (arith, le)

pub bytes_mono : (len a b : ℕ) → a ≤ b → bytes_of len a ≤ bytes_of len b
bytes_mono len a b le =
    let whole = ap (bytes_of len) (less b a le) in
    let plus = bytes_plus len (b - a) a in
    omega (arith, whole, plus)

module _ {D : Type 0} (v : Parts D) (is_kept : IsKept v) (c : ClientToken) (blocks : ℕ) (can : CanHold (state_of v) c blocks) where
  pub holder : IsClient v.tree.trackers c.tracker
  holder = own_client (state_of v) (known_now IsSound legal_sound (state_of v) is_kept.legal).seated c.session c.tracker can.client

  pub holder_low : c.session < 240
  holder_low = session_low v is_kept c.session c.tracker can.client

  pub holder_live : IsLive v.tree.trackers c.tracker
  holder_live = is_there _ can.client.tracker can.client.lives

  pub holder_open : IsOpen c.tracker v.lists
  holder_open =
      is_kept.seated.opens c.tracker
      ∙ ap (λ (o : Option Tracker). elim o [ None ↦ false | Some x ↦ is_client x ]) can.client.lives
      ∙ eq-eqb can.client.tracker.depth 2 (sym (depth_is v.tree.trackers c.tracker can.client.tracker can.client.lives) ∙ holder.deep)

  pub holder_unused : bytes_of v.arena.block_len blocks ≤ unused (charge_in v.tree) v.tree.trackers c.tracker
  holder_unused = room_unused v is_kept c.tracker (bytes_of v.arena.block_len blocks) holder can.room

  -- where so many are free they can be taken
  pub holder_takes : blocks ≤ v.arena.free → CanTake (state_of v) c.tracker blocks
  holder_takes free = record {
    room = can.room;
    free = let less = bytes_mono v.arena.block_len blocks v.arena.free free in let same = free_bytes_are v is_kept in omega (arith, less, same);
  }

  module _ (laws : Lawful v) where
    pub holder_finds : blocks ≤ v.arena.free + blocks_of v.pages v.clean.keys
    holder_finds = finds_blocks v is_kept laws c.tracker blocks holder can.room

    abbrev mid : Parts D
    mid = with_room blocks v

    pub gone : Evicted c.session (keys_gone blocks v) v mid
    gone = room_made v is_kept laws blocks c.session holder_low

    pub gone_done : Done (evictions c.session (names_gone blocks v)) [] [] v mid
    gone_done = evicted_done c.session (keys_gone blocks v) v mid gone

    pub len_still : mid.arena.block_len ≡ v.arena.block_len
    len_still = ap (λ (a : Supply). a.block_len) (all_free (keys_gone blocks v) v)

    pub next_still : mid.pages.next_name ≡ v.pages.next_name
    next_still = ap (λ (t : Table (Entry (Kept D))). t.next_name) (all_pages (keys_gone blocks v) v)

    rest : mid ≡ record v { pages = mid.pages; clean = mid.clean; arena = mid.arena; entries = mid.entries }
    rest = all_rest (keys_gone blocks v) v

    pub book_still : mid.buffers ≡ v.buffers
    book_still = ap (λ (p : Parts D). p.buffers) rest

    -- the client can hold them still
    pub holds_still : CanHold (state_of mid) c blocks
    holds_still =
        let own = can.client in
        record {
          client = record {
            session = own.session;
            opened = ap (λ (p : Parts D). get (state_of p).sessions c.session) rest ∙ own.opened;
            tracker = own.tracker;
            lives = ap (λ (p : Parts D). get p.tree.trackers c.tracker) rest ∙ own.lives;
            under = own.under;
          };
          some = can.some;
          few = can.few;
          room =
              let kept = room_kept c.session (keys_gone blocks v) v gone c.tracker (bytes_of v.arena.block_len blocks) can.room in
              let same = ap (λ (len : ℕ). bytes_of len blocks) len_still in
              omega (arith, kept, same);
        }

-- the blocks that are found, where the parts and the shell are known by equations
pub holder_covered : {D : Type 0} (v old : Parts D) (c : ClientToken) (shell blocks : ℕ) → v ≡ old → shell ≡ blocks → IsKept v → Lawful v → CanHold (state_of old) c blocks
    → shell ≤ v.arena.free + blocks_of v.pages v.clean.keys
holder_covered {D} v old c shell blocks same room kept laws can =
    let found = holder_finds v kept c blocks (subst (λ (z : Parts D). CanHold (state_of z) c blocks) (sym same) can) laws in
    omega (arith, room, found)

-- as few clean pages go as serve, where the parts are known by equations
pub gone_needed : {D : Type 0} (v old : Parts D) → v ≡ old → IsKept v → Lawful v → (n blocks : ℕ) → n ≡ blocks → (new : Parts D) → new ≡ with_room n v → n ≤ new.arena.free
    → MakesRoom (state_of old) (length_of (state_of old) blocks) (names_gone blocks old)
gone_needed {D} v old same is_kept laws n blocks is new made enough =
    let needed : MakesRoom (state_of v) (length_of (state_of v) n) (names_gone n v) = makes_room v is_kept laws n (subst (λ (z : Parts D). n ≤ z.arena.free) made enough) in
    subst (λ (z : Parts D). MakesRoom (state_of z) (length_of (state_of z) blocks) (names_gone blocks z)) same
    (subst (λ (k : ℕ). MakesRoom (state_of v) (length_of (state_of v) k) (names_gone k v)) is needed)
