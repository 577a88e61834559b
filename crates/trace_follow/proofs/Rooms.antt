-- Room and free blocks, as the follower has them.
use Rattle.std.proofs.Common.{◌≡◌, ◌≤◌, ◌+◌, ◌*◌, ◌↔◌, ℕ, Bool, true, IsTrue, leb, Option, Some, None, option_map, unwrap_or, refl, ap, sym, ◌∙◌, arith}
use Rattle.std.proofs.lemmas.Bool.{leb-true}
use Rattle.std.specs.FinMap.{get}
use Rattle.std.proofs.lemmas.Bool.{le-leb}
use Rattle.reservation_tree.specs.Tracker.{Tracker, reservation_of}
use Rattle.pool_model.specs.Bytes.{bytes_of}
use Rattle.pool_model.specs.State.{State}
use Rattle.pool_model.specs.Sums.{held_by, HasRoom, length_of, free_bytes}
use Rattle.pool_model.specs.PageRows.{CanTake}
use Rattle.trace_follow.specs.declared.rows.Load.{Load}
use Rattle.trace_follow.specs.declared.follower.Follower.{Follower}
use Rattle.trace_follow.specs.Rows.{tracker_row, load_at}
use Rattle.trace_follow.specs.Looking.{reserved_in}
use Rattle.trace_follow.specs.Showing.{Shows}

-- bytes of blocks are their product
pub bytes_are : (block_len blocks : ℕ) → bytes_of block_len blocks ≡ blocks * block_len
unfolding bytes_of
bytes_are block_len blocks = refl

reserved_row : (o : Option Tracker) → reserved_in (option_map tracker_row o) ≡ (unwrap_or o (record { parent = None; depth = 0; limit = 0; reservation = 0 })).reservation
reserved_row None = refl
reserved_row (Some x) = refl

module _ (v : Follower) (s : State) (shows : Shows v s) where
  pub reserved_told : (c : ℕ) → reserved_in (get v.trackers c) ≡ reservation_of s.trackers c
  reserved_told c = ap reserved_in (shows.trackers.rows c) ∙ reserved_row (get s.trackers c)

  pub held_told : (c : ℕ) → (load_at v.loads c).held ≡ held_by s c
  held_told c = ap (λ (l : Load). l.held) (shows.things.loads c)

  pub length_told : (blocks : ℕ) → blocks * v.block_len ≡ length_of s blocks
  length_told blocks = ap (λ (n : ℕ). blocks * n) shows.block_len ∙ sym (bytes_are s.block_len blocks)

  pub room_told : (c blocks : ℕ) (test : Bool) → IsTrue test ↔ ((load_at v.loads c).held + blocks * v.block_len ≤ reserved_in (get v.trackers c)) → IsTrue test ↔ HasRoom s c (length_of s blocks)
  room_told c blocks test tests = (
    λ is. let fits : (load_at v.loads c).held + blocks * v.block_len ≤ reserved_in (get v.trackers c) = tests.0 is in omega (arith, fits, reserved_told c, held_told c, length_told blocks),
    λ room. tests.1 (omega (arith, room, reserved_told c, held_told c, length_told blocks)),
  )

  pub takes_told : (c blocks len : ℕ) (room : Bool) → IsTrue room ↔ HasRoom s c (length_of s blocks) → room ≡ true → len ≡ blocks * v.block_len → IsTrue (leb len v.free) ↔ CanTake s c blocks
  takes_told c blocks len room rooms has is = (
    λ test. let fits : len ≤ v.free = leb-true len v.free test in record { room = rooms.0 has; free = omega (arith, fits, is, shows.free, length_told blocks) },
    λ takes. let fits : length_of s blocks ≤ free_bytes s = takes.free in le-leb len v.free (omega (arith, fits, is, shows.free, length_told blocks)),
  )
