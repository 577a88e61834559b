-- Buffers that clients hold beside their pages.
use Rattle.std.specs.Prelude.{ℕ, ◌≡◌, ◌≢◌, ◌+◌, ◌-◌, ◌≤◌, Some}
use Rattle.std.specs.FinMap.{get}
use Rattle.block_arena.specs.Memory.{IsBufferOf}
use Rattle.buffer_transfer.specs.Buffers.{IsLive as IsLiveBuffer, moved, without_buffer}
use Rattle.clean_evict.specs.Eviction.{with_freed}
use Rattle.reservation_tree.specs.Tracker.{IsLive, unused}
use Rattle.reservation_tree.specs.Tree.{TreeState, charge_of as charge_in, set_charge}
use Rattle.pool_model.specs.declared.entry.Entry.{Entry as Event}
use Rattle.pool_model.specs.declared.event.Event.TheVariants as event
use Rattle.pool_model.specs.Bytes.{bytes_of}
use Rattle.pool_model.specs.Owning.{IsClientOf}
use Rattle.pool_model.specs.State.{State, shown}
use Rattle.pool_model.specs.Sums.{HasRoom, length_of}
use Rattle.store_api.specs.Tokens.{ClientToken, LoanToken}
use Rattle.pin_core.specs.declared.parts.Parts.{Parts}
use Rattle.pin_core.specs.parts.Leavings.{TakesBack}

-- the loan's buffer is live, it is charged to the loan's client, and has as many blocks as the loan
pub record IsLoan (s : State) (loan : LoanToken) : Type 0 where
  pub lives : get s.buffers loan.number ≡ Some (record { client = loan.client; blocks = loan.buf.blocks })
  pub buffer : IsBufferOf loan.buf.blocks s.block_len loan.buf

-- the other client is of the same session, and has room for the buffer where it isn't its own
pub record CanMoveTo (s : State) (loan : LoanToken) (to : ClientToken) : Type 0 where
  pub own : IsClientOf s to.session loan.client
  pub own_to : IsClientOf s to.session to.tracker
  pub room : loan.client ≢ to.tracker → HasRoom s to.tracker (length_of s loan.buf.blocks)

abbrev pub free_entry : ℕ → ℕ → Event
free_entry maker f = record { maker = maker; event = event.Free f }

abbrev pub move_entry : ClientToken → ℕ → Event
move_entry to f = record { maker = to.session; event = event.MoveBuffer f to.tracker }

-- so much more is charged to a tracker
abbrev pub charged_more : ℕ → ℕ → TreeState → TreeState
charged_more bytes t tree = set_charge (charge_in tree t + bytes) t tree

-- and so much less
abbrev pub charged_less : ℕ → ℕ → TreeState → TreeState
charged_less bytes t tree = set_charge (charge_in tree t - bytes) t tree

module _ {D : Type 0} where
  -- what the parts need of each other for the end of a loan
  pub record ReadyFree (v : Parts D) (loan : LoanToken) : Type 0 where
    pub live : IsLiveBuffer v.buffers loan.number
    pub tracker : IsLive v.tree.trackers loan.client
    pub used : bytes_of v.arena.block_len loan.buf.blocks ≤ charge_in v.tree loan.client
    pub back : TakesBack v.arena loan.buf

  -- a loan has ended, and its blocks are free
  abbrev pub freed : LoanToken → Parts D → Parts D
  freed loan v = record v {
    buffers = without_buffer v.buffers loan.number;
    tree = charged_less (bytes_of v.arena.block_len loan.buf.blocks) loan.client v.tree;
    arena = with_freed loan.buf.blocks v.arena;
    entries = shown (v.entries + 1);
  }

  -- what the parts need of each other for a loan's move to another client
  pub record ReadyMove (v : Parts D) (loan : LoanToken) (to : ℕ) : Type 0 where
    pub live : IsLiveBuffer v.buffers loan.number
    pub tracker : IsLive v.tree.trackers loan.client
    pub tracker_to : IsLive v.tree.trackers to
    pub unused : bytes_of v.arena.block_len loan.buf.blocks ≤ unused (charge_in v.tree) v.tree.trackers to
    pub used : bytes_of v.arena.block_len loan.buf.blocks ≤ charge_in (charged_more (bytes_of v.arena.block_len loan.buf.blocks) to v.tree) loan.client
    pub len : loan.buf.block_len ≡ v.arena.block_len

  -- a loan is charged to another client
  abbrev pub lent_to : LoanToken → ℕ → Parts D → Parts D
  lent_to loan to v = record v {
    buffers = moved v.buffers loan.number to;
    tree = charged_less (bytes_of v.arena.block_len loan.buf.blocks) loan.client (charged_more (bytes_of v.arena.block_len loan.buf.blocks) to v.tree);
    entries = shown (v.entries + 1);
  }
