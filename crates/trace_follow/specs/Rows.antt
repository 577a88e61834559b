-- The rows of what is live. A page's key is passed over, since no trace has it.
use Rattle.std.specs.Prelude.{ℕ, ◌+◌, ◌==◌, unwrap_or}
use Rattle.std.specs.Ordering.{nat_cmp}
use Rattle.std.specs.FinMap.{FinMap, get}
use Rattle.reservation_tree.specs.Total.{total}
use Rattle.reservation_tree.specs.Tracker.{Tracker, Trackers, share_of, children_of}
use Rattle.pool_model.specs.Bytes.{only_if}
use Rattle.pool_model.specs.State.{Page, Pages, Buffer, Buffers, Session}
use Rattle.pool_model.specs.State as model
use Rattle.pool_model.specs.Sums.{times_charged, times_held, pages_for, buffers_for}
use Rattle.trace_follow.specs.declared.rows.Place.{Place}
use Rattle.trace_follow.specs.declared.rows.Place.TheVariants as spot
use Rattle.trace_follow.specs.declared.rows.TrackerRow.{TrackerRow}
use Rattle.trace_follow.specs.declared.rows.Under.{Under}
use Rattle.trace_follow.specs.declared.rows.Load.{Load}
use Rattle.trace_follow.specs.declared.rows.SessionRow.{SessionRow}
use Rattle.trace_follow.specs.declared.rows.PageRow.{PageRow}
use Rattle.trace_follow.specs.declared.rows.BufferRow.{BufferRow}

abbrev pub tracker_row : Tracker → TrackerRow
tracker_row x = record { parent = x.parent; depth = x.depth; limit = x.limit; reservation = x.reservation }

abbrev pub session_row : Session → SessionRow
session_row x = record { query = x.query; quota = x.quota }

abbrev pub place_row : model.Place → Place
place_row (model.Pinned count) = spot.Pinned count
place_row model.Dirty = spot.Dirty
place_row (model.Flying writer) = spot.Flying writer
place_row model.Loading = spot.Loading
place_row model.Clean = spot.Clean
place_row model.Evicted = spot.Evicted

abbrev pub page_row : Page → PageRow
page_row x = record { session = x.session; client = x.client; blocks = x.blocks; place = place_row x.place; has_slots = x.has_slots; version = x.version }

abbrev pub buffer_row : Buffer → BufferRow
buffer_row x = record { client = x.client; blocks = x.blocks }

-- how many trackers stand right under one
unfoldable pub kids_of : Trackers → ℕ → ℕ
kids_of ts t = total (λ _ x. share_of t x.parent 1) ts

abbrev pub under_of : Trackers → ℕ → Under
under_of ts t = record { bytes = children_of ts t; count = kids_of ts t }

-- how many pages and buffers a client has
unfoldable pub pages_on : Pages → ℕ → ℕ
pages_on pages c = total (λ _ x. only_if (x.client == c) 1) pages

unfoldable pub buffers_on : Buffers → ℕ → ℕ
buffers_on buffers c = total (λ _ x. only_if (x.client == c) 1) buffers

abbrev pub load_of : ℕ → Pages → Buffers → ℕ → Load
load_of block_len pages buffers c = record {
  charge = pages_for times_charged block_len pages c + buffers_for block_len buffers c;
  held = pages_for times_held block_len pages c + buffers_for block_len buffers c;
  count = pages_on pages c + buffers_on buffers c;
}

-- what is read where no row is
abbrev pub under_at : FinMap nat_cmp Under → ℕ → Under
under_at rows t = unwrap_or (get rows t) (record { bytes = 0; count = 0 })

abbrev pub load_at : FinMap nat_cmp Load → ℕ → Load
load_at rows c = unwrap_or (get rows c) (record { charge = 0; held = 0; count = 0 })
