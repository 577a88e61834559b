-- Partial rows that are kept in ascending order of their keys' bytes. About inner calls; no public clause cites this.
use Rattle.std.specs.Prelude.{◌≡◌, ℕ, List, All, filter, map, take, Bool, true, if◌then◌else◌, Option, Some, None}
use Rattle.std.specs.Cmp.Lexicographic.{slice_cmp}
use Rattle.std.specs.Ordering.{is_gt, nat_cmp}
use Rattle.store_api.specs.declared.shapes.Shape.{Shape}
use Rattle.group_rows.specs.Partials.{Grouping, Partial, combined_by}
use Rattle.group_op.specs.declared.lowest.Entry.{Entry}
use Rattle.store_api.specs.Holdings.{Holdings}
use Rattle.tuple_stream.specs.Streamed.{Streamed}
use Rattle.group_rows.specs.Ordered.{put}
use Rattle.group_op.specs.Scanning.{MayShow}
use Rattle.group_op.specs.Stored.{IsPartialRow, grouping_of, key_at, partial_at, partials_at}

-- the bytes are a partial row, and its key stands beside it
pub record IsKept (shape : Shape) (e : Entry) : Type 0 where
  pub row : IsPartialRow shape e.row.items
  pub key : e.key.items ≡ key_at shape e.row.items

-- what some entries say
abbrev pub kept_in : Shape → List Entry → List Partial
kept_in shape entries = map (λ e. partial_at shape e.row.items) entries

-- the key is above the last one that was handed on, if one was
abbrev pub is_above : Option (List ℕ) → List ℕ → Bool
is_above None key = true
is_above (Some last) key = is_gt (slice_cmp nat_cmp key last)

abbrev pub all_above : Option (List ℕ) → List Partial → List Partial
all_above last partials = filter (λ p. is_above last p.key) partials

-- the first so many groups above it
abbrev pub lowest_above : ℕ → Grouping → Option (List ℕ) → List Partial → List Partial
lowest_above room grouping last partials = take room (combined_by (slice_cmp nat_cmp) grouping (all_above last partials))

-- kept rows where one more was shown: it is put at its place if its key is above the last one, and the first so many stay
abbrev pub taken_in : ℕ → Grouping → Option (List ℕ) → Partial → List Partial → List Partial
taken_in room grouping last p kept = if is_above last p.key then take room (put (slice_cmp nat_cmp) grouping p kept) else kept

-- the key of an entry, if there is one
abbrev pub key_in : Option Entry → Option (List ℕ)
key_in None = None
key_in (Some e) = Some e.key.items

-- of rows that reading may show the lowest groups above a key were kept
pub record HasKept (shape : Shape) (room : ℕ) (last : Option (List ℕ)) (entries : List Entry) (s : Streamed) (h : Holdings) : Type 0 where
  pub read : List (List ℕ)
  pub shown : MayShow s h read
  pub each : All (IsKept shape) entries
  pub kept : kept_in shape entries ≡ lowest_above room (grouping_of shape) last (partials_at shape read)
