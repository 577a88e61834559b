-- Which sessions came and haven't gone, with their quotas, as the items tell by which sessions come and go.
use Rattle.std.specs.Prelude.{ℕ, List, [], ◌∷◌, Some}
use Rattle.std.specs.Ordering.{nat_cmp}
use Rattle.std.specs.FinMap.{FinMap, empty, insert, remove, len}
use Rattle.reservation_tree.specs.Total.{total}
use Rattle.pool_model.specs.declared.event.Event.{Event}
use Rattle.pool_model.specs.declared.event.Event.TheVariants.{AddTracker, CloseTracker}
use Rattle.pool.specs.declared.item.Item.{Item}
use Rattle.pool.specs.declared.item.Item.TheVariants.{Seated, Made, Went, Stop}

-- the quota of each live session
abbrev pub Quotas : Type 0
Quotas = FinMap nat_cmp ℕ

-- the session of this number came with its quota, or went
abbrev pub seated : ℕ → Event → Quotas → Quotas
seated m (AddTracker t parent limit (Some quota)) q = insert q m quota
seated m (CloseTracker t) q = remove q m
seated m _ q = q

abbrev pub with_item : Item → Quotas → Quotas
with_item (Seated e) q = seated e.maker e.event q
with_item (Made e) q = q
with_item (Went m count) q = q
with_item Stop q = q

-- after more items
abbrev pub with_items : Quotas → List Item → Quotas
with_items q [] = q
with_items q (i ∷ items) = with_items (with_item i q) items

abbrev pub quotas_in : List Item → Quotas
quotas_in items = with_items empty items

-- how many slots are in a quota
abbrev pub taken_in : List Item → ℕ
taken_in items = total (λ m quota. quota) (quotas_in items)

-- how many sessions are live
abbrev pub live_in : List Item → ℕ
live_in items = len (quotas_in items)
