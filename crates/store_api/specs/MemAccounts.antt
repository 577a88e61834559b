-- How a store in memory keeps its clients. About private fields; no public clause cites it.
use Rattle.std.specs.Prelude.{ℕ, ◌+◌, ◌-◌, leb, if◌then◌else◌, List, [], ◌∷◌, Option, Some, None, option_map}
use Rattle.slab.specs.Slab.{Slab, get}
use Rattle.store_api.specs.Holdings.{Account, or_else, no_account}
use Rattle.store_api.specs.declared.mem_store.account.MemAccount.{MemAccount}

-- the sum of what the slots weigh
abbrev pub slot_sum : {X : Type 0} → (X → ℕ) → List (Option X) → ℕ
slot_sum weight [] = 0
slot_sum weight (None ∷ rest) = slot_sum weight rest
slot_sum weight (Some x ∷ rest) = weight x + slot_sum weight rest

-- what a slot weighs
abbrev pub weight_of : {X : Type 0} → (X → ℕ) → Option X → ℕ
weight_of weight None = 0
weight_of weight (Some x) = weight x

abbrev pub seen_account : MemAccount → Account
seen_account a = record { limit = a.limit; reservation = a.reservation; unused = a.unused }

-- the client with this tracker: the keys are the trackers' numbers, from 2 on
abbrev pub clients_of : Slab MemAccount → ℕ → Option Account
clients_of slab t = if leb 2 t then option_map seen_account (get slab (t - 2)) else None

abbrev pub account_at : ℕ → Slab MemAccount → Account
account_at t slab = or_else no_account (clients_of slab t)

-- what the clients have reserved together
abbrev pub reserved : Slab MemAccount → ℕ
reserved slab = slot_sum (λ a. a.reservation) slab.slots
