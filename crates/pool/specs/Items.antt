-- The items of the list under the turn lock, the oldest first: the history and the counts that they are, and the rights
-- that they need.
use Rattle.std.specs.Prelude.{ℕ, suc, zero, List, [], ◌∷◌, Bool, true, false}
use Rattle.pool_model.specs.declared.entry.Entry.{Entry}
use Rattle.pool_model.specs.LookingBack.{made_by}
use Rattle.pin_core.specs.declared.tally.Tally.{Tally}
use Rattle.session_calls.specs.declared.count.Count.{Count}
use Rattle.session_calls.specs.declared.count.Count.TheVariants.{Opening}
use Rattle.session_calls.specs.Having.{Sight}
use Rattle.pool.specs.declared.item.Item.{Item}
use Rattle.pool.specs.declared.item.Item.TheVariants.{Seated, Made, Went, Stop}

-- the history of the pool
abbrev pub history : List Item → List Entry
history [] = []
history (Seated e ∷ items) = e ∷ history items
history (Made e ∷ items) = e ∷ history items
history (Went m count ∷ items) = history items
history (Stop ∷ items) = history items

-- what its slots counted since it opened
abbrev pub counts_in : List Item → List Count
counts_in [] = []
counts_in (Went m count ∷ items) = count ∷ counts_in items
counts_in (i ∷ items) = counts_in items

-- what is seen of a pool by who has seen these items, where its slots counted this when it opened
abbrev pub sight_in : Tally → List Item → Sight
sight_in first items = record { trail = history items; counts = Opening first ∷ counts_in items }

-- the entries of one maker; those of a session begin with its opening
abbrev pub own_in : ℕ → List Item → List Entry
own_in m items = made_by (history items) m

-- whether writers have to end
abbrev pub is_stopped : List Item → Bool
is_stopped [] = false
is_stopped (Stop ∷ items) = true
is_stopped (i ∷ items) = is_stopped items

-- the right by which sessions come and go
abbrev pub door : ℕ
door = 2000

-- each item needs the number of its maker, and one by which a session comes or goes needs the door too, as the end of all writers does
abbrev pub needs_of : Item → List ℕ
needs_of (Seated e) = door ∷ e.maker ∷ []
needs_of (Made e) = e.maker ∷ []
needs_of (Went m count) = m ∷ []
needs_of Stop = door ∷ []

-- the numbers below n
abbrev pub below : ℕ → List ℕ
below zero = []
below (suc n) = n ∷ below n

-- the door and the numbers of all makers: sessions have those below 240, writers 1000 to 1007
abbrev pub all_rights : List ℕ
all_rights = door ∷ below 1008
