-- By which entries of a trail a refusal tells why it came.
use Rattle.std.specs.Prelude.{◌≡◌, ℕ, List, [], ◌∷◌, ◌++◌, map, All, ⊤}
use Rattle.reservation_tree.specs.declared.mark.Mark.{Mark}
use Rattle.pool_model.specs.declared.call.Call.{Call}
use Rattle.pool_model.specs.declared.call.Call.TheVariants.{Pin}
use Rattle.pool_model.specs.declared.event.Event.{Event}
use Rattle.pool_model.specs.declared.event.Event.TheVariants.{Ask, ReadFailed, ReadStale, StartWrite, WriteOk, WriteFailed, Refused}
use Rattle.pool_model.specs.declared.entry.Entry.{Entry}

-- entries of one maker
abbrev pub by : ℕ → List Event → List Entry
by maker events = map (λ e. record { maker = maker; event = e }) events

-- among these stand one maker's entries of these events, each directly behind the one before it
abbrev pub TellThese : List Event → List Entry → Type 0
TellThese events more = (front : List Entry) × (maker : ℕ) × (back : List Entry) × (more ≡ front ++ (by maker events ++ back))

-- a write of a page begins or ends
abbrev pub IsOfWrite : Event → Type 0
IsOfWrite (StartWrite p) = ⊤
IsOfWrite (WriteOk p) = ⊤
IsOfWrite (WriteFailed p before after) = ⊤
IsOfWrite _ = ⊥

-- somewhere in these a call is refused with this number, and between its Ask and the refusal it did nothing but write
abbrev pub TellFailedWrite : ℕ → List Entry → Type 0
TellFailedWrite entry more = (writes : List Event) × (call : Call) × All IsOfWrite writes × TellThese (Ask ∷ (writes ++ Refused call entry ∷ [])) more

-- somewhere in these a pin is refused with this number, directly behind the failed read of its page
abbrev pub TellFailedRead : ℕ → List Entry → Type 0
TellFailedRead entry more = (p before after : ℕ) × TellThese (ReadFailed p before after ∷ Refused (Pin p) entry ∷ []) more

-- somewhere in these a pin is refused, directly behind the load of its page that found this mark in place of the other
abbrev pub TellStale : Mark → Mark → List Entry → Type 0
TellStale wanted found more = (p entry : ℕ) × TellThese (ReadStale p wanted found ∷ Refused (Pin p) entry ∷ []) more
