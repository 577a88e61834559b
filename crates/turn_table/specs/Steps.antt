-- What each step does to a view, and what it tells the seat that takes it.
use Rattle.std.specs.Prelude.{◌≡◌, ◌≢◌, ℕ, ◌+◌, ◌-◌, List, [], ◌∷◌, ◌++◌, length, cond, nat_lt, Option, Some}
use Rattle.atomic_table.specs.Table.{Me, Step}
use Rattle.turn_table.specs.declared.view.Role.{Role}
use Rattle.turn_table.specs.declared.view.Role.TheVariants.{First, Other}
use Rattle.turn_table.specs.declared.view.Stage.TheVariants.{Idle, Waiting, Turn, Spent}
use Rattle.turn_table.specs.declared.view.View.{View}
use Rattle.turn_table.specs.Lists.{left_of, handed, longer, shorter}
use Rattle.turn_table.specs.Knowledge.{MadeWithin, GrewBeside}

-- one seat more is out
abbrev pub one_more : Role → Role
one_more (First out) = First (out + 1)
one_more Other = Other

-- one seat less is out
abbrev pub one_less : Role → Role
one_less (First out) = First (out - 1)
one_less Other = Other

module _ {E : Type 0} where
  -- the first seat at the start, with all rights
  abbrev pub opened : List ℕ → View E
  opened rights = record { role = First 0; stage = Idle; seen = []; made = []; told = []; spared = []; rights = rights }

  -- a ticket is drawn
  abbrev pub waiting : ℕ → View E → View E
  waiting ticket v = record { role = v.role; stage = Waiting ticket; seen = v.seen; made = v.made; told = v.told; spared = v.spared; rights = v.rights }

  -- the ticket is served: the seat has its turn, has seen the one list, and drops what the last join told
  abbrev pub taking : ℕ → List E → View E → View E
  taking ticket log v = record { role = v.role; stage = Turn ticket; seen = log; made = v.made; told = []; spared = []; rights = v.rights }

  -- the next ticket is served: what the seat has seen and made grew by the new entries
  abbrev pub grown : List E → View E → View E
  grown new v = record { role = v.role; stage = Idle; seen = v.seen ++ new; made = v.made ++ new; told = []; spared = []; rights = v.rights }

  -- the first seat after a split, which hands out a right
  abbrev pub parted : Option ℕ → View E → View E
  parted right v = record { role = one_more v.role; stage = v.stage; seen = v.seen; made = v.made; told = v.told; spared = v.spared; rights = left_of right v.rights }

  -- the new seat
  abbrev pub newcomer : Option ℕ → View E → View E
  newcomer right v = record { role = Other; stage = Idle; seen = v.seen; made = []; told = []; spared = []; rights = handed right }

  -- the rights of the seat whose list is the shorter one, of the second where they are as long
  abbrev pub rights_of_shorter : View E → View E → List ℕ
  rights_of_shorter v w = cond (nat_lt (length v.seen) (length w.seen)) v.rights w.rights

  -- the first seat after a join; it is told the shorter list too, and spares the rights of the seat that had it
  abbrev pub joined : View E → View E → View E
  joined v w = record { role = one_less v.role; stage = v.stage; seen = longer v.seen w.seen; made = v.made; told = shorter v.seen w.seen; spared = rights_of_shorter v w; rights = v.rights ++ w.rights }

  -- the seat that was joined
  abbrev pub spent : View E
  spent = record { role = Other; stage = Spent; seen = []; made = []; told = []; spared = []; rights = [] }

module _ {V E : Type 0} where
  -- drawing: where the number found is the one expected, it is the seat's ticket
  abbrev pub Drew : Step (Option V) → Me (Option V) (View E) → ℕ → Me (Option V) (View E) → Type 0
  Drew st me found now = (found ≡ st.first → now ≡ (waiting st.first me.0, me.1)) × (found ≢ st.first → now ≡ me)

  -- serving: the slot is back, and what the seat made stands within what it has seen
  abbrev pub Served : List E → Me (Option V) (View E) → Me (Option V) (View E) → Type 0
  Served new me now = (now ≡ (grown new me.0, [])) × MadeWithin now.0.made now.0.seen

  -- recalling: what the seat was told of begins what it has seen, and nothing behind that needs a spared right
  abbrev pub Recalled : (E → List ℕ) → Me (Option V) (View E) → Me (Option V) (View E) → Type 0
  Recalled needs me now = (now ≡ me) × GrewBeside needs me.0.spared me.0.told me.0.seen

module _ {V E : Type 0} (stands : V → List E → Type 0) (needs : E → List ℕ) where
  -- the seat took the slot with the value, and saw the one list
  pub record Took (ticket : ℕ) (me now : Me (Option V) (View E)) : Type 0 where
    pub value : V
    pub holds : now.1 ≡ (0, Some value) ∷ []
    pub knows : now.0 ≡ taking ticket now.0.seen me.0
    pub grew : GrewBeside needs me.0.rights me.0.seen now.0.seen
    pub made : MadeWithin now.0.made now.0.seen
    pub stood : stands value now.0.seen

  -- looking: where the number found is the seat's ticket, the seat takes the slot
  abbrev pub Looked : Me (Option V) (View E) → ℕ → Me (Option V) (View E) → Type 0
  Looked me found now = (ticket : ℕ) → me.0.stage ≡ Waiting ticket → me.1 ≡ [] → (found ≡ ticket → Took ticket me now) × (found ≢ ticket → now ≡ me)
