-- How asks for sessions are answered, one after the other in one turn.
use Rattle.std.specs.Prelude.{◌≡◌, ℕ, ◌+◌, ◌*◌, ◌<◌, List, [], ◌∷◌, ◌++◌, Bool, length, map, Option, Some, None, Result, Ok, Err, eqb}
use Rattle.std.specs.Bool.{⊤}
use Rattle.std.specs.FinMap.{get}
use Rattle.std.specs.List.{All, IsDistinct}
use Rattle.reservation_tree.specs.declared.errors.PoolErr.{PoolErr}
use Rattle.pool_model.specs.State.{Opening}
use Rattle.turn_table.specs.Knowledge.{GrewBeside}
use Rattle.turn_table.specs.Face.{Spot}
use Rattle.pool.specs.declared.ask.Ask.{Ask}
use Rattle.pool.specs.declared.left.Left.{Left}
use Rattle.pool.specs.declared.item.Item.{Item}
use Rattle.pool.specs.Items.{history, needs_of, own_in}
use Rattle.pool.specs.Passing.{writers_out}
use Rattle.pool.specs.Seats.{live_in, quotas_in, taken_in}
use Rattle.pool.specs.Sitting.{Sitting, held_by}
use Rattle.pool.specs.Seating.{HasBegun, beginning_items, state_in}
use Rattle.pool.specs.Remaining.{left_in, left_behind, first_refusal, refusals}

-- sessions came as an ask wants them, one after the other, with these numbers: their first items stand behind the items
-- before, and no others
abbrev pub HaveCome : Ask → List Item → List ℕ → List Item → Type 0
HaveCome ask before [] after = after ≡ before
HaveCome ask before (m ∷ ms) after =
    (query : ℕ) × (m < 240) × (get (quotas_in before) m ≡ None) × HaveCome ask (before ++ beginning_items m query ask.limit ask.quota ask.least) ms after

-- each ask was answered after those before it: all of its sessions came, or none did, and it is told why the first of
-- them was refused that was
abbrev pub AreAnswered : List Ask → Left → List Item → List (Result (List ℕ) PoolErr) → List Item → Type 0
AreAnswered [] left before [] after = after ≡ before
AreAnswered (ask ∷ asks) left before (Ok ms ∷ answers) after =
    (first_refusal ask.count ask left ≡ None) × (length ms ≡ ask.count)
    × (mid : List Item) × HaveCome ask before ms mid × AreAnswered asks (left_behind ask.count ask left) mid answers after
AreAnswered (ask ∷ asks) left before (Err e ∷ answers) after = (first_refusal ask.count ask left ≡ Some e) × AreAnswered asks left before answers after
AreAnswered _ _ _ _ _ = ⊥

-- a session that has just come as the ask wants it: it sits at the pass's lock, has seen what the pass has, and made its
-- first entries alone
pub record IsNew (o : Opening) (told : Bool) (pass : Spot Item) (ask : Ask) (s : Sitting) : Type 0 where
  pub table : s.spot.table ≡ pass.table
  pub seen : s.spot.knows.seen ≡ pass.knows.seen
  pub held : HasBegun o.block_len told ask.limit ask.quota ask.least (held_by o told s)
  pub query : ℕ
  pub own : own_in s.number s.spot.knows.seen ≡ history (beginning_items s.number query ask.limit ask.quota ask.least)

-- the answers of asks, with the sessions that came
abbrev pub Answers : Type 0
Answers = List (Result (List Sitting) PoolErr)

-- each session that came is new
abbrev pub AreNew : Opening → Bool → Spot Item → List Ask → Answers → Type 0
AreNew o told pass [] [] = ⊤
AreNew o told pass (ask ∷ asks) (Ok sessions ∷ answers) = All (IsNew o told pass ask) sessions × AreNew o told pass asks answers
AreNew o told pass (ask ∷ asks) (Err e ∷ answers) = AreNew o told pass asks answers
AreNew o told pass _ _ = ⊥

-- an answer whose sessions are seen so
abbrev pub answer_of : {V S T : Type 0} → (V → List S) → (S → T) → Result V PoolErr → Result (List T) PoolErr
answer_of items see (Ok sessions) = Ok (map see (items sessions))
answer_of items see (Err e) = Err e

-- why the ask is refused, if it is
abbrev pub refusal_in : {T : Type 0} → Result T PoolErr → Option PoolErr
refusal_in (Ok sessions) = None
refusal_in (Err e) = Some e

-- with their numbers alone
abbrev pub numbers_in : Answers → List (Result (List ℕ) PoolErr)
numbers_in answers = map (answer_of (λ sessions. sessions) (λ s. s.number)) answers

-- the numbers of all sessions that came
abbrev pub all_numbers : List (Result (List ℕ) PoolErr) → List ℕ
all_numbers [] = []
all_numbers (Ok ms ∷ answers) = ms ++ all_numbers answers
all_numbers (Err e ∷ answers) = all_numbers answers

-- how many sessions came
abbrev pub came_in : Answers → ℕ
came_in [] = 0
came_in (Ok sessions ∷ answers) = length sessions + came_in answers
came_in (Err e ∷ answers) = came_in answers

-- the quotas of those that came
abbrev pub quotas_by : List Ask → Answers → ℕ
quotas_by (ask ∷ asks) (Ok sessions ∷ answers) = length sessions * ask.quota + quotas_by asks answers
quotas_by (ask ∷ asks) (Err e ∷ answers) = quotas_by asks answers
quotas_by _ _ = 0

-- asks were answered in one turn of the pass: what it then had seen, what each was answered after those before it, and
-- nothing but the first items of the sessions that came was entered
pub record Admits (o : Opening) (told : Bool) (asks : List Ask) (old new : Spot Item) (answers : Answers) : Type 0 where
  pub entered : List Item
  pub grew : GrewBeside needs_of old.knows.rights old.knows.seen entered
  pub answered : AreAnswered asks (left_in (state_in o entered)) entered (numbers_in answers) new.knows.seen
  pub refused : map refusal_in answers ≡ refusals asks (left_in (state_in o entered))
  pub sessions : AreNew o told new asks answers
  pub apart : IsDistinct eqb (all_numbers (numbers_in answers))
  pub table : new.table ≡ old.table
  pub taken : taken_in new.knows.seen ≡ taken_in old.knows.seen + quotas_by asks answers
  pub count : live_in new.knows.seen ≡ live_in old.knows.seen + came_in answers
  pub writers : writers_out new ≡ writers_out old
