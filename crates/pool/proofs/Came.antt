-- A session comes or is turned away: what the pass keeps true, and what it has seen.
use Rattle.std.proofs.Common.{◌≡◌, ℕ, ◌+◌, ◌-◌, ◌<◌, ◌≤◌, List, [], ◌++◌, Bool, Option, Some, None, option_map, Result, Ok, Err, IfOk, IsOk, IsErr, inl, inr, refl, sym, ap, ◌∙◌, subst, arith}
use Rattle.std.proofs.lemmas.Bool.{cases_lt}
use Rattle.std.proofs.lemmas.List.{append-nil}
use Rattle.std.specs.FinMap.{get, len}
use Rattle.block_arena.specs.Blocks.{IsBlockLen}
use Rattle.pool.specs.declared.account.ClientAccount.{ClientAccount}
use Rattle.outside.specs.declared.slot.Slot.{Ghosts}
use Rattle.reservation_tree.specs.Total.{total}
use Rattle.reservation_tree.specs.declared.errors.PoolErr.{PoolErr}
use Rattle.pool_model.specs.State.{Opening, Session, State}
use Rattle.pool_model.specs.Legal.{IsLegal}
use Rattle.pin_core.specs.declared.parts.Parts.{Parts}
use Rattle.pin_core.specs.declared.tally.Tally.{Tally}
use Rattle.pin_core.specs.StateOf.{state_of}
use Rattle.pin_core.specs.calls.Opening.{spare_of}
use Rattle.turn_table.specs.declared.view.Role.TheVariants.{First}
use Rattle.turn_table.specs.declared.view.View.{View}
use Rattle.turn_table.specs.Lists.{times, without}
use Rattle.turn_table.specs.Knowledge.{GrewBeside}
use Rattle.turn_table.specs.Steps.{one_more, taking, grown, parted, newcomer}
use Rattle.turn_table.specs.Face.{Spot}
use Rattle.session_calls.specs.Having.{Sight}
use Rattle.session_calls.specs.Ready.{IsResting}
use Rattle.session_calls.specs.Told.{held_in}
use Rattle.pool.specs.declared.item.Item.{Item}
use Rattle.pool.specs.declared.ledger.Ledger.{Ledger}
use Rattle.pool.specs.Items.{door, history, needs_of}
use Rattle.pool.specs.Seats.{Quotas, quotas_in, taken_in, live_in}
use Rattle.pool.specs.Standing.{StandsAs}
use Rattle.pool.specs.Passing.{IsPass, writers_out}
use Rattle.pool.specs.Sitting.{Sits, Sitting, held_by, shared}
use Rattle.pool.specs.Keeping.{KeepsSeat}
use Rattle.pool.specs.Seating.{Begins, HasBegun, IsSessionRefusal, MustTurnAway, TurnsAway, beginning_items, state_in}
use Rattle.pool.proofs.Beside.{quotas_beside}
use Rattle.pool.proofs.Out.{out_are, out_role}
use Rattle.pool.proofs.Seated.{live_begun, taken_begun}
use Rattle.pool.proofs.Passes.{door_stays, numbers_stay}
use Rattle.pool.proofs.Begun.{begun, begun_fits, begun_idle, begun_rests, begun_tells}
use Rattle.pool.proofs.Stood.{state_here}

-- the pass has its turn
module _ (o : Opening) {free ticket : ℕ} {pass : Spot Item} {now : View Item} (is : IsPass o.slots free pass)
    (takes : now ≡ taking ticket now.seen pass.knows) (grew : GrewBeside needs_of pass.knows.rights pass.knows.seen now.seen) where
  quotas_here : quotas_in now.seen ≡ quotas_in pass.knows.seen
  quotas_here = quotas_beside pass.knows.rights pass.knows.seen now.seen grew is.opens

  rights_here : now.rights ≡ pass.knows.rights
  rights_here = ap (λ (v : View Item). v.rights) takes

  abbrev writers : ℕ
  writers = writers_out pass

  role_here : now.role ≡ First (live_in now.seen + writers)
  role_here = ap (λ (v : View Item). v.role) takes ∙ is.role ∙ ap (λ (q : Quotas). First (len q + writers)) (sym quotas_here)

  -- it enters nothing
  module _ (new : Spot Item) (grows : new.knows ≡ grown [] now) where
    seen_still : new.knows.seen ≡ now.seen
    seen_still = ap (λ (v : View Item). v.seen) grows ∙ append-nil now.seen

    quotas_still : quotas_in new.knows.seen ≡ quotas_in pass.knows.seen
    quotas_still = ap quotas_in seen_still ∙ quotas_here

    rights_still : new.knows.rights ≡ pass.knows.rights
    rights_still = ap (λ (v : View Item). v.rights) grows ∙ rights_here

    role_still : new.knows.role ≡ First (live_in new.knows.seen + writers)
    role_still = ap (λ (v : View Item). v.role) grows ∙ role_here ∙ ap (λ (items : List Item). First (live_in items + writers)) (sym seen_still)

    pub still_pass : IsPass o.slots free new
    still_pass = record {
      idle = ap (λ (v : View Item). v.stage) grows;
      role = out_role new writers role_still;
      opens = subst (λ (rights : List ℕ). 0 < times door rights) (sym rights_still) is.opens;
      numbers = λ m few none. subst (λ (rights : List ℕ). 0 < times m rights) (sym rights_still) (is.numbers m few (sym (ap (λ (q : Quotas). get q m) quotas_still) ∙ none));
      spare = ap (λ (q : Quotas). free + total (λ m quota. quota) q) quotas_still ∙ is.spare;
    }

    pub turned_away : (limit least : ℕ) (e : PoolErr) → new.table ≡ pass.table → IsSessionRefusal (state_in o now.seen) limit least e → TurnsAway o limit least pass new e
    turned_away limit least e table cause = record {
      grew = subst (λ (items : List Item). GrewBeside needs_of pass.knows.rights pass.knows.seen items) (sym seen_still) grew;
      cause = subst (λ (items : List Item). IsSessionRefusal (state_in o items) limit least e) (sym seen_still) cause;
      table = table;
      taken = ap (λ (q : Quotas). total (λ m quota. quota) q) quotas_still;
      count = ap (λ (q : Quotas). len q) quotas_still;
      writers = out_are new writers role_still;
    }

  -- as many slots are spare as the pass knows
  pub spare_enough : {D : Type 0} {slot : Ghosts D} {told : Bool} {first : Tally} {sight : Sight} {v : Parts D} → StandsAs slot o told first now.seen sight v → (quota : ℕ) → quota + taken_in pass.knows.seen ≤ o.slots → quota ≤ spare_of v
  spare_enough stands quota fits =
      let here : taken_in now.seen ≡ taken_in pass.knows.seen = ap (λ (q : Quotas). total (λ k x. x) q) quotas_here in
      let all = stands.spare in
      omega (arith, here, all, fits)

  -- it lets a session in, of a number that has none
  module _ {D : Type 0} {slot : Ghosts D} {told : Bool} {first : Tally} {sight : Sight} {v : Parts D} (stands : StandsAs slot o told first now.seen sight v) (m : ℕ) (few : m < 240) (vacant : get (state_of v).sessions m ≡ None) where
    fresh_here : get (quotas_in now.seen) m ≡ None
    fresh_here = sym (stands.sessions m) ∙ ap (λ (x : Option Session). option_map (λ y. y.quota) x) vacant

    fresh : get (quotas_in pass.knows.seen) m ≡ None
    fresh = sym (ap (λ (q : Quotas). get q m) quotas_here) ∙ fresh_here

    has_number : 0 < times m now.rights
    has_number = subst (λ (rights : List ℕ). 0 < times m rights) (sym rights_here) (is.numbers m few fresh)

    has_door : 0 < times door now.rights
    has_door = subst (λ (rights : List ℕ). 0 < times door rights) (sym rights_here) is.opens

    pub has_rights : (0 < times door now.rights) × (0 < times m now.rights)
    has_rights = (has_door, has_number)

    module _ (query limit quota least : ℕ) (left new seat : Spot Item) (grows : left.knows ≡ grown (beginning_items m query limit quota least) now)
        (parts : new.knows ≡ parted (Some m) left.knows) (comes : seat.knows ≡ newcomer (Some m) left.knows) where
      abbrev whole : List Item
      whole = now.seen ++ beginning_items m query limit quota least

      seen_new : new.knows.seen ≡ whole
      seen_new = ap (λ (w : View Item). w.seen) parts ∙ ap (λ (w : View Item). w.seen) grows

      seen_seat : seat.knows.seen ≡ whole
      seen_seat = ap (λ (w : View Item). w.seen) comes ∙ ap (λ (w : View Item). w.seen) grows

      rights_new : new.knows.rights ≡ without m now.rights
      rights_new = ap (λ (w : View Item). w.rights) parts ∙ ap (λ (w : View Item). without m w.rights) grows

      live_new : live_in whole ≡ live_in now.seen + 1
      live_new = live_begun now.seen m query limit quota least fresh_here

      taken_new : taken_in whole ≡ taken_in now.seen + quota
      taken_new = taken_begun now.seen m query limit quota least fresh_here

      taken_here : taken_in now.seen ≡ taken_in pass.knows.seen
      taken_here = ap (λ (q : Quotas). total (λ k x. x) q) quotas_here

      role_new : new.knows.role ≡ First (live_in new.knows.seen + writers)
      role_new =
          let more : (live_in now.seen + writers) + 1 ≡ live_in new.knows.seen + writers = let here : live_in new.knows.seen ≡ live_in whole = ap live_in seen_new in omega (arith, here, live_new) in
          ap (λ (w : View Item). w.role) parts ∙ ap (λ (w : View Item). one_more w.role) grows ∙ ap one_more role_here ∙ ap First more

      pub came_pass : quota + taken_in pass.knows.seen ≤ o.slots → IsPass o.slots (free - quota) new
      came_pass fits = record {
        idle = ap (λ (w : View Item). w.stage) parts ∙ ap (λ (w : View Item). w.stage) grows;
        role = out_role new writers role_new;
        opens = subst (λ (rights : List ℕ). 0 < times door rights) (sym rights_new) (door_stays now.seen m query limit quota least now.rights few fresh_here has_door);
        numbers = λ k small none. subst (λ (rights : List ℕ). 0 < times k rights) (sym rights_new)
            (numbers_stay now.seen m query limit quota least now.rights few fresh_here
            (λ j low gone. subst (λ (rights : List ℕ). 0 < times j rights) (sym rights_here) (is.numbers j low (sym (ap (λ (q : Quotas). get q j) quotas_here) ∙ gone)))
            k small (ap (λ (items : List Item). get (quotas_in items) k) (sym seen_new) ∙ none));
        spare =
            let now_taken : taken_in new.knows.seen ≡ taken_in whole = ap taken_in seen_new in
            let was : free + taken_in pass.knows.seen ≡ o.slots = is.spare in
            omega (arith, fits, now_taken, taken_new, taken_here, was);
      }

      abbrev sitting : Sitting
      sitting = record { number = m; spot = seat }

      held : HasBegun o.block_len told limit quota least (held_by o told sitting)
      held = subst (λ (items : List Item). HasBegun o.block_len told limit quota least (held_in o (shared told) m (history items))) (sym seen_seat) (begun o told now.seen m query limit quota least)

      came_sits : IsLegal o (history whole) → Sits o told sitting
      came_sits legal = record {
        idle = ap (λ (w : View Item). w.stage) comes;
        right = ap (λ (w : View Item). w.rights) comes;
        rests = subst (λ (items : List Item). IsResting o (shared told) m (history items)) (sym seen_seat) (begun_rests o told now.seen m query limit quota least few);
        legal = subst (λ (items : List Item). IsLegal o (history items)) (sym seen_seat) legal;
      }

      enough : (MustTurnAway (state_of v) limit least → ⊥) → least ≤ limit
      enough granted = elim (cases_lt limit least) [
        | inl less ↦ absurd (granted (inr (inl less)))
        | inr fits ↦ fits
      ]

      pub came_keeps : IsLegal o (history whole) → (MustTurnAway (state_of v) limit least → ⊥) → (block_len : ℕ) → IsBlockLen block_len → block_len ≡ o.block_len
          → (ledger : Ledger) → ledger.room ≡ least → ledger.accounts ≡ [] → KeepsSeat o told block_len ledger sitting
      came_keeps legal granted block_len power len ledger room none = record {
        sits = came_sits legal;
        power = power;
        len = len;
        tells = begun_tells held ledger room none;
        fits = begun_fits held (enough granted);
        whole = begun_idle held;
      }

      pub came : (MustTurnAway (state_of v) limit least → ⊥) → new.table ≡ pass.table → seat.table ≡ pass.table → Begins o told limit quota least pass new sitting
      came granted table other = record {
        entered = now.seen;
        grew = grew;
        granted = subst (λ (s : State). MustTurnAway s limit least → ⊥) (state_here slot o told first now.seen sight v stands) granted;
        fresh = fresh;
        query = query;
        items = seen_new;
        seen = seen_seat ∙ sym seen_new;
        table = (table, other);
        held = held;
        taken = let now_taken : taken_in new.knows.seen ≡ taken_in whole = ap taken_in seen_new in omega (arith, now_taken, taken_new, taken_here);
        count =
            let now_live : live_in new.knows.seen ≡ live_in whole = ap live_in seen_new in
            let live_here : live_in now.seen ≡ live_in pass.knows.seen = ap (λ (q : Quotas). len q) quotas_here in
            omega (arith, now_live, live_new, live_here);
        writers = out_are new writers role_new;
      }

-- what isn't refused is granted
pub not_refused : {A E : Type 0} (r : Result A E) → (IsErr r → ⊥) → IsOk r
not_refused (Ok x) never = refl
not_refused (Err e) never = absurd (never refl)

-- accounts that were found are those that were opened, which are none
pub none_there : {E : Type 0} (opened : Result (List ClientAccount) E) (found : List ClientAccount) → opened ≡ Ok found → IfOk opened (λ accounts. accounts ≡ []) → found ≡ []
none_there {E} opened found is none = subst (λ (r : Result (List ClientAccount) E). IfOk r (λ accounts. accounts ≡ [])) is none

-- a turn that ends leaves the seat its rights
pub still_right : (m : ℕ) (now new : View Item) (items : List Item) → new ≡ grown items now → 0 < times m now.rights → 0 < times m new.rights
still_right m now new items grows has = subst (λ (v : View Item). 0 < times m v.rights) (sym grows) has
