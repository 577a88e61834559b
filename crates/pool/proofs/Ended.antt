-- A session ends: what the pass finds at its turn, and what it keeps true.
use Rattle.std.proofs.Common.{◌≡◌, ℕ, ◌+◌, ◌-◌, ◌<◌, List, ◌++◌, Bool, Option, Some, None, is_some, unwrap_or, option_map, inl, inr, sym, ap, ◌∙◌, subst, arith}
use Rattle.std.proofs.lemmas.List.{append_assoc}
use Rattle.std.specs.FinMap.{get, len, remove}
use Rattle.outside.specs.declared.slot.Slot.{Ghosts}
use Rattle.reservation_tree.specs.Total.{total}
use Rattle.reservation_tree.specs.Tracker.{HasNoChild}
use Rattle.reservation_tree.proofs.Maps.{same_or_other, found, removed_other}
use Rattle.pool_model.specs.declared.entry.Entry.{Entry}
use Rattle.pool_model.specs.State.{Opening, Session, State}
use Rattle.pool_model.specs.Legal.{IsLegal, state_after}
use Rattle.store_api.specs.Holdings.{Holdings}
use Rattle.own_entries.specs.OwnHoldings.{Outset, holdings_of}
use Rattle.own_entries.specs.HeldLaws.{TellsState}
use Rattle.own_entries.proofs.Held.{legal_holdings_are_told}
use Rattle.own_entries.proofs.Idle.{none_under}
use Rattle.own_entries.proofs.Lives.{legal_lives_as_told}
use Rattle.pin_core.specs.declared.parts.Parts.{Parts}
use Rattle.pin_core.specs.declared.tally.Tally.{Tally}
use Rattle.pin_core.specs.StateOf.{state_of}
use Rattle.pin_core.specs.calls.Sessions.{IsSeat, query_of}
use Rattle.turn_table.specs.declared.view.Role.TheVariants.{First}
use Rattle.turn_table.specs.declared.view.View.{View}
use Rattle.turn_table.specs.Lists.{same, times}
use Rattle.turn_table.specs.Knowledge.{GrewBeside}
use Rattle.turn_table.specs.Steps.{one_less, joined, taking, grown}
use Rattle.turn_table.specs.Face.{Spot}
use Rattle.turn_table.proofs.Sums.{total-append, same_self}
use Rattle.session_calls.specs.Having.{Sight}
use Rattle.session_calls.specs.Told.{held_in}
use Rattle.pool.specs.declared.item.Item.{Item}
use Rattle.pool.specs.Items.{door, history, needs_of, own_in}
use Rattle.pool.specs.Seats.{Quotas, quotas_in, taken_in, live_in}
use Rattle.pool.specs.Standing.{StandsAs}
use Rattle.pool.specs.Passing.{IsPass, writers_out}
use Rattle.pool.specs.Sitting.{Sitting, Sits, held_by, shared}
use Rattle.pool.specs.Seating.{Ends, ending_items}
use Rattle.pool.proofs.Beside.{quotas_beside, own_beside}
use Rattle.pool.proofs.Out.{out_are, out_role}
use Rattle.pool.proofs.Seated.{quotas_ended, taken_ended, live_ended}
use Rattle.pool.proofs.Stood.{legal_here, state_here}

-- a list grew twice beside the same rights
grew_twice : (rights : List ℕ) (a b c : List Item) → GrewBeside needs_of rights a b → GrewBeside needs_of rights b c → GrewBeside needs_of rights a c
grew_twice rights a b c first second = record {
  behind = first.behind ++ second.behind;
  grew = second.grew ∙ ap (λ (items : List Item). items ++ second.behind) first.grew ∙ append_assoc a first.behind second.behind;
  beside = λ r has.
      let both = total-append (λ i. times r (needs_of i)) first.behind second.behind in
      let none = first.beside r has in
      let none_too = second.beside r has in
      omega (arith, both, none, none_too);
}

-- what grew beside the rights of both grew beside those of either
module _ (rights more : List ℕ) (before now : List Item) (grew : GrewBeside needs_of (rights ++ more) before now) where
  beside_first : GrewBeside needs_of rights before now
  beside_first = record {
    behind = grew.behind;
    grew = grew.grew;
    beside = λ r has. grew.beside r (let both = total-append (same r) rights more in omega (arith, both, has));
  }

  beside_other : GrewBeside needs_of more before now
  beside_other = record {
    behind = grew.behind;
    grew = grew.grew;
    beside = λ r has. grew.beside r (let both = total-append (same r) rights more in omega (arith, both, has));
  }

-- the session's seat was joined to the pass's, which then has its turn
pub record Met (pass : Spot Item) (s : Sitting) (now : View Item) : Type 0 where
  pub role : now.role ≡ one_less pass.knows.role
  pub rights : now.rights ≡ pass.knows.rights ++ s.spot.knows.rights
  pub grew : GrewBeside needs_of pass.knows.rights pass.knows.seen now.seen
  pub own : GrewBeside needs_of s.spot.knows.rights s.spot.knows.seen now.seen

pub meets : {pass seat : Spot Item} {s : Sitting} {met now : View Item} (ticket : ℕ) → seat ≡ s.spot → met ≡ joined pass.knows seat.knows
    → GrewBeside needs_of pass.knows.rights pass.knows.seen met.seen → GrewBeside needs_of seat.knows.rights seat.knows.seen met.seen
    → now ≡ taking ticket now.seen met → GrewBeside needs_of met.rights met.seen now.seen → Met pass s now
meets {pass} {seat} {s} {met} {now} ticket its joined_seat seen joined_other takes grew =
    let joins : met ≡ joined pass.knows s.spot.knows = joined_seat ∙ ap (λ (x : Spot Item). joined pass.knows x.knows) its in
    let other : GrewBeside needs_of s.spot.knows.rights s.spot.knows.seen met.seen =
    subst (λ (x : Spot Item). GrewBeside needs_of x.knows.rights x.knows.seen met.seen) its joined_other in
    let all : GrewBeside needs_of (pass.knows.rights ++ s.spot.knows.rights) met.seen now.seen =
    subst (λ (rights : List ℕ). GrewBeside needs_of rights met.seen now.seen) (ap (λ (v : View Item). v.rights) joins) grew in
    record {
      role = ap (λ (v : View Item). v.role) takes ∙ ap (λ (v : View Item). v.role) joins;
      rights = ap (λ (v : View Item). v.rights) takes ∙ ap (λ (v : View Item). v.rights) joins;
      grew = grew_twice _ _ _ _ seen (beside_first _ _ _ _ all);
      own = grew_twice _ _ _ _ other (beside_other _ _ _ _ all);
    }

module _ {o : Opening} {told : Bool} {pass : Spot Item} {s : Sitting} {now : View Item} (sits : Sits o told s) (met : Met pass s now) where
  abbrev outset : Outset
  outset = shared told

  its_own : 0 < times s.number s.spot.knows.rights
  its_own = subst (λ (rights : List ℕ). 0 < times s.number rights) (sym sits.right) (let one = same_self s.number in omega (arith, one))

  -- the session holds what it held, whatever others did since
  same_held : holdings_of o.block_len s.number outset (own_in s.number now.seen) ≡ held_by o told s
  unfolding held_in
  same_held = ap (holdings_of o.block_len s.number outset) (own_beside s.spot.knows.rights s.spot.knows.seen now.seen met.own s.number its_own)

  has : (r : ℕ) → times r now.rights ≡ times r pass.knows.rights + times r s.spot.knows.rights
  has r = ap (times r) met.rights ∙ total-append (same r) pass.knows.rights s.spot.knows.rights

  pub has_both : {spare : ℕ} → IsPass o.slots spare pass → (0 < times door now.rights) × (0 < times s.number now.rights)
  has_both is = (
    let all = has door in let one = is.opens in omega (arith, all, one),
    let all = has s.number in let one = its_own in omega (arith, all, one),
  )

  -- what the value under the lock has for the session
  module _ {D : Type 0} {slot : Ghosts D} {first : Tally} {sight : Sight} {v : Parts D} (stands : StandsAs slot o told first now.seen sight v) where
    abbrev entries : List Entry
    entries = history now.seen

    state_now : state_of v ≡ state_after o entries
    state_now = state_here slot o told first now.seen sight v stands

    legal_now : IsLegal o entries
    legal_now = legal_here slot o told first now.seen sight v stands

    pub is_live : IsSeat (state_of v) s.number
    is_live =
        ap (λ (t : State). is_some (get t.sessions s.number)) state_now
        ∙ legal_lives_as_told o outset entries legal_now s.number
        ∙ ap (λ (h : Holdings). is_some h.free_slots) same_held ∙ sits.rests.live

    session : (x : Session) × (get (state_of v).sessions s.number ≡ Some x)
    session = found (get (state_of v).sessions s.number) is_live

    pub no_child : (held_by o told s).live_clients ≡ 0 → HasNoChild (state_of v).trackers (query_of (state_of v) s.number)
    no_child none =
        let after : State = state_after o entries in
        let there : get after.sessions s.number ≡ Some session.0 = ap (λ (t : State). get t.sessions s.number) (sym state_now) ∙ session.1 in
        let tells : TellsState o outset entries s.number session.0 after = legal_holdings_are_told o outset entries legal_now s.number session.0 there in
        let query : query_of after s.number ≡ session.0.query = ap (λ (x : Option Session). unwrap_or (option_map (λ y. y.query) x) 0) there in
        subst (λ (t : State). HasNoChild t.trackers (query_of t s.number)) (sym state_now)
        (subst (HasNoChild after.trackers) (sym query) (none_under session.0.query after.trackers (sym tells.live_clients ∙ ap (λ (h : Holdings). h.live_clients) same_held ∙ none)))

    was_here : get (quotas_in now.seen) s.number ≡ Some session.0.quota
    was_here = sym (stands.sessions s.number) ∙ ap (option_map (λ x. x.quota)) session.1

    -- what the pass keeps, and what the end says
    module _ {spare : ℕ} (is : IsPass o.slots spare pass) (new : Spot Item) (grows : new.knows ≡ grown (ending_items (state_of v) s.number) now) where
      abbrev ended : List Item
      ended = now.seen ++ ending_items (state_of v) s.number

      seen : new.knows.seen ≡ ended
      seen = ap (λ (w : View Item). w.seen) grows

      rights : now.rights ≡ new.knows.rights
      rights = sym (ap (λ (w : View Item). w.rights) grows)

      -- others came and went by the pass alone
      same_quotas : quotas_in now.seen ≡ quotas_in pass.knows.seen
      same_quotas = quotas_beside pass.knows.rights pass.knows.seen now.seen met.grew is.opens

      gone : quotas_in new.knows.seen ≡ remove (quotas_in pass.knows.seen) s.number
      gone = ap quotas_in seen ∙ quotas_ended now.seen (state_of v) s.number session.0.quota was_here ∙ ap (λ (q : Quotas). remove q s.number) same_quotas

      taken : taken_in new.knows.seen + session.0.quota ≡ taken_in pass.knows.seen
      taken =
          ap (λ (items : List Item). taken_in items + session.0.quota) seen ∙ taken_ended now.seen (state_of v) s.number session.0.quota was_here
          ∙ ap (λ (q : Quotas). total (λ m quota. quota) q) same_quotas

      count : live_in new.knows.seen + 1 ≡ live_in pass.knows.seen
      count =
          ap (λ (items : List Item). live_in items + 1) seen ∙ live_ended now.seen (state_of v) s.number session.0.quota was_here
          ∙ ap (λ (q : Quotas). len q) same_quotas

      role : new.knows.role ≡ First (live_in new.knows.seen + writers_out pass)
      role =
          let fewer : (live_in pass.knows.seen + writers_out pass) - 1 ≡ live_in new.knows.seen + writers_out pass = let one = count in omega (arith, one) in
          ap (λ (w : View Item). w.role) grows ∙ met.role ∙ ap one_less is.role ∙ ap First fewer

      pub ends : new.table ≡ pass.table → Ends o s pass new
      ends table = record {
        entered = now.seen;
        grew = met.grew;
        own = met.own;
        items = seen ∙ ap (λ (t : State). now.seen ++ ending_items t s.number) state_now;
        table = table;
        quota = session.0.quota;
        was = ap (λ (q : Quotas). get q s.number) (sym same_quotas) ∙ was_here;
        taken = taken;
        count = count;
        writers = out_are new (writers_out pass) role;
      }

      -- the numbers that no session has are the pass's, with this one
      numbers : (m : ℕ) → m < 240 → get (quotas_in new.knows.seen) m ≡ None → 0 < times m now.rights
      numbers m below none = elim (same_or_other m s.number) [
        | inl here ↦ subst (λ (k : ℕ). 0 < times k now.rights) (sym here) (has_both is).1
        | inr other ↦
            let was_none : get (quotas_in pass.knows.seen) m ≡ None = sym (removed_other (quotas_in pass.knows.seen) s.number m other) ∙ ap (λ (q : Quotas). get q m) (sym gone) ∙ none in
            let one = is.numbers m below was_none in
            let all = has m in
            omega (arith, all, one)
      ]

      pub is_pass : (left : ℕ) → left + taken_in new.knows.seen ≡ o.slots → IsPass o.slots left new
      is_pass left sum = record {
        idle = ap (λ (w : View Item). w.stage) grows;
        role = out_role new (writers_out pass) role;
        opens = subst (λ (all : List ℕ). 0 < times door all) rights (has_both is).0;
        numbers = λ m below none. subst (λ (all : List ℕ). 0 < times m all) rights (numbers m below none);
        spare = sum;
      }
