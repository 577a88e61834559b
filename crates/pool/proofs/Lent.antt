-- What the pass of a pool keeps true while writers come and go, and when they are told to end.
use Rattle.std.proofs.Common.{◌≡◌, ◌≢◌, ℕ, ◌+◌, ◌-◌, ◌<◌, List, [], ◌∷◌, ◌++◌, Some, refl, sym, ap, ◌∙◌, subst, arith}
use Rattle.std.specs.FinMap.{get, len}
use Rattle.reservation_tree.specs.Total.{total}
use Rattle.pool_model.specs.Makers.{IsWriter}
use Rattle.turn_table.specs.declared.view.Role.TheVariants.{First}
use Rattle.turn_table.specs.declared.view.View.{View}
use Rattle.turn_table.specs.Lists.{same, times}
use Rattle.turn_table.specs.Knowledge.{GrewBeside, IsFirst, IsIdle, first_at}
use Rattle.turn_table.specs.Steps.{one_less, one_more, joined, taking, grown, parted, newcomer}
use Rattle.turn_table.specs.Face.{Spot}
use Rattle.turn_table.proofs.Sums.{total-append}
use Rattle.pool.specs.declared.item.Item.{Item}
use Rattle.pool.specs.declared.item.Item.TheVariants.{Stop}
use Rattle.pool.specs.Items.{door, needs_of}
use Rattle.pool.specs.Passing.{IsPass, writers_out}
use Rattle.pool.specs.Seats.{Quotas, live_in, quotas_in, taken_in}
use Rattle.pool.specs.Sitting.{Sitting}
use Rattle.pool.specs.Writers.{IsAtRest, KeepsSeats, Lends, Stops, TakesBack}
use Rattle.pool.proofs.Beside.{quotas_beside}
use Rattle.pool.proofs.NoStop.{quotas_stop}
use Rattle.pool.proofs.Out.{out_are, out_role}
use Rattle.pool.proofs.Passes.{without_other}

module _ {slots free : ℕ} {pass : Spot Item} (is : IsPass slots free pass) where
  -- the pass is the first seat of the lock
  pub is_first : IsFirst pass.knows
  is_first = ap first_at is.role

  -- no session came or went since
  module _ (new : Spot Item) (stay : quotas_in new.knows.seen ≡ quotas_in pass.knows.seen) where
    live_stays : live_in new.knows.seen ≡ live_in pass.knows.seen
    live_stays = ap (λ (q : Quotas). len q) stay

    taken_stays : taken_in new.knows.seen ≡ taken_in pass.knows.seen
    taken_stays = ap (λ (q : Quotas). total (λ m quota. quota) q) stay

    keeps : new.table ≡ pass.table → KeepsSeats pass new
    keeps table = record { table = table; taken = taken_stays; count = live_stays }

    -- and so many writers are out
    module _ (n : ℕ) (role : new.knows.role ≡ First (live_in pass.knows.seen + n)) where
      role_now : new.knows.role ≡ First (live_in new.knows.seen + n)
      role_now = role ∙ ap (λ (k : ℕ). First (k + n)) (sym live_stays)

      writers_now : writers_out new ≡ n
      writers_now = out_are new n role_now

      still : IsIdle new.knows → 0 < times door new.knows.rights → ((m : ℕ) → m < 240 → 0 < times m pass.knows.rights → 0 < times m new.knows.rights) → IsPass slots free new
      still idle opens numbers = record {
        idle = idle;
        role = out_role new n role_now;
        opens = opens;
        numbers = λ m few none. numbers m few (is.numbers m few (sym (ap (λ (q : Quotas). get q m) stay) ∙ none));
        spare = ap (λ (k : ℕ). free + k) taken_stays ∙ is.spare;
      }

  -- a number is lent to a writer
  module _ (who : ℕ) (writer : IsWriter who) (new : Spot Item) (parts : new.knows ≡ parted (Some who) pass.knows) where
    same_seen : new.knows.seen ≡ pass.knows.seen
    same_seen = ap (λ (v : View Item). v.seen) parts

    role_lent : new.knows.role ≡ First (live_in pass.knows.seen + (writers_out pass + 1))
    role_lent =
        let more : live_in pass.knows.seen + writers_out pass + 1 ≡ live_in pass.knows.seen + (writers_out pass + 1) = omega arith in
        ap (λ (v : View Item). v.role) parts ∙ ap one_more is.role ∙ ap First more

    others : (k : ℕ) → k ≢ who → times k new.knows.rights ≡ times k pass.knows.rights
    others k apart = ap (λ (v : View Item). times k v.rights) parts ∙ without_other who k apart pass.knows.rights

    pub lent_pass : IsPass slots free new
    lent_pass =
        still new (ap quotas_in same_seen) (writers_out pass + 1) role_lent
        (ap (λ (v : View Item). v.stage) parts ∙ is.idle)
        (subst (λ (n : ℕ). 0 < n) (sym (others door (λ here. omega (arith, writer.1, here)))) is.opens)
        (λ m few has. subst (λ (n : ℕ). 0 < n) (sym (others m (λ here. omega (arith, writer.0, few, here)))) has)

    -- the writer has it
    module _ (seat : Spot Item) (comes : seat.knows ≡ newcomer (Some who) pass.knows) where
      pub lent_rests : IsAtRest (record { number = who; spot = seat })
      lent_rests = record { number = writer; idle = ap (λ (v : View Item). v.stage) comes; right = ap (λ (v : View Item). v.rights) comes }

      pub lends : new.table ≡ pass.table → seat.table ≡ pass.table → Lends who pass new (record { number = who; spot = seat })
      lends table other = record {
        number = refl;
        table = other;
        seen = ap (λ (v : View Item). v.seen) comes ∙ sym same_seen;
        same = same_seen;
        keeps = keeps new (ap quotas_in same_seen) table;
        others = others;
        writers = writers_now new (ap quotas_in same_seen) (writers_out pass + 1) role_lent;
      }

  -- the pass has it again
  module _ (w : Sitting) (new : Spot Item) (joins : new.knows ≡ joined pass.knows w.spot.knows) (grew : GrewBeside needs_of pass.knows.rights pass.knows.seen new.knows.seen) (some : 0 < writers_out pass) where
    stay_back : quotas_in new.knows.seen ≡ quotas_in pass.knows.seen
    stay_back = quotas_beside pass.knows.rights pass.knows.seen new.knows.seen grew is.opens

    role_back : new.knows.role ≡ First (live_in pass.knows.seen + (writers_out pass - 1))
    role_back =
        let less : live_in pass.knows.seen + writers_out pass - 1 ≡ live_in pass.knows.seen + (writers_out pass - 1) = omega (arith, some) in
        ap (λ (v : View Item). v.role) joins ∙ ap one_less is.role ∙ ap First less

    has : (r : ℕ) → 0 < times r pass.knows.rights → 0 < times r new.knows.rights
    has r was =
        let both : times r new.knows.rights ≡ times r pass.knows.rights + times r w.spot.knows.rights = ap (λ (v : View Item). times r v.rights) joins ∙ total-append (same r) pass.knows.rights w.spot.knows.rights in
        omega (arith, both, was)

    pub back_pass : IsPass slots free new
    back_pass = still new stay_back (writers_out pass - 1) role_back (ap (λ (v : View Item). v.stage) joins ∙ is.idle) (has door is.opens) (λ m few was. has m was)

    pub takes_back : new.table ≡ pass.table → GrewBeside needs_of w.spot.knows.rights w.spot.knows.seen new.knows.seen → TakesBack w pass new
    takes_back table own = record {
      grew = grew;
      own = own;
      keeps = keeps new stay_back table;
      writers = let one = writers_now new stay_back (writers_out pass - 1) role_back in omega (arith, one, some);
    }

  -- the pass had its turn, and told writers to end
  module _ {ticket : ℕ} {now : View Item} (takes : now ≡ taking ticket now.seen pass.knows) (grew : GrewBeside needs_of pass.knows.rights pass.knows.seen now.seen) where
    rights_here : now.rights ≡ pass.knows.rights
    rights_here = ap (λ (v : View Item). v.rights) takes

    pub door_here : 0 < times door now.rights
    door_here = subst (λ (rights : List ℕ). 0 < times door rights) (sym rights_here) is.opens

    module _ (new : Spot Item) (grows : new.knows ≡ grown (Stop ∷ []) now) where
      seen_stop : new.knows.seen ≡ now.seen ++ Stop ∷ []
      seen_stop = ap (λ (v : View Item). v.seen) grows

      stay_stop : quotas_in new.knows.seen ≡ quotas_in pass.knows.seen
      stay_stop = ap quotas_in seen_stop ∙ quotas_stop now.seen ∙ quotas_beside pass.knows.rights pass.knows.seen now.seen grew is.opens

      role_stop : new.knows.role ≡ First (live_in pass.knows.seen + writers_out pass)
      role_stop = ap (λ (v : View Item). v.role) grows ∙ ap (λ (v : View Item). v.role) takes ∙ is.role

      rights_stop : pass.knows.rights ≡ new.knows.rights
      rights_stop = sym (ap (λ (v : View Item). v.rights) grows ∙ rights_here)

      pub stop_pass : IsPass slots free new
      stop_pass =
          still new stay_stop (writers_out pass) role_stop (ap (λ (v : View Item). v.stage) grows)
          (subst (λ (rights : List ℕ). 0 < times door rights) rights_stop is.opens) (λ m few was. subst (λ (rights : List ℕ). 0 < times m rights) rights_stop was)

      pub stops : new.table ≡ pass.table → Stops pass new
      stops table = record {
        entered = now.seen;
        grew = grew;
        items = seen_stop;
        keeps = keeps new stay_stop table;
        writers = writers_now new stay_stop (writers_out pass) role_stop;
      }
