-- What one owner's pool keeps over a step of its session.
use Rattle.std.proofs.Common.{◌≡◌, ℕ, List, [], Option, Result, Ok, Err, IfOk, OnErr, OnOk, refl, sym, ap, ◌∙◌, subst}
use Rattle.outside.specs.declared.slot.Slot.{Ghosts}
use Rattle.block_arena.specs.Memory.{Buffer}
use Rattle.pool_model.specs.declared.event.Event.{Event}
use Rattle.pool_model.specs.State.{Opening}
use Rattle.store_api.specs.Tokens.{PageToken}
use Rattle.store_api.specs.Holdings.{Holdings}
use Rattle.store_api.specs.Signs.{Signs}
use Rattle.own_entries.specs.AboveLaws.{AllBy}
use Rattle.session_calls.specs.declared.hand.Hand.{Hand}
use Rattle.session_calls.specs.Ready.{IsReady}
use Rattle.session_calls.specs.Acting.{Acts, held_by, signs_by}
use Rattle.session_calls.specs.Calls.{in_turn}
use Rattle.session_calls.specs.Coming.{IsFreshPage}
use Rattle.session_calls.specs.Jobs.{DoesIn}
use Rattle.session_calls.proofs.Carried.{Carries}
use Rattle.session_calls.proofs.Lists.{alone_more}
use Rattle.session_calls.proofs.Entered.{acts_entered}
use Rattle.session_calls.proofs.Between.{worked_on}
use Rattle.session_calls.proofs.Did.{acts_did}
use Rattle.local_pool.specs.declared.sole.Shelf.{Shelf}
use Rattle.local_pool.specs.Told.{outset_of, opening_of, held_of, signs_of}
use Rattle.local_pool.specs.Counting.{AtOpening}
use Rattle.local_pool.specs.Making.{Makes}
use Rattle.local_pool.specs.Standing.{Stands}
use Rattle.local_pool.specs.Shelving.{FitsShelf, sees}
use Rattle.local_pool.specs.Viewing.{owned}
use Rattle.local_pool.proofs.Keeping.{held_is, signs_is, opening_same, fits_on, stands_on, makes_on}

-- between calls, with the shelf where its value lies while a job runs
abbrev pub Keeps : {D : Type 0} → Ghosts D → Option AtOpening → Shelf D → Hand D → Type 0
Keeps slot first shelf hand = Stands slot first hand × FitsShelf slot shelf hand

module _ {D : Type 0} (slot : Ghosts D) {first : Option AtOpening} (own now : Hand D) (view : own ≡ now) (is : Stands slot first own) where
  -- what the session holds is what the owner is seen to hold
  pub held_at : held_by (opening_of slot own) (outset_of slot own.state) own ≡ held_of slot now
  held_at = held_is slot own is ∙ ap (held_of slot) view

  -- and so with what shows of it
  pub signs_at : signs_by (opening_of slot own) own ≡ signs_of now
  signs_at = signs_is slot own is ∙ ap signs_of view

  -- and so with a page that is new to it
  pub fresh_at : (t blocks : ℕ) (made : PageToken × Buffer) → IsFreshPage t blocks made (held_by (opening_of slot own) (outset_of slot own.state) own) (signs_by (opening_of slot own) own) → IsFreshPage t blocks made (held_of slot now) (signs_of now)
  fresh_at t blocks made fresh =
      subst (λ (s : Signs). IsFreshPage t blocks made (held_of slot now) s) signs_at
      (subst (λ (h : Holdings). IsFreshPage t blocks made h (signs_by (opening_of slot own) own)) held_at fresh)

module _ {D : Type 0} (slot : Ghosts D) {first : Option AtOpening} (shelf : Shelf D) (own now : Hand D) (view : own ≡ now) (was : Keeps slot first shelf own) (new : Hand D) where
  abbrev o : Opening
  o = opening_of slot own

  module _ (ready : IsReady slot o (outset_of slot own.state) new) where
    module _ {P : List Event → Type 0} (acts : Acts P own new) where
      abbrev did : DoesIn P own new
      did = acts_did own new acts acts.opens

      all : AllBy own.session did.does.more
      all = alone_more own.session [] acts.events tt

      -- a step keeps it
      pub step_keeps : Keeps slot first shelf new
      step_keeps = (
        stands_on slot own was.0 new ready did all,
        fits_on slot own was.0 new ready shelf (subst (λ (m : ℕ). AllBy m shelf.seen) (sym acts.session) was.1.alone) (worked_on o (outset_of slot own.state) (sees shelf) own new was.1.worked (acts_entered own new acts)),
      )

      -- and its entries came
      pub step_makes : Makes slot P now new
      step_makes = subst (λ (h : Hand D). Makes slot P h new) view (makes_on slot own was.0 new ready did all)

    -- it came, or nothing changed
    pub came_or_same : {A E : Type 0} (P : A → List Event → Type 0) (r : Result A E) → IfOk r (λ x. Acts (P x) own new) → OnErr r (new ≡ own) → Keeps slot first shelf new
    came_or_same P (Ok x) acts same = step_keeps acts
    came_or_same P (Err e) acts same = subst (Keeps slot first shelf) (sym same) was

    -- it came, or was refused with an entry of its own
    pub either_keeps : {A E : Type 0} (P Q : List Event → Type 0) (r : Result A E) → OnOk r (Acts P own new) → OnErr r (Acts Q own new) → Keeps slot first shelf new
    either_keeps P Q (Ok x) acts refused = step_keeps acts
    either_keeps P Q (Err e) acts refused = step_keeps refused

    -- what the session did in the turn is what the owner sees
    pub turn_viewed : Carries (in_turn o (outset_of slot own.state) own new) (owned slot now new)
    turn_viewed = record {
      holds = held_at slot own now view was.0;
      fresh = fresh_at slot own now view was.0;
      opening = sym (opening_same slot own was.0 new ready);
      history = refl;
      state = refl;
      did = λ P acts. step_makes acts;
      same = λ same. same ∙ view;
      refused = λ t what e never. absurd never;
    }
