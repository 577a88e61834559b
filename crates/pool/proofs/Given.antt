-- A session gives the pool's value back with what it entered.
use Rattle.std.proofs.Common.{◌≡◌, ℕ, Bool, List, [], ◌∷◌, ◌++◌, map, refl, sym, ap, ◌∙◌, subst, arith}
use Rattle.std.specs.FinMap.{empty, get}
use Rattle.outside.specs.declared.slot.Slot.{Ghosts}
use Rattle.reservation_tree.specs.Total.{total}
use Rattle.reservation_tree.proofs.Maps.{alike}
use Rattle.pool_model.specs.declared.entry.Entry.{Entry}
use Rattle.pool_model.specs.State.{Opening, Session, State}
use Rattle.store_api.specs.Entries.{by}
use Rattle.pin_core.specs.declared.tally.Tally.{Tally}
use Rattle.pin_core.specs.Invariant.{IsKept}
use Rattle.pin_core.specs.Lawful.{Lawful}
use Rattle.pin_core.specs.StateOf.{mapped, state_of}
use Rattle.pin_core.proofs.Mapped.{get_mapped}
use Rattle.pin_core.proofs.Totals.{total_mapped}
use Rattle.turn_table.specs.Knowledge.{NeedsOnly}
use Rattle.turn_table.specs.Face.{Spot}
use Rattle.session_calls.specs.declared.hand.Hand.{Hand}
use Rattle.session_calls.specs.declared.count.Count.{Count}
use Rattle.session_calls.specs.Having.{sight_of}
use Rattle.session_calls.specs.Moving.{quota_at}
use Rattle.session_calls.proofs.Spare.{spare_is}
use Rattle.pool.specs.declared.item.Item.{Item}
use Rattle.pool.specs.declared.item.Item.TheVariants.{Made, Went}
use Rattle.pool.specs.Items.{needs_of}
use Rattle.pool.specs.Seats.{Quotas, quotas_in, taken_in, with_items}
use Rattle.pool.specs.Standing.{StandsAs}
use Rattle.pool.specs.Taking.{Gives, made_since}
use Rattle.pool.proofs.Beside.{quotas_more}
use Rattle.pool.proofs.Marked.{marked_more, marked_worked}
use Rattle.pool.proofs.Needed.{worked_needs}
use Rattle.pool.proofs.Since.{worked, since_is, sight_worked}

-- no session comes or goes by what a session enters
quotas_went : (q : Quotas) (m : ℕ) (cs : List Count) → with_items q (map (Went m) cs) ≡ q
quotas_went q m [] = refl
quotas_went q m (c ∷ cs) = quotas_went q m cs

quotas_made : (q : Quotas) (es : List Entry) → with_items q (map Made es) ≡ q
quotas_made q [] = refl
quotas_made q (e ∷ es) = quotas_made q es

same_quotas : (seen : List Item) (m : ℕ) (es : List Entry) (cs : List Count) → quotas_in (seen ++ worked m es cs) ≡ quotas_in seen
same_quotas seen m es cs =
    quotas_more empty seen (worked m es cs) ∙ quotas_more (quotas_in seen) (map Made es) (map (Went m) cs) ∙ ap (λ (q : Quotas). with_items q (map (Went m) cs)) (quotas_made (quotas_in seen) es)
    ∙ quotas_went (quotas_in seen) m cs

-- the quotas of the sessions are together those of which the items tell
quotas_total : (s : State) (quotas : Quotas) → ((k : ℕ) → quota_at s k ≡ get quotas k) → total (λ k x. x.quota) s.sessions ≡ total (λ m quota. quota) quotas
quotas_total s quotas is =
    let same : mapped (λ k (x : Session). x.quota) s.sessions ≡ quotas = alike (mapped (λ k (x : Session). x.quota) s.sessions) quotas (λ k. get_mapped (λ j (x : Session). x.quota) s.sessions k ∙ is k) in
    sym (total_mapped (λ k (x : Session). x.quota) (λ m quota. quota) s.sessions) ∙ ap (total (λ m quota. quota)) same

-- the turn ends with what the session entered in it
module _ {D : Type 0} (slot : Ghosts D) (o : Opening) (told : Bool) (first : Tally) (spot : Spot Item) (hand : Hand D) (gives : Gives slot o told first spot hand) where
  abbrev made : List Item
  made = worked hand.session (by hand.session gives.events) gives.went

  as_made : made_since hand.session spot.knows.seen (sight_of hand) ≡ made
  as_made = since_is hand.session (by hand.session gives.events) gives.went first spot.knows.seen (sight_of hand) gives.trail gives.counts

  stands_made : IsKept hand.state → Lawful hand.state → StandsAs slot o told first (spot.knows.seen ++ made) (sight_of hand) hand.state
  stands_made kept laws =
      let same : quotas_in (spot.knows.seen ++ made) ≡ quotas_in spot.knows.seen = same_quotas spot.knows.seen hand.session (by hand.session gives.events) gives.went in
      record {
        sight_is = sight_worked hand.session (by hand.session gives.events) gives.went first spot.knows.seen (sight_of hand) gives.trail gives.counts;
        whole = gives.whole;
        marked = marked_more spot.knows.seen made gives.marked (marked_worked hand.session gives.events gives.went gives.opens);
        sessions = λ k. gives.quotas k ∙ ap (λ (q : Quotas). get q k) (sym same);
        spare =
            let all = spare_is hand.state kept laws in
            let home = gives.whole.home in
            let lent : total (λ k x. x.quota) (state_of hand.state).sessions ≡ taken_in spot.knows.seen = quotas_total (state_of hand.state) (quotas_in spot.knows.seen) gives.quotas in
            let taken : taken_in (spot.knows.seen ++ made) ≡ taken_in spot.knows.seen = ap (total (λ m quota. quota)) same in
            omega (arith, all, home, lent, taken);
      }

  pub stands_since : IsKept hand.state → Lawful hand.state → StandsAs slot o told first (spot.knows.seen ++ made_since hand.session spot.knows.seen (sight_of hand)) (sight_of hand) hand.state
  stands_since kept laws = subst (λ (es : List Item). StandsAs slot o told first (spot.knows.seen ++ es) (sight_of hand) hand.state) (sym as_made) (stands_made kept laws)

  pub needs_since : NeedsOnly needs_of spot.knows.rights (made_since hand.session spot.knows.seen (sight_of hand))
  needs_since = subst (NeedsOnly needs_of spot.knows.rights) (sym as_made) (worked_needs spot.knows.rights hand.session gives.right gives.events gives.went)
