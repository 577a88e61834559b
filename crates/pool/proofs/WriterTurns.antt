-- A writer's turn: what it gives back, and what it then has seen.
use Rattle.std.proofs.Common.{◌≡◌, ℕ, List, [], ◌∷◌, ◌++◌, Bool, true, false, refl, sym, ap, ◌∙◌, subst}
use Rattle.std.proofs.lemmas.List.{append-nil}
use Rattle.outside.specs.declared.slot.Slot.{Ghosts}
use Rattle.scratch_dev.specs.Rows.{faults_of}
use Rattle.pool_model.specs.declared.event.Event.{Event}
use Rattle.pool_model.specs.declared.event.Event.TheVariants.{StartWrite}
use Rattle.pool_model.specs.LookingBack.{content_from, opens}
use Rattle.pool_model.specs.State.{Opening, State, dirty_of, page_at}
use Rattle.pool_model.specs.Legal.{Follow, IsLegal, state_after}
use Rattle.pool_model.proofs.Fronts.{legal_grows_so}
use Rattle.store_api.specs.Entries.{by}
use Rattle.pin_core.specs.declared.jobs.WriteJob.{WriteJob}
use Rattle.pin_core.specs.declared.tally.Tally.{Tally}
use Rattle.pin_core.specs.StateOf.{state_of}
use Rattle.pin_core.specs.calls.Returning.{write_ends}
use Rattle.pin_core.specs.Tallies.{tally_of}
use Rattle.turn_table.specs.declared.view.View.{View}
use Rattle.turn_table.specs.Steps.{grown}
use Rattle.turn_table.specs.Face.{Spot}
use Rattle.session_calls.specs.declared.hand.Hand.{Hand}
use Rattle.session_calls.specs.declared.count.Count.{Count}
use Rattle.session_calls.specs.declared.count.Count.TheVariants as count
use Rattle.session_calls.specs.Having.{Sight, Taken, sight_of}
use Rattle.session_calls.specs.Moving.{NoneOpens, quota_at}
use Rattle.session_calls.specs.Outgoing.{no_tally, tally_or}
use Rattle.session_calls.specs.Ready.{StandsWhole}
use Rattle.session_calls.specs.Flying.{IsBack, IsOut, Returns, Sends, end_of}
use Rattle.session_calls.proofs.Flights.{back_lasts}
use Rattle.pool.specs.declared.item.Item.{Item}
use Rattle.pool.specs.declared.item.Item.TheVariants.{Made}
use Rattle.pool.specs.declared.writer.WriterTurn.{WriterTurn}
use Rattle.pool.specs.declared.writer.WriterTurn.TheVariants.{Stopped, Nothing, Write}
use Rattle.pool.specs.Items.{counts_in, history, is_stopped, sight_in}
use Rattle.pool.specs.Seating.{state_in}
use Rattle.pool.specs.Sitting.{Sitting}
use Rattle.pool.specs.Taking.{Gives, Takes, made_since}
use Rattle.pool.specs.Writers.{BringsBack, Finds, IsAtRest, IsFound, TakesTurn}
use Rattle.pool.proofs.Doings.{its_right}
use Rattle.pool.proofs.Locked.{taken}
use Rattle.pool.proofs.Since.{sight_since, since_is, worked}
use Rattle.pool.proofs.Stood.{state_here}

-- no session comes by the end of a write
none_comes : (failed : Bool) (p before now : ℕ) → opens (write_ends failed p before now) ≡ false
none_comes true p before now = refl
none_comes false p before now = refl

module _ {D : Type 0} (slot : Ghosts D) (o : Opening) (told : Bool) (first : Tally) (was : Sitting) (spot : Spot Item) (hand : Hand D) (rests : IsAtRest was) (takes : Takes slot o told first was.number was.spot spot hand) where
  sight : sight_of hand ≡ sight_in first spot.knows.seen
  sight = takes.stands.sight_is

  -- in the turn the writer entered these, slots went out so, and no session came or went
  module _ (next : Hand D) (events : List Event) (went : List Count) (session : next.session ≡ hand.session) (trail : next.trail ≡ hand.trail ++ by hand.session events) (counts : next.counts ≡ hand.counts ++ went) where
    number : next.session ≡ was.number
    number = session ∙ takes.session

    trail_on : next.trail ≡ history spot.knows.seen ++ by next.session events
    trail_on = trail ∙ ap (λ (s : Sight). s.trail ++ by hand.session events) sight ∙ ap (λ (m : ℕ). history spot.knows.seen ++ by m events) (sym session)

    counts_on : next.counts ≡ count.Opening first ∷ (counts_in spot.knows.seen ++ went)
    counts_on = counts ∙ ap (λ (s : Sight). s.counts ++ went) sight

    gives_on : NoneOpens events → ((k : ℕ) → quota_at (state_of next.state) k ≡ quota_at (state_of hand.state) k) → StandsWhole slot o told next.trail next.counts next.state → Gives slot o told first spot next
    gives_on none quotas whole = record {
      right = its_right next.session spot.knows.rights (takes.rights ∙ rests.right ∙ ap (λ (m : ℕ). m ∷ []) (sym number));
      events = events;
      opens = none;
      trail = trail_on;
      went = went;
      counts = counts_on;
      whole = whole;
      marked = takes.stands.marked;
      quotas = λ k. quotas k ∙ takes.stands.sessions k;
    }

    module _ (new : Spot Item) (grows : new.knows ≡ grown (made_since next.session spot.knows.seen (sight_of next)) spot.knows) where
      seen_on : new.knows.seen ≡ spot.knows.seen ++ worked was.number (by was.number events) went
      seen_on =
          ap (λ (v : View Item). v.seen) grows
          ∙ ap (λ (items : List Item). spot.knows.seen ++ items) (since_is next.session (by next.session events) went first spot.knows.seen (sight_of next) trail_on counts_on)
          ∙ ap (λ (m : ℕ). spot.knows.seen ++ worked m (by m events) went) number

      sight_on : sight_in first new.knows.seen ≡ sight_of next
      sight_on = ap (λ (v : View Item). sight_in first v.seen) grows ∙ sight_since next.session (by next.session events) went first spot.knows.seen (sight_of next) trail_on counts_on

  nothing_made : hand.trail ≡ hand.trail ++ []
  nothing_made = sym (append-nil hand.trail)

  none_went : hand.counts ≡ hand.counts ++ []
  none_went = sym (append-nil hand.counts)

  gives_same : Gives slot o told first spot hand
  gives_same = gives_on hand [] [] refl nothing_made none_went tt (λ k. refl) takes.stands.whole

  seen_same : (new : Spot Item) → new.knows ≡ grown (made_since hand.session spot.knows.seen (sight_of hand)) spot.knows → new.knows.seen ≡ spot.knows.seen
  seen_same new grows = seen_on hand [] [] refl nothing_made none_went new grows ∙ append-nil spot.knows.seen

  -- what the turn found, it gives back
  pub gives_found : (stopped : Bool) (next : Hand D) (turn : WriterTurn D) → IsFound slot o told stopped hand next turn → Gives slot o told first spot next
  gives_found stopped next Stopped found = subst (Gives slot o told first spot) (sym found.1) gives_same
  gives_found stopped next Nothing found = subst (Gives slot o told first spot) (sym found.1) gives_same
  gives_found stopped next (Write job) found =
      let sends : Sends slot o told hand next job = found.1 in
      gives_on next (StartWrite job.id.name ∷ []) (count.Out job.id.name (tally_of slot job.row) ∷ []) sends.session sends.trail sends.counts (refl, tt) sends.quotas sends.whole

  module _ (next : Hand D) (new : Spot Item) (grows : new.knows ≡ grown (made_since next.session spot.knows.seen (sight_of next)) spot.knows) where
    same_grows : next ≡ hand → new.knows ≡ grown (made_since hand.session spot.knows.seen (sight_of hand)) spot.knows
    same_grows is = grows ∙ ap (λ (h : Hand D). grown (made_since h.session spot.knows.seen (sight_of h)) spot.knows) is

    state_here_is : state_of hand.state ≡ state_in o spot.knows.seen
    state_here_is = state_here slot o told first spot.knows.seen (sight_of hand) hand.state takes.stands

    finds : (turn : WriterTurn D) → IsFound slot o told (is_stopped spot.knows.seen) hand next turn → Finds slot o told first was.number spot.knows.seen new.knows.seen turn
    finds Stopped found = (found.0, seen_same new (same_grows found.1))
    finds Nothing found = (found.0, seen_same new (same_grows found.1), λ c. ap (λ (s : State). dirty_of s c) (sym state_here_is) ∙ found.2 c)
    finds (Write job) found =
        let sends : Sends slot o told hand next job = found.1 in
        let events : List Event = StartWrite job.id.name ∷ [] in
        let grows_so : Follow (history spot.knows.seen) (state_in o spot.knows.seen) (by was.number events) =
        legal_grows_so o (history spot.knows.seen) (by was.number events)
        (subst (IsLegal o) (trail_on next events (count.Out job.id.name (tally_of slot job.row) ∷ []) sends.session sends.trail sends.counts
        ∙ ap (λ (m : ℕ). history spot.knows.seen ++ by m events) (number next events (count.Out job.id.name (tally_of slot job.row) ∷ []) sends.session sends.trail sends.counts)) sends.whole.stands.legal) in
        let went : List Count = count.Out job.id.name (tally_of slot job.row) ∷ [] in (
          found.0,
          seen_on next events went sends.session sends.trail sends.counts new grows,
          grows_so.0.allows,
          subst (λ (s : Sight). IsOut slot o told was.number s job) (sym (sight_on next events went sends.session sends.trail sends.counts new grows))
              (subst (λ (m : ℕ). IsOut slot o told m (sight_of next) job) takes.session sends.out),
        )

    pub takes_turn : new.table ≡ was.spot.table → (turn : WriterTurn D) → IsFound slot o told (is_stopped spot.knows.seen) hand next turn → TakesTurn slot o told first was (record { number = was.number; spot = new }) turn
    takes_turn table turn found = record { number = refl; table = table; entered = spot.knows.seen; grew = takes.grew; finds = finds turn found }

  -- a page that came back
  since : Taken slot o told was.number (sight_in first was.spot.knows.seen) (sight_in first spot.knows.seen) hand
  since = taken slot o told first was.spot.table was.number was.spot spot hand (record { table = refl; idle = rests.idle; rights = rests.right }) takes

  pub still_back : (job : WriteJob D) → IsBack slot o told was.number (sight_in first was.spot.knows.seen) job → IsBack slot o told hand.session (sight_of hand) job
  still_back job back =
      subst (λ (m : ℕ). IsBack slot o told m (sight_of hand) job) (sym takes.session)
      (back_lasts slot o told was.number (sight_in first was.spot.knows.seen) (sight_of hand) since.others since.went
      (ap (λ (s : Sight). s.trail) sight ∙ since.grew) since.beside (ap (λ (s : Sight). s.counts) sight ∙ since.counts)
      takes.stands.whole.stands.legal takes.stands.whole.sums.pages job back)

  module _ (job : WriteJob D) (next : Hand D) (returns : Returns slot o told job hand next) where
    abbrev end : Event
    end = end_of slot (sight_of hand) job

    pub gives_returned : Gives slot o told first spot next
    gives_returned =
        gives_on next (end ∷ []) [] returns.session returns.trail (returns.counts ∙ none_went)
        (none_comes job.failed job.id.name (tally_or no_tally job.id.name hand.counts).faults (faults_of slot job.row), tt) returns.quotas returns.whole

    module _ (new : Spot Item) (grows : new.knows ≡ grown (made_since next.session spot.knows.seen (sight_of next)) spot.knows) where
      sight_back : sight_in first new.knows.seen ≡ sight_of next
      sight_back = sight_on next (end ∷ []) [] returns.session returns.trail (returns.counts ∙ none_went) new grows

      trail_back : next.trail ≡ history new.knows.seen
      trail_back = ap (λ (s : Sight). s.trail) (sym sight_back)

      pub brings_back : new.table ≡ was.spot.table → BringsBack slot o told first job was (record { number = was.number; spot = new })
      brings_back table = record {
        number = refl;
        table = table;
        entered = spot.knows.seen;
        grew = takes.grew;
        items =
            seen_on next (end ∷ []) [] returns.session returns.trail (returns.counts ∙ none_went) new grows
            ∙ ap (λ (s : Sight). spot.knows.seen ++ Made (record { maker = was.number; event = end_of slot s job }) ∷ []) sight;
        place =
            ap (λ (s : State). (page_at s job.id.name).place) (sym (returns.whole.stands.state ∙ ap (state_after o) trail_back)) ∙ returns.place;
        content = returns.content ∙ ap (content_from job.id.name []) trail_back;
      }
