-- From what the state allows to what a follower judges, and from one entry to the next.
use Rattle.std.proofs.Common.{◌≡◌, ℕ, ◌+◌, ◌<◌, ◌^◌, ◌↔◌, Bool, true, false, ◌&&◌, IsTrue, T, Option, Some, None, is_some, option_map, List, [], ◌∷◌, ◌++◌, length, Result, Ok, Err, IfOk, OnOk, refl, ap, sym, ◌∙◌, subst, arith}
use Rattle.std.specs.Ordering.{nat_cmp}
use Rattle.std.specs.FinMap.{FinMap, get}
use Rattle.std.proofs.lemmas.List.{length-append}
use Rattle.pool_model.specs.declared.event.Event.{Event}
use Rattle.pool_model.specs.declared.bare.Bare.{Bare}
use Rattle.pool_model.specs.declared.entry.Entry.{Entry}
use Rattle.pool_model.specs.State.{Opening, State, shown}
use Rattle.pool_model.specs.LookingBack.{opens, is_ask, is_by}
use Rattle.pool_model.specs.Failures.{fails_read, last_failed_read}
use Rattle.pool_model.specs.MayFollow.{Makes, Allows, MayFollow}
use Rattle.pool_model.specs.Effects.{after}
use Rattle.pool_model.specs.Legal.{state_after}
use Rattle.pool_model.specs.Traces.{bare_of, skeleton_of}
use Rattle.pool_model.specs.Sound.{IsSound}
use Rattle.pool_model.proofs.Fronts.{legal_grows, state_runs_on}
use Rattle.pool_model.proofs.Kept.{legal_sound}
use Rattle.trace_follow.specs.declared.rows.Asked.{Asked}
use Rattle.trace_follow.specs.declared.follower.Follower.{Follower}
use Rattle.trace_follow.specs.Showing.{Shows}
use Rattle.trace_follow.specs.Following.{TellsBefore, StandsFor, Judges, Follows}
use Rattle.trace_follow.specs.Judging.{made, Answers}
use Rattle.trace_follow.proofs.Before.{asks, asks_same, reads_same}

-- some event of which a trace keeps this may be the next one
pub record MayCome (h : List Entry) (s : State) (m : ℕ) (b : Bare) : Type 0 where
  pub event : Event
  pub same : bare_of event ≡ b
  pub makes : Makes m event
  pub allows : Allows h s m event

-- the follower judges by what the state allows
module _ (v : Follower) (m : ℕ) (b : Bare) (may : Bool) where
  pub judged : ((o : Opening) (h : List Entry) → StandsFor v o h → IsSound (state_after o h) → IsTrue may → MayCome h (state_after o h) m b)
      → ((o : Opening) (h : List Entry) (e : Event) → StandsFor v o h → IsSound (state_after o h) → bare_of e ≡ b → Allows h (state_after o h) m e → IsTrue may)
      → Judges v (made m b) may
  judged come only o h stands =
      let sound : IsSound (state_after o h) = legal_sound o h stands.legal in (
        λ is. let c : MayCome h (state_after o h) m b = come o h stands sound is in
            let e : Entry = record { maker = m; event = c.event } in
            let same : skeleton_of e ≡ made m b = ap (made m) c.same in
            let may_follow : MayFollow h (state_after o h) e = record { makes = c.makes; allows = c.allows } in
            (e, same, may_follow),
        λ can.
            let e : Entry = can.0 in
            let maker : e.maker ≡ m = ap (λ k. k.maker) can.1 in
            let event : bare_of e.event ≡ b = ap (λ k. k.event) can.1 in
            let allows : Allows h (state_after o h) m e.event = subst (λ (n : ℕ). Allows h (state_after o h) n e.event) maker can.2.allows in
            only o h e.event stands sound event allows,
      )

-- the follower stands for the history with an entry more
pub stands_on : (old new : Follower) (o : Opening) (h : List Entry) (e : Entry) → StandsFor old o h → MayFollow h (state_after o h) e
    → Shows new (after (state_after o h) e) → TellsBefore new (h ++ e ∷ []) → StandsFor new o (h ++ e ∷ [])
stands_on old new o h e stands may shows tells = record {
  legal = legal_grows o h (e ∷ []) stands.legal (may, tt);
  shows = subst (Shows new) (sym (state_runs_on o h (e ∷ []))) shows;
  tells = tells;
}

module _ (old new : Follower) (m : ℕ) (b : Bare) where
  pub followed : ((o : Opening) (h : List Entry) (e : Event) → StandsFor old o h → IsSound (state_after o h) → bare_of e ≡ b → Allows h (state_after o h) m e
      → Shows new (after (state_after o h) (record { maker = m; event = e })) × TellsBefore new (h ++ record { maker = m; event = e } ∷ [])) → Follows old new (made m b)
  followed step o h e stands is may =
      let maker : e.maker ≡ m = ap (λ k. k.maker) is in
      let event : bare_of e.event ≡ b = ap (λ k. k.event) is in
      let allows : Allows h (state_after o h) m e.event = subst (λ (n : ℕ). Allows h (state_after o h) n e.event) maker may.allows in
      let it : Shows new (after (state_after o h) (record { maker = m; event = e.event })) × TellsBefore new (h ++ record { maker = m; event = e.event } ∷ []) = step o h e.event stands (legal_sound o h stands.legal) event allows in
      let whole : record { maker = m; event = e.event } ≡ e = ap (λ (n : ℕ). record { maker = n; event = e.event }) (sym maker) in
      stands_on old new o h e stands may (subst (λ (d : Entry). Shows new (after (state_after o h) d)) whole it.0) (subst (λ (d : Entry). TellsBefore new (h ++ d ∷ [])) whole it.1)

-- what was read since the last call of each is as it was
abbrev pub SameReads : FinMap nat_cmp Asked → FinMap nat_cmp Asked → Type 0
SameReads old new = (maker : ℕ) → option_map (λ (x : Asked). x.reads) (get new maker) ≡ option_map (λ (x : Asked). x.reads) (get old maker)

pub record Kept (o : Option Asked) (since : Asked) : Type 0 where
  pub was : Asked
  pub there : o ≡ Some was
  pub reads : since.reads ≡ was.reads

pub kept : (o : Option Asked) (since : Asked) → option_map (λ (x : Asked). x.reads) (Some since) ≡ option_map (λ (x : Asked). x.reads) o → Kept o since
kept None since is = cc
kept (Some x) since is = record { was = x; there = refl; reads = cc }

pub same_some : (a b : Option Asked) → option_map (λ (x : Asked). x.reads) a ≡ option_map (λ (x : Asked). x.reads) b → is_some a ≡ is_some b
same_some None None is = refl
same_some None (Some x) is = cc
same_some (Some x) None is = cc
same_some (Some x) (Some y) is = refl

-- the event is no call, begins no session, and fails no read
pub record IsQuiet (e : Event) : Type 0 where
  pub no_start : opens e ≡ false
  pub no_call : is_ask e ≡ false
  pub no_failure : (p : ℕ) → fails_read p e ≡ false

pub and_false : (b c : Bool) → c ≡ false → (b && c) ≡ false
and_false true c is = is
and_false false c is = refl

pub tells_on : (old new : Follower) (h : List Entry) (e : Entry) → TellsBefore old h → IsQuiet e.event → SameReads old.asked new.asked → new.entries ≡ old.entries + 1 → TellsBefore new (h ++ e ∷ [])
tells_on old new h e tells quiet same counted = record {
  entries =
      let was : old.entries ≡ length h = tells.entries in
      let more : length (h ++ e ∷ []) ≡ length h + 1 = length-append h (e ∷ []) in
      omega (arith, was, more, counted);
  asked = λ m.
      let goes_on : asks (h ++ e ∷ []) m ≡ asks h m = asks_same h e quiet.no_start quiet.no_call m in
      let kept_on : is_some (get new.asked m) ≡ is_some (get old.asked m) = same_some (get new.asked m) (get old.asked m) (same m) in
      (λ some. subst T (sym goes_on) ((tells.asked m).0 (sym kept_on ∙ some)), λ has. kept_on ∙ (tells.asked m).1 (subst T goes_on has));
  reads = λ m since is p.
      let k : Kept (get old.asked m) since = kept (get old.asked m) since (sym (ap (option_map (λ (x : Asked). x.reads)) is) ∙ same m) in
      let as_was : last_failed_read (h ++ e ∷ []) m p ≡ last_failed_read h m p = reads_same h e m p (and_false (is_by m e) (is_ask e.event) quiet.no_call) (and_false (is_by m e) (fails_read p e.event) (quiet.no_failure p)) in
      ap (λ (r : FinMap nat_cmp ℕ). get r p) k.reads ∙ tells.reads m k.was k.there p ∙ sym as_was;
  earlier = λ m since is p i at.
      let k : Kept (get old.asked m) since = kept (get old.asked m) since (sym (ap (option_map (λ (x : Asked). x.reads)) is) ∙ same m) in
      let before : i < old.entries = tells.earlier m k.was k.there p i (sym (ap (λ (r : FinMap nat_cmp ℕ). get r p) k.reads) ∙ at) in
      omega (arith, before, counted);
}

-- numbers of entries fit
pub counted_shown : (n : ℕ) → n < 2 ^ 64 → shown n ≡ n
counted_shown n few = omega (arith, few)

-- an answer from what a test tells of the state
module _ {E : Type 0} (old new : Follower) (m : ℕ) (b : Bare) where
  pub refused : ((o : Opening) (h : List Entry) (e : Event) → StandsFor old o h → IsSound (state_after o h) → bare_of e ≡ b → Allows h (state_after o h) m e → ⊥) → Answers {E = E} old new (made m b) (Ok false)
  refused never = record {
    judges = judged old m b false (λ o h stands sound is. cc) (λ o h e stands sound same allows. absurd (never o h e stands sound same allows));
    follows = λ is. cc;
  }

  pub accepted : (result : Result Bool E) → IfOk result (λ may. may ≡ true)
      → ((o : Opening) (h : List Entry) → StandsFor old o h → IsSound (state_after o h) → MayCome h (state_after o h) m b)
      → OnOk result ((o : Opening) (h : List Entry) (e : Event) → StandsFor old o h → IsSound (state_after o h) → bare_of e ≡ b → Allows h (state_after o h) m e
      → Shows new (after (state_after o h) (record { maker = m; event = e })) × TellsBefore new (h ++ record { maker = m; event = e } ∷ []))
      → Answers old new (made m b) result
  accepted (Ok may) is come step = record {
    judges = judged old m b may (λ o h stands sound yes. come o h stands sound) (λ o h e stands sound same allows. is);
    follows = λ yes. followed old new m b step;
  }
  accepted (Err e) is come step = record { judges = tt; follows = tt }

-- the same for an event of which a trace keeps all
module _ {E : Type 0} (old new : Follower) (m : ℕ) (event : Event) (plain : (e : Event) → bare_of e ≡ bare_of event → e ≡ event) (test : Bool)
    (tests : (o : Opening) (h : List Entry) → StandsFor old o h → IsSound (state_after o h) → IsTrue test ↔ Allows h (state_after o h) m event) where
  pub plain_refused : test ≡ false → Answers {E = E} old new (made m (bare_of event)) (Ok false)
  plain_refused fails = refused old new m (bare_of event) (λ o h e stands sound same allows.
      let so : Allows h (state_after o h) m event = subst (Allows h (state_after o h) m) (plain e same) allows in
      let true_too : test ≡ true = (tests o h stands sound).1 so in
      let both : false ≡ true = sym fails ∙ true_too in cc)

  pub plain_accepted : test ≡ true → Makes m event → (result : Result Bool E) → IfOk result (λ may. may ≡ true)
      → OnOk result ((o : Opening) (h : List Entry) → StandsFor old o h → IsSound (state_after o h) → Allows h (state_after o h) m event
      → Shows new (after (state_after o h) (record { maker = m; event = event })) × TellsBefore new (h ++ record { maker = m; event = event } ∷ []))
      → Answers old new (made m (bare_of event)) result
  plain_accepted holds makes result is step = accepted old new m (bare_of event) result is
      (λ o h stands sound. record { event = event; same = refl; makes = makes; allows = (tests o h stands sound).0 holds })
      (on_ok result step)
    where
      on_ok : (r : Result Bool E) → OnOk r ((o : Opening) (h : List Entry) → StandsFor old o h → IsSound (state_after o h) → Allows h (state_after o h) m event
          → Shows new (after (state_after o h) (record { maker = m; event = event })) × TellsBefore new (h ++ record { maker = m; event = event } ∷ []))
          → OnOk r ((o : Opening) (h : List Entry) (e : Event) → StandsFor old o h → IsSound (state_after o h) → bare_of e ≡ bare_of event → Allows h (state_after o h) m e
          → Shows new (after (state_after o h) (record { maker = m; event = e })) × TellsBefore new (h ++ record { maker = m; event = e } ∷ []))
      on_ok (Ok may) step = λ o h e stands sound same allows.
          let is : e ≡ event = plain e same in
          let so : Allows h (state_after o h) m event = subst (Allows h (state_after o h) m) is allows in
          subst (λ (d : Event). Shows new (after (state_after o h) (record { maker = m; event = d })) × TellsBefore new (h ++ record { maker = m; event = d } ∷ [])) (sym is) (step o h stands sound so)
      on_ok (Err e) step = tt
