-- What a session did, as the clauses of a store say it.
use Rattle.std.proofs.Common.{◌≡◌, ◌≤◌, ℕ, ◌+◌, List, [], ◌++◌, Bool, filter, length, length-append, Some, refl, sym, ap, ◌∙◌, subst, arith, le-leb}
use Rattle.std.proofs.lemmas.Bool.{leb-true}
use Rattle.std.proofs.lemmas.List.{append_assoc, append-nil}
use Rattle.std.proofs.lemmas.List.Elements.{filter-append, filter_map-append}
use Rattle.pool_model.specs.declared.entry.Entry.{Entry}
use Rattle.pool_model.specs.declared.event.Event.{Event}
use Rattle.pool_model.specs.State.{Opening}
use Rattle.pool_model.specs.LookingBack.{is_by, made_by, names_in, name_in}
use Rattle.pool_model.specs.Failures.{is_own, is_for_own, failures_in}
use Rattle.pool_model.proofs.Rising.{failures_grow}
use Rattle.store_api.specs.Entries.{by, Made}
use Rattle.store_api.specs.Signs.{Grows, is_stale_load, refuses_unpin}
use Rattle.own_entries.specs.AboveLaws.{AllBy}
use Rattle.own_entries.specs.OwnHoldings.{Outset, after_events, holdings_of}
use Rattle.own_entries.proofs.Calls.{calls_run_on}
use Rattle.own_entries.proofs.Outsets.{outsets_stay}
use Rattle.session_calls.proofs.Lists.{all_own, by_append}
use Rattle.session_calls.specs.Told.{held_in, signs_in}
use Rattle.session_calls.specs.Doing.{Does}

names_more : (a b : List Entry) → length (names_in (a ++ b)) ≡ length (names_in a) + length (names_in b)
names_more a b = ap length (filter_map-append (λ (e : Entry). name_in e.event) a b) ∙ length-append (names_in a) (names_in b)

-- of a maker's entries those that it made last are counted beside those before
pub counted_more : (counts : Entry → Bool) (m : ℕ) (before now : List Entry) (events : List Event) → made_by now m ≡ made_by before m ++ by m events
    → length (filter counts (made_by now m)) ≡ length (filter counts (made_by before m)) + length (filter counts (by m events))
counted_more counts m before now events own =
    ap (λ (h : List Entry). length (filter counts h)) own ∙ ap length (filter-append counts (made_by before m) (by m events))
    ∙ length-append (filter counts (made_by before m)) (filter counts (by m events))

-- whose entries they are
pub whose : (o : Opening) (u : Outset) (m : ℕ) (h : List Entry) → (held_in o u m h).session ≡ m
unfolding held_in
whose o u m h = (outsets_stay o.block_len m u (made_by h m)).whose

module _ {P : List Event → Type 0} (o : Opening) (u : Outset) (m : ℕ) (before now : List Entry) (does : Does m P before now) where
  pub does_held : held_in o u m now ≡ after_events (held_in o u m before) does.events
  unfolding held_in
  does_held = ap (holdings_of o.block_len m u) does.own ∙ calls_run_on o.block_len m u (made_by before m) does.events

  pub does_grows : Grows (signs_in o m before) (signs_in o m now)
  unfolding signs_in
  does_grows = record {
    failures = subst (λ (h : List Entry). failures_in (is_own m) before ≤ failures_in (is_own m) h) (sym does.grew) (failures_grow (is_own m) refl before does.more);
    failures_of = λ t. subst (λ (h : List Entry). failures_in (is_for_own m t) before ≤ failures_in (is_for_own m t) h) (sym does.grew) (failures_grow (is_for_own m t) refl before does.more);
    refused_unpins = let more = counted_more (λ e. refuses_unpin e.event) m before now does.events does.own in omega (arith, more);
    stale = let more = counted_more (λ e. is_stale_load e.event) m before now does.events does.own in omega (arith, more);
    spent = λ was.
        let first : 18446744073709551615 ≤ o.first_name + length (names_in before) = leb-true 18446744073709551615 (o.first_name + length (names_in before)) was in
        let more : length (names_in now) ≡ length (names_in before) + length (names_in does.more) = ap (λ (h : List Entry). length (names_in h)) does.grew ∙ names_more before does.more in
        le-leb 18446744073709551615 (o.first_name + length (names_in now)) (omega (arith, first, more));
    trail = (by m does.events, ap Some does.own);
  }

  pub does_made : Made (held_in o u m before).session P (signs_in o m before) (signs_in o m now)
  unfolding signs_in
  does_made = (by m does.events, ap Some does.own, (does.events, ap (λ (k : ℕ). by k does.events) (sym (whose o u m before)), does.is))

-- where nobody else entered any, the history grew by what the session did
pub does_all : {P : List Event → Type 0} (m : ℕ) (before now : List Entry) (does : Does m P before now) → AllBy m does.more → now ≡ before ++ by m does.events
does_all m before now does all = does.grew ∙ ap (λ (es : List Entry). before ++ es) (sym (all_own m does.more all) ∙ does.mine)

-- one after the other
abbrev pub does_more : {P Q R : List Event → Type 0} (m : ℕ) (x y z : List Entry) (a : Does m P x y) (b : Does m Q y z) → R (a.events ++ b.events) → Does m R x z
does_more m x y z a b is = record {
  events = a.events ++ b.events;
  is = is;
  own = b.own ∙ ap (λ (h : List Entry). h ++ by m b.events) a.own ∙ append_assoc (made_by x m) (by m a.events) (by m b.events) ∙ ap (λ (h : List Entry). made_by x m ++ h) (sym (by_append m a.events b.events));
  more = a.more ++ b.more;
  grew = b.grew ∙ ap (λ (h : List Entry). h ++ b.more) a.grew ∙ append_assoc x a.more b.more;
  mine =
      filter-append (is_by m) a.more b.more ∙ ap (λ (h : List Entry). h ++ filter (is_by m) b.more) a.mine ∙ ap (λ (h : List Entry). by m a.events ++ h) b.mine
      ∙ sym (by_append m a.events b.events);
}

-- nothing was done
abbrev pub does_none : (m : ℕ) (h : List Entry) → Does m (λ events. events ≡ []) h h
does_none m h = record { events = []; is = refl; own = sym (append-nil (made_by h m)); more = []; grew = sym (append-nil h); mine = refl }

-- the same, of other words
abbrev pub does_so : {P Q : List Event → Type 0} (m : ℕ) (x y : List Entry) (a : Does m P x y) → Q a.events → Does m Q x y
does_so m x y a is = record { events = a.events; is = is; own = a.own; more = a.more; grew = a.grew; mine = a.mine }
