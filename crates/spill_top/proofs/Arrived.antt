-- What the pass of a pool has seen when its first sessions came together.
use Rattle.std.proofs.Common.{◌≡◌, ◌≢◌, inl, inr, ℕ, ◌<◌, ◌==◌, Bool, true, false, cond, ◌||◌, List, [], ◌∷◌, ◌++◌, filter, Result, Ok, Err, None, refl, sym, ap, ◌∙◌, subst, append_assoc, append-nil, eq-eqb, ne_eqb}
use Rattle.std.specs.Ordering.{nat_cmp}
use Rattle.std.specs.FinMap.{get, get-empty}
use Rattle.std.specs.List.{AllByRecursion, list_any}
use Rattle.std.proofs.lemmas.Bool.{cases_Bool, eqb-false, false≢true}
use Rattle.std.proofs.lemmas.List.Elements.{filter-append, filter_map-append}
use Rattle.std.proofs.lemmas.List.Folds.{list_any-append}
use Rattle.reservation_tree.specs.declared.errors.PoolErr.{PoolErr}
use Rattle.reservation_tree.proofs.Maps.{get_other}
use Rattle.pool_model.specs.LookingBack.{is_by, name_in, names_in}
use Rattle.pool_model.specs.State.{Opening}
use Rattle.pool_model.specs.declared.entry.Entry.{Entry}
use Rattle.pin_core.specs.calls.Entering.{increase_entry, session_entry}
use Rattle.turn_table.specs.Face.{Spot}
use Rattle.turn_table.specs.Lists.{needed}
use Rattle.session_calls.specs.Having.{AllBeside}
use Rattle.pool.specs.declared.ask.Ask.{Ask}
use Rattle.pool.specs.declared.left.Left.{Left}
use Rattle.pool.specs.declared.item.Item.{Item}
use Rattle.pool.specs.Asking.{Admits, Answers, AreAnswered, HaveCome, all_numbers, numbers_in}
use Rattle.pool.specs.Items.{history, needs_of}
use Rattle.pool.specs.Passing.{IsPass}
use Rattle.pool.specs.Remaining.{left_behind, left_in}
use Rattle.pool.specs.Seating.{beginning_items, state_in}
use Rattle.pool.specs.Seats.{Quotas, quotas_in}
use Rattle.pool.proofs.Beside.{others_made, quotas_beside}
use Rattle.pool.proofs.Listed.{history_more}
use Rattle.pool.proofs.Seated.{quotas_begun}
use Rattle.session_shares.specs.Shares.{AreAmong}

-- sessions of these numbers came, and no others: they are all makers that are sessions, none of which made a page, and no other is live
pub record AreCome (ms : List ℕ) (items : List Item) : Type 0 where
  pub unnamed : (m : ℕ) → m < 240 → names_in (filter (is_by m) (history items)) ≡ []
  pub among : AreAmong ms (history items)
  pub others : (k : ℕ) → list_any (λ m. m == k) ms ≡ false → get (quotas_in items) k ≡ None

-- what holds of all of two lists holds of both together
pub all_more : {X : Type 0} (P : X → Type 0) (xs ys : List X) → AllByRecursion P xs → AllByRecursion P ys → AllByRecursion P (xs ++ ys)
all_more P [] ys first rest = rest
all_more P (x ∷ xs) ys first rest = (first.0, all_more P xs ys first.1 rest)

-- an `or` that is true or false by its parts
true_or : (b : Bool) → (true || b) ≡ true
true_or b = refl

or_true : (b : Bool) → (b || true) ≡ true
or_true true = refl
or_true false = refl

none_or : (a b : Bool) → (a || b) ≡ false → (a ≡ false) × (b ≡ false)
none_or true b none = absurd (false≢true (sym none))
none_or false b none = (refl, none)

-- who made none has none
none_by : (m : ℕ) (h : List Entry) → AllBeside m h → filter (is_by m) h ≡ []
none_by m [] beside = refl
none_by m (e ∷ h) beside = ap (λ (b : Bool). cond b (e ∷ filter (is_by m) h) (filter (is_by m) h)) (ne_eqb e.maker m beside.0) ∙ none_by m h beside.1

-- all sessions are among these where no other made any
pub among_by : (ms : List ℕ) (h : List Entry) → ((k : ℕ) → k < 240 → list_any (λ m. m == k) ms ≡ false → AllBeside k h) → AreAmong ms h
among_by ms [] others = tt
among_by ms (e ∷ h) others = (
  λ low. elim (cases_Bool (list_any (λ m. m == e.maker) ms)) [
    | inl is ↦ is
    | inr none ↦ absurd ((others e.maker low none).0 refl)
  ],
  among_by ms h (λ k low none. (others k low none).1),
)

-- and among more of them
among_wider : (ms ns : List ℕ) (h : List Entry) → AreAmong ms h → AreAmong (ms ++ ns) h
among_wider ms ns [] are = tt
among_wider ms ns (e ∷ h) are = (
  λ low. list_any-append (λ m. m == e.maker) ms ns ∙ ap (λ (b : Bool). b || list_any (λ m. m == e.maker) ns) (are.0 low) ∙ true_or (list_any (λ m. m == e.maker) ns),
  among_wider ms ns h are.1,
)

-- one more session comes
module _ (ms : List ℕ) (before : List Item) (m query limit quota least : ℕ) (fresh : get (quotas_in before) m ≡ None) (are : AreCome ms before) where
  abbrev now : List Item
  now = before ++ beginning_items m query limit quota least

  abbrev came : List Entry
  came = session_entry m limit quota query ∷ increase_entry m query least ∷ []

  trail_now : history now ≡ history before ++ came
  trail_now = history_more before (beginning_items m query limit quota least)

  none_named : (b : Bool) → names_in (cond b (session_entry m limit quota query ∷ cond b (increase_entry m query least ∷ []) []) (cond b (increase_entry m query least ∷ []) [])) ≡ []
  none_named true = refl
  none_named false = refl

  its_own : list_any (λ k. k == m) (ms ++ m ∷ []) ≡ true
  its_own =
      list_any-append (λ k. k == m) ms (m ∷ []) ∙ ap (λ (b : Bool). list_any (λ k. k == m) ms || (b || false)) (eq-eqb m m refl)
      ∙ or_true (list_any (λ k. k == m) ms)

  another : (k : ℕ) → list_any (λ j. j == k) (ms ++ m ∷ []) ≡ false → (list_any (λ j. j == k) ms ≡ false) × (k ≢ m)
  another k none =
      let both = none_or (list_any (λ j. j == k) ms) ((m == k) || false) (sym (list_any-append (λ j. j == k) ms (m ∷ [])) ∙ none) in
      (both.0, λ is. eqb-false m k (none_or (m == k) false both.1).0 (sym is))

  pub come_one : AreCome (ms ++ m ∷ []) now
  come_one = record {
    unnamed = λ k low.
        ap (λ (h : List Entry). names_in (filter (is_by k) h)) trail_now ∙ ap names_in (filter-append (is_by k) (history before) came)
        ∙ filter_map-append (λ (e : Entry). name_in e.event) (filter (is_by k) (history before)) (filter (is_by k) came)
        ∙ ap (λ (ns : List ℕ). ns ++ names_in (filter (is_by k) came)) (are.unnamed k low) ∙ none_named (m == k);
    among = subst (AreAmong (ms ++ m ∷ [])) (sym trail_now)
        (all_more (λ (e : Entry). e.maker < 240 → list_any (λ k. k == e.maker) (ms ++ m ∷ []) ≡ true) (history before) came
        (among_wider ms (m ∷ []) (history before) are.among) (λ low. its_own, (λ low. its_own, tt)));
    others = λ k none.
        let apart = another k none in
        ap (λ (q : Quotas). get q k) (quotas_begun before m query limit quota least fresh) ∙ get_other (quotas_in before) m quota k apart.1 ∙ are.others k apart.0;
  }

-- all of an ask come
come_all : (ask : Ask) (before : List Item) (ns : List ℕ) (after : List Item) (ms : List ℕ) → HaveCome ask before ns after → AreCome ms before → AreCome (ms ++ ns) after
come_all ask before [] after ms come are = subst (λ (l : List ℕ). AreCome l after) (sym (append-nil ms)) (subst (λ (items : List Item). AreCome ms items) (sym come) are)
come_all ask before (m ∷ ns) after ms come are =
    subst (λ (l : List ℕ). AreCome l after) (append_assoc ms (m ∷ []) ns)
    (come_all ask (before ++ beginning_items m come.0 ask.limit ask.quota ask.least) ns after (ms ++ m ∷ []) come.3
    (come_one ms before m come.0 ask.limit ask.quota ask.least come.2 are))

-- and those of all asks
come_answered : (asks : List Ask) (left : Left) (before : List Item) (answers : List (Result (List ℕ) PoolErr)) (after : List Item) (ms : List ℕ) → AreAnswered asks left before answers after → AreCome ms before
    → AreCome (ms ++ all_numbers answers) after
come_answered [] left before [] after ms answered are = subst (λ (l : List ℕ). AreCome l after) (sym (append-nil ms)) (subst (λ (items : List Item). AreCome ms items) (sym answered) are)
come_answered [] left before (r ∷ answers) after ms answered are = absurd answered
come_answered (ask ∷ asks) left before [] after ms answered are = absurd answered
come_answered (ask ∷ asks) left before (Ok ns ∷ answers) after ms answered are =
    subst (λ (l : List ℕ). AreCome l after) (append_assoc ms ns (all_numbers answers))
    (come_answered asks (left_behind ask.count ask left) answered.2 answers after (ms ++ ns) answered.4 (come_all ask before ns answered.2 ms answered.3 are))
come_answered (ask ∷ asks) left before (Err e ∷ answers) after ms answered are = come_answered asks left before answers after ms answered.1 are

-- a pool that has just opened answers asks
module _ (o : Opening) (told : Bool) (asks : List Ask) {slots free : ℕ} (before mid : Spot Item) (opened : IsPass slots free before) (fresh : before.knows.seen ≡ []) (answers : Answers) (admits : Admits o told asks before mid answers) where
  none_before : (k : ℕ) → get (quotas_in before.knows.seen) k ≡ None
  none_before k = ap (λ (items : List Item). get (quotas_in items) k) fresh ∙ get-empty nat_cmp k

  none_quota : (k : ℕ) → get (quotas_in admits.entered) k ≡ None
  none_quota k = ap (λ (q : Quotas). get q k) (quotas_beside before.knows.rights before.knows.seen admits.entered admits.grew opened.opens) ∙ none_before k

  none_entered : (k : ℕ) → k < 240 → needed needs_of k admits.entered ≡ 0
  none_entered k low =
      ap (needed needs_of k) (admits.grew.grew ∙ ap (λ (items : List Item). items ++ admits.grew.behind) fresh)
      ∙ admits.grew.beside k (opened.numbers k low (none_before k))

  none_come : AreCome [] admits.entered
  none_come = record {
    unnamed = λ m low. ap names_in (none_by m (history admits.entered) (others_made m admits.entered (none_entered m low)));
    among = among_by [] (history admits.entered) (λ k low none. others_made k admits.entered (none_entered k low));
    others = λ k none. none_quota k;
  }

  pub come_together : AreCome (all_numbers (numbers_in answers)) mid.knows.seen
  come_together = come_answered asks (left_in (state_in o admits.entered)) admits.entered (numbers_in answers) mid.knows.seen [] admits.answered none_come
