-- What the pass of a pool has seen of sessions that came together and ended.
use Rattle.std.proofs.Common.{◌≡◌, ℕ, zero, suc, ◌+◌, ◌<◌, ◌≤◌, eqb, Bool, true, ◌&&◌, ◌==◌, All, List, [], ◌∷◌, ◌++◌, Option, Some, None, Result, Ok, Err, drop, filter, length, map, refl, sym, ap, ◌∙◌, subst, arith, length-append, if◌then◌else◌}
use Rattle.std.specs.FinMap.{get}
use Rattle.std.specs.List.{AllByRecursion, IsDistinct, list_any, slice_get}
use Rattle.std.specs.Option.{option_map}
use Rattle.std.proofs.lemmas.List.{length-map}
use Rattle.std.proofs.lemmas.List.Elements.{All-head, filter-append, filter_map-append}
use Rattle.std.proofs.lemmas.Option.{none-some, same_Some}
use Rattle.reservation_tree.specs.declared.errors.PoolErr.{PoolErr}
use Rattle.pool_model.specs.LookingBack.{is_by, made_by, name_in, names_in, opens, since}
use Rattle.pool_model.specs.State.{Opening}
use Rattle.pool_model.specs.declared.entry.Entry.{Entry}
use Rattle.turn_table.specs.Face.{Spot}
use Rattle.pool.specs.declared.ask.Ask.{Ask}
use Rattle.pool.specs.declared.left.Left.{Left}
use Rattle.pool.specs.declared.item.Item.{Item}
use Rattle.pool.specs.Asking.{Admits, Answers, AreAnswered, AreNew, IsNew, all_numbers, came_in, numbers_in}
use Rattle.pool.specs.Items.{history, own_in}
use Rattle.pool.specs.Passing.{IsPass, writers_out}
use Rattle.pool.specs.Remaining.{left_behind, left_in}
use Rattle.pool.specs.Seating.{state_in}
use Rattle.pool.specs.Seats.{live_in, quotas_in}
use Rattle.pool.specs.Sitting.{Sitting}
use Rattle.pool.specs.Standing.{IsMarked}
use Rattle.pool.proofs.Beside.{others_made}
use Rattle.pool.proofs.Listed.{history_more}
use Rattle.query_plan.specs.declared.plan.Query.{Query}
use Rattle.session_shares.specs.Shares.{AreAmong}
use Rattle.spill_top.specs.Beside.{Waits}
use Rattle.spill_top.specs.Together.{AreAllStays, EndAll, Stay, Stayed, ask_of, numbers_of}
use Rattle.spill_top.proofs.Arrived.{AreCome, all_more, among_by, come_together}
use Rattle.spill_top.proofs.Departed.{Empties, HasLeft, HaveLeft, at_none, at_some, empties_then, have_left, rest_all}
use Rattle.spill_top.proofs.OneSession.{none_live}
use Rattle.spill_top.proofs.Solo.{Never, kept_on}
use Rattle.spill_top.proofs.Waiting.{empties_waits, live_waits}

-- the session of an answer, if it came
abbrev pub first_of : Result (List Sitting) PoolErr → Option Sitting
first_of (Ok (s ∷ more)) = Some s
first_of (Ok []) = None
first_of (Err e) = None

-- the sessions as they came, and as they were when they ended
abbrev pub firsts_of : List (Option Stay) → List (Option Sitting)
firsts_of stays = map (option_map (λ stay. stay.first)) stays

abbrev pub lasts_of : List (Option Stay) → List (Option Sitting)
lasts_of stays = map (option_map (λ stay. stay.last)) stays

-- two lists are the same in their first ones, and in the rest
module _ {X : Type 0} where
  none_one : (x : X) (xs : List X) → [] ≡ x ∷ xs → ⊥
  none_one x xs is = let long : 0 ≡ suc (length xs) = ap length is in omega (arith, long)

  one_none : (x : X) (xs : List X) → x ∷ xs ≡ [] → ⊥
  one_none x xs is = none_one x xs (sym is)

  same_first : (x y : X) (xs ys : List X) → x ∷ xs ≡ y ∷ ys → x ≡ y
  same_first x y xs ys is = same_Some x y (ap (λ (l : List X). slice_get l 0) is)

  same_rest : (x y : X) (xs ys : List X) → x ∷ xs ≡ y ∷ ys → xs ≡ ys
  same_rest x y xs ys is = ap (drop 1) is

-- their numbers are those of the answers
module _ (block_len : ℕ) where
  numbers_are : (queries : List Query) (left : Left) (before : List Item) (answers : Answers) (after : List Item) (stays : List (Option Stay)) → AreAnswered (map (ask_of block_len) queries) left before (numbers_in answers) after
      → firsts_of stays ≡ map first_of answers → all_numbers (numbers_in answers) ≡ numbers_of stays
  numbers_are [] left before [] after [] answered firsts = refl
  numbers_are [] left before [] after (stay ∷ stays) answered firsts = absurd (one_none _ _ firsts)
  numbers_are [] left before (answer ∷ answers) after stays answered firsts = absurd answered
  numbers_are (query ∷ queries) left before [] after stays answered firsts = absurd answered
  numbers_are (query ∷ queries) left before (Ok sessions ∷ answers) after [] answered firsts = absurd (none_one _ _ firsts)
  numbers_are (query ∷ queries) left before (Err e ∷ answers) after [] answered firsts = absurd (none_one _ _ firsts)
  numbers_are (query ∷ queries) left before (Ok [] ∷ answers) after (stay ∷ stays) answered firsts = let none : 0 ≡ 1 = answered.1 in absurd (omega (arith, none))
  numbers_are (query ∷ queries) left before (Ok (s ∷ t ∷ more) ∷ answers) after (stay ∷ stays) answered firsts = let many : suc (suc (length (map (λ x. x.number) more))) ≡ 1 = answered.1 in absurd (omega (arith, many))
  numbers_are (query ∷ queries) left before (Ok (s ∷ []) ∷ answers) after (None ∷ stays) answered firsts = absurd (none-some s (same_first _ _ _ _ firsts))
  numbers_are (query ∷ queries) left before (Ok (s ∷ []) ∷ answers) after (Some stay ∷ stays) answered firsts =
      ap (λ (x : Sitting). x.number ∷ all_numbers (numbers_in answers)) (sym (same_Some stay.first s (same_first _ _ _ _ firsts)))
      ∙ ap (λ (ns : List ℕ). stay.first.number ∷ ns) (numbers_are queries (left_behind 1 (ask_of block_len query) left) answered.2 answers after stays answered.4 (same_rest _ _ _ _ firsts))
  numbers_are (query ∷ queries) left before (Err e ∷ answers) after (None ∷ stays) answered firsts = numbers_are queries left before answers after stays answered.1 (same_rest _ _ _ _ firsts)
  numbers_are (query ∷ queries) left before (Err e ∷ answers) after (Some stay ∷ stays) answered firsts = absurd (none-some stay.first (sym (same_first _ _ _ _ firsts)))

  -- each came as its query asks
  module _ (o : Opening) (told : Bool) (pass : Spot Item) where
    one_new : (ask : Ask) (sessions : List Sitting) (stay : Stay) → All (IsNew o told pass ask) sessions → Some stay.first ≡ first_of (Ok sessions) → IsNew o told pass ask stay.first
    one_new ask [] stay new is = absurd (none-some stay.first (sym is))
    one_new ask (s ∷ more) stay new is = subst (λ (x : Sitting). IsNew o told pass ask x) (sym (same_Some stay.first s is)) (All-head (IsNew o told pass ask) s more new)

    each_new : (queries : List Query) (answers : Answers) (stays : List (Option Stay)) → AreNew o told pass (map (ask_of block_len) queries) answers → firsts_of stays ≡ map first_of answers
        → (place : ℕ) (query : Query) (stay : Stay) → slice_get queries place ≡ Some query → slice_get stays place ≡ Some (Some stay) → IsNew o told pass (ask_of block_len query) stay.first
    each_new queries answers [] new firsts place query stay at_query at = absurd (none-some (Some stay) at)
    each_new [] answers (x ∷ stays) new firsts place query stay at_query at = absurd (none-some query at_query)
    each_new (q ∷ queries) [] (x ∷ stays) new firsts place query stay at_query at = absurd new
    each_new (q ∷ queries) (Ok sessions ∷ answers) (x ∷ stays) new firsts (suc place) query stay at_query at = each_new queries answers stays new.1 (same_rest _ _ _ _ firsts) place query stay at_query at
    each_new (q ∷ queries) (Err e ∷ answers) (x ∷ stays) new firsts (suc place) query stay at_query at = each_new queries answers stays new (same_rest _ _ _ _ firsts) place query stay at_query at
    each_new (q ∷ queries) (Ok sessions ∷ answers) (None ∷ stays) new firsts zero query stay at_query at = absurd (at_none stay at)
    each_new (q ∷ queries) (Err e ∷ answers) (None ∷ stays) new firsts zero query stay at_query at = absurd (at_none stay at)
    each_new (q ∷ queries) (Ok sessions ∷ answers) (Some x ∷ stays) new firsts zero query stay at_query at =
        subst (λ (ask : Ask). IsNew o told pass ask stay.first) (ap (ask_of block_len) (same_Some q query at_query))
        (subst (λ (y : Stay). IsNew o told pass (ask_of block_len q) y.first) (at_some x stay at)
        (one_new (ask_of block_len q) sessions x new.0 (same_first _ _ _ _ firsts)))
    each_new (q ∷ queries) (Err e ∷ answers) (Some x ∷ stays) new firsts zero query stay at_query at = absurd (none-some x.first (sym (same_first _ _ _ _ firsts)))

-- as many came as there are numbers
came_is : (answers : Answers) → came_in answers ≡ length (all_numbers (numbers_in answers))
came_is [] = refl
came_is (Ok sessions ∷ answers) =
    let here : length (map (λ s. s.number) sessions) ≡ length sessions = length-map sessions (λ s. s.number) in
    let rest = came_is answers in
    let all : length (map (λ s. s.number) sessions ++ all_numbers (numbers_in answers)) ≡ length (map (λ s. s.number) sessions) + length (all_numbers (numbers_in answers)) = length-append (map (λ s. s.number) sessions) (all_numbers (numbers_in answers)) in
    omega (arith, here, rest, all)
came_is (Err e ∷ answers) = came_is answers

-- where no session comes with the later entries, all of them that a maker made are its own
module _ (m : ℕ) (first later : List Entry) where
  since_append : (begins : Entry → Bool) (kept xs ys : List Entry) → since begins kept (xs ++ ys) ≡ since begins (since begins kept xs) ys
  since_append begins kept [] ys = refl
  since_append begins kept (x ∷ xs) ys = since_append begins (if begins x then x ∷ [] else kept ++ x ∷ []) xs ys

  names_more : (a b : List Entry) → length (names_in (a ++ b)) ≡ length (names_in a) + length (names_in b)
  names_more a b = ap length (filter_map-append (λ (e : Entry). name_in e.event) a b) ∙ length-append (names_in a) (names_in b)

  own_later : Never m later → made_by (first ++ later) m ≡ made_by first m ++ filter (is_by m) later
  own_later never =
      ap (filter (is_by m)) (since_append (λ e. is_by m e && opens e.event) [] first later ∙ kept_on m (since (λ e. is_by m e && opens e.event) [] first) later never)
      ∙ filter-append (is_by m) (since (λ e. is_by m e && opens e.event) [] first) later

  pub named_own : Never m later → names_in (filter (is_by m) first) ≡ [] → length (names_in (filter (is_by m) (first ++ later))) ≤ length (names_in (made_by (first ++ later) m))
  named_own never none =
      let all : length (names_in (filter (is_by m) (first ++ later))) ≡ length (names_in (filter (is_by m) first)) + length (names_in (filter (is_by m) later)) =
      ap (λ (h : List Entry). length (names_in h)) (filter-append (is_by m) first later) ∙ names_more (filter (is_by m) first) (filter (is_by m) later) in
      let own : length (names_in (made_by (first ++ later) m)) ≡ length (names_in (made_by first m)) + length (names_in (filter (is_by m) later)) =
      ap (λ (h : List Entry). length (names_in h)) (own_later never) ∙ names_more (made_by first m) (filter (is_by m) later) in
      let no_first : length (names_in (filter (is_by m) first)) ≡ 0 = ap length none in
      omega (arith, all, own, no_first)

-- the sessions of a pool that has just opened came by one call, others entered items, and they ended
module _ (o : Opening) (told : Bool) (queries : List Query) (before mid later after : Spot Item) (opened : (free : ℕ) × IsPass o.slots free before) (waits : Waits mid later) (lent : (free : ℕ) × IsPass o.slots free later) (fresh : before.knows.seen ≡ [])
    (answers : Answers) (admits : Admits o told (map (ask_of o.block_len) queries) before mid answers) (stays : List (Option Stay)) (firsts : firsts_of stays ≡ map first_of answers)
    (number : (place : ℕ) (stay : Stay) → slice_get stays place ≡ Some (Some stay) → stay.last.number ≡ stay.first.number) (ends : EndAll o told (lasts_of stays) later after) where
  left : HaveLeft o stays later after
  left = have_left o told stays later after lent ends

  empties : Empties mid after
  empties = empties_then mid later after (empties_waits mid later waits) left.empties

  numbers : all_numbers (numbers_in answers) ≡ numbers_of stays
  numbers = numbers_are o.block_len queries (left_in (state_in o admits.entered)) admits.entered answers mid.knows.seen stays admits.answered firsts

  come : AreCome (numbers_of stays) mid.knows.seen
  come = subst (λ (ms : List ℕ). AreCome ms mid.knows.seen) numbers (come_together o told (map (ask_of o.block_len) queries) before mid opened.1 fresh answers admits)

  pub each_stayed : (place : ℕ) (query : Query) (stay : Stay) → slice_get queries place ≡ Some query → slice_get stays place ≡ Some (Some stay) → Stayed o told query after stay
  each_stayed place query stay at_query at =
      let new : IsNew o told mid (ask_of o.block_len query) stay.first = each_new o.block_len o told mid queries answers stays admits.sessions firsts place query stay at_query at in
      let went : HasLeft stay.last after = left.each place stay at in
      let same : stay.last.number ≡ stay.first.number = number place stay at in
      let low : stay.first.number < 240 = subst (λ (k : ℕ). k < 240) same went.low in
      record {
        begun = new.held;
        tracker = new.query;
        came = new.own;
        low = low;
        number = same;
        more = went.more;
        seen = went.seen;
        went = went.went;
        own = subst (λ (k : ℕ). own_in k after.knows.seen ≡ own_in k stay.last.spot.knows.seen ++ went.went) same went.own;
        unnamed = went.unnamed;
        right = left.pass.1.numbers stay.first.number low (subst (λ (k : ℕ). get (quotas_in after.knows.seen) k ≡ None) same went.gone);
      }

  trail_is : history after.knows.seen ≡ history mid.knows.seen ++ history empties.more
  trail_is = ap history empties.grew ∙ history_more mid.knows.seen empties.more

  pub all_stays : AreAllStays after stays
  all_stays = record {
    apart = subst (λ (ms : List ℕ). IsDistinct eqb ms) numbers admits.apart;
    among = subst (AreAmong (numbers_of stays)) (sym trail_is)
        (all_more (λ (e : Entry). e.maker < 240 → list_any (λ k. k == e.maker) (numbers_of stays) ≡ true) (history mid.knows.seen) (history empties.more) come.among
        (among_by (numbers_of stays) (history empties.more) (λ k low none. others_made k empties.more (empties.beside k low (come.others k none)))));
    names = λ marked m low. subst (λ (h : List Entry). length (names_in (filter (is_by m) h)) ≤ length (names_in (made_by h m))) (sym trail_is)
        (named_own m (history mid.knows.seen) (history empties.more)
        (empties.never (rest_all IsMarked mid.knows.seen empties.more (subst (AllByRecursion IsMarked) empties.grew marked)) m) (come.unnamed m low));
  }

  pub none_left : live_in after.knows.seen ≡ 0
  none_left =
      let none : live_in before.knows.seen ≡ 0 = none_live before.knows.seen fresh in
      let came = admits.count in
      let many = came_is answers in
      let same : length (all_numbers (numbers_in answers)) ≡ length (numbers_of stays) = ap length numbers in
      let gone = left.count in
      let live : live_in later.knows.seen ≡ live_in mid.knows.seen = live_waits mid later waits in
      omega (arith, none, came, many, same, gone, live)

  pub none_out : writers_out later ≡ 0 → writers_out after ≡ 0
  none_out none = left.writers ∙ none
