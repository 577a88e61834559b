-- What the queries of a plan did together over the sessions of a pool.
use Rattle.std.proofs.Common.{◌≡◌, ◌∙◌, ◌*◌, inl, inr, ℕ, zero, suc, Bool, true, false, List, [], ◌∷◌, Option, Some, None, is_some, length, map, refl, sym, ap, subst, arith}
use Rattle.std.specs.Prelude.{nat_le, if◌then◌else◌}
use Rattle.std.specs.List.{slice_get}
use Rattle.std.proofs.lemmas.Bool.{false≢true}
use Rattle.std.proofs.lemmas.List.{length-map}
use Rattle.std.proofs.lemmas.Option.{none-some, same_Some}
use Rattle.turn_table.specs.Face.{Spot}
use Rattle.pool_model.specs.Bytes.{bytes_of}
use Rattle.pool_model.specs.State.{Opening}
use Rattle.pin_core.specs.Tallies.{Counted}
use Rattle.pin_core.specs.declared.tally.Tally.{Tally}
use Rattle.pool.specs.declared.item.Item.{Item}
use Rattle.pool.specs.Seating.{HasBegun}
use Rattle.pool.specs.Sitting.{Sitting, held_by, signs_by}
use Rattle.query_plan.specs.Sizes.{least_of, page_len}
use Rattle.query_plan.specs.declared.plan.Plan.{Plan}
use Rattle.query_plan.specs.declared.plan.Query.{Query}
use Rattle.query_run.specs.Causes.{OfPool}
use Rattle.store_api.specs.Holdings.{Holdings}
use Rattle.store_api.specs.Signs.{Signs}
use Rattle.spill_top.specs.declared.ending.Ending.{Ending}
use Rattle.spill_top.specs.declared.ending.Ending.TheVariants.{Lines, Reservation}
use Rattle.spill_top.specs.declared.job.Job.{Job}
use Rattle.spill_top.specs.Endings.{is_answer}
use Rattle.spill_top.specs.Jobs.{IsWork, Work, begun, work_of}
use Rattle.spill_top.specs.Pooled.{ComeBack, HaveFailed, IsSharedStop, all_tell}
use Rattle.spill_top.specs.Reserving.{refusal, refusals, refusals_of, room_behind}
use Rattle.spill_top.specs.Running.{HaveEnded, Seen, SomeSpends}
use Rattle.spill_top.specs.Sides.{if_told}
use Rattle.spill_top.specs.Steps.{AreAll, AreWorks, GiveNoAnswers, IsDone, IsEnded, IsOpen, KeepRefused, KeepsWorks, has_answer, with_slots}
use Rattle.spill_top.specs.Together.{AreAllStays, AreAnswered, IsAnswered, RanTogether, Showed, Stay, Stayed, StopsAs}
use Rattle.spill_top.proofs.Loops.{works_slots}
use Rattle.spill_top.proofs.Phases.{as_many, begun_refused, jobs_ended}
use Rattle.spill_top.proofs.Sessions.{Alike, AllAlike, HasCome, holds, showed, signs, stands_still, stands_then, stay_at, stay_there, stays_len, stays_of}
use Rattle.spill_top.proofs.SharedStops.{shared_stop}
use Rattle.spill_top.proofs.Stepping.{at_part, part_at, there}
use Rattle.spill_top.proofs.Unanswered.{answer_before, unanswered_on}
use Rattle.spill_top.proofs.Whole.{all_ended, begun_works}

-- a query that has only begun has no answer
refused-none : (limit wanted room : ℕ) → has_answer (refusal limit wanted room) ≡ false
refused-none limit wanted room = go (nat_le wanted limit) (nat_le wanted room)
  where
    go : (within below : Bool) → has_answer (if within then (if below then None else Some (Reservation true wanted room)) else Some (Reservation false wanted limit)) ≡ false
    go true true = refl
    go true false = refl
    go false below = refl

begun-none : (block_len room : ℕ) (queries : List Query) (place : ℕ) (w : Work) → slice_get (map begun (refusals block_len room queries)) place ≡ Some w → has_answer w.ended ≡ false
begun-none block_len room [] place w at = absurd (none-some w at)
begun-none block_len room (query ∷ queries) zero w at =
    ap (λ (x : Work). has_answer x.ended) (sym (same_Some (begun (refusal query.limit (least_of query block_len) room)) w at)) ∙ refused-none query.limit (least_of query block_len) room
begun-none block_len room (query ∷ queries) (suc place) w at = begun-none block_len (room_behind (refusal query.limit (least_of query block_len) room) (least_of query block_len) room) queries place w at

-- what stops a query is told by the slots of the later time alone
stops-as : (start at now : Seen) (block_len : ℕ) (all : List Query) (query : Query) (h : Holdings) (old new : Signs) → at.slots ≡ now.slots → StopsAs start at block_len all query h old new → StopsAs start now block_len all query h old new
stops-as start at now block_len all query h old new same is = record {
  told = is.told;
  block_len_is = is.block_len_is;
  stop = λ told why may.
      subst (λ (slots : Tally). OfPool (IsSharedStop query (page_len query block_len) (if_told (all_tell start.slots) told) query.quota (HaveFailed start.slots slots) (SomeSpends all start)) why) same (is.stop told why may);
}

-- slots of which nothing is known
abbrev pub unknown : Tally
unknown = record { faults = 0; stuck = 1; stores = 0; uncounted = 1; strays = 0; unstrayed = 1; silent = 1; slots = 0 }

unknown-counts : (failures blocks stale : ℕ) → Counted failures blocks stale unknown unknown
unknown-counts failures blocks stale = record { never_fall = omega arith; failed = λ is. absurd (omega (arith, is)); stays = omega arith; stores = λ is. absurd (omega (arith, is)); short = omega arith; strays = λ is. absurd (omega (arith, is)); loose = omega arith; silent = refl; slots = refl }

module _ {S K St : Type 0} (remaining : S → Option (List ℕ)) (reads : S → ℕ) (contents : K → Option (List ℕ)) (writes : K → ℕ) (o : Opening) (told : Bool) (see : St → Sitting) where
  abbrev works : List (Job S K St) → List Work
  works jobs = map (work_of remaining reads contents writes) jobs

  abbrev sessions : List (Job S K St) → List (Option St)
  sessions jobs = map (λ (job : Job S K St). job.session) jobs

  -- what stands of the queries once they are answered
  answered-at : (start at : Seen) (queries : List Query) (j2 j3 : List (Job S K St)) → length j3 ≡ length j2 → AllAlike remaining reads contents writes o told see j2 j3
      → AreAnswered remaining reads contents writes (holds remaining reads contents writes o told see) (signs remaining reads contents writes o told see) queries j2 j3
      → ((place : ℕ) (query : Query) (stay : Stay) → slice_get queries place ≡ Some query → slice_get (stays_of remaining reads contents writes o told see j2 j3) place ≡ Some (Some stay)
      → StopsAs start at o.block_len queries query (held_by o told stay.first) (signs_by o stay.first) (signs_by o stay.last))
      → AreWorks start at o.block_len queries (works j2) → AreWorks start at o.block_len queries (works j3)
  answered-at start at queries j2 j3 same alike answered stops are = λ place query w at_query at_w.
      let new = part_at (work_of remaining reads contents writes) j3 place w at_w in
      let old = there j2 j3 place new.0 (sym same) new.1 in
      let is : IsAnswered remaining reads contents writes (holds remaining reads contents writes o told see) (signs remaining reads contents writes o told see) query old.0 new.0 = answered place query old.0 new.0 at_query old.1 new.1 in
      let stands : IsWork start at o.block_len queries query (work_of remaining reads contents writes old.0) = are place query (work_of remaining reads contents writes old.0) at_query (at_part (work_of remaining reads contents writes) j2 place old.0 old.1) in
      subst (λ (x : Work). IsWork start at o.block_len queries query x) new.2 (each place query at_query old.0 new.0 old.1 new.1 is stands (old.0).session (new.0).session refl refl (alike-at j2 j3 place old.0 new.0 alike old.1 new.1))
    where
      alike-at : (old new : List (Job S K St)) (place : ℕ) (a b : Job S K St) → AllAlike remaining reads contents writes o told see old new → slice_get old place ≡ Some a → slice_get new place ≡ Some b
          → Alike remaining reads contents writes o told see a.session b.session
      alike-at [] new place a b are at_old at_new = absurd (none-some a at_old)
      alike-at (x ∷ old) [] place a b are at_old at_new = absurd (none-some b at_new)
      alike-at (x ∷ old) (y ∷ new) zero a b are at_old at_new =
          subst (λ (j : Job S K St). Alike remaining reads contents writes o told see j.session b.session) (same_Some x a at_old)
          (subst (λ (j : Job S K St). Alike remaining reads contents writes o told see x.session j.session) (same_Some y b at_new) are.0)
      alike-at (x ∷ old) (y ∷ new) (suc place) a b are at_old at_new = alike-at old new place a b are.1 at_old at_new

      each : (place : ℕ) (query : Query) → slice_get queries place ≡ Some query → (a b : Job S K St) → slice_get j2 place ≡ Some a → slice_get j3 place ≡ Some b
          → IsAnswered remaining reads contents writes (holds remaining reads contents writes o told see) (signs remaining reads contents writes o told see) query a b
          → IsWork start at o.block_len queries query (work_of remaining reads contents writes a) → (x y : Option St) → a.session ≡ x → b.session ≡ y → Alike remaining reads contents writes o told see x y
          → IsWork start at o.block_len queries query (work_of remaining reads contents writes b)
      each place query at_query a b at_old at_new is stands None y before after like = stands_still remaining reads contents writes o told see start at queries query a b is stands before
      each place query at_query a b at_old at_new is stands (Some s) None before after like = absurd like
      each place query at_query a b at_old at_new is stands (Some s) (Some t) before after like =
          stands_then remaining reads contents writes o told see start at queries query a b s t before after is stands
          (stops place query (record { first = see s; last = see t }) at_query (stay_there remaining reads contents writes o told see j2 j3 place a b s t at_old at_new before after))

  -- over such slots a store's stops are the pool's, whatever they are
  stops-unknown : (start at : Seen) (queries : List Query) (place : ℕ) (query : Query) (stay : Stay) → slice_get queries place ≡ Some query → HasBegun o.block_len told query.limit query.quota (least_of query o.block_len) (held_by o told stay.first)
      → StopsAs (with_slots unknown start) (with_slots unknown at) o.block_len queries query (held_by o told stay.first) (signs_by o stay.first) (signs_by o stay.last)
  stops-unknown start at queries place query stay at_query begun = record {
    told = λ is. absurd (false≢true is);
    block_len_is = begun.block_len;
    stop = λ both why may.
        shared_stop query (page_len query o.block_len) query.quota both (SomeSpends queries (with_slots unknown start)) (held_by o told stay.first) (signs_by o stay.first) (signs_by o stay.last) (signs_by o stay.last).failures 0 0 unknown unknown
        (unknown-counts (signs_by o stay.last).failures 0 0) (omega arith) begun.free_slots (ap (page_len query) begun.block_len) (λ is. absurd (false≢true is)) (λ spent. (place, query, at_query, tt)) why may;
  }

  -- how those are refused that were answered
  pub refused_kept : (queries : List Query) (j2 j3 : List (Job S K St)) → length queries ≡ length j2 → length j3 ≡ length j2
      → AreAnswered remaining reads contents writes (holds remaining reads contents writes o told see) (signs remaining reads contents writes o told see) queries j2 j3 → KeepRefused (works j2) (works j3)
  refused_kept [] [] [] many same are = refl
  refused_kept [] [] (b ∷ j3) many same are = absurd (omega (arith, same))
  refused_kept [] (a ∷ j2) j3 many same are = absurd (omega (arith, many))
  refused_kept (query ∷ queries) [] j3 many same are = absurd (omega (arith, many))
  refused_kept (query ∷ queries) (a ∷ j2) [] many same are = absurd (omega (arith, same))
  refused_kept (query ∷ queries) (a ∷ j2) (b ∷ j3) many same are =
      let one : b.refused ≡ a.refused = (are 0 query a b refl refl refl).refused in
      ap (λ (r : Option Ending). r ∷ map (λ (w : Work). w.refused) (works j3)) one
      ∙ ap (λ (rs : List (Option Ending)). a.refused ∷ rs) (refused_kept queries j2 j3 (omega (arith, many)) (omega (arith, same)) (λ place q x y at_q at_x at_y. are (suc place) q x y at_q at_x at_y))

  -- all have ended
  pub ended_works : (queries : List Query) (j2 j3 : List (Job S K St)) → length queries ≡ length j2 → length j3 ≡ length j2
      → AreAnswered remaining reads contents writes (holds remaining reads contents writes o told see) (signs remaining reads contents writes o told see) queries j2 j3 → AreAll IsEnded (works j3)
  ended_works queries j2 j3 many same are = λ place w at.
      let new = part_at (work_of remaining reads contents writes) j3 place w at in
      let old = there j2 j3 place new.0 (sym same) new.1 in
      let asked = there queries j2 place old.0 many old.1 in
      subst (λ (x : Work). IsEnded x) new.2 ((are place asked.0 old.0 new.0 asked.1 old.1 new.1).ended)

  -- what stands of them then, over slots of which nothing is known
  pub works_unknown : (start s1 s2 : Seen) (queries : List Query) (room : ℕ) (j0 j1 j2 j3 : List (Job S K St)) → works j0 ≡ map begun (refusals o.block_len room queries) → length j3 ≡ length j2 → AllAlike remaining reads contents writes o told see j2 j3
      → AreAnswered remaining reads contents writes (holds remaining reads contents writes o told see) (signs remaining reads contents writes o told see) queries j2 j3
      → ((place : ℕ) (query : Query) (job : Job S K St) → slice_get queries place ≡ Some query → slice_get j2 place ≡ Some job → HasCome remaining reads contents writes o told see query job)
      → KeepsWorks (with_slots unknown start) (with_slots unknown s1) queries (works j0) (works j1) → KeepsWorks (with_slots unknown s1) (with_slots unknown s2) queries (works j1) (works j2)
      → AreWorks (with_slots unknown start) (with_slots unknown s2) o.block_len queries (works j3)
  works_unknown start s1 s2 queries room j0 j1 j2 j3 first same alike answered come created opened =
      answered-at (with_slots unknown start) (with_slots unknown s2) queries j2 j3 same alike answered
      (λ place query stay at_query at.
      let it = stay_at remaining reads contents writes o told see j2 j3 place stay at in
      stops-unknown start s2 queries place query stay at_query
      (subst (λ (x : Stay). HasBegun o.block_len told query.limit query.quota (least_of query o.block_len) (held_by o told x.first)) (sym it.is) (come place query it.a at_query it.at_old it.s it.before)))
      (opened (with_slots unknown start) o.block_len (created (with_slots unknown start) o.block_len
      (subst (λ (ws : List Work). AreWorks (with_slots unknown start) (with_slots unknown start) o.block_len queries ws) (sym first) (begun_works (with_slots unknown start) o.block_len room queries))))

  module _ (start s1 s2 s4 s5 : Seen) (queries : List Query) (room : ℕ) (j0 j1 j2 j3 j4 j5 : List (Job S K St)) (ends : List Ending)
      (first : works j0 ≡ map begun (refusals o.block_len room queries)) (many : length queries ≡ length j0)
      (len1 : length j1 ≡ length j0) (len2 : length j2 ≡ length j1) (len3 : length j3 ≡ length j2) (len4 : length j4 ≡ length j3) (len5 : length j5 ≡ length j4)
      (created : (slots : Tally) → KeepsWorks (with_slots slots start) (with_slots slots s1) queries (works j0) (works j1)) (opened : (slots : Tally) → KeepsWorks (with_slots slots s1) (with_slots slots s2) queries (works j1) (works j2))
      (opens : AreAll IsOpen (works j2))
      (answered : AreAnswered remaining reads contents writes (holds remaining reads contents writes o told see) (signs remaining reads contents writes o told see) queries j2 j3)
      (closed : (slots : Tally) → KeepsWorks (with_slots slots s2) (with_slots slots s4) queries (works j3) (works j4)) (finished : (slots : Tally) → KeepsWorks (with_slots slots s4) (with_slots slots s5) queries (works j4) (works j5))
      (done : AreAll IsDone (works j5))
      (r1 : KeepRefused (works j0) (works j1)) (r2 : KeepRefused (works j1) (works j2)) (r3 : KeepRefused (works j2) (works j3)) (r4 : KeepRefused (works j3) (works j4)) (r5 : KeepRefused (works j4) (works j5))
      (a1 : GiveNoAnswers (works j0) (works j1)) (a2 : GiveNoAnswers (works j1) (works j2)) (a4 : GiveNoAnswers (works j3) (works j4)) (a5 : GiveNoAnswers (works j4) (works j5))
      (alike : AllAlike remaining reads contents writes o told see j2 j3)
      (come : (place : ℕ) (query : Query) (job : Job S K St) → slice_get queries place ≡ Some query → slice_get j2 place ≡ Some job → HasCome remaining reads contents writes o told see query job)
      (ends_are : map (λ ending. Some ending) ends ≡ map (λ (job : Job S K St). job.ended) j5) where
    abbrev stays : List (Option Stay)
    stays = stays_of remaining reads contents writes o told see j2 j3

    -- before they are answered
    open-works : (slots : Tally) → ComeBack start.slots slots → AreWorks start (with_slots slots s2) o.block_len queries (works j2)
    open-works slots back =
        opened slots start o.block_len
        (created slots start o.block_len (works_slots start start slots o.block_len queries (works j0) back (subst (λ (ws : List Work). AreWorks start start o.block_len queries ws) (sym first) (begun_works start o.block_len room queries))))

    works-len : (js ks : List (Job S K St)) → length js ≡ length ks → length (works js) ≡ length (works ks)
    works-len js ks same = length-map js (work_of remaining reads contents writes) ∙ same ∙ sym (length-map ks (work_of remaining reads contents writes))

    -- no query has its answer before it ran
    none-before : (place : ℕ) (job : Job S K St) → slice_get j2 place ≡ Some job → has_answer job.ended ≡ false
    none-before place job at =
        let before = there j0 j2 place job (sym (len2 ∙ len1)) at in
        let at_first = at_part (work_of remaining reads contents writes) j0 place before.0 before.1 in
        let at_last = at_part (work_of remaining reads contents writes) j2 place job at in
        let none = begun-none o.block_len room queries place (work_of remaining reads contents writes before.0) (subst (λ (ws : List Work). slice_get ws place ≡ Some (work_of remaining reads contents writes before.0)) first at_first) in
        elim (unanswered_on (works j0) (works j1) (works j2) (works-len j0 j1 (sym len1)) a1 a2 place (work_of remaining reads contents writes before.0) (work_of remaining reads contents writes job) at_first at_last) [
          | inl same ↦ ap has_answer same ∙ none
          | inr none ↦ none
        ]

    -- whose ending is an answer had it when it had run
    answer-then : (place : ℕ) (ending : Ending) (job : Job S K St) → slice_get ends place ≡ Some ending → slice_get j3 place ≡ Some job → is_answer ending ≡ true → has_answer job.ended ≡ true
    answer-then place ending job at_end at some =
        let last = there j5 j3 place job (len5 ∙ len4) at in
        let at_last : slice_get (map (λ (x : Job S K St). x.ended) j5) place ≡ Some (Some ending) =
        subst (λ (es : List (Option Ending)). slice_get es place ≡ Some (Some ending)) ends_are (at_part (λ e. Some e) ends place ending at_end) in
        let is : (last.0).ended ≡ Some ending = same_Some (last.0).ended (Some ending) (sym (at_part (λ (x : Job S K St). x.ended) j5 place last.0 last.1) ∙ at_last) in
        let gives = unanswered_on (works j3) (works j4) (works j5) (works-len j3 j4 (sym len4)) a4 a5 place (work_of remaining reads contents writes job) (work_of remaining reads contents writes last.0)
        (at_part (work_of remaining reads contents writes) j3 place job at) (at_part (work_of remaining reads contents writes) j5 place last.0 last.1) in
        let has : has_answer (last.0).ended ≡ true = ap has_answer is ∙ some in
        ap has_answer (sym (answer_before job.ended (last.0).ended gives has)) ∙ has

    seated-for : (place lines : ℕ) → slice_get ends place ≡ Some (Lines lines) → (stay : Stay) × (slice_get stays place ≡ Some (Some stay))
    seated-for place lines at =
        let listed = at_part (λ e. Some e) ends place (Lines lines) at in
        let last = part_at (λ (x : Job S K St). x.ended) j5 place (Some (Lines lines)) (subst (λ (es : List (Option Ending)). slice_get es place ≡ Some (Some (Lines lines))) ends_are listed) in
        let new = there j3 j5 place last.0 (sym (len5 ∙ len4)) last.1 in
        let old = there j2 j3 place new.0 (sym len3) new.1 in
        let asked = there queries j2 place old.0 (many ∙ sym (len2 ∙ len1)) old.1 in
        let is = answered place asked.0 old.0 new.0 asked.1 old.1 new.1 in
        let some = answer-then place (Lines lines) new.0 at new.1 refl in
        go place old.0 new.0 old.1 new.1 is (none-before place old.0 old.1) some (old.0).ended refl
      where
        go : (place : ℕ) {query : Query} (a b : Job S K St) → slice_get j2 place ≡ Some a → slice_get j3 place ≡ Some b
            → IsAnswered remaining reads contents writes (holds remaining reads contents writes o told see) (signs remaining reads contents writes o told see) query a b → has_answer a.ended ≡ false → has_answer b.ended ≡ true
            → (ended : Option Ending) → a.ended ≡ ended → (stay : Stay) × (slice_get stays place ≡ Some (Some stay))
        go place a b at_old at_new is none some None on =
            let ran = is.ran on in
            (record { first = see ran.session; last = see ran.later }, stay_there remaining reads contents writes o told see j2 j3 place a b ran.session ran.later at_old at_new ran.before ran.after)
        go place a b at_old at_new is none some (Some e) over =
            absurd (false≢true (sym none ∙ ap (λ (j : Job S K St). has_answer j.ended) (sym (is.stays (ap is_some over))) ∙ some))

    showed-for : (place : ℕ) (query : Query) (ending : Ending) (stay : Stay) → slice_get queries place ≡ Some query → slice_get ends place ≡ Some ending → slice_get stays place ≡ Some (Some stay) → ComeBack start.slots start.slots
        → Showed o told start.files query ending stay
    showed-for place query ending stay at_query at_end at back =
        let it = stay_at remaining reads contents writes o told see j2 j3 place stay at in
        let is = answered place query it.a it.b at_query it.at_old it.at_new in
        let at_work = at_part (work_of remaining reads contents writes) j2 place it.a it.at_old in
        subst (λ (x : Stay). Showed o told start.files query ending x) (sym it.is)
        (showed remaining reads contents writes o told see start (with_slots start.slots s2) queries query it.a it.b it.s it.t it.before it.after is (open-works start.slots back place query (work_of remaining reads contents writes it.a) at_query at_work)
        (opens place (work_of remaining reads contents writes it.a) at_work) (come place query it.a at_query it.at_old it.s it.before) (none-before place it.a it.at_old) ending (answer-then place ending it.b at_end it.at_new))

    refused-all : map (λ (w : Work). w.refused) (works j5) ≡ refusals o.block_len room queries
    refused-all = r5 ∙ (r4 ∙ (r3 ∙ (r2 ∙ (r1 ∙ (ap (map (λ (w : Work). w.refused)) first ∙ begun_refused (refusals o.block_len room queries))))))

    ended-for : (last : Tally) → ComeBack start.slots last
        → ((place : ℕ) (query : Query) (stay : Stay) → slice_get queries place ≡ Some query → slice_get stays place ≡ Some (Some stay)
        → StopsAs start (with_slots last s5) o.block_len queries query (held_by o told stay.first) (signs_by o stay.first) (signs_by o stay.last))
        → HaveEnded start (with_slots last s5) o.block_len (refusals o.block_len room queries) queries ends
    ended-for last back stops =
        all_ended start (with_slots last s5) o.block_len queries (works j5) (refusals o.block_len room queries) ends
        (finished last start o.block_len (closed last start o.block_len (answered-at start (with_slots last s2) queries j2 j3 len3 alike answered
        (λ place query stay at_query at. stops-as start (with_slots last s5) (with_slots last s2) o.block_len queries query (held_by o told stay.first) (signs_by o stay.first) (signs_by o stay.last) refl (stops place query stay at_query at))
        (open-works last back)))) done refused-all (ends_are ∙ sym (jobs_ended remaining reads contents writes j5))

    pub gathered : (pass : Spot Item) → ComeBack start.slots start.slots → ((place : ℕ) (query : Query) (stay : Stay) → slice_get queries place ≡ Some query → slice_get stays place ≡ Some (Some stay) → Stayed o told query pass stay)
        → AreAllStays pass stays → RanTogether o told (refusals o.block_len room queries) start s5 queries pass ends
    gathered pass back each all = record {
      stays = stays;
      many = stays_len remaining reads contents writes o told see j2 j3 alike ∙ (len2 ∙ len1) ∙ sym many;
      as_many = as_many remaining reads contents writes j5 ends ends_are ∙ (len5 ∙ (len4 ∙ (len3 ∙ (len2 ∙ (len1 ∙ sym many)))));
      each = each;
      all = all;
      seated = seated-for;
      showed = λ place query ending stay at_query at_end at. showed-for place query ending stay at_query at_end at back;
      ended = ended-for;
    }

memory-is : (block_len blocks : ℕ) → bytes_of block_len blocks ≡ blocks * block_len
unfolding bytes_of
memory-is block_len blocks = refl

-- the refusals of a plan, by the numbers with which its pool opened
pub refused_of : (o : Opening) (plan : Plan) (told : Bool) (start now : Seen) (pass : Spot Item) (ends : List Ending) → o.block_len ≡ plan.block_len → o.blocks ≡ plan.blocks
    → RanTogether o told (refusals o.block_len (bytes_of o.block_len o.blocks) plan.queries) start now plan.queries pass ends → RanTogether o told (refusals_of plan) start now plan.queries pass ends
refused_of o plan told start now pass ends lens counts ran =
    let memory : bytes_of o.block_len o.blocks ≡ plan.blocks * plan.block_len =
    memory-is o.block_len o.blocks ∙ ap (λ (n : ℕ). n * o.block_len) counts ∙ ap (λ (n : ℕ). plan.blocks * n) lens in
    subst (λ (rs : List (Option Ending)). RanTogether o told rs start now plan.queries pass ends)
    (ap (λ (n : ℕ). refusals n (bytes_of o.block_len o.blocks) plan.queries) lens ∙ ap (λ (n : ℕ). refusals plan.block_len n plan.queries) memory) ran
